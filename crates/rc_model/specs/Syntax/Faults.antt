-- Why a script is not accepted, and what is returned for an input that has a fault.
use Rattle.std.specs.Prelude.{◌≡◌, ℕ, List, ◌++◌, codes, Option, Some, Result, Ok, Err}
use Rattle.std.specs.Fmt.{decimal}
pub use Rattle.rc_model.specs.declared.fault.FaultKind.{FaultKind}
pub use Rattle.rc_model.specs.declared.fault.FaultKind.TheVariants.{TooLong, NotText, ZeroByte, OpenQuote}
pub use Rattle.rc_model.specs.declared.fault.FaultKind.TheVariants.{BadDescriptor, OpenHere, Unexpected, IfNot, TooDeep}
pub use Rattle.rc_model.specs.declared.fault.FaultKind.TheVariants.{TooManyStages}
pub use Rattle.rc_model.specs.declared.fault.SyntaxFault.{SyntaxFault}
use Rattle.rc_model.specs.declared.fault.InputError.{InputError}
use Rattle.rc_model.specs.declared.fault.InputError.TheVariants.{Fault, NoMemory}

-- a fault at a line
abbrev pub fault : FaultKind → ℕ → SyntaxFault
fault kind line = record { kind = kind; line = line }

-- a kind of fault in words
abbrev pub kind_words : FaultKind → List ℕ
kind_words TooLong = codes "too long"
kind_words NotText = codes "not UTF-8"
kind_words ZeroByte = codes "zero byte"
kind_words OpenQuote = codes "open quote"
kind_words BadDescriptor = codes "bad descriptor"
kind_words OpenHere = codes "open here document"
kind_words Unexpected = codes "unexpected"
kind_words IfNot = codes "misplaced if not"
kind_words TooDeep = codes "too deep"
kind_words TooManyStages = codes "too many stages"

-- a fault in words, with its line
abbrev pub fault_words : SyntaxFault → List ℕ
fault_words f = codes "line " ++ (decimal f.line ++ (codes ": " ++ kind_words f.kind))

-- an error in words, given the words for a fault
abbrev pub error_words : {F : Type 0} → (F → Option (List ℕ)) → InputError F → Option (List ℕ)
error_words words (Fault fault) = words fault
error_words words NoMemory = Some (codes "out of memory")

-- the fault is the one that was read, unless memory ran out
abbrev pub Fails : {F Y : Type 0} → InputError F → Result Y F → Type 0
Fails (Fault fault) read = read ≡ Err fault
Fails NoMemory read = Unit {0}

-- what a function returned, seen through `view`, is what was read, unless memory ran out
abbrev pub Gives : {F X Y : Type 0} → (X → Y) → Result X (InputError F) → Result Y F → Type 0
Gives view (Ok x) read = read ≡ Ok (view x)
Gives view (Err error) read = Fails error read
