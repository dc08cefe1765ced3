-- The results of the reading functions.
use Rattle.std.specs.Prelude.{◌≡◌, ℕ, Result, Ok, Err}
use Rattle.rc_model.specs.declared.fault.InputError.{InputError}
use Rattle.rc_model.specs.declared.fault.InputError.TheVariants as error
use Rattle.rc_model.specs.declared.fault.DescentFault.{DescentFault}
use Rattle.rc_model.specs.Mirrors.Descent.{Stop}
use Rattle.rc_parser.specs.declared.token_stream.token_faults.TokenFault.{TokenFault}

-- why there is no tree
abbrev pub TokenError : Type 0
TokenError = InputError TokenFault

-- the descent has the fault that a function returned, and stopped where as many tokens were left, unless memory ran out
abbrev pub Fails : {Y : Type 0} → TokenError → Result Y Stop → Type 0
Fails (error.Fault f) read = read ≡ Err (f.fault, f.left)
Fails error.NoMemory read = Unit {0}

-- what a function returned, seen by view, is what the descent returns, unless memory ran out
abbrev pub Gives : {X Y : Type 0} → (X → Y) → Result X TokenError → Result Y Stop → Type 0
Gives view (Ok x) read = read ≡ Ok (view x)
Gives view (Err e) read = Fails e read

-- what was returned is this fault
abbrev pub HasFault : {X : Type 0} → Result X TokenError → DescentFault → Type 0
HasFault result fault = (left : ℕ) × (result ≡ Err (error.Fault (record { fault = fault; left = left })))
