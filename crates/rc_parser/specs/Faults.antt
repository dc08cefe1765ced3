-- The faults of a script.
use Rattle.std.specs.Prelude.{◌≡◌, ℕ, List, Some}
use Rattle.rc_lexer.specs.Answers.{ScriptError}
use Rattle.rc_model.specs.declared.fault.InputError.TheVariants as error
use Rattle.rc_model.specs.Mirrors.FirstFault.{first_fault}

-- a fault is the first one of the script, at its line; out of memory says nothing about the script
abbrev pub Refuses : ScriptError → List ℕ → Type 0
Refuses (error.Fault f) script = first_fault script ≡ Some f
Refuses error.NoMemory script = Unit {0}
