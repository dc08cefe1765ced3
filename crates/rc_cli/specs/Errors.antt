-- Why a run failed: the error for an error of the system, and the line that is printed.
use Rattle.std.specs.Prelude.{ℕ, List, ◌++◌, codes}
use Rattle.rc_model.specs.declared.call.Fault as call
use Rattle.rc_model.specs.declared.call.Fault.TheVariants as refusal
use Rattle.rc_model.specs.Syntax.Faults.{fault_words}
use Rattle.rc_cli.specs.declared.run_error.RunError.{RunError}
use Rattle.rc_cli.specs.declared.run_error.RunError.TheVariants.{Usage, CannotRead, Syntax, BadImage}
use Rattle.rc_cli.specs.declared.run_error.RunError.TheVariants.{NoMemory, Limit, Halted}

-- the line that the program prints, without its newline
abbrev pub error_line : RunError → List ℕ
error_line Usage = codes "rc: usage: rc [-e] [-c text | file] [arg ...]"
error_line (CannotRead name) = codes "rc: cannot read " ++ name.now
error_line (Syntax fault) = codes "rc: " ++ fault_words fault
error_line BadImage = codes "rc: bad image"
error_line NoMemory = codes "rc: no memory"
error_line Limit = codes "rc: limit"
error_line Halted = codes "rc: halted"

-- the error for an error of the system, by its fault: out of memory, or else this other one
abbrev pub error_at : call.Fault → RunError → RunError
error_at refusal.NoMemory other = NoMemory
error_at _ other = other
