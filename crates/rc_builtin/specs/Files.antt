-- The bytes read from a file of commands, as the definitions have them.
use Rattle.std.specs.Prelude.{ℕ, List, Option, Some, None, option_map}
use Rattle.rc_model.specs.Run.Acts.{Got}
use Rattle.rc_model.specs.Run.Builtins.{Called, run_file, whole_file}
use Rattle.rc_model.specs.Run.Plans.{Plan}
use Rattle.rc_model.specs.Run.Shell.{ShellResult}
use Rattle.rc_model.specs.Run.State.{State}
use Rattle.rc_builtin.specs.declared.dot.ReadFile.{ReadFile}

-- the text, and why reading stopped
abbrev pub got_of : ReadFile → Got
got_of r = record { text = r.reader; why = option_map (λ why. why.now) r.why }

-- what follows the reading of a file of commands: it is run with these arguments, or the status becomes why not
abbrev pub after_file : List (List ℕ) → State → Option ReadFile → Plan (ShellResult Called)
after_file args s None = run_file args None s
after_file args s (Some read) = whole_file args (got_of read).text (got_of read).why s
