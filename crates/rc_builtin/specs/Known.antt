-- What is known of names.
use Rattle.std.specs.Prelude.{ℕ, List, Option, option_map, string_bytes}
use Rattle.std.specs.Borrow.{Bor}
use Rattle.rc_model.specs.Run.Builtins as model
use Rattle.rc_builtin.specs.declared.known_names.Known.{Known}

-- the status of the last name that has one
abbrev pub status_of : Option (Bor (List ℕ)) → Option (List ℕ)
status_of status = option_map (λ s. s.now) status

-- the lines with the status
abbrev pub known : Known → model.Known
known k = (string_bytes k.lines, status_of k.status)
