use Rattle.std.proofs.Common.{map, take}
use Rattle.rc_text.specs.Texts.{text_bytes}
use Rattle.rc_host.specs.Requests.{Holds, is_no_entry}
use Rattle.rc_host.proofs.launches.kept_environment.env_of.Given as goal

abbrev pub invariant-loop-entry : goal.invariant-loop-entry
invariant-loop-entry l = Holds is_no_entry l.texts.items (map text_bytes (take l.entry-index l.entries))
