use Rattle.std.proofs.Common.{◌≡◌, ◌++◌, length, map}
use denote.Text.{Utf8}
use denote.Shadow.{shadow}
use Rattle.rc_text.specs.Texts.{text_bytes}
use Rattle.rc_model.specs.Handed.Environment.{entry_members}
use Rattle.rc_image.proofs.cut_entries.cut_members.Given as goal

-- the members so far and those that are left are the whole
abbrev pub invariant-loop-member : goal.invariant-loop-member
invariant-loop-member l = (map text_bytes l.members.items ++ entry_members l.rest ≡ entry_members l.text) × shadow (Utf8 l.rest)

abbrev pub decreases-loop-member : goal.decreases-loop-member
decreases-loop-member l = length l.rest
