use Rattle.std.proofs.Common.{◌≡◌, ◌++◌, length, string_bytes}
use denote.Text.{Utf8}
use denote.Shadow.{shadow}
use Rattle.rc_model.specs.Handed.Environment.{unescaped}
use Rattle.rc_image.proofs.cut_entries.without_escapes.Given as goal

-- what is written and what is left is the whole
abbrev pub invariant-loop-plain : goal.invariant-loop-plain
invariant-loop-plain l = (string_bytes l.member ++ unescaped l.rest ≡ unescaped l.text) × shadow (Utf8 l.rest)

abbrev pub decreases-loop-plain : goal.decreases-loop-plain
decreases-loop-plain l = length l.rest
