use Rattle.std.proofs.Common.{◌≡◌, ◌++◌, map, length, string_bytes}
use Rattle.rc_model.specs.Run.Lists.{split}
use Rattle.rc_text.proofs.output.split.Given as goal

-- what was taken and what is still to come is the whole
abbrev pub invariant-loop-member : goal.invariant-loop-member
invariant-loop-member l = map string_bytes l.texts.items ++ l.members ≡ split l.text l.fn.separators

abbrev pub decreases-loop-member : goal.decreases-loop-member
decreases-loop-member l = length l.members
