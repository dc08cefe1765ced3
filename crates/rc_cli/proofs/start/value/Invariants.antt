use Rattle.std.proofs.Common.{◌≡◌, map, take}
use Rattle.rc_text.specs.Texts.{text_bytes}
use Rattle.rc_cli.proofs.start.value.Given as goal

abbrev pub invariant-loop-member : goal.invariant-loop-member
invariant-loop-member l = map text_bytes l.value.items ≡ map (λ member. member.now) (take l.member-index l.members)
