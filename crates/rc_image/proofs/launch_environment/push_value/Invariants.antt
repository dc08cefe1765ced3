use Rattle.std.proofs.Common.{◌≡◌, ◌∷◌, ◌++◌, take, string_bytes}
use Rattle.std.specs.List.{flat_map}
use Rattle.rc_text.specs.Texts.{text_bytes}
use Rattle.rc_model.specs.Handed.Image.{escaped}
use Rattle.rc_image.proofs.launch_environment.push_value.Given as goal

-- the first member, and each so far after byte 1
abbrev pub invariant-loop-member : goal.invariant-loop-member
invariant-loop-member l = string_bytes l.out ≡ string_bytes l.initial.out ++ flat_map (λ t. 1 ∷ escaped (text_bytes t)) (take l.member-index l.others)
