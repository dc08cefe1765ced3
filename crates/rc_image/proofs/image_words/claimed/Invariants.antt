use Rattle.std.proofs.Common.{◌≡◌, ◌-◌, ◌≤◌, ◌^◌, min, drop}
use Rattle.rc_model.specs.Run.Numbers.{digits_value}
use Rattle.rc_image.proofs.image_words.claimed.Given as goal

-- the digits that are left, after the number so far, say the whole number
abbrev pub invariant-loop-digit : goal.invariant-loop-digit
invariant-loop-digit l = (l.number ≤ 2 ^ 64 - 1)
    × (min (digits_value l.number (drop l.digit-index l.digits)) (2 ^ 64 - 1) ≡ min (digits_value 0 l.digits) (2 ^ 64 - 1))
