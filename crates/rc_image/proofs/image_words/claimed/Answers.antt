use Rattle.std.proofs.Common.{◌≡◌, ◌<◌, ◌≤◌, ◌+◌, ◌-◌, ◌*◌, ◌^◌, ℕ, List, [], ◌∷◌, min, drop, get_or, length, sym, ap, ◌∙◌, arith, add-one, drop-cons}
use Rattle.std.proofs.Math.ListN.{drop_of_length-le}
use Rattle.rc_model.specs.Run.Numbers.{digits_value}
use Rattle.rc_image.proofs.Claims.{one_digit}
use Rattle.rc_image.proofs.image_words.claimed.Goals as goal

pub loop-digit-preserved : goal.loop-digit-preserved
loop-digit-preserved c =
    let i = c.loop-digit.digit-index in
    let ds = c.args.digits.now in
    let n = c.loop-digit.number in
    let next = c.saturating_add-number.result in
    let h : i < length ds = c.loop-digit-test.true in
    let e : next ≡ min (min (n * 10) (2 ^ 64 - 1) + (get_or ds i 0 - 48)) (2 ^ 64 - 1) = omega arith in
    let step : drop i ds ≡ get_or ds i 0 ∷ drop (i + 1) ds = rw (add-one, drop-cons ds i 0) in
    let whole : min (digits_value n (get_or ds i 0 ∷ drop (i + 1) ds)) (2 ^ 64 - 1) ≡ min (digits_value 0 ds) (2 ^ 64 - 1) =
    ap (λ (t : List ℕ). min (digits_value n t) (2 ^ 64 - 1)) (sym step) ∙ c.loop-digit.invariant.1 in
    (omega arith, one_digit n (get_or ds i 0) next (2 ^ 64 - 1) (drop (i + 1) ds) e ∙ whole)

pub returns : goal.returns
returns c =
    let i = c.loop-digit.digit-index in
    let ds = c.args.digits.now in
    let n = c.loop-digit.number in
    let h : length ds ≤ i = c.loop-digit-test.false in
    let done : drop i ds ≡ [] = drop_of_length-le ds h in
    let small : n ≡ min n (2 ^ 64 - 1) = omega (arith, c.loop-digit.invariant.0) in
    small ∙ ap (λ (t : List ℕ). min (digits_value n t) (2 ^ 64 - 1)) (sym done) ∙ c.loop-digit.invariant.1
