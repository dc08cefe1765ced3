-- Numbers at the front of a text.
use Rattle.std.proofs.Common.{◌≡◌, refl, ap, sym, ◌∙◌, ℕ, ◌+◌, ◌-◌, ◌*◌, ◌<◌, ◌≤◌, Bool, true, false, not, ◌==◌, ◌&&◌, ◌||◌, if◌then◌else◌, List, [], ◌∷◌, length, nat_le, Ok, Err, arith}
use Rattle.std.proofs.lemmas.Bool.{le-leb, and_from, and_right, lt-leb}
use Rattle.std.proofs.lemmas.Grind.{common_steps}
use Rattle.rc_model.specs.Run.Numbers.{is_digit, digits_value, greatest_number}
use Rattle.rc_model.specs.Handed.TreeSpelling.{is_numeral}
use Rattle.rc_model.specs.Handed.TreeReading.{digit_run, past_digits, marked}
use Rattle.rc_spelling.specs.Steps.{first_by, digit_here, number_here, value_from, after_digits, number_by}
use Rattle.rc_model.specs.declared.fault.ImageFault.TheVariants.{BadLength, BadTag}

pub first_none : (bytes : List ℕ) → length bytes ≡ 0 → first_by bytes ≡ Err BadTag
unfolding first_by
first_none [] h = refl
first_none (b ∷ rest) h = absurd (omega arith)

pub first_some : (b : ℕ) (rest : List ℕ) → first_by (b ∷ rest) ≡ Ok (b, rest)
unfolding first_by
first_some b rest = refl

pub ruleset firsts = (first_none, first_some, common_steps)

pub digit_none : (bytes : List ℕ) → length bytes ≡ 0 → digit_here bytes ≡ false
unfolding digit_here
digit_none [] h = refl
digit_none (b ∷ rest) h = absurd (omega arith)

pub digit_some : (b : ℕ) (rest : List ℕ) → digit_here (b ∷ rest) ≡ is_digit b
unfolding digit_here
digit_some b rest = refl

pub number_none : (bytes : List ℕ) → length bytes ≡ 0 → number_here bytes ≡ false
unfolding number_here
number_none [] h = refl
number_none (b ∷ rest) h = absurd (omega arith)

pub number_some : (b : ℕ) (rest : List ℕ) → number_here (b ∷ rest) ≡ (is_digit b && (not (b == 48) || not (digit_here rest)))
unfolding number_here digit_here
number_some b [] = one (is_digit b) (b == 48)
  where
    one : (d z : Bool) → is_numeral (if d then b ∷ [] else []) ≡ (d && (not z || true))
    one false z = refl
    one true false = refl
    one true true = refl
number_some b (c ∷ rest) = two (is_digit b) (is_digit c)
  where
    two : (d e : Bool) → is_numeral (if d then b ∷ (if e then c ∷ digit_run rest else []) else []) ≡ (d && (not (b == 48) || not e))
    two false e = refl
    two true true = or_false (not (b == 48))
      where
        or_false : (z : Bool) → z ≡ (z || false)
        or_false true = refl
        or_false false = refl
    two true false = sym (or_true (not (b == 48)))
      where
        or_true : (z : Bool) → (z || true) ≡ true
        or_true true = refl
        or_true false = refl

pub ruleset numerals = (digit_none, digit_some, number_none, number_some, common_steps)

-- what digits are worth
pub value_none : (n : ℕ) (bytes : List ℕ) → length bytes ≡ 0 → value_from n bytes ≡ n
unfolding value_from
value_none n [] h = refl
value_none n (b ∷ rest) h = absurd (omega arith)

pub after_none : (bytes : List ℕ) → length bytes ≡ 0 → after_digits bytes ≡ bytes
unfolding after_digits
after_none [] h = refl
after_none (b ∷ rest) h = absurd (omega arith)

pub value_stop : (n b : ℕ) (rest : List ℕ) → is_digit b ≡ false → value_from n (b ∷ rest) ≡ n
unfolding value_from
value_stop n b rest h = ap (λ (c : Bool). digits_value n (if c then b ∷ digit_run rest else [])) h

pub after_stop : (b : ℕ) (rest : List ℕ) → is_digit b ≡ false → after_digits (b ∷ rest) ≡ b ∷ rest
unfolding after_digits
after_stop b rest h = ap (λ (c : Bool). if c then past_digits rest else b ∷ rest) h

pub value_step : (n b : ℕ) (rest : List ℕ) → is_digit b ≡ true → value_from n (b ∷ rest) ≡ value_from (n * 10 + (b - 48)) rest
unfolding value_from
value_step n b rest h = ap (λ (c : Bool). digits_value n (if c then b ∷ digit_run rest else [])) h

pub after_step : (b : ℕ) (rest : List ℕ) → is_digit b ≡ true → after_digits (b ∷ rest) ≡ after_digits rest
unfolding after_digits
after_step b rest h = ap (λ (c : Bool). if c then past_digits rest else b ∷ rest) h

pub grows : (ds : List ℕ) (n : ℕ) → n ≤ digits_value n ds
grows [] n = omega arith
grows (d ∷ ds) n = let h : n * 10 + (d - 48) ≤ digits_value (n * 10 + (d - 48)) ds = grows ds (n * 10 + (d - 48)) in omega (arith, h)

pub value_grows : (n : ℕ) (bytes : List ℕ) → n ≤ value_from n bytes
unfolding value_from
value_grows n bytes = grows (digit_run bytes) n

pub ruleset values = (value_none, after_none, value_stop, after_stop, value_step, after_step, value_grows, common_steps)

-- a number with its mark
pub count_bad : (mark : ℕ) (bytes : List ℕ) → number_here bytes ≡ false → number_by mark bytes ≡ Err BadLength
unfolding number_by number_here
count_bad mark bytes h = ap (λ (c : Bool). if c && nat_le (digits_value 0 (digit_run bytes)) greatest_number
    then marked mark (digits_value 0 (digit_run bytes)) (past_digits bytes) else Err BadLength) h

pub count_large : (mark : ℕ) (bytes : List ℕ) → greatest_number < value_from 0 bytes → number_by mark bytes ≡ Err BadLength
unfolding number_by value_from
count_large mark bytes h = ap (λ (c : Bool). if c
    then marked mark (digits_value 0 (digit_run bytes)) (past_digits bytes) else Err BadLength)
    (and_right (is_numeral (digit_run bytes)) (nat_le (digits_value 0 (digit_run bytes)) greatest_number) (lt-leb (digits_value 0 (digit_run bytes)) greatest_number h))

pub count_is : (mark : ℕ) (bytes rest : List ℕ) → number_here bytes ≡ true → value_from 0 bytes ≤ greatest_number → after_digits bytes ≡ rest →
    number_by mark bytes ≡ marked mark (value_from 0 bytes) rest
unfolding number_by number_here value_from after_digits
count_is mark bytes rest h k e = ap (λ (c : Bool). if c
    then marked mark (digits_value 0 (digit_run bytes)) (past_digits bytes) else Err BadLength)
    (and_from (is_numeral (digit_run bytes)) (nat_le (digits_value 0 (digit_run bytes)) greatest_number) h (le-leb (digits_value 0 (digit_run bytes)) greatest_number k))
    ∙ ap (marked mark (digits_value 0 (digit_run bytes))) e

pub marked_none : (mark n : ℕ) (rest : List ℕ) → length rest ≡ 0 → marked mark n rest ≡ Err BadLength
marked_none mark n [] h = refl
marked_none mark n (b ∷ rest) h = absurd (omega arith)

pub count_ends : (mark : ℕ) (bytes rest : List ℕ) → number_here bytes ≡ true → value_from 0 bytes ≤ greatest_number → rest ≡ after_digits bytes → length rest ≡ 0 →
    number_by mark bytes ≡ Err BadLength
count_ends mark bytes rest h k e l = count_is mark bytes rest h k (sym e) ∙ marked_none mark (value_from 0 bytes) rest l

other : (b mark n : ℕ) (rest : List ℕ) → (b ≡ mark → ⊥) → marked mark n (b ∷ rest) ≡ Err BadLength
other b mark n rest h = grind (arith, h, common_steps)

pub count_other : (mark b : ℕ) (bytes rest after : List ℕ) → number_here bytes ≡ true → value_from 0 bytes ≤ greatest_number → rest ≡ after_digits bytes →
    rest ≡ b ∷ after → (b ≡ mark → ⊥) → number_by mark bytes ≡ Err BadLength
count_other mark b bytes rest after h k e l d =
    count_is mark bytes rest h k (sym e) ∙ ap (marked mark (value_from 0 bytes)) l ∙ other b mark (value_from 0 bytes) after d

this : (b mark n : ℕ) (rest : List ℕ) → b ≡ mark → marked mark n (b ∷ rest) ≡ Ok (n, rest)
this b mark n rest h = grind (arith, h, common_steps)

pub count_same : (mark b n : ℕ) (bytes rest after : List ℕ) → number_here bytes ≡ true → n ≡ value_from 0 bytes → n ≤ greatest_number → rest ≡ after_digits bytes →
    rest ≡ b ∷ after → b ≡ mark → number_by mark bytes ≡ Ok (n, after)
count_same mark b n bytes rest after h v k e l d =
    count_is mark bytes rest h (bounded n (value_from 0 bytes) v k) (sym e) ∙ ap (λ m. marked mark m rest) (sym v) ∙ ap (marked mark n) l ∙ this b mark n after d
  where
    bounded : (m w : ℕ) → m ≡ w → m ≤ greatest_number → w ≤ greatest_number
    bounded m w u x = omega (arith, u, x)

pub ruleset counts = (count_bad, count_large, count_ends, count_other, count_same, common_steps)
