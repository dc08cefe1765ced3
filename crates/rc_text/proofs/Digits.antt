-- Numbers as they are read.
use Rattle.std.proofs.Common.{◌≡◌, ◌<◌, ◌^◌, ℕ, Bool, true, false, cond, leb, List, [], ◌∷◌, length, Some, None, Result, Ok, Err, refl, rules, ap, sym, ◌∙◌, arith}
use Rattle.std.proofs.lemmas.Bool.{le-leb, leb-true}
use Rattle.std.proofs.lemmas.Str.Parse.{IsNumeralModel, numerals_by_fold, parse_digits}
use Rattle.std.specs.List.{list_all}
use Rattle.std.specs.Result.{OkIff, result_ok}
use Rattle.std.specs.Str.Parse.{ParsesUnsigned}
use Rattle.rc_model.specs.Run.Numbers.{is_digit, digits_value, bounded, greatest_number, number_of}

-- decimal digits are a numeral
pub digits_are_numerals : IsNumeralModel (λ ds. list_all is_digit ds ≡ true) (digits_value 0)
digits_are_numerals = numerals_by_fold _ (search rules) digits_value (search rules)

within : (n : ℕ) → n < 2 ^ 32 → bounded n ≡ Some n
within n h = ap (λ b. cond b (Some n) None) (le-leb n greatest_number (omega (arith, h)))

above : (n : ℕ) (b : Bool) → leb n greatest_number ≡ b → (n < 2 ^ 32 → ⊥) → cond b (Some n) None ≡ None
above n false e h = refl
above n true e h = absurd (h (omega (arith, leb-true n greatest_number e)))

read_by : {E : Type 0} (text : List ℕ) (r : Result ℕ E) → list_all is_digit text ≡ true → OkIff r ((0 < length text) × (digits_value 0 text < 2 ^ 32)) (digits_value 0 text) → result_ok r ≡ number_of text
read_by [] (Ok n) a h = absurd (omega (arith, h.0.0))
read_by [] (Err e) a h = refl
read_by (d ∷ ds) (Ok n) a h =
    ap Some h.1 ∙ sym (ap (λ b. cond b (bounded (digits_value 0 (d ∷ ds))) None) a ∙ within (digits_value 0 (d ∷ ds)) h.0.1)
read_by (d ∷ ds) (Err e) a h =
    sym (ap (λ b. cond b (bounded (digits_value 0 (d ∷ ds))) None) a
    ∙ above (digits_value 0 (d ∷ ds)) (leb (digits_value 0 (d ∷ ds)) greatest_number) refl (λ below. h (omega arith, below)))

pub number_read : {E : Type 0} (text : List ℕ) (r : Result ℕ E) → list_all is_digit text ≡ true → ParsesUnsigned 32 10 text r → result_ok r ≡ number_of text
number_read text r a h = read_by text r a (parse_digits digits_are_numerals 32 text r h a)

pub no_number : (text : List ℕ) → list_all is_digit text ≡ false → number_of text ≡ None
no_number [] a = refl
no_number (d ∷ ds) a = ap (λ b. cond b (bounded (digits_value 0 (d ∷ ds))) None) a
