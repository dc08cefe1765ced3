-- Numbers as they are read.
use Rattle.std.specs.Prelude.{nat_le, IsTrue}
use Rattle.std.proofs.Common.{◌≡◌, ℕ, zero, suc, ◌≤◌, ◌<◌, List, [], ◌∷◌, ◌++◌, length, get_or, Bool, true, false, refl, sym, ap, ◌∙◌, arith}
use Rattle.std.specs.List.{list_all}
use Rattle.std.specs.Fmt.{decimal}
use Rattle.std.proofs.lemmas.Fmt.{digits_value-decimal, decimal-digits_value, decimal_nonempty, first_decimal, decimal_digit, digits_decimal}
use Rattle.std.proofs.lemmas.Str.Parse.{IsNumeralModel, IsDigitsTest, FoldsDigits, numerals_by_fold}
use Rattle.std.proofs.lemmas.Bool.{and_parts, and_from, leb-true, le-leb}
use Rattle.rc_model.specs.Run.Numbers.{is_digit, digits_value, greatest_number}
use Rattle.rc_model.specs.Handed.TreeSpelling.{Number, is_numeral}
use Rattle.rc_model.specs.Handed.TreeReading.{digit_run, past_digits, is_count}

-- digits in front of a byte that is none
pub run_of : (ds : List ℕ) (m : ℕ) (rest : List ℕ) → IsTrue (list_all is_digit ds) → is_digit m ≡ false → digit_run (ds ++ m ∷ rest) ≡ ds
run_of [] m rest h none_here = rw none_here
run_of (d ∷ ds) m rest h none_here =
    let k = and_parts (is_digit d) (list_all is_digit ds) h in
    rw k.0 (ap (λ x. d ∷ x) (run_of ds m rest k.1 none_here))

pub past_of : (ds : List ℕ) (m : ℕ) (rest : List ℕ) → IsTrue (list_all is_digit ds) → is_digit m ≡ false → past_digits (ds ++ m ∷ rest) ≡ m ∷ rest
past_of [] m rest h none_here = rw none_here
past_of (d ∷ ds) m rest h none_here =
    let k = and_parts (is_digit d) (list_all is_digit ds) h in
    rw k.0 (past_of ds m rest k.1 none_here)

run_step : (b : ℕ) (bs : List ℕ) (t : Bool) → is_digit b ≡ t → bs ≡ digit_run bs ++ past_digits bs → b ∷ bs ≡ digit_run (b ∷ bs) ++ past_digits (b ∷ bs)
run_step b bs true e h = rw e (ap (λ x. b ∷ x) h)
run_step b bs false e h = rw e refl

pub run_and_past : (bs : List ℕ) → bs ≡ digit_run bs ++ past_digits bs
run_and_past [] = refl
run_and_past (b ∷ bs) = run_step b bs (is_digit b) refl (run_and_past bs)

digits_step : (b : ℕ) (bs : List ℕ) (t : Bool) → is_digit b ≡ t → IsTrue (list_all is_digit (digit_run bs)) → IsTrue (list_all is_digit (digit_run (b ∷ bs)))
digits_step b bs true e h = rw e (and_from (is_digit b) _ e h)
digits_step b bs false e h = rw e refl

pub run_digits : (bs : List ℕ) → IsTrue (list_all is_digit (digit_run bs))
run_digits [] = refl
run_digits (b ∷ bs) = digits_step b bs (is_digit b) refl (run_digits bs)

-- std's words for numerals are ours
digits_test : IsDigitsTest (λ ds. IsTrue (list_all is_digit ds))
digits_test = record {
  empty = refl;
  parts = λ c cs e. let k = and_parts (is_digit c) (list_all is_digit cs) e in let m = and_parts (nat_le 48 c) (nat_le c 57) k.0 in ((leb-true 48 c m.0, leb-true c 57 m.1), k.1);
  more = λ c cs k e. and_from (is_digit c) _ (and_from (nat_le 48 c) _ (le-leb 48 c k.0) (le-leb c 57 k.1)) e;
}

folds : FoldsDigits digits_value
folds = record { empty = λ n. refl; more = λ n c cs k. refl }

pub own : IsNumeralModel (λ ds. IsTrue (list_all is_digit ds)) (digits_value 0)
own = numerals_by_fold _ digits_test digits_value folds

not_zero : (d : ℕ) → IsTrue (is_numeral (d ∷ 0 ∷ [])) → d ≡ 48 → ⊥
not_zero d h e = grind (arith, h, e)

some_digit : (text : List ℕ) → IsTrue (is_numeral text) → 0 < length text
some_digit [] h = absurd (cc)
some_digit (d ∷ ds) h = omega arith

lead : (text : List ℕ) → IsTrue (is_numeral text) → get_or text 0 0 ≡ 48 → length text ≡ 1
lead [] h e = absurd (cc)
lead (d ∷ []) h e = refl
lead (d ∷ e' ∷ ds) h e = absurd (not_zero d h e)

-- a number is spelled as it is written
pub number_is : (n : ℕ) (text : List ℕ) → Number n text → text ≡ decimal n
number_is n text h = sym (decimal-digits_value own text h.digits (some_digit text h.front) (lead text h.front) (omega (arith, h.value, h.bound))) ∙ ap decimal h.value

numeral_of : (text : List ℕ) → 0 < length text → (get_or text 0 0 ≡ 48 → ⊥) → IsTrue (is_numeral text)
numeral_of [] h none_here = absurd (omega arith)
numeral_of (d ∷ []) h none_here = refl
numeral_of (d ∷ e ∷ ds) h none_here = grind (arith, none_here)

zero_text : decimal 0 ≡ 48 ∷ []
zero_text = decimal_digit 0 (omega arith)

front_of : (n : ℕ) → n ≤ greatest_number → IsTrue (is_numeral (decimal n))
front_of zero h = rw zero_text refl
front_of (suc n) h = numeral_of (decimal (suc n)) (decimal_nonempty (suc n) (omega arith)) (λ e. omega (arith, first_decimal (suc n) (omega arith) (omega arith)))

pub number_of_decimal : (n : ℕ) → n ≤ greatest_number → Number n (decimal n)
number_of_decimal n h = record {
  digits = digits_decimal own n (omega arith);
  front = front_of n h;
  value = digits_value-decimal own n (omega arith);
  bound = h;
}

pub count_of : (n : ℕ) (text : List ℕ) → Number n text → IsTrue (is_count text)
count_of n text h = and_from (is_numeral text) _ h.front (le-leb (digits_value 0 text) greatest_number (omega (arith, h.value, h.bound)))

pub number_at : (text : List ℕ) → IsTrue (list_all is_digit text) → IsTrue (is_count text) → Number (digits_value 0 text) text
number_at text d h =
    let k = and_parts (is_numeral text) (nat_le (digits_value 0 text) greatest_number) h in
    record { digits = d; front = k.0; value = refl; bound = leb-true (digits_value 0 text) greatest_number k.1 }
