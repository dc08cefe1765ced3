-- The decimals of 1 to 255.
use Rattle.std.proofs.Common.{◌≡◌, ◌≢◌, ℕ, zero, suc, ◌<◌, ◌≤◌, ◌^◌, List, get_or, Result, Ok, Err, IfSome, IfNone, arith}
use Rattle.std.specs.Fmt.{decimal}
use Rattle.std.specs.Int.{IsInRange}
use Rattle.std.specs.Result.{result_ok}
use Rattle.std.specs.Str.Parse.{AllDigits, digits_value, ParsesUnsigned}
use Rattle.std.proofs.lemmas.Fmt.{decimal_digit, decimal_nonempty, first_decimal, digits_decimal, decimal-digits_value, parse-decimal}
use Rattle.std.proofs.lemmas.Str.Parse.{IsNumeralModel, numerals_by_value, tells_digits, digit_at, parse_plain}

own : IsNumeralModel (AllDigits 10) (digits_value 10)
own = numerals_by_value (AllDigits 10) tells_digits

-- the decimal of a number above 0 begins with a digit above 0
pub decimal_first : (bs : List ℕ) (n : ℕ) → 0 < n → n < 256 → bs ≡ decimal n → IsInRange 49 57 (get_or bs 0 0)
decimal_first bs n above below e =
    let fits : n < 2 ^ 64 = omega arith in
    let first : IsInRange 48 57 (get_or (decimal n) 0 0) = digit_at (decimal n) 0 (digits_decimal own n fits) (decimal_nonempty n fits) in
    rw e (omega (arith, first, first_decimal n above fits))

-- a decimal that begins with a digit above 0 is not that of 0
decimal_positive : (bs : List ℕ) (n : ℕ) → bs ≡ decimal n → 49 ≤ get_or bs 0 0 → 0 < n
decimal_positive bs zero e first =
    let nought : get_or bs 0 0 ≡ 48 = rw (e, decimal_digit 0 (omega arith)) in absurd (omega (arith, nought))
decimal_positive bs (suc n) e first = omega arith

-- a text that begins with such a digit and is read as a number is the number's decimal
pub decimal_of_read : {E : Type 0} (bs : List ℕ) (r : Result ℕ E) → ParsesUnsigned 8 10 bs r → IsInRange 49 57 (get_or bs 0 0)
    → IfSome (result_ok r) (λ n. (0 < n) × (n < 256) × (bs ≡ decimal n))
decimal_of_read bs (Err d) read first = tt
decimal_of_read {E} bs (Ok n) read first =
    let plain = parse_plain own {E = E} 8 bs (Ok n) read (omega arith) in
    let written : decimal (digits_value 10 bs) ≡ bs =
    decimal-digits_value own bs plain.0.0 plain.0.1 (λ z. absurd (omega arith)) (omega (arith, plain.0.2)) in
    let value : n ≡ digits_value 10 bs = plain.1 in
    let same : bs ≡ decimal n = cc in
    (decimal_positive bs n same first.0, omega (arith, plain.0.2), same)

-- and one that is read as none is no such decimal
pub no_decimal_of_read : {E : Type 0} (bs : List ℕ) (r : Result ℕ E) → ParsesUnsigned 8 10 bs r
    → IfNone (result_ok r) ((n : ℕ) → 0 < n → n < 256 → bs ≢ decimal n)
no_decimal_of_read {E} bs (Err d) read =
    λ n above below same. let found = parse-decimal {E = E} 8 n bs (Err d) (omega arith) (omega arith) same read in cc
no_decimal_of_read bs (Ok n) read = tt
