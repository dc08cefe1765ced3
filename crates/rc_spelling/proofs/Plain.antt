-- What most numbers and texts are: one digit, and ASCII.
use Rattle.std.proofs.Common.{◌≡◌, refl, ap, sym, ◌∙◌, ℕ, suc, ◌+◌, ◌-◌, ◌*◌, ◌<◌, ◌≤◌, All, Bool, true, false, not, ◌==◌, ◌&&◌, ◌||◌, List, [], ◌∷◌, length, take, drop, nat_le, nat_lt, slice_index_or, Ok, arith}
use Rattle.std.specs.List.{list_any, list_all}
use Rattle.std.proofs.lemmas.Bool.{leb-true, ne_eqb}
use Rattle.std.proofs.lemmas.List.Sums.{AllPass-from_list_all}
use Rattle.std.proofs.lemmas.Str.{IsUtf8-from_ascii}
use Rattle.std.proofs.lemmas.Str.Ascii.{IsAscii-from_all}
use Rattle.std.proofs.lemmas.Grind.{common_steps}
use Rattle.rc_model.specs.Run.Numbers.{is_digit, greatest_number}
use Rattle.rc_spelling.specs.Steps.{digit_here, number_here, value_from, after_digits, number_by, string_by}
use Rattle.rc_spelling.proofs.Digits.{number_some, digit_some, value_step, value_stop, after_step, after_stop, count_same}
use Rattle.rc_spelling.proofs.Strings.{string_made}

-- a number of one digit
then_no_digit : (x z e : Bool) → x ≡ true → e ≡ false → (x && (z || not e)) ≡ true
then_no_digit true true e h k = refl
then_no_digit true false e h k = ap not k
then_no_digit false z e h k = h

not_above_nine : (x y : Bool) → (x && y) ≡ true → y ≡ true
not_above_nine true y h = h
not_above_nine false y h = absurd (cc)

below_ten : (d : ℕ) → is_digit d ≡ true → d - 48 ≤ greatest_number
below_ten d h = let k : d ≤ 57 = leb-true d 57 (not_above_nine (nat_le 48 d) (nat_le d 57) h) in omega arith

no_tens : (k : ℕ) → 0 * 10 + k ≡ k
no_tens k = omega arith

pub digit_found : (mark d b : ℕ) (bytes after rest : List ℕ) → bytes ≡ d ∷ after → after ≡ b ∷ rest → is_digit d ≡ true → b ≡ mark → is_digit mark ≡ false →
    number_by mark bytes ≡ Ok (d - 48, rest)
digit_found mark d b bytes after rest e f h m k =
    count_same mark b (d - 48) bytes after rest
    (ap number_here e ∙ number_some d after ∙ then_no_digit (is_digit d) (not (d == 48)) (digit_here after) h no_more)
    (sym (ap (value_from 0) e ∙ value_step 0 d after h ∙ ap (value_from (0 * 10 + (d - 48))) f ∙ value_stop (0 * 10 + (d - 48)) b rest mark_stops ∙ no_tens (d - 48)))
    (below_ten d h)
    (f ∙ sym (ap after_digits (e ∙ ap (λ l. d ∷ l) f) ∙ after_step d (b ∷ rest) h ∙ after_stop b rest mark_stops)) f m
  where
    mark_stops : is_digit b ≡ false
    mark_stops = ap is_digit m ∙ k

    no_more : digit_here after ≡ false
    no_more = ap digit_here f ∙ digit_some b rest ∙ mark_stops

pub ruleset digits = (digit_found, common_steps)

-- texts of ASCII
abbrev pub is_plain : ℕ → Bool
is_plain b = nat_lt 0 b && nat_lt b 128

left_true : (x y : Bool) → (x && y) ≡ true → x ≡ true
left_true true y h = refl
left_true false y h = h

right_true : (x y : Bool) → (x && y) ≡ true → y ≡ true
right_true true y h = h
right_true false y h = absurd (cc)

is_small : (b : ℕ) → is_plain b ≡ true → b < 128
is_small b h = let k : suc b ≤ 128 = leb-true (suc b) 128 (right_true (nat_lt 0 b) (nat_lt b 128) h) in omega arith

is_not_zero : (b : ℕ) → is_plain b ≡ true → (b == 0) ≡ false
is_not_zero b h = let k : 1 ≤ b = leb-true 1 b (left_true (nat_lt 0 b) (nat_lt b 128) h) in ne_eqb b 0 (λ e. omega (arith, k, e))

all_small : (bs : List ℕ) → list_all is_plain bs ≡ true → All (λ b. b < 128) bs
all_small bs h k d l = is_small (slice_index_or bs k d) (AllPass-from_list_all is_plain bs h k d l)

none_zero : (bs : List ℕ) → list_all is_plain bs ≡ true → list_any (λ b. b == 0) bs ≡ false
none_zero [] h = refl
none_zero (b ∷ bs) h =
    rw (is_not_zero b (left_true (is_plain b) (list_all is_plain bs) h)) (none_zero bs (right_true (is_plain b) (list_all is_plain bs) h))

pub string_plain : (n : ℕ) (bytes front rest : List ℕ) → n ≤ length bytes → front ≡ take n bytes → rest ≡ drop n bytes →
    list_all is_plain front ≡ true → string_by n bytes ≡ Ok (front, rest)
string_plain n bytes front rest l e k h =
    string_made n bytes front rest front l e k (IsUtf8-from_ascii front (IsAscii-from_all front (all_small front h))) (none_zero front h) refl

pub ruleset plain = (string_plain, common_steps)
