-- Texts.
use Rattle.std.proofs.Common.{◌≡◌, refl, ap, sym, ◌∙◌, ℕ, ◌<◌, ◌≤◌, Bool, true, false, not, ◌==◌, ◌&&◌, if◌then◌else◌, List, [], ◌∷◌, length, take, drop, nat_le, Result, Ok, Err, arith, IsUtf8}
use Rattle.std.specs.List.{list_any}
use Rattle.std.specs.Str.{is_utf8}
use Rattle.std.proofs.lemmas.Bool.{le-leb, lt-leb}
use Rattle.std.proofs.lemmas.Str.{is_utf8-from_IsUtf8, IsUtf8-from_is_utf8}
use Rattle.std.proofs.lemmas.Grind.{common_steps}
use Rattle.rc_model.specs.Syntax.Text.{without_zero}
use Rattle.rc_model.specs.Syntax.WellFormed.{has_text}
use Rattle.rc_tree.proofs.Fitting.{zero_sought}
use Rattle.rc_tree.specs.View.{tree_Lit}
use Rattle.rc_spelling.specs.Steps.{string_by}
use Rattle.rc_model.specs.declared.fault.ImageFault.{ImageFault}
use Rattle.rc_model.specs.declared.fault.ImageFault.TheVariants.{BadLength}

pub string_short : (n : ℕ) (bytes : List ℕ) → length bytes < n → string_by n bytes ≡ Err BadLength
unfolding string_by
string_short n bytes h = ap (λ (c : Bool). if c && (is_utf8 (take n bytes) && without_zero (take n bytes)) then Ok (take n bytes, drop n bytes) else Err BadLength)
    (lt-leb n (length bytes) h)

last_false : (c d e : Bool) → e ≡ false → (c && (d && e)) ≡ false
last_false true true e k = k
last_false true false e k = refl
last_false false d e k = refl

middle_false : (c d e : Bool) → d ≡ false → (c && (d && e)) ≡ false
middle_false true true e k = cc
middle_false true false e k = refl
middle_false false d e k = refl

all_true : (c d e : Bool) → c ≡ true → d ≡ true → e ≡ true → (c && (d && e)) ≡ true
all_true true true true h k l = refl
all_true true true false h k l = l
all_true true false e h k l = k
all_true false d e h k l = h

abbrev taken_where : ℕ → List ℕ → Bool → Result (List ℕ × List ℕ) ImageFault
taken_where n bytes c = if c then Ok (take n bytes, drop n bytes) else Err BadLength

zero_found : (text : List ℕ) → list_any (λ b. b == 0) text ≡ true → without_zero text ≡ false
zero_found text h = zero_sought text ∙ ap not h

no_zero : (text : List ℕ) → list_any (λ b. b == 0) text ≡ false → without_zero text ≡ true
no_zero text h = zero_sought text ∙ ap not h

pub string_zero : (n : ℕ) (bytes front : List ℕ) → front ≡ take n bytes → list_any (λ b. b == 0) front ≡ true → string_by n bytes ≡ Err BadLength
unfolding string_by
string_zero n bytes front e h = ap (taken_where n bytes)
    (last_false (nat_le n (length bytes)) (is_utf8 (take n bytes)) (without_zero (take n bytes)) (zero_found (take n bytes) (ap (list_any (λ b. b == 0)) (sym e) ∙ h)))

bad_text : (text : List ℕ) → (IsUtf8 text → ⊥) → (c : Bool) → is_utf8 text ≡ c → c ≡ false
bad_text text h true e = absurd (h (IsUtf8-from_is_utf8 text e))
bad_text text h false e = refl

pub string_bad : (n : ℕ) (bytes front : List ℕ) → front ≡ take n bytes → (IsUtf8 front → ⊥) → string_by n bytes ≡ Err BadLength
unfolding string_by
string_bad n bytes front e h = ap (taken_where n bytes)
    (middle_false (nat_le n (length bytes)) (is_utf8 (take n bytes)) (without_zero (take n bytes))
    (ap is_utf8 (sym e) ∙ bad_text front h (is_utf8 front) refl))

pub string_is : (n : ℕ) (bytes front : List ℕ) → n ≤ length bytes → front ≡ take n bytes → IsUtf8 front → list_any (λ b. b == 0) front ≡ false →
    string_by n bytes ≡ Ok (front, drop n bytes)
unfolding string_by
string_is n bytes front l e u h = ap (taken_where n bytes)
    (all_true (nat_le n (length bytes)) (is_utf8 (take n bytes)) (without_zero (take n bytes))
    (le-leb n (length bytes) l) (ap is_utf8 (sym e) ∙ is_utf8-from_IsUtf8 front u) (no_zero (take n bytes) (ap (list_any (λ b. b == 0)) (sym e) ∙ h)))
    ∙ ap (λ (f : List ℕ). Ok (f, drop n bytes)) (sym e)

pub string_made : (n : ℕ) (bytes front rest text : List ℕ) → n ≤ length bytes → front ≡ take n bytes → rest ≡ drop n bytes → IsUtf8 front →
    list_any (λ b. b == 0) front ≡ false → text ≡ front → string_by n bytes ≡ Ok (text, rest)
string_made n bytes front rest text l e k u h t =
    string_is n bytes front l e u h ∙ ap (λ (f : List ℕ). Ok (f, drop n bytes)) (sym t) ∙ ap (λ (r : List ℕ). Ok (text, r)) (sym k)

pub ruleset strings = (string_short, string_zero, string_bad, string_made, common_steps)

-- whether there is a text at all
pub text_none : (text : List ℕ) → length text ≡ 0 → has_text text ≡ false
text_none [] h = refl
text_none (b ∷ bs) h = absurd (omega arith)

pub text_some : (text : List ℕ) → 0 < length text → has_text text ≡ true
text_some [] h = absurd (omega arith)
text_some (b ∷ bs) h = refl

pub ruleset words = (text_none, text_some, tree_Lit, common_steps)
