-- The parts of texts.
use Rattle.std.proofs.Common.{◌≡◌, refl, ap, sym, ◌∙◌, ℕ, suc, ◌<◌, List, [], ◌∷◌, ◌++◌, length, drop, get_or, map, arith, Option, Some, None}
use Rattle.std.specs.Prelude.{Bool, true, false, ◌&&◌, ◌||◌, ◌==◌, if◌then◌else◌, MatchOption, option_map}
use denote.Ref.{Bor}
use Rattle.std.specs.List.{list_any}
use Rattle.std.specs.Str.{IsUtf8, is_utf8}
use Rattle.std.specs.Str.Pattern.{FindsTextPrefix, StripsPrefix}
use Rattle.std.proofs.lemmas.Bool.{ne_eqb, eqb-true, eq-eqb, and_parts, false_from_ne_true}
use Rattle.std.proofs.lemmas.Grind.{common_steps}
use Rattle.std.proofs.lemmas.Str.{IsUtf8-from_is_utf8, is_utf8-from_IsUtf8}
use Rattle.rc_model.specs.Handed.Environment.{cut_entry, with_first}
use Rattle.rc_model.specs.Syntax.Text.{begins_with}
use Rattle.rc_trace.specs.Starts.{past}
use Rattle.rc_trace.specs.Views.{pair_of}

-- ** what stands around the first `=`

-- a text without a byte
abbrev Lacks : ℕ → List ℕ → Type 0
Lacks c bs = (i : ℕ) → i < length bs → get_or bs i 0 ≡ c → ⊥

other_first : (c b : ℕ) (bs : List ℕ) → Lacks c (b ∷ bs) → (b == c) ≡ false
other_first c b bs h = ne_eqb b c (h 0 (omega arith))

other_rest : (c b : ℕ) (bs : List ℕ) → Lacks c (b ∷ bs) → Lacks c bs
other_rest c b bs h i lt = h (suc i) (omega arith)

cut_none : (bs : List ℕ) → Lacks 61 bs → cut_entry bs ≡ None
cut_none [] h = refl
cut_none (b ∷ bs) h =
    ap (λ t. if t then Some ([], bs) else with_first b (cut_entry bs)) (other_first 61 b bs h)
    ∙ ap (with_first b) (cut_none bs (other_rest 61 b bs h))

cut_some : (xs ys : List ℕ) → Lacks 61 xs → cut_entry (xs ++ 61 ∷ ys) ≡ Some (xs, ys)
cut_some [] ys h = refl
cut_some (x ∷ xs) ys h =
    ap (λ t. if t then Some ([], xs ++ 61 ∷ ys) else with_first x (cut_entry (xs ++ 61 ∷ ys))) (other_first 61 x xs h)
    ∙ ap (with_first x) (cut_some xs ys (other_rest 61 x xs h))

pub cut_is : (bs : List ℕ) (r : Option (Bor (List ℕ) × Bor (List ℕ))) →
    MatchOption r (Lacks 61 bs) (λ x. (bs ≡ x.0.now ++ (61 ∷ x.1.now)) × Lacks 61 x.0.now) → option_map pair_of r ≡ cut_entry bs
cut_is bs None h = sym (cut_none bs h)
cut_is bs (Some x) h = sym (ap cut_entry h.0 ∙ cut_some x.0.now x.1.now h.1)

-- ** what follows a mark

begun_split : (mark text : List ℕ) → begins_with mark text ≡ true → text ≡ mark ++ drop (length mark) text
begun_split [] text h = refl
begun_split (b ∷ bs) [] h = cc
begun_split (b ∷ bs) (c ∷ text) h =
    let p = and_parts (b == c) (begins_with bs text) h in
    ap (λ t. c ∷ t) (begun_split bs text p.1) ∙ ap (λ x. x ∷ bs ++ drop (length bs) text) (sym (eqb-true b c p.0))

not_begun : (mark text : List ℕ) → ((rest : List ℕ) → text ≡ mark ++ rest → ⊥) → begins_with mark text ≡ false
not_begun mark text h = false_from_ne_true (begins_with mark text) (λ b. h (drop (length mark) text) (begun_split mark text b))

begun_by : (mark rest : List ℕ) → begins_with mark (mark ++ rest) ≡ true
begun_by [] rest = refl
begun_by (b ∷ bs) rest = ap (λ t. t && begins_with bs (bs ++ rest)) (eq-eqb b b refl) ∙ begun_by bs rest

pub past_is : (mark text : List ℕ) (r : Option (Bor (List ℕ))) →
    MatchOption r (FindsTextPrefix mark text None) (λ x. StripsPrefix (FindsTextPrefix mark) text x.now) →
    option_map (λ x. x.now) r ≡ past mark text
past_is mark text None h = sym (ap (λ (b : Bool). if b then Some (drop (length mark) text) else None) (not_begun mark text h))
past_is mark text (Some x) h =
    ap Some (h.2 ∙ ap (λ n. drop n text) h.1.0)
    ∙ sym (ap (λ (b : Bool). if b then Some (drop (length mark) text) else None) (ap (begins_with mark) h.1.1 ∙ begun_by mark (drop h.0 text)))

-- ** UTF-8

pub is_encoded : (bs : List ℕ) → IsUtf8 bs → is_utf8 bs ≡ true
is_encoded bs h = is_utf8-from_IsUtf8 bs h

pub not_encoded : (bs : List ℕ) → ¬ (IsUtf8 bs) → is_utf8 bs ≡ false
not_encoded bs h = false_from_ne_true (is_utf8 bs) (λ e. h (IsUtf8-from_is_utf8 bs e))

pub ruleset encoded = (is_encoded, not_encoded, common_steps)

-- ** lists

pub any_mapped : {X Y : Type 0} (p : Y → Bool) (f : X → Y) (xs : List X) → list_any p (map f xs) ≡ list_any (λ x. p (f x)) xs
any_mapped p f [] = refl
any_mapped p f (x ∷ xs) = ap (λ b. p (f x) || b) (any_mapped p f xs)
