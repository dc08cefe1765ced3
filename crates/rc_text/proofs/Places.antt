-- Members by their places.
use Rattle.std.proofs.Common.{◌≡◌, ◌<◌, ◌+◌, ◌-◌, ℕ, zero, suc, Bool, true, false, cond, not, ◌||◌, List, [], ◌∷◌, ◌++◌, map, length, take, drop, get_or}
use Rattle.std.proofs.Common.{Option, Some, None, refl, ap, sym, ◌∙◌, arith, add-one}
use Rattle.std.proofs.lemmas.List.{take_all, take_rest, drop-take, take-map, drop-map, map-append, append-nil, take_more}
use Rattle.std.proofs.lemmas.Grind.{common_steps, flat_map-append}
use Rattle.std.specs.Prelude.{◌==◌}
use Rattle.std.specs.List.{list_any, position_or_len, before_first, after_first, AllZip, AppendsClones}
use Rattle.rc_model.specs.Run.Lists.{member, up_to, front, from_place, selected, selected_by}
use Rattle.rc_model.specs.Run.Numbers.{number_of}
use Rattle.rc_text.specs.Texts.{text_bytes}
use Rattle.rc_text.specs.declared.texts.Text.{Text}

-- a member is the last of those up to its place
pub member_of_front : (value : List (List ℕ)) (place : Option ℕ) → from_place (up_to value place) place ≡ member value place
member_of_front value None = refl
member_of_front value (Some zero) = refl
member_of_front value (Some (suc i)) = ap (λ n. drop i (take n value)) (sym (add-one i)) ∙ drop-take i 1 value

one_less : (n i : ℕ) → n ≡ suc i → n - 1 ≡ i
one_less n i h = omega arith

-- the members from a place on
pub from_at : {X : Type 0} (f : X → List ℕ) (xs : List X) (n : ℕ) → 0 < n → map f (take (length xs - (n - 1)) (drop (n - 1) xs)) ≡ from_place (map f xs) (Some n)
from_at f xs zero h = absurd (omega (arith, h))
from_at f xs (suc i) h = ap (λ k. map f (take (length xs - k) (drop k xs))) (one_less (suc i) i refl) ∙ ap (map f) (take_rest xs i) ∙ sym (drop-map f i xs)

pub ruleset cuts = (take-map, drop-map, take_all, from_at, common_steps)

none_by : (b c : Bool) (n m : ℕ) → (n ≡ m → c ≡ false) → cond (not b) (1 + n) 0 ≡ suc m → (b || c) ≡ false
none_by true c n m h e = absurd (omega (arith, e))
none_by false c n m h e = h (omega (arith, e))

-- no element passes a test where the first to do so stands past the end
pub none_passes : {X : Type 0} (p : X → Bool) (xs : List X) → position_or_len p xs ≡ length xs → list_any p xs ≡ false
none_passes p [] e = refl
none_passes p (x ∷ xs) e = none_by (p x) (list_any p xs) (position_or_len p xs) (length xs) (none_passes p xs) e

-- clones have the bytes of their texts
same_texts : (xs ys : List (Text)) → AllZip (λ s t. text_bytes t ≡ text_bytes s) xs ys → map text_bytes ys ≡ map text_bytes xs
same_texts [] [] h = refl
same_texts [] (y ∷ ys) h = absurd h
same_texts (x ∷ xs) [] h = absurd h
same_texts (x ∷ xs) (y ∷ ys) h = ap (λ b. b ∷ map text_bytes ys) h.0 ∙ ap (λ bs. text_bytes x ∷ bs) (same_texts xs ys h.1)

appended : (old new more : List (Text)) → AppendsClones (λ s t. text_bytes t ≡ text_bytes s) old new more → map text_bytes new ≡ map text_bytes old ++ map text_bytes more
appended old new more h = ap (map text_bytes) h.1 ∙ map-append text_bytes old h.0 ∙ ap (λ t. map text_bytes old ++ t) (same_texts more h.0 h.2)

-- one subscript more
pub select_step : (value : List (List ℕ)) (subscripts : List (Text)) (i : ℕ) (s : Text) (old new more : List (Text)) → i < length subscripts → s ≡ get_or subscripts i s →
    AppendsClones (λ s t. text_bytes t ≡ text_bytes s) old new more → map text_bytes more ≡ selected_by value (text_bytes s) →
    map text_bytes old ≡ selected value (map text_bytes (take i subscripts)) → map text_bytes new ≡ selected value (map text_bytes (take (i + 1) subscripts))
select_step value subscripts i s old new more l at clones picked so_far =
    appended old new more clones ∙ ap (λ t. t ++ map text_bytes more) so_far ∙ ap (λ t. selected value (map text_bytes (take i subscripts)) ++ t) (picked ∙ sym (append-nil (selected_by value (text_bytes s))))
    ∙ sym (flat_map-append (selected_by value) (map text_bytes (take i subscripts)) (text_bytes s ∷ []))
    ∙ ap (selected value) (sym (ap (map text_bytes) (take_more subscripts i s l ∙ ap (λ z. take i subscripts ++ z ∷ []) (sym at)) ∙ map-append text_bytes (take i subscripts) (s ∷ [])))

-- a subscript without a dash names one place
pub one_place : (value : List (List ℕ)) (text : List ℕ) → list_any (λ c. c == 45) text ≡ false → selected_by value text ≡ member value (number_of text)
one_place value text h =
    ap (λ b. cond b (from_place (front value (after_first (λ c. c == 45) text)) (number_of (before_first (λ c. c == 45) text))) (member value (number_of text))) h
