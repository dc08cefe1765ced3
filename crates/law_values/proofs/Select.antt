-- What subscripts select, by places and as it is computed.
use Rattle.std.proofs.Common.{◌≡◌, ℕ, zero, suc, ◌+◌, ◌-◌, ◌<◌, ◌≤◌, Bool, true, false, cond, leb, eqb, List, [], ◌∷◌, ◌++◌, length, take, drop}
use Rattle.std.proofs.Common.{Option, Some, None, refl, sym, ap, subst, ◌∙◌, ◌⊎◌, inl, inr, ◌&&◌, ◌||◌, not, arith, append_assoc}
use Rattle.std.specs.Prelude.{◌↔◌}
use Rattle.std.specs.List.{list_any, list_all, before_first, after_first, position_or_len}
use Rattle.std.proofs.Math.Seq.{take-length}
use Rattle.std.proofs.lemmas.Bool.{le-leb, leb-true, ne_eqb, eqb-true, and_parts, or_parts, or_right}
use Rattle.std.proofs.lemmas.Bool.Decides.{leb_tells}
use Rattle.std.proofs.lemmas.List.{take_at, drop_at, length_push}
use Rattle.rc_model.specs.Run.Numbers.{is_digit, digits_value, bounded, number_of}
use Rattle.rc_model.specs.Run.Lists.{member, up_to, from_place, front, selected_by}
use Rattle.rc_model.specs.Run.Selecting.{Names, one, range, onward, members_between, Selects, places, at_zero, other}

abbrev Texts : Type 0
Texts = List (List ℕ)

take_nil : (n : ℕ) → take {A = List ℕ} n [] ≡ []
take_nil zero = refl
take_nil (suc n) = refl

drop_nil : (n : ℕ) → drop {A = List ℕ} n [] ≡ []
drop_nil zero = refl
drop_nil (suc n) = refl

-- the members at places from one that comes no later
take_by : (x : List ℕ) (xs : Texts) (first last place : ℕ) → first ≤ place → members_between first last (suc place) xs ≡ take (suc last - suc place) xs →
    ((leb place last ≡ true) × (place ≤ last)) ⊎ ((leb place last ≡ false) × (last < place)) → members_between first last place (x ∷ xs) ≡ take (suc last - place) (x ∷ xs)
take_by x xs first last place l h (inl y) =
    ap (λ b. cond (b && leb place last) (x ∷ members_between first last (suc place) xs) (members_between first last (suc place) xs)) (le-leb first place l)
    ∙ ap (λ b. cond b (x ∷ members_between first last (suc place) xs) (members_between first last (suc place) xs)) y.0
    ∙ ap (λ z. x ∷ z) h ∙ ap (λ n. take n (x ∷ xs)) (let bound = y.1 in let e : suc (suc last - suc place) ≡ suc last - place = omega arith in e)
take_by x xs first last place l h (inr y) =
    ap (λ b. cond (b && leb place last) (x ∷ members_between first last (suc place) xs) (members_between first last (suc place) xs)) (le-leb first place l)
    ∙ ap (λ b. cond b (x ∷ members_between first last (suc place) xs) (members_between first last (suc place) xs)) y.0
    ∙ h ∙ ap (λ n. take n xs) (let bound = y.1 in let e : suc last - suc place ≡ 0 = omega arith in e)
    ∙ ap (λ n. take n (x ∷ xs)) (let bound = y.1 in let e : 0 ≡ suc last - place = omega arith in e)

between_take : (xs : Texts) (first last place : ℕ) → first ≤ place → members_between first last place xs ≡ take (suc last - place) xs
between_take [] first last place l = sym (take_nil (suc last - place))
between_take (x ∷ xs) first last place l = take_by x xs first last place l (between_take xs first last (suc place) (omega arith)) (leb_tells place last)

drop_by : (d : ℕ) (x : List ℕ) (xs : Texts) (last place : ℕ) → ((leb place last ≡ true) × (place ≤ last)) ⊎ ((leb place last ≡ false) × (last < place)) →
    drop d (take (suc last - suc place) xs) ≡ drop (suc d) (take (suc last - place) (x ∷ xs))
drop_by d x xs last place (inl y) = ap (λ n. drop (suc d) (take n (x ∷ xs))) (let bound = y.1 in let e : suc (suc last - suc place) ≡ suc last - place = omega arith in e)
drop_by d x xs last place (inr y) =
    ap (λ n. drop d (take n xs)) (let bound = y.1 in let e : suc last - suc place ≡ 0 = omega arith in e) ∙ drop_nil d
    ∙ ap (λ n. drop (suc d) (take n (x ∷ xs))) (let bound = y.1 in let e : 0 ≡ suc last - place = omega arith in e)

not_yet_there : (place d : ℕ) → ((leb (place + suc d) place ≡ true) × (place + suc d ≤ place)) ⊎ ((leb (place + suc d) place ≡ false) × (place < place + suc d)) → leb (place + suc d) place ≡ false
not_yet_there place d (inl y) = let bound = y.1 in absurd (omega arith)
not_yet_there place d (inr y) = y.0

between_drop : (d : ℕ) (xs : Texts) (last place : ℕ) → members_between (place + d) last place xs ≡ drop d (take (suc last - place) xs)
between_drop zero xs last place = between_take xs (place + 0) last place (omega arith)
between_drop (suc d) [] last place = sym (ap (drop (suc d)) (take_nil (suc last - place)))
between_drop (suc d) (x ∷ xs) last place =
    ap (λ b. cond (b && leb place last) (x ∷ members_between (place + suc d) last (suc place) xs) (members_between (place + suc d) last (suc place) xs))
    (not_yet_there place d (leb_tells (place + suc d) place))
    ∙ ap (λ n. members_between n last (suc place) xs) (let e : place + suc d ≡ suc place + d = omega arith in e)
    ∙ between_drop d xs last (suc place) ∙ drop_by d x xs last place (leb_tells place last)

between_is : (i last : ℕ) (value : Texts) → members_between (suc i) last 1 value ≡ drop i (take last value)
between_is i last value =
    ap (λ n. members_between n last 1 value) (let e : suc i ≡ 1 + i = omega arith in e) ∙ between_drop i value last 1 ∙ ap (λ n. drop i (take n value)) (let e : suc last - 1 ≡ last = omega arith in e)

one_at : (i : ℕ) (value : Texts) → take 1 (drop i value) ≡ drop i (take (suc i) value)
one_at zero value = refl
one_at (suc i) [] = refl
one_at (suc i) (x ∷ value) = one_at i value

-- numbers have no dash
abbrev dash : ℕ → Bool
dash c = eqb c 45

abbrev lacks : List ℕ → Type 0
lacks a = list_any dash a ≡ false

no_way : {A : Type 0} → false ≡ true → A
no_way h = absurd cc

digit_no_dash : (c : ℕ) → is_digit c ≡ true → eqb c 45 ≡ false
digit_no_dash c h = let l : 48 ≤ c = leb-true 48 c (and_parts (leb 48 c) (leb c 57) h).0 in ne_eqb c 45 (λ q. absurd (omega arith))

digits_no_dash : (a : List ℕ) → list_all is_digit a ≡ true → lacks a
digits_no_dash [] h = refl
digits_no_dash (c ∷ a) h = let b = and_parts (is_digit c) (list_all is_digit a) h in ap (λ x. x || list_any dash a) (digit_no_dash c b.0) ∙ digits_no_dash a b.1

digits_by : (b : Bool) (o : Option ℕ) (n : ℕ) → cond b o None ≡ Some n → b ≡ true
digits_by true o n h = refl
digits_by false o n h = absurd cc

number_no_dash : (a : List ℕ) (n : ℕ) → number_of a ≡ Some n → lacks a
number_no_dash [] n h = refl
number_no_dash (c ∷ a) n h = digits_no_dash (c ∷ a) (digits_by (list_all is_digit (c ∷ a)) (bounded (digits_value 0 (c ∷ a))) n h)

found_dash : (a b : List ℕ) → list_any dash (a ++ 45 ∷ b) ≡ true
found_dash [] b = refl
found_dash (c ∷ a) b = or_right (eqb c 45) (list_any dash (a ++ 45 ∷ b)) (found_dash a b)

place_of_dash : (a b : List ℕ) → lacks a → position_or_len dash (a ++ 45 ∷ b) ≡ length a
place_of_dash [] b h = refl
place_of_dash (c ∷ a) b h = let x = or_parts (eqb c 45) (list_any dash a) h in
    ap (λ z. cond (not z) (1 + position_or_len dash (a ++ 45 ∷ b)) 0) x.0 ∙ ap (λ n. 1 + n) (place_of_dash a b x.1) ∙ (let e : 1 + length a ≡ suc (length a) = omega arith in e)

before_dash : (a b : List ℕ) → lacks a → before_first dash (a ++ 45 ∷ b) ≡ a
before_dash a b h = ap (λ n. take n (a ++ 45 ∷ b)) (place_of_dash a b h) ∙ take_at a (45 ∷ b) (length a) refl

after_dash : (a b : List ℕ) → lacks a → after_first dash (a ++ 45 ∷ b) ≡ b
after_dash a b h =
    ap (λ n. drop (n + 1) (a ++ 45 ∷ b)) (place_of_dash a b h)
    ∙ ap (drop (length a + 1)) (sym (append_assoc a (45 ∷ []) b)) ∙ drop_at (a ++ 45 ∷ []) b (length a + 1) (length_push a 45)

record Dashed (text : List ℕ) : Type 0 where
  pub a : List ℕ
  pub b : List ℕ
  pub is : text ≡ a ++ 45 ∷ b
  pub clear : lacks a

dashed_by : (c : ℕ) (text : List ℕ) (x : Bool) → eqb c 45 ≡ x → (list_any dash text ≡ true → Dashed text) → (x || list_any dash text) ≡ true → Dashed (c ∷ text)
dashed_by c text true h f k = record { a = []; b = text; is = ap (λ z. z ∷ text) (eqb-true c 45 h); clear = refl }
dashed_by c text false h f k = let r = f k in record { a = c ∷ r.a; b = r.b; is = ap (λ z. c ∷ z) r.is; clear = ap (λ x. x || list_any dash r.a) h ∙ r.clear }

dashed : (text : List ℕ) → list_any dash text ≡ true → Dashed text
dashed [] h = no_way h
dashed (c ∷ text) h = dashed_by c text (eqb c 45) refl (dashed text) h

-- what is computed, with a dash and without one
abbrev with_dash : Texts → List ℕ → Texts
with_dash value text = from_place (front value (after_first dash text)) (number_of (before_first dash text))

at_dash : (value : Texts) (a b : List ℕ) → lacks a → selected_by value (a ++ 45 ∷ b) ≡ from_place (front value b) (number_of a)
at_dash value a b h =
    ap (λ x. cond x (with_dash value (a ++ 45 ∷ b)) (member value (number_of (a ++ 45 ∷ b)))) (found_dash a b)
    ∙ ap (λ z. from_place (front value z) (number_of (before_first dash (a ++ 45 ∷ b)))) (after_dash a b h)
    ∙ ap (λ z. from_place (front value b) (number_of z)) (before_dash a b h)

no_dash : (value : Texts) (text : List ℕ) → lacks text → selected_by value text ≡ member value (number_of text)
no_dash value text h = ap (λ x. cond x (with_dash value text) (member value (number_of text))) h

front_number : (value : Texts) (b : List ℕ) (n : ℕ) → number_of b ≡ Some n → front value b ≡ take n value
front_number value [] n h = absurd cc
front_number value (c ∷ b) n h = ap (up_to value) h

front_none : (value : Texts) (c : ℕ) (b : List ℕ) → number_of (c ∷ b) ≡ None → front value (c ∷ b) ≡ []
front_none value c b h = ap (up_to value) h

of_none : (o : Option ℕ) → from_place [] o ≡ []
of_none None = refl
of_none (Some zero) = refl
of_none (Some (suc i)) = drop_nil i

at_one : (value : Texts) (text : List ℕ) (n : ℕ) → number_of text ≡ Some n → selected_by value text ≡ member value (Some n)
at_one value text n h = no_dash value text (number_no_dash text n h) ∙ ap (member value) h

at_range : (value : Texts) (text a b : List ℕ) (m n : ℕ) → text ≡ a ++ 45 ∷ b → number_of a ≡ Some m → number_of b ≡ Some n → selected_by value text ≡ from_place (take n value) (Some m)
at_range value text a b m n q h k = ap (selected_by value) q ∙ at_dash value a b (number_no_dash a m h) ∙ ap (from_place (front value b)) h ∙ ap (λ z. from_place z (Some m)) (front_number value b n k)

at_onward : (value : Texts) (text a : List ℕ) (m : ℕ) → text ≡ a ++ 45 ∷ [] → number_of a ≡ Some m → selected_by value text ≡ from_place value (Some m)
at_onward value text a m q h = ap (selected_by value) q ∙ at_dash value a [] (number_no_dash a m h) ∙ ap (from_place value) h

-- each subscript selects by places what is computed
named_places : (value : Texts) (text : List ℕ) (i last : ℕ) → Names (length value) text (suc i) last → members_between (suc i) last 1 value ≡ selected_by value text
named_places value text i last (one _ h) = between_is i (suc i) value ∙ sym (one_at i value) ∙ sym (at_one value text (suc i) h)
named_places value text i last (range a b _ n q h k) = between_is i n value ∙ sym (at_range value text a b (suc i) n q h k)
named_places value text i last (onward a _ q h) = between_is i (length value) value ∙ ap (drop i) (take-length value) ∙ sym (at_onward value text a (suc i) q h)

named_zero : (value : Texts) (text : List ℕ) (last : ℕ) → Names (length value) text 0 last → [] ≡ selected_by value text
named_zero value text last (one _ h) = sym (at_one value text 0 h)
named_zero value text last (range a b _ n q h k) = sym (at_range value text a b 0 n q h k)
named_zero value text last (onward a _ q h) = sym (at_onward value text a 0 q h)

by_names : (value : Texts) (text : List ℕ) (first last : ℕ) → Names (length value) text first last → Selects value text (selected_by value text)
by_names value text zero last n = subst (Selects value text) (named_zero value text last n) (at_zero last n)
by_names value text (suc i) last n = subst (Selects value text) (named_places value text i last n) (places i last n)

-- a text either names places, or nothing is computed and it names none
abbrev Ways : Texts → List ℕ → Type 0
Ways value text = Selects value text (selected_by value text)

no_number : (value : Texts) (text : List ℕ) → lacks text → number_of text ≡ None → (first last : ℕ) → Names (length value) text first last → ⊥
no_number value text h k first last (one m q) = let x : None ≡ Some m = sym k ∙ q in cc
no_number value text h k first last (range a b m n q r s) = no_way (sym h ∙ ap (list_any dash) q ∙ found_dash a b)
no_number value text h k first last (onward a m q r) = no_way (sym h ∙ ap (list_any dash) q ∙ found_dash a [])

plain_ways : (value : Texts) (text : List ℕ) (o : Option ℕ) → lacks text → number_of text ≡ o → Ways value text
plain_ways value text None h k = subst (Selects value text) (sym (no_dash value text h ∙ ap (member value) k)) (other (no_number value text h k))
plain_ways value text (Some n) h k = by_names value text n n (one n k)

-- a text is cut at its first dash in one way
same_front : (text a b c d : List ℕ) → text ≡ a ++ 45 ∷ b → lacks a → text ≡ c ++ 45 ∷ d → lacks c → (a ≡ c) × (b ≡ d)
same_front text a b c d q h r k =
    (sym (before_dash a b h) ∙ ap (before_first dash) (sym q ∙ r) ∙ before_dash c d k, sym (after_dash a b h) ∙ ap (after_first dash) (sym q ∙ r) ∙ after_dash c d k)

-- no names where the front is no number, or what is after the dash is there and is none
no_first : (value : Texts) (text a b : List ℕ) → text ≡ a ++ 45 ∷ b → lacks a → number_of a ≡ None → (first last : ℕ) → Names (length value) text first last → ⊥
no_first value text a b q h k first last (one m r) = no_way (sym (number_no_dash text m r) ∙ ap (list_any dash) q ∙ found_dash a b)
no_first value text a b q h k first last (range c d m n r s t) =
    let e = same_front text a b c d q h r (number_no_dash c m s) in let x : None ≡ Some m = sym k ∙ ap number_of e.0 ∙ s in cc
no_first value text a b q h k first last (onward c m r s) =
    let e = same_front text a b c [] q h r (number_no_dash c m s) in let x : None ≡ Some m = sym k ∙ ap number_of e.0 ∙ s in cc

no_last : (value : Texts) (text a : List ℕ) (e : ℕ) (b : List ℕ) → text ≡ a ++ 45 ∷ (e ∷ b) → lacks a → number_of (e ∷ b) ≡ None → (first last : ℕ) → Names (length value) text first last → ⊥
no_last value text a e b q h k first last (one m r) = no_way (sym (number_no_dash text m r) ∙ ap (list_any dash) q ∙ found_dash a (e ∷ b))
no_last value text a e b q h k first last (range c d m n r s t) =
    let w = same_front text a (e ∷ b) c d q h r (number_no_dash c m s) in let x : None ≡ Some n = sym k ∙ ap number_of w.1 ∙ t in cc
no_last value text a e b q h k first last (onward c m r s) =
    let w = same_front text a (e ∷ b) c [] q h r (number_no_dash c m s) in let x = w.1 in cc

dash_ways : (value : Texts) (text a b : List ℕ) (o p : Option ℕ) → text ≡ a ++ 45 ∷ b → lacks a → number_of a ≡ o → number_of b ≡ p → Ways value text
dash_ways value text a b None p q h k l = subst (Selects value text) (sym (ap (selected_by value) q ∙ at_dash value a b h ∙ ap (from_place (front value b)) k)) (other (no_first value text a b q h k))
dash_ways value text a [] (Some m) p q h k l = by_names value text m (length value) (onward a m q k)
dash_ways value text a (e ∷ b) (Some m) None q h k l =
    subst (Selects value text)
    (sym (ap (selected_by value) q ∙ at_dash value a (e ∷ b) h ∙ ap (λ z. from_place z (number_of a)) (front_none value e b l) ∙ of_none (number_of a)))
    (other (no_last value text a e b q h l))
dash_ways value text a (e ∷ b) (Some m) (Some n) q h k l = by_names value text m n (range a (e ∷ b) m n q k l)

ways_by : (value : Texts) (text : List ℕ) (x : Bool) → list_any dash text ≡ x → Ways value text
ways_by value text true h = let d = dashed text h in dash_ways value text d.a d.b (number_of d.a) (number_of d.b) d.is d.clear refl refl
ways_by value text false h = plain_ways value text (number_of text) h refl

other_nil : {value : Texts} {text : List ℕ} {r : Texts} → ((first last : ℕ) → Names (length value) text first last → ⊥) → Selects value text r → [] ≡ r
other_nil h (places i last n) = absurd (h (suc i) last n)
other_nil h (at_zero last n) = refl
other_nil h (other k) = refl

selects_computed : {value : Texts} {text : List ℕ} {r : Texts} → Selects value text r → r ≡ selected_by value text
selects_computed {value} {text} (places i last n) = named_places value text i last n
selects_computed {value} {text} (at_zero last n) = named_zero value text last n
selects_computed {value} {text} (other h) = other_nil h (ways_by value text (list_any dash text) refl)

pub selected_by-is : (value : Texts) (text : List ℕ) (r : Texts) → (r ≡ selected_by value text) ↔ Selects value text r
selected_by-is value text r = ((λ h. subst (Selects value text) (sym h) (ways_by value text (list_any dash text) refl)), (λ s. selects_computed s))
