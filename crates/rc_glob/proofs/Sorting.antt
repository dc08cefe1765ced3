-- Texts that are sorted and then lose those that come again.
use Rattle.std.proofs.Common.{◌≡◌, ℕ, ◌+◌, ◌<◌, Bool, true, false, cond, List, [], ◌∷◌, length, map, slice_index_or, IsTrue, refl, sym, ap, subst, ◌∙◌, inl, inr, string_bytes}
use Rattle.std.specs.Prelude.{filter, bytes_eq}
use Rattle.std.specs.Cmp.Lexicographic.{on_texts, on_texts_equal}
use Rattle.std.specs.Ordering.{is_lt}
use Rattle.std.specs.List.{AllByRecursion, Contains, IsAllAdjacentAnswer, dedup}
use Rattle.std.specs.List.Retain.{DiffersFromLast, IsFiltered}
use Rattle.std.specs.List.Sorted.{IsPermutation, IsSorted, IsStrictlySortedBy}
use Rattle.std.specs.declared.alloc.Global.{Global}
use Rattle.std.specs.declared.string.String.{String}
use Rattle.std.specs.declared.cmp.Ordering.{Ordering}
use Rattle.std.specs.declared.cmp.Ordering.TheVariants.{Less, Equal, Greater}
use Rattle.std.specs.String.{string_eq}
use Rattle.std.proofs.lemmas.List.Elements.{All-contains, All-from_recursion, Contains-append_left, Contains-append_right, Contains-push}
use Rattle.std.proofs.lemmas.List.Filters.{dedup_is}
use Rattle.std.proofs.lemmas.List.Kept.{Any-dedup, Contains-from_dedup, IsStrictlySortedBy-dedup}
use Rattle.std.proofs.lemmas.List.Sorted.{Contains-permutation, IsPermutation-sym}
use Rattle.std.proofs.lemmas.Map.Keys.{sorted_from_all_adjacent}
use Rattle.std.proofs.lemmas.Map.Text.{is_eq-slice_cmp}
use Rattle.std.proofs.lemmas.Slice.Eq.{bytes_eq-Decides}
use Rattle.rc_model.specs.Syntax.Text.{text_cmp}
use Rattle.rc_model.specs.Run.FileNames.{ordered}
use Rattle.rc_model.specs.Run.PathNames.{IsIn}
use Rattle.law_values.proofs.Sorted.{from_ordered, ordered_sorted, to_ordered}
use Rattle.law_values.proofs.Unique.{same_sorted}

-- ** elements and their texts

module _ {A : Type 0} (text : A → List ℕ) where
  abbrev pub cmp_by : A → A → Ordering
  cmp_by x y = text_cmp (text x) (text y)

  abbrev pub eq_by : A → A → Bool
  eq_by x y = bytes_eq (text x) (text y)

  among : (xs : List A) (all : List (List ℕ)) → ((p : List ℕ) → IsIn p (map text xs) → IsIn p all) → AllByRecursion (λ s. IsIn (text s) all) xs
  among [] all f = tt
  among (x ∷ xs) all f = (f (text x) (inl refl), among xs all (λ p i. f p (inr i)))

  to_texts : (xs : List A) (s : A) → Contains xs s → IsIn (text s) (map text xs)
  to_texts xs s h =
      let P : A → Type 0 = λ x. IsIn (text x) (map text xs) in
      All-contains P xs s (All-from_recursion P xs (among xs (map text xs) (λ p i. i))) h

  from_texts : (p : List ℕ) (xs : List A) → IsIn p (map text xs) → (s : A) × Contains xs s × (text s ≡ p)
  from_texts p [] i = absurd i
  from_texts p (x ∷ xs) (inl q) = (x, Contains-append_left (x ∷ []) xs x (Contains-push [] x), q)
  from_texts p (x ∷ xs) (inr i) = let r = from_texts p xs i in (r.0, Contains-append_right (x ∷ []) xs r.0 r.1, r.2)

  below_texts : (x : A) (xs : List A) → AllByRecursion (λ y. cmp_by x y ≡ Less) xs → AllByRecursion (λ q. text_cmp (text x) q ≡ Less) (map text xs)
  below_texts x [] h = tt
  below_texts x (y ∷ xs) h = (h.0, below_texts x xs h.1)

  sorted_texts : (xs : List A) → IsStrictlySortedBy cmp_by xs → IsStrictlySortedBy text_cmp (map text xs)
  unfolding IsStrictlySortedBy
  sorted_texts [] h = tt
  sorted_texts (x ∷ xs) h = (below_texts x xs h.0, sorted_texts xs h.1)

  -- ** each is below the next

  is_less : (o : Ordering) → is_lt o ≡ true → o ≡ Less
  is_less Less h = refl
  is_less Equal h = absurd (cc h)
  is_less Greater h = absurd (cc h)

  pub rising : (xs : List A) → ((k : ℕ) (d : A) → k + 1 < length xs → is_lt (cmp_by (slice_index_or xs k d) (slice_index_or xs (k + 1) d)) ≡ true) → IsStrictlySortedBy text_cmp (map text xs)
  unfolding IsStrictlySortedBy
  rising [] h = tt
  rising (x ∷ xs) h = sorted_texts (x ∷ xs) (sorted_from_all_adjacent (on_texts text) (x ∷ xs) x (λ k l. is_less _ (h k x l)))

  pub all_less : (xs : List A) (r : Bool) → IsTrue r → IsAllAdjacentAnswer (λ x y b. b ≡ is_lt (cmp_by x y)) xs r →
      (k : ℕ) (d : A) → k + 1 < length xs → is_lt (cmp_by (slice_index_or xs k d) (slice_index_or xs (k + 1) d)) ≡ true
  all_less xs true h below k d l = sym (below k d l)
  all_less xs false h below k d l = absurd (cc h)

  -- they are in order already
  pub already_ordered : (ts : List (List ℕ)) → IsStrictlySortedBy text_cmp ts → ts ≡ ordered ts
  already_ordered ts h = same_sorted ts (ordered ts) h (ordered_sorted ts) (λ p i. to_ordered p ts i) (λ p i. from_ordered p ts i)

  -- ** what is left is in order

  module _ (xs ys : List A) (moved : IsPermutation xs ys) (rising : IsSorted cmp_by ys) where
    left_sorted : IsStrictlySortedBy text_cmp (map text (dedup eq_by ys))
    left_sorted = sorted_texts (dedup eq_by ys) (IsStrictlySortedBy-dedup (on_texts text) (λ x y. sym (is_eq-slice_cmp (text x) (text y))) ys rising)

    from_left : (p : List ℕ) → IsIn p (map text (dedup eq_by ys)) → IsIn p (ordered (map text xs))
    from_left p i =
        let r = from_texts p (dedup eq_by ys) i in
        let s = Contains-permutation ys xs r.0 (IsPermutation-sym xs ys moved) (Contains-from_dedup eq_by ys r.0 r.1) in
        to_ordered p (map text xs) (subst (λ q. IsIn q (map text xs)) r.2 (to_texts xs r.0 s))

    to_left : (p : List ℕ) → IsIn p (ordered (map text xs)) → IsIn p (map text (dedup eq_by ys))
    to_left p i =
        let r = from_texts p xs (from_ordered p (map text xs) i) in
        let k = Any-dedup (on_texts_equal text) ys r.0 (Contains-permutation xs ys r.0 moved r.1) in
        let same : text k.1 ≡ p = sym ((bytes_eq-Decides (text r.0) (text k.1)).0 k.4) ∙ r.2 in
        subst (λ q. IsIn q (map text (dedup eq_by ys))) same (to_texts (dedup eq_by ys) k.1 (k.0, k.2, k.3))

    pub left_in_order : map text (dedup eq_by ys) ≡ ordered (map text xs)
    left_in_order = same_sorted (map text (dedup eq_by ys)) (ordered (map text xs)) left_sorted (ordered_sorted (map text xs)) from_left to_left

-- ** strings

abbrev Strings : Type 0
Strings = List (String Global)

pub in_order : (xs ys : Strings) → IsPermutation xs ys → IsSorted (cmp_by string_bytes) ys → (zs : Strings) →
    IsFiltered (DiffersFromLast string_eq) [] ys zs → map string_bytes zs ≡ ordered (map string_bytes xs)
in_order xs ys moved rising zs h = ap (map string_bytes) (dedup_is string_eq ys zs h) ∙ left_in_order string_bytes xs ys moved rising

-- ** the strings whose texts pass a test

module _ (test : List ℕ → Bool) where
  one_by : (b : Bool) (x : String Global) (xs : Strings) (others : List (List ℕ)) → map string_bytes xs ≡ others → map string_bytes (cond b (x ∷ xs) xs) ≡ cond b (string_bytes x ∷ others) others
  one_by true x xs others h = ap (λ ts. string_bytes x ∷ ts) h
  one_by false x xs others h = h

  pub kept_texts : (xs : Strings) → map string_bytes (filter (λ x. test (string_bytes x)) xs) ≡ filter test (map string_bytes xs)
  kept_texts [] = refl
  kept_texts (x ∷ xs) = one_by (test (string_bytes x)) x (filter (λ y. test (string_bytes y)) xs) (filter test (map string_bytes xs)) (kept_texts xs)
