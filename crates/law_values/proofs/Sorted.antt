-- Texts in byte order, each once.
use Rattle.std.proofs.Common.{◌≡◌, ℕ, Bool, true, false, cond, List, [], ◌∷◌, ◌++◌, map, refl, sym, ap, subst, ◌∙◌, ◌⊎◌, inl, inr}
use Rattle.std.specs.Prelude.{filter}
use Rattle.std.specs.List.{AllByRecursion, flat_map}
use Rattle.std.specs.List.Sorted.{IsStrictlySortedBy}
use Rattle.std.specs.declared.cmp.Ordering.{Ordering}
use Rattle.std.specs.declared.cmp.Ordering.TheVariants.{Less, Equal, Greater}
use Rattle.std.specs.Ordering.{match_ordering, is_eq, ordering_reverse}
use Rattle.std.specs.BTreeMap.{insert_entry}
use Rattle.std.proofs.lemmas.Cmp.{nat_list_cmp_total}
use Rattle.std.proofs.lemmas.Map.Text.{is_eq-slice_cmp}
use Rattle.std.proofs.lemmas.Slice.Eq.{bytes_eq-Decides}
use Rattle.rc_model.specs.Syntax.Text.{text_cmp}
use Rattle.rc_model.specs.Run.FileNames.{in_order, ordered}
use Rattle.rc_model.specs.Run.PathNames.{IsIn}

abbrev Entries : Type 0
Entries = List (List ℕ × Unit {0})

abbrev keys : Entries → List (List ℕ)
keys es = map (λ n. n.0) es

abbrev pub Below : List ℕ → List (List ℕ) → Type 0
Below x ks = AllByRecursion (λ q. text_cmp x q ≡ Less) ks

equal_texts : (x y : List ℕ) → text_cmp x y ≡ Equal → x ≡ y
equal_texts x y h = (bytes_eq-Decides x y).0 (sym (is_eq-slice_cmp x y) ∙ ap is_eq h)

module _ (k : List ℕ) where
  abbrev put : Entries → Entries
  put es = insert_entry text_cmp es k tt

  below_by : (x : List ℕ) (e : List ℕ × Unit {0}) (es : Entries) (o : Ordering) → Below x (keys (e ∷ es)) → text_cmp x k ≡ Less → Below x (keys (put es)) →
      Below x (keys (match_ordering o ((k, tt) ∷ e ∷ es) ((e.0, tt) ∷ es) (e ∷ put es)))
  below_by x e es Less h l rest = (l, h)
  below_by x e es Equal h l rest = h
  below_by x e es Greater h l rest = (h.0, rest)

  below_put : (x : List ℕ) (es : Entries) → Below x (keys es) → text_cmp x k ≡ Less → Below x (keys (put es))
  below_put x [] h l = (l, tt)
  below_put x (e ∷ es) h l = below_by x e es (text_cmp k e.0) h l (below_put x es h.1 l)

  below_all : (x : List ℕ) (ks : List (List ℕ)) → text_cmp k x ≡ Less → Below x ks → Below k ks
  below_all x [] l h = tt
  below_all x (y ∷ ks) l h = (nat_list_cmp_total.trans k x y l h.0, below_all x ks l h.1)

  sorted_by : (e : List ℕ × Unit {0}) (es : Entries) (o : Ordering) → text_cmp k e.0 ≡ o → Below e.0 (keys es) → IsStrictlySortedBy text_cmp (keys es) → IsStrictlySortedBy text_cmp (keys (put es)) →
      IsStrictlySortedBy text_cmp (keys (match_ordering o ((k, tt) ∷ e ∷ es) ((e.0, tt) ∷ es) (e ∷ put es)))
  unfolding IsStrictlySortedBy
  sorted_by e es Less q b s rest = ((q, below_all e.0 (keys es) q b), (b, s))
  sorted_by e es Equal q b s rest = (b, s)
  sorted_by e es Greater q b s rest = (below_put e.0 es b (nat_list_cmp_total.antisymm e.0 k ∙ ap ordering_reverse q), rest)

  sorted_put : (es : Entries) → IsStrictlySortedBy text_cmp (keys es) → IsStrictlySortedBy text_cmp (keys (put es))
  unfolding IsStrictlySortedBy
  sorted_put [] s = (tt, tt)
  sorted_put (e ∷ es) s = sorted_by e es (text_cmp k e.0) refl s.0 s.1 (sorted_put es s.1)

  in_put_by : (p : List ℕ) (e : List ℕ × Unit {0}) (es : Entries) (o : Ordering) → (IsIn p (keys (put es)) → (k ≡ p) ⊎ IsIn p (keys es)) →
      IsIn p (keys (match_ordering o ((k, tt) ∷ e ∷ es) ((e.0, tt) ∷ es) (e ∷ put es))) → (k ≡ p) ⊎ IsIn p (keys (e ∷ es))
  in_put_by p e es Less f (inl x) = inl x
  in_put_by p e es Less f (inr x) = inr x
  in_put_by p e es Equal f x = inr x
  in_put_by p e es Greater f (inl x) = inr (inl x)
  in_put_by p e es Greater f (inr x) = further (f x)
    where
      further : (k ≡ p) ⊎ IsIn p (keys es) → (k ≡ p) ⊎ ((e.0 ≡ p) ⊎ IsIn p (keys es))
      further (inl y) = inl y
      further (inr y) = inr (inr y)

  in_put : (p : List ℕ) (es : Entries) → IsIn p (keys (put es)) → (k ≡ p) ⊎ IsIn p (keys es)
  in_put p [] (inl x) = inl x
  in_put p [] (inr x) = absurd x
  in_put p (e ∷ es) x = in_put_by p e es (text_cmp k e.0) (in_put p es) x

  itself_by : (e : List ℕ × Unit {0}) (es : Entries) (o : Ordering) → text_cmp k e.0 ≡ o → IsIn k (keys (put es)) → IsIn k (keys (match_ordering o ((k, tt) ∷ e ∷ es) ((e.0, tt) ∷ es) (e ∷ put es)))
  itself_by e es Less q x = inl refl
  itself_by e es Equal q x = inl (sym (equal_texts k e.0 q))
  itself_by e es Greater q x = inr x

  itself_in : (es : Entries) → IsIn k (keys (put es))
  itself_in [] = inl refl
  itself_in (e ∷ es) = itself_by e es (text_cmp k e.0) refl (itself_in es)

  others_by : (p : List ℕ) (e : List ℕ × Unit {0}) (es : Entries) (o : Ordering) → (IsIn p (keys es) → IsIn p (keys (put es)))
      → IsIn p (keys (e ∷ es)) → IsIn p (keys (match_ordering o ((k, tt) ∷ e ∷ es) ((e.0, tt) ∷ es) (e ∷ put es)))
  others_by p e es Less f x = inr x
  others_by p e es Equal f x = x
  others_by p e es Greater f (inl x) = inl x
  others_by p e es Greater f (inr x) = inr (f x)

  others_in : (p : List ℕ) (es : Entries) → IsIn p (keys es) → IsIn p (keys (put es))
  others_in p [] x = absurd x
  others_in p (e ∷ es) x = others_by p e es (text_cmp k e.0) (others_in p es) x

pub ordered_sorted : (ns : List (List ℕ)) → IsStrictlySortedBy text_cmp (ordered ns)
unfolding IsStrictlySortedBy
ordered_sorted [] = tt
ordered_sorted (n ∷ ns) = sorted_put n (in_order ns) (ordered_sorted ns)

pub from_ordered : (p : List ℕ) (ns : List (List ℕ)) → IsIn p (ordered ns) → IsIn p ns
from_ordered p [] x = x
from_ordered p (n ∷ ns) x = of_either p n ns (in_put n p (in_order ns) x) (from_ordered p ns)
  where
    of_either : (p n : List ℕ) (ns : List (List ℕ)) → (n ≡ p) ⊎ IsIn p (ordered ns) → (IsIn p (ordered ns) → IsIn p ns) → IsIn p (n ∷ ns)
    of_either p n ns (inl y) f = inl y
    of_either p n ns (inr y) f = inr (f y)

pub to_ordered : (p : List ℕ) (ns : List (List ℕ)) → IsIn p ns → IsIn p (ordered ns)
to_ordered p [] x = x
to_ordered p (n ∷ ns) (inl q) = subst (λ z. IsIn z (ordered (n ∷ ns))) q (itself_in n (in_order ns))
to_ordered p (n ∷ ns) (inr x) = others_in n p (in_order ns) (to_ordered p ns x)

-- what passes a test, and what is in one of several lists
pub from_filter : (test : List ℕ → Bool) (p : List ℕ) (ns : List (List ℕ)) → IsIn p (filter test ns) → IsIn p ns × (test p ≡ true)
from_filter test p [] x = absurd x
from_filter test p (n ∷ ns) x = at_test n (test n) refl x (from_filter test p ns)
  where
    at_test : (n : List ℕ) (b : Bool) → test n ≡ b → IsIn p (cond b (n ∷ filter test ns) (filter test ns)) → (IsIn p (filter test ns) → IsIn p ns × (test p ≡ true)) → IsIn p (n ∷ ns) × (test p ≡ true)
    at_test n true h (inl q) f = (inl q, ap test (sym q) ∙ h)
    at_test n true h (inr y) f = (inr (f y).0, (f y).1)
    at_test n false h y f = (inr (f y).0, (f y).1)

pub to_filter : (test : List ℕ → Bool) (p : List ℕ) (ns : List (List ℕ)) → IsIn p ns → test p ≡ true → IsIn p (filter test ns)
to_filter test p [] x h = x
to_filter test p (n ∷ ns) (inl q) h = subst (λ b. IsIn p (cond b (n ∷ filter test ns) (filter test ns))) (sym (ap test q ∙ h)) (inl q)
to_filter test p (n ∷ ns) (inr x) h = either_way (test n) (to_filter test p ns x h)
  where
    either_way : (b : Bool) → IsIn p (filter test ns) → IsIn p (cond b (n ∷ filter test ns) (filter test ns))
    either_way true y = inr y
    either_way false y = y

pub in_left : {X : Type 0} (x : X) (xs ys : List X) → IsIn x xs → IsIn x (xs ++ ys)
in_left x [] ys h = absurd h
in_left x (y ∷ xs) ys (inl q) = inl q
in_left x (y ∷ xs) ys (inr h) = inr (in_left x xs ys h)

pub in_right : {X : Type 0} (x : X) (xs ys : List X) → IsIn x ys → IsIn x (xs ++ ys)
in_right x [] ys h = h
in_right x (y ∷ xs) ys h = inr (in_right x xs ys h)

pub in_either : {X : Type 0} (x : X) (xs ys : List X) → IsIn x (xs ++ ys) → IsIn x xs ⊎ IsIn x ys
in_either x [] ys h = inr h
in_either x (y ∷ xs) ys (inl q) = inl (inl q)
in_either {X} x (y ∷ xs) ys (inr h) = further (in_either x xs ys h)
  where
    further : IsIn x xs ⊎ IsIn x ys → ((y ≡ x) ⊎ IsIn x xs) ⊎ IsIn x ys
    further (inl z) = inl (inr z)
    further (inr z) = inr z

pub to_flat : {X Y : Type 0} (f : X → List Y) (x : X) (y : Y) (xs : List X) → IsIn x xs → IsIn y (f x) → IsIn y (flat_map f xs)
to_flat f x y [] h k = absurd h
to_flat f x y (z ∷ xs) (inl q) k = in_left y (f z) (flat_map f xs) (subst (λ w. IsIn y (f w)) (sym q) k)
to_flat f x y (z ∷ xs) (inr h) k = in_right y (f z) (flat_map f xs) (to_flat f x y xs h k)

pub from_flat : {X Y : Type 0} (f : X → List Y) (y : Y) (xs : List X) → IsIn y (flat_map f xs) → (x : X) × IsIn x xs × IsIn y (f x)
from_flat f y [] h = absurd h
from_flat {X} {Y} f y (z ∷ xs) h = of_either (in_either y (f z) (flat_map f xs) h) (from_flat f y xs)
  where
    later : (x : X) × IsIn x xs × IsIn y (f x) → (x : X) × IsIn x (z ∷ xs) × IsIn y (f x)
    later r = (r.0, inr r.1, r.2)

    of_either : IsIn y (f z) ⊎ IsIn y (flat_map f xs) → (IsIn y (flat_map f xs) → (x : X) × IsIn x xs × IsIn y (f x)) → (x : X) × IsIn x (z ∷ xs) × IsIn y (f x)
    of_either (inl k) g = (z, inl refl, k)
    of_either (inr k) g = later (g k)
