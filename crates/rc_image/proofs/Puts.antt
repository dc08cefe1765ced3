-- Entries that are put into a map one after the other.
use Rattle.std.specs.Prelude.{Some}
use Rattle.std.proofs.Common.{◌≡◌, ℕ, List, [], ◌∷◌, Bool, true, false, cond, refl, sym, ap, ◌∙◌}
use Rattle.std.specs.Str.{bytes_eq}
use Rattle.std.specs.Map.{lookup}
use Rattle.std.specs.BTreeMap.{insert_entry}
use Rattle.std.specs.Ordering.{match_ordering, is_eq, ordering_reverse}
use Rattle.std.specs.declared.cmp.Ordering.{Ordering}
use Rattle.std.specs.declared.cmp.Ordering.TheVariants.{Less, Equal, Greater}
use Rattle.std.proofs.lemmas.Bool.{false≢true}
use Rattle.std.proofs.lemmas.Slice.Eq.{bytes_eq-Decides}
use Rattle.std.proofs.lemmas.Map.Text.{is_eq-slice_cmp}
use Rattle.std.proofs.lemmas.Cmp.{nat_list_cmp_total}
use Rattle.rc_model.specs.Syntax.Text.{text_cmp}
use Rattle.law_image.proofs.Entries.{equal_texts}

-- ** the order of texts

turned : (a b : List ℕ) (o : Ordering) → text_cmp a b ≡ o → text_cmp b a ≡ ordering_reverse o
turned a b o e = nat_list_cmp_total.antisymm b a ∙ ap ordering_reverse e

past : (k n j : List ℕ) → text_cmp k n ≡ Less → text_cmp j n ≡ Greater → text_cmp j k ≡ Greater
past k n j l g = turned k j Less (nat_list_cmp_total.trans k n j l (turned j n Greater g))

apart : (a b : List ℕ) → bytes_eq a b ≡ false → text_cmp a b ≡ Equal → ⊥
apart a b h e = false≢true (sym h ∙ sym (is_eq-slice_cmp a b) ∙ ap is_eq e)

-- ** an entry that is put in

by : {X : Type 0} (e : List ℕ × X) (es : List (List ℕ × X)) (k : List ℕ) (v : X) (o : Ordering) → text_cmp k e.0 ≡ o →
    insert_entry text_cmp (e ∷ es) k v ≡ match_ordering o ((k, v) ∷ e ∷ es) ((e.0, v) ∷ es) (e ∷ insert_entry text_cmp es k v)
by e es k v o h = ap (λ (o : Ordering). match_ordering o ((k, v) ∷ e ∷ es) ((e.0, v) ∷ es) (e ∷ insert_entry text_cmp es k v)) h

-- two that belong in front
both_first : {X : Type 0} (rest : List (List ℕ × X)) (k j : List ℕ) (v w : X) (o : Ordering) → text_cmp k j ≡ o → bytes_eq k j ≡ false →
    insert_entry text_cmp rest j w ≡ (j, w) ∷ rest → insert_entry text_cmp rest k v ≡ (k, v) ∷ rest →
    insert_entry text_cmp ((k, v) ∷ rest) j w ≡ insert_entry text_cmp ((j, w) ∷ rest) k v
both_first rest k j v w Less o d h i = by (k, v) rest j w Greater (turned k j Less o) ∙ ap (λ z. (k, v) ∷ z) h ∙ sym (by (j, w) rest k v Less o)
both_first rest k j v w Equal o d h i = absurd (apart k j d o)
both_first rest k j v w Greater o d h i = by (k, v) rest j w Less (turned k j Greater o) ∙ ap (λ z. (j, w) ∷ z) (sym i) ∙ sym (by (j, w) rest k v Greater o)

-- one that belongs in front, and another that doesn't
one_first : {X : Type 0} (e : List ℕ × X) (es fs : List (List ℕ × X)) (k j : List ℕ) (v w x : X) → text_cmp k e.0 ≡ Less → text_cmp j k ≡ Greater →
    insert_entry text_cmp (e ∷ es) j w ≡ (e.0, x) ∷ fs →
    insert_entry text_cmp (insert_entry text_cmp (e ∷ es) k v) j w ≡ insert_entry text_cmp (insert_entry text_cmp (e ∷ es) j w) k v
one_first e es fs k j v w x l g h =
    ap (λ z. insert_entry text_cmp z j w) (by e es k v Less l)
    ∙ by (k, v) (e ∷ es) j w Greater g
    ∙ ap (λ z. (k, v) ∷ z) h
    ∙ sym (by (e.0, x) fs k v Less l)
    ∙ ap (λ z. insert_entry text_cmp z k v) (sym h)

-- one that takes the place of the first, and another after it
one_here : {X : Type 0} (e : List ℕ × X) (es : List (List ℕ × X)) (k j : List ℕ) (v w : X) → text_cmp k e.0 ≡ Equal → text_cmp j e.0 ≡ Greater →
    insert_entry text_cmp (insert_entry text_cmp (e ∷ es) k v) j w ≡ insert_entry text_cmp (insert_entry text_cmp (e ∷ es) j w) k v
one_here e es k j v w q g =
    ap (λ z. insert_entry text_cmp z j w) (by e es k v Equal q)
    ∙ by (e.0, v) es j w Greater g
    ∙ sym (by e (insert_entry text_cmp es j w) k v Equal q)
    ∙ ap (λ z. insert_entry text_cmp z k v) (sym (by e es j w Greater g))

swap_by : {X : Type 0} (e : List ℕ × X) (es : List (List ℕ × X)) (k j : List ℕ) (v w : X) (o p : Ordering) → text_cmp k e.0 ≡ o → text_cmp j e.0 ≡ p →
    bytes_eq k j ≡ false → bytes_eq j k ≡ false →
    insert_entry text_cmp (insert_entry text_cmp es k v) j w ≡ insert_entry text_cmp (insert_entry text_cmp es j w) k v →
    insert_entry text_cmp (insert_entry text_cmp (e ∷ es) k v) j w ≡ insert_entry text_cmp (insert_entry text_cmp (e ∷ es) j w) k v
swap_by e es k j v w Less Less o p d f i =
    ap (λ z. insert_entry text_cmp z j w) (by e es k v Less o)
    ∙ both_first (e ∷ es) k j v w (text_cmp k j) refl d (by e es j w Less p) (by e es k v Less o)
    ∙ ap (λ z. insert_entry text_cmp z k v) (sym (by e es j w Less p))
swap_by e es k j v w Less Equal o p d f i =
    one_first e es es k j v w w o (ap (λ z. text_cmp z k) (equal_texts j e.0 p) ∙ turned k e.0 Less o) (by e es j w Equal p)
swap_by e es k j v w Less Greater o p d f i =
    one_first e es (insert_entry text_cmp es j w) k j v w e.1 o (past k e.0 j o p) (by e es j w Greater p)
swap_by e es k j v w Equal Less o p d f i =
    sym (one_first e es es j k w v v p (ap (λ z. text_cmp z j) (equal_texts k e.0 o) ∙ turned j e.0 Less p) (by e es k v Equal o))
swap_by e es k j v w Equal Equal o p d f i = absurd (apart k j d (ap (text_cmp k) (equal_texts j e.0 p) ∙ o))
swap_by e es k j v w Equal Greater o p d f i = one_here e es k j v w o p
swap_by e es k j v w Greater Less o p d f i =
    sym (one_first e es (insert_entry text_cmp es k v) j k w v e.1 p (past j e.0 k p o) (by e es k v Greater o))
swap_by e es k j v w Greater Equal o p d f i = sym (one_here e es j k w v p o)
swap_by e es k j v w Greater Greater o p d f i =
    ap (λ z. insert_entry text_cmp z j w) (by e es k v Greater o)
    ∙ by e (insert_entry text_cmp es k v) j w Greater p
    ∙ ap (λ z. e ∷ z) i
    ∙ sym (by e (insert_entry text_cmp es j w) k v Greater o)
    ∙ ap (λ z. insert_entry text_cmp z k v) (sym (by e es j w Greater p))

-- two of different names may be put in either way round
pub swap : {X : Type 0} (es : List (List ℕ × X)) (k j : List ℕ) (v w : X) → bytes_eq k j ≡ false → bytes_eq j k ≡ false →
    insert_entry text_cmp (insert_entry text_cmp es k v) j w ≡ insert_entry text_cmp (insert_entry text_cmp es j w) k v
swap [] k j v w d f = both_first [] k j v w (text_cmp k j) refl d refl refl
swap (e ∷ es) k j v w d f = swap_by e es k j v w (text_cmp k e.0) (text_cmp j e.0) refl refl d f (swap es k j v w d f)

-- ** what is found

twice : {A : Type 0} (t : Bool) (a b c : A) → cond t a c ≡ cond t a (cond t b c)
twice true a b c = refl
twice false a b c = refl

either : {A : Type 0} (s t : Bool) (a b c : A) → (s ≡ true → t ≡ true → ⊥) → cond s a (cond t b c) ≡ cond t b (cond s a c)
either true true a b c h = absurd (h refl refl)
either true false a b c h = refl
either false t a b c h = refl

found_by : {X : Type 0} (e : List ℕ × X) (es : List (List ℕ × X)) (n k : List ℕ) (v : X) (o : Ordering) → text_cmp k e.0 ≡ o →
    lookup (bytes_eq n) (insert_entry text_cmp es k v) ≡ cond (bytes_eq n k) (Some v) (lookup (bytes_eq n) es) →
    lookup (bytes_eq n) (insert_entry text_cmp (e ∷ es) k v) ≡ cond (bytes_eq n k) (Some v) (lookup (bytes_eq n) (e ∷ es))
found_by e es n k v Less o i = ap (lookup (bytes_eq n)) (by e es k v Less o)
found_by e es n k v Equal o i =
    ap (lookup (bytes_eq n)) (by e es k v Equal o)
    ∙ twice (bytes_eq n e.0) (Some v) (Some e.1) (lookup (bytes_eq n) es)
    ∙ ap (λ z. cond (bytes_eq n z) (Some v) (lookup (bytes_eq n) (e ∷ es))) (sym (equal_texts k e.0 o))
found_by e es n k v Greater o i =
    ap (lookup (bytes_eq n)) (by e es k v Greater o)
    ∙ ap (λ z. cond (bytes_eq n e.0) (Some e.1) z) i
    ∙ either (bytes_eq n e.0) (bytes_eq n k) (Some e.1) (Some v) (lookup (bytes_eq n) es) (λ s t. other s t)
  where
    other : bytes_eq n e.0 ≡ true → bytes_eq n k ≡ true → ⊥
    other s t =
        false≢true (ap is_eq (sym o) ∙ is_eq-slice_cmp k e.0
        ∙ (bytes_eq-Decides k e.0).1 (sym ((bytes_eq-Decides n k).0 t) ∙ (bytes_eq-Decides n e.0).0 s))

-- what was put in is found, and the rest as before
pub found : {X : Type 0} (es : List (List ℕ × X)) (n k : List ℕ) (v : X) →
    lookup (bytes_eq n) (insert_entry text_cmp es k v) ≡ cond (bytes_eq n k) (Some v) (lookup (bytes_eq n) es)
found [] n k v = refl
found (e ∷ es) n k v = found_by e es n k v (text_cmp k e.0) refl (found es n k v)
