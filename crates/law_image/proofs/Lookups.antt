-- What is found in maps whose keys are in order.
use Rattle.std.specs.Prelude.{Option, Some, None, if◌then◌else◌}
use Rattle.std.proofs.Common.{◌≡◌, ◌↔◌, ℕ, List, [], ◌∷◌, Bool, true, false, refl, sym, ap, ◌∙◌}
use Rattle.std.specs.Str.{bytes_eq}
use Rattle.std.specs.Map.{lookup}
use Rattle.std.specs.BTreeMap.{insert_entry}
use Rattle.std.specs.Ordering.{ordering_reverse}
use Rattle.std.specs.declared.cmp.Ordering.{Ordering}
use Rattle.std.specs.declared.cmp.Ordering.TheVariants.{Less, Equal, Greater}
use Rattle.std.proofs.lemmas.Bool.{false≢true}
use Rattle.std.proofs.lemmas.Slice.Eq.{bytes_eq-Decides}
use Rattle.std.proofs.lemmas.Cmp.{nat_list_cmp_total}
use Rattle.rc_model.specs.Syntax.Text.{text_cmp}
use Rattle.rc_model.specs.Handed.Proper.{Above, Ordered}
use Rattle.law_image.proofs.Entries.{by_order, equal_texts, less_differ, greater_differ}
use Rattle.law_image.proofs.Proper.{above_after}

abbrev pub find : {X : Type 0} → List ℕ → List (List ℕ × X) → Option X
find q es = lookup (bytes_eq q) es

pub same_text : (a : List ℕ) → bytes_eq a a ≡ true
same_text a = (bytes_eq-Decides a a).1 refl

-- a pair of tests
twice : {X : Type 0} (b : Bool) (x y z : Option X) → (if b then x else z) ≡ (if b then x else (if b then y else z))
twice true x y z = refl
twice false x y z = refl

turned_round : {X : Type 0} (a b : Bool) (x y z : Option X) → (a ≡ true → b ≡ true → ⊥) → (if b then x else (if a then y else z)) ≡ (if a then y else (if b then x else z))
turned_round true true x y z n = absurd (n refl refl)
turned_round true false x y z n = refl
turned_round false true x y z n = refl
turned_round false false x y z n = refl

not_both : (q k e : List ℕ) → text_cmp k e ≡ Greater → bytes_eq q k ≡ true → bytes_eq q e ≡ true → ⊥
not_both q k e o h l =
    let same : k ≡ e = sym ((bytes_eq-Decides q k).0 h) ∙ (bytes_eq-Decides q e).0 l in
    false≢true (sym (greater_differ k e o) ∙ (bytes_eq-Decides k e).1 same)

pub find_insert : {X : Type 0} (q : List ℕ) (es : List (List ℕ × X)) (k : List ℕ) (v : X) → find q (insert_entry text_cmp es k v) ≡ (if bytes_eq q k then Some v else find q es)
find_insert q [] k v = refl
find_insert {X = X} q (e ∷ es) k v =
    by_order (λ (z : List (List ℕ × X)). find q z ≡ (if bytes_eq q k then Some v else find q (e ∷ es))) (text_cmp k e.0) _ _ _
    (λ o. refl)
    (λ o. twice (bytes_eq q e.0) (Some v) (Some e.1) (find q es) ∙ ap (λ z. if bytes_eq q z then Some v else (if bytes_eq q e.0 then Some e.1 else find q es)) (sym (equal_texts k e.0 o)))
    (λ o. ap (λ z. if bytes_eq q e.0 then Some e.1 else z) (find_insert q es k v) ∙ turned_round (bytes_eq q k) (bytes_eq q e.0) (Some e.1) (Some v) (find q es) (not_both q k e.0 o))

-- a key below all others isn't found
pub find_above : {X : Type 0} (k : List ℕ) (es : List (List ℕ × X)) → Above k es → find k es ≡ None
find_above k [] a = refl
find_above k (e ∷ es) a = ap (λ b. if b then Some e.1 else find k es) (less_differ k e.0 a.0) ∙ find_above k es a.1

-- two maps in order in which the same is found
abbrev pub SameFound : {X : Type 0} → (es fs : List (List ℕ × X)) → Type 0
SameFound {X = X} es fs = (q : List ℕ) (v : X) → (find q es ≡ Some v) ↔ (find q fs ≡ Some v)

found_first : {X : Type 0} (e : List ℕ × X) (es : List (List ℕ × X)) → find e.0 (e ∷ es) ≡ Some e.1
found_first e es = ap (λ b. if b then Some e.1 else find e.0 es) (same_text e.0)

no_first : {X : Type 0} (e f : List ℕ × X) (es fs : List (List ℕ × X)) → text_cmp e.0 f.0 ≡ Less → Above e.0 fs → SameFound (e ∷ es) (f ∷ fs) → ⊥
no_first e f es fs l b s =
    let there : find e.0 (f ∷ fs) ≡ Some e.1 = (s e.0 e.1).0 (found_first e es) in
    let gone : find e.0 (f ∷ fs) ≡ None = find_above e.0 (f ∷ fs) (l, b) in
    absurd cc

past_first : {X : Type 0} (q : List ℕ) (e : List ℕ × X) (es : List (List ℕ × X)) → bytes_eq q e.0 ≡ false → find q (e ∷ es) ≡ find q es
past_first q e es h = ap (λ b. if b then Some e.1 else find q es) h

-- what is found past the first entry of one map is found past that of the other
found_past_first : {X : Type 0} (e f : List ℕ × X) (es fs : List (List ℕ × X)) → e.0 ≡ f.0 → Above e.0 es → Above f.0 fs → SameFound (e ∷ es) (f ∷ fs)
    → (q : List ℕ) (v : X) → (b : Bool) → bytes_eq q e.0 ≡ b → find q es ≡ Some v → find q fs ≡ Some v
found_past_first e f es fs same a b s q v true h g =
    let at : q ≡ e.0 = (bytes_eq-Decides q e.0).0 h in
    let gone : find q es ≡ None = ap (λ z. find z es) at ∙ find_above e.0 es a in
    absurd cc
found_past_first e f es fs same a b s q v false h g =
    sym (past_first q f fs (ap (bytes_eq q) (sym same) ∙ h)) ∙ (s q v).0 (past_first q e es h ∙ g)

other_way : {X : Type 0} (es fs : List (List ℕ × X)) → SameFound es fs → SameFound fs es
other_way es fs s q v = ((s q v).1, (s q v).0)

maps_by : {X : Type 0} (e f : List ℕ × X) (es fs : List (List ℕ × X)) → Ordered (e ∷ es) → Ordered (f ∷ fs) → SameFound (e ∷ es) (f ∷ fs)
    → (SameFound es fs → es ≡ fs) → (c : Ordering) → text_cmp e.0 f.0 ≡ c → e ∷ es ≡ f ∷ fs
maps_by e f es fs o p s ih Less l = absurd (no_first e f es fs l (above_after e.0 f.0 fs l p.0) s)
maps_by e f es fs o p s ih Greater g =
    let l : text_cmp f.0 e.0 ≡ Less = nat_list_cmp_total.antisymm f.0 e.0 ∙ ap ordering_reverse g in
    absurd (no_first f e fs es l (above_after f.0 e.0 es l o.0) (other_way (e ∷ es) (f ∷ fs) s))
maps_by e f es fs o p s ih Equal q =
    let same : e.0 ≡ f.0 = equal_texts e.0 f.0 q in
    let there : find e.0 (f ∷ fs) ≡ Some e.1 = (s e.0 e.1).0 (found_first e es) in
    let here : find e.0 (f ∷ fs) ≡ Some f.1 = ap (λ z. find z (f ∷ fs)) same ∙ found_first f fs in
    let value : e.1 ≡ f.1 = cc in
    let rest : es ≡ fs = ih (λ q v. (
      λ g. found_past_first e f es fs same o.0 p.0 s q v (bytes_eq q e.0) refl g,
      λ g. found_past_first f e fs es (sym same) p.0 o.0 (other_way (e ∷ es) (f ∷ fs) s) q v (bytes_eq q f.0) refl g,
    )) in
    ap (λ z. (z, e.1) ∷ es) same ∙ ap (λ z. (f.0, z) ∷ es) value ∙ ap (λ z. f ∷ z) rest

-- are the same map
pub same_maps : {X : Type 0} (es fs : List (List ℕ × X)) → Ordered es → Ordered fs → SameFound es fs → es ≡ fs
same_maps [] [] o p s = refl
same_maps [] (f ∷ fs) o p s = let there = (s f.0 f.1).1 (found_first f fs) in absurd cc
same_maps (e ∷ es) [] o p s = let there = (s e.0 e.1).0 (found_first e es) in absurd cc
same_maps (e ∷ es) (f ∷ fs) o p s = maps_by e f es fs o p s (same_maps es fs o.1 p.1) (text_cmp e.0 f.0) refl
