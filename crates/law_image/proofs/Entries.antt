-- The state that is handed over reads back.
use Rattle.std.specs.Prelude.{Some, IsTrue, not, ◌||◌, if◌then◌else◌, codes, unwrap_or}
use Rattle.std.proofs.Common.{◌≡◌, ℕ, List, [], ◌∷◌, Bool, true, false, refl, sym, ap, subst, ◌∙◌}
use Rattle.std.specs.List.{list_all}
use Rattle.std.specs.Str.{bytes_eq}
use Rattle.std.specs.Map.{lookup}
use Rattle.std.specs.BTreeMap.{insert_entry}
use Rattle.std.specs.Ordering.{match_ordering, is_eq, ordering_reverse}
use Rattle.std.specs.declared.cmp.Ordering.{Ordering}
use Rattle.std.specs.declared.cmp.Ordering.TheVariants.{Less, Equal, Greater}
use Rattle.std.proofs.lemmas.Bool.{and_parts, and_from, not-true, false≢true, false_from_ne_true, or_from}
use Rattle.std.proofs.lemmas.Slice.Eq.{bytes_eq-Decides}
use Rattle.std.proofs.lemmas.Map.Text.{is_eq-slice_cmp}
use Rattle.std.proofs.lemmas.Cmp.{nat_list_cmp_total}
use Rattle.rc_model.specs.Syntax.Text.{text_cmp, spaced}
use Rattle.rc_model.specs.Run.State.{visible, status_name, is_name}
use Rattle.rc_model.specs.Handed.Image.{stays_behind, value_text, with_binding, handed_values}
use Rattle.rc_model.specs.Handed.Environment.{entry_members, is_variable, variables_in, status_in, with_args}
use Rattle.rc_model.specs.Handed.Arguments.{with_top, flat}
use Rattle.rc_model.specs.Handed.Proper.{Above, Ordered, is_own_name}
use Rattle.law_image.proofs.Members.{members_back}

-- the order of texts
pub by_order : {X : Type 0} (P : X → Type 0) (o : Ordering) (a b c : X) → (o ≡ Less → P a) → (o ≡ Equal → P b) → (o ≡ Greater → P c) → P (match_ordering o a b c)
by_order P Less a b c f g h = f refl
by_order P Equal a b c f g h = g refl
by_order P Greater a b c f g h = h refl

pub equal_texts : (a b : List ℕ) → text_cmp a b ≡ Equal → a ≡ b
equal_texts a b e = (bytes_eq-Decides a b).0 (sym (is_eq-slice_cmp a b) ∙ ap is_eq e)

pub less_differ : (a b : List ℕ) → text_cmp a b ≡ Less → bytes_eq a b ≡ false
less_differ a b e = sym (is_eq-slice_cmp a b) ∙ ap is_eq e

pub greater_differ : (a b : List ℕ) → text_cmp a b ≡ Greater → bytes_eq a b ≡ false
greater_differ a b e = sym (is_eq-slice_cmp a b) ∙ ap is_eq e

pub turned : (a b : List ℕ) → bytes_eq a b ≡ false → bytes_eq b a ≡ false
turned a b e = false_from_ne_true (bytes_eq b a) (λ h. false≢true (sym e ∙ (bytes_eq-Decides a b).1 (sym ((bytes_eq-Decides b a).0 h))))

greater_of : (a b : List ℕ) → text_cmp a b ≡ Less → text_cmp b a ≡ Greater
greater_of a b e = nat_list_cmp_total.antisymm b a ∙ ap ordering_reverse e

-- a key in front of all others is put there
pub put_first : {X : Type 0} (es : List (List ℕ × X)) (k : List ℕ) (v : X) → Above k es → insert_entry text_cmp es k v ≡ (k, v) ∷ es
put_first [] k v h = refl
put_first (e ∷ es) k v h = ap (λ o. match_ordering o ((k, v) ∷ e ∷ es) ((e.0, v) ∷ es) (e ∷ insert_entry text_cmp es k v)) h.0

-- what holds of all keys holds of one more
pub keys_hold : (P : List ℕ → Bool) {X : Type 0} (es : List (List ℕ × X)) (k : List ℕ) (v : X) → IsTrue (list_all (λ e. P e.0) es) → IsTrue (P k)
    → IsTrue (list_all (λ e. P e.0) (insert_entry text_cmp es k v))
keys_hold P [] k v h p = and_from (P k) true p refl
keys_hold P {X = X} (e ∷ es) k v h p =
    let q = and_parts (P e.0) (list_all (λ e. P e.0) es) h in
    by_order (λ (z : List (List ℕ × X)). IsTrue (list_all (λ e. P e.0) z)) (text_cmp k e.0) _ _ _
    (λ o. and_from (P k) _ p h) (λ o. h) (λ o. and_from (P e.0) _ q.0 (keys_hold P es k v q.1 p))

-- variables: other bindings are passed over
skip_variable : (k v : List ℕ) (es : List (List ℕ × List ℕ)) → is_variable k ≡ false → variables_in ((k, v) ∷ es) ≡ variables_in es
skip_variable k v es h = ap (λ t. if t then insert_entry text_cmp (variables_in es) k (entry_members v ∷ []) else variables_in es) h

pub variables_skip : (es : List (List ℕ × List ℕ)) (k v : List ℕ) → is_variable k ≡ false → variables_in (insert_entry text_cmp es k v) ≡ variables_in es
variables_skip [] k v h = skip_variable k v [] h
variables_skip (e ∷ es) k v h =
    by_order (λ (z : List (List ℕ × List ℕ)). variables_in z ≡ variables_in (e ∷ es)) (text_cmp k e.0) _ _ _
    (λ o. skip_variable k v (e ∷ es) h)
    (λ o. let g : is_variable e.0 ≡ false = ap is_variable (sym (equal_texts k e.0 o)) ∙ h in skip_variable e.0 v es g ∙ sym (skip_variable e.0 e.1 es g))
    (λ o. ap (λ z. if is_variable e.0 then insert_entry text_cmp z e.0 (entry_members e.1 ∷ []) else z) (variables_skip es k v h))

-- the status: other bindings are passed over
skip_status : (k v : List ℕ) (es : List (List ℕ × List ℕ)) → bytes_eq k status_name ≡ false → status_in ((k, v) ∷ es) ≡ status_in es
skip_status k v es h = ap (λ t. if t then spaced (entry_members v) else status_in es) h

pub status_skip : (es : List (List ℕ × List ℕ)) (k v : List ℕ) → bytes_eq k status_name ≡ false → status_in (insert_entry text_cmp es k v) ≡ status_in es
status_skip [] k v h = skip_status k v [] h
status_skip (e ∷ es) k v h =
    by_order (λ (z : List (List ℕ × List ℕ)). status_in z ≡ status_in (e ∷ es)) (text_cmp k e.0) _ _ _
    (λ o. skip_status k v (e ∷ es) h)
    (λ o. let g : bytes_eq e.0 status_name ≡ false = ap (λ z. bytes_eq z status_name) (sym (equal_texts k e.0 o)) ∙ h in skip_status e.0 v es g ∙ sym (skip_status e.0 e.1 es g))
    (λ o. ap (λ z. if bytes_eq e.0 status_name then spaced (entry_members e.1) else z) (status_skip es k v h))

pub status_put : (es : List (List ℕ × List ℕ)) (v : List ℕ) → status_in (insert_entry text_cmp es status_name v) ≡ spaced (entry_members v)
status_put [] v = refl
status_put (e ∷ es) v =
    by_order (λ (z : List (List ℕ × List ℕ)). status_in z ≡ spaced (entry_members v)) (text_cmp status_name e.0) _ _ _
    (λ o. refl)
    (λ o. ap (λ t. if t then spaced (entry_members v) else status_in es) (ap (λ z. bytes_eq z status_name) (sym (equal_texts status_name e.0 o))))
    (λ o. skip_status e.0 e.1 (insert_entry text_cmp es status_name v) (turned status_name e.0 (greater_differ status_name e.0 o)) ∙ status_put es v)

-- the variables that are handed over, without `*`
abbrev with_plain : List ℕ → List (List ℕ) → List (List ℕ × List (List (List ℕ))) → List (List ℕ × List (List (List ℕ)))
with_plain name [] others = others
with_plain name (m ∷ ms) others = if stays_behind name then others else (name, (m ∷ ms) ∷ []) ∷ others

abbrev pub plain_flat : List (List ℕ × List (List (List ℕ))) → List (List ℕ × List (List (List ℕ)))
plain_flat [] = []
plain_flat (b ∷ bs) = with_plain b.0 (visible b.1) (plain_flat bs)

above_if : (k name : List ℕ) (x : List (List (List ℕ))) (t : Bool) (es : List (List ℕ × List (List (List ℕ)))) → text_cmp k name ≡ Less → Above k es → Above k (if t then es else (name, x) ∷ es)
above_if k name x true es e h = h
above_if k name x false es e h = (e, h)

above_plain : (k name : List ℕ) (value : List (List ℕ)) (es : List (List ℕ × List (List (List ℕ)))) → text_cmp k name ≡ Less → Above k es → Above k (with_plain name value es)
above_plain k name [] es e h = h
above_plain k name (m ∷ ms) es e h = above_if k name ((m ∷ ms) ∷ []) (stays_behind name) es e h

above_flat : (k : List ℕ) (bs : List (List ℕ × List (List (List ℕ)))) → Above k bs → Above k (plain_flat bs)
above_flat k [] h = h
above_flat k (b ∷ bs) h = above_plain k b.0 (visible b.1) (plain_flat bs) h.0 (above_flat k bs h.1)

read_if : (name : List ℕ) (m : List ℕ) (ms : List (List ℕ)) (t : Bool) → stays_behind name ≡ t → IsTrue (is_name name)
    → (es : List (List ℕ × List ℕ)) (vs : List (List ℕ × List (List (List ℕ)))) → Above name vs → variables_in es ≡ vs
    → variables_in (if t then es else (name, value_text (m ∷ ms)) ∷ es) ≡ (if t then vs else (name, (m ∷ ms) ∷ []) ∷ vs)
read_if name m ms true e n es vs a h = h
read_if name m ms false e n es vs a h =
    let v : is_variable name ≡ true = and_from (is_name name) _ n (ap not e) in
    ap (λ t. if t then insert_entry text_cmp (variables_in es) name (entry_members (value_text (m ∷ ms)) ∷ []) else variables_in es) v
    ∙ ap (λ z. insert_entry text_cmp z name (entry_members (value_text (m ∷ ms)) ∷ [])) h
    ∙ ap (λ z. insert_entry text_cmp vs name (z ∷ [])) (members_back m ms)
    ∙ put_first vs name ((m ∷ ms) ∷ []) a

read_one : (name : List ℕ) (value : List (List ℕ)) → IsTrue (is_name name) → (es : List (List ℕ × List ℕ)) (vs : List (List ℕ × List (List (List ℕ)))) → Above name vs → variables_in es ≡ vs
    → variables_in (with_binding name value es) ≡ with_plain name value vs
read_one name [] n es vs a h = h
read_one name (m ∷ ms) n es vs a h = read_if name m ms (stays_behind name) refl n es vs a h

pub variables_back : (bs : List (List ℕ × List (List (List ℕ)))) → IsTrue (list_all (λ b. is_own_name b.0) bs) → Ordered bs → variables_in (handed_values bs) ≡ plain_flat bs
variables_back [] n o = refl
variables_back (b ∷ bs) n o =
    let k = and_parts (is_own_name b.0) (list_all (λ b. is_own_name b.0) bs) n in
    read_one b.0 (visible b.1) (and_parts (is_name b.0) _ k.0).0 (handed_values bs) (plain_flat bs) (above_flat b.0 bs o.0) (variables_back bs k.1 o.1)

-- `*` among them
abbrev star : List ℕ
star = codes "*"

-- a name of its own that isn't `*` is handed over
not_kept : (name : List ℕ) → IsTrue (is_own_name name) → bytes_eq star name ≡ false → stays_behind name ≡ false
not_kept name n e = or_from (bytes_eq name star) (bytes_eq name status_name) (turned star name e) (not-true _ (and_parts (is_name name) _ n).1)

same_top : (name : List ℕ) (value : List (List ℕ)) (es fs : List (List ℕ × List (List (List ℕ)))) → stays_behind name ≡ false → es ≡ fs → with_plain name value es ≡ with_top name value fs
same_top name [] es fs k h = h
same_top name (m ∷ ms) es fs k h = ap (λ t. if t then es else (name, (m ∷ ms) ∷ []) ∷ es) k ∙ ap (λ z. (name, (m ∷ ms) ∷ []) ∷ z) h

-- where all names stand after `*`
none_of : (bs : List (List ℕ × List (List (List ℕ)))) → IsTrue (list_all (λ b. is_own_name b.0) bs) → Above star bs → plain_flat bs ≡ flat bs
none_of [] n a = refl
none_of (b ∷ bs) n a =
    let k = and_parts (is_own_name b.0) (list_all (λ b. is_own_name b.0) bs) n in
    same_top b.0 (visible b.1) (plain_flat bs) (flat bs) (not_kept b.0 k.0 (less_differ star b.0 a.0)) (none_of bs k.1 a.1)

abbrev star_value : List (List ℕ × List (List (List ℕ))) → List (List ℕ)
star_value bs = visible (unwrap_or (lookup (bytes_eq star) bs) [])

-- a name in front of those among which `*` has a value
star_by : (k m : List ℕ) (ms : List (List ℕ)) (b : List ℕ × List (List (List ℕ))) (bs : List (List ℕ × List (List (List ℕ)))) → text_cmp k b.0 ≡ Less
    → (star_value bs ≡ m ∷ ms → text_cmp k star ≡ Less)
    → (t : Bool) → bytes_eq star b.0 ≡ t → visible (unwrap_or (if t then Some b.1 else lookup (bytes_eq star) bs) []) ≡ m ∷ ms → text_cmp k star ≡ Less
star_by k m ms b bs a f true e g = ap (text_cmp k) ((bytes_eq-Decides star b.0).0 e) ∙ a
star_by k m ms b bs a f false e g = f g

before_star : (k m : List ℕ) (ms : List (List ℕ)) (bs : List (List ℕ × List (List (List ℕ)))) → Above k bs → star_value bs ≡ m ∷ ms → text_cmp k star ≡ Less
before_star k m ms [] a h = absurd (cc)
before_star k m ms (b ∷ bs) a h = star_by k m ms b bs a.0 (λ g. before_star k m ms bs a.1 g) (bytes_eq star b.0) refl h

star_here : (name : List ℕ) (value : List (List ℕ)) (es fs : List (List ℕ × List (List (List ℕ)))) → star ≡ name → Above star es → es ≡ fs
    → with_args value (with_plain name value es) ≡ with_top name value fs
star_here name [] es fs e a h = h
star_here name (m ∷ ms) es fs e a h =
    let kept : stays_behind name ≡ true = ap (λ t. t || bytes_eq name status_name) ((bytes_eq-Decides name star).1 (sym e)) in
    ap (λ t. insert_entry text_cmp (if t then es else (name, (m ∷ ms) ∷ []) ∷ es) star ((m ∷ ms) ∷ [])) kept
    ∙ put_first es star ((m ∷ ms) ∷ []) a ∙ ap (λ z. (z, (m ∷ ms) ∷ []) ∷ es) e ∙ ap (λ z. (name, (m ∷ ms) ∷ []) ∷ z) h

star_past : (name : List ℕ) (value : List (List ℕ)) (es fs : List (List ℕ × List (List (List ℕ)))) (v : List (List (List ℕ)))
    → stays_behind name ≡ false → text_cmp name star ≡ Less → insert_entry text_cmp es star v ≡ fs
    → insert_entry text_cmp (with_plain name value es) star v ≡ with_top name value fs
star_past name [] es fs v k l h = h
star_past name (m ∷ ms) es fs v k l h =
    ap (λ t. insert_entry text_cmp (if t then es else (name, (m ∷ ms) ∷ []) ∷ es) star v) k
    ∙ ap (λ o. match_ordering o ((star, v) ∷ (name, (m ∷ ms) ∷ []) ∷ es) ((name, v) ∷ es) ((name, (m ∷ ms) ∷ []) ∷ insert_entry text_cmp es star v)) (greater_of name star l)
    ∙ ap (λ z. (name, (m ∷ ms) ∷ []) ∷ z) h

star_other : (b : List ℕ × List (List (List ℕ))) (bs : List (List ℕ × List (List (List ℕ)))) (value : List (List ℕ)) → stays_behind b.0 ≡ false
    → Above b.0 bs → star_value bs ≡ value → with_args value (plain_flat bs) ≡ flat bs
    → with_args value (plain_flat (b ∷ bs)) ≡ flat (b ∷ bs)
star_other b bs [] k a h ih = same_top b.0 (visible b.1) (plain_flat bs) (flat bs) k ih
star_other b bs (m ∷ ms) k a h ih = star_past b.0 (visible b.1) (plain_flat bs) (flat bs) ((m ∷ ms) ∷ []) k (before_star b.0 m ms bs a h) ih

star_case : (b : List ℕ × List (List (List ℕ))) (bs : List (List ℕ × List (List (List ℕ)))) (value : List (List ℕ)) → IsTrue (is_own_name b.0)
    → IsTrue (list_all (λ b. is_own_name b.0) bs) → Above b.0 bs
    → (star_value bs ≡ value → with_args value (plain_flat bs) ≡ flat bs) → (t : Bool) → bytes_eq star b.0 ≡ t → visible (unwrap_or (if t then Some b.1 else lookup (bytes_eq star) bs) []) ≡ value
    → with_args value (plain_flat (b ∷ bs)) ≡ flat (b ∷ bs)
star_case b bs value n ns a ih true e h =
    let q : star ≡ b.0 = (bytes_eq-Decides star b.0).0 e in
    let above : Above star bs = subst (λ k. Above k bs) (sym q) a in
    subst (λ v. with_args v (plain_flat (b ∷ bs)) ≡ flat (b ∷ bs)) h (star_here b.0 (visible b.1) (plain_flat bs) (flat bs) q (above_flat star bs above) (none_of bs ns above))
star_case b bs value n ns a ih false e h = star_other b bs value (not_kept b.0 n e) a h (ih h)

pub star_back : (bs : List (List ℕ × List (List (List ℕ)))) (value : List (List ℕ)) → IsTrue (list_all (λ b. is_own_name b.0) bs) → Ordered bs
    → star_value bs ≡ value → with_args value (plain_flat bs) ≡ flat bs
star_back [] value n o h = ap (λ v. with_args v []) (sym h)
star_back (b ∷ bs) value n o h =
    let k = and_parts (is_own_name b.0) (list_all (λ b. is_own_name b.0) bs) n in
    star_case b bs value k.0 k.1 o.0 (λ g. star_back bs value k.1 o.1 g) (bytes_eq star b.0) refl h
