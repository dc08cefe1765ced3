-- What is proper of a state stays so, whatever a shell does to it.
use Rattle.std.specs.Prelude.{Option, Some, None, IsTrue, if◌then◌else◌, unwrap_or}
use Rattle.std.proofs.Common.{◌≡◌, ℕ, List, [], ◌∷◌, Bool, true, false, refl, sym, ap, subst, ◌∙◌}
use Rattle.std.specs.List.{list_all}
use Rattle.std.specs.Str.{bytes_eq}
use Rattle.std.specs.Map.{lookup, remove_entry}
use Rattle.std.specs.BTreeMap.{insert_entry}
use Rattle.std.specs.Ordering.{ordering_reverse}
use Rattle.std.specs.declared.cmp.Ordering.TheVariants.{Less}
use Rattle.std.proofs.lemmas.Bool.{and_parts, and_from, not_from_false}
use Rattle.std.proofs.lemmas.Slice.Eq.{bytes_eq-Decides}
use Rattle.std.proofs.lemmas.Cmp.{nat_list_cmp_total}
use Rattle.rc_model.specs.Syntax.Text.{text_cmp}
use Rattle.rc_model.specs.Syntax.Tree.{Node, cmd}
use Rattle.rc_model.specs.Run.State.{State, new_state, visible, covered, values_of, status_name, is_name, is_function_name, put_values, set_value, push_local, end_local, pop_local, define, undefine}
use Rattle.rc_model.specs.Handed.Arguments.{with_top, flat, entry_state}
use Rattle.rc_model.specs.Handed.Proper.{Above, Ordered, IsProperTree, AllProperTrees, is_own_name, IsProper}
use Rattle.rc_model.specs.Handed.Environment.{Variables}
use Rattle.law_image.proofs.Entries.{by_order, keys_hold}

pub above_after : {X : Type 0} (x k : List ℕ) (es : List (List ℕ × X)) → text_cmp x k ≡ Less → Above k es → Above x es
above_after x k [] l a = tt
above_after x k (e ∷ es) l a = (nat_list_cmp_total.trans x k e.0 l a.0, above_after x k es l a.1)

above_insert : {X : Type 0} (x : List ℕ) (es : List (List ℕ × X)) (k : List ℕ) (v : X) → Above x es → text_cmp x k ≡ Less → Above x (insert_entry text_cmp es k v)
above_insert x [] k v a l = (l, tt)
above_insert {X = X} x (e ∷ es) k v a l =
    by_order (λ (z : List (List ℕ × X)). Above x z) (text_cmp k e.0) _ _ _ (λ o. (l, a)) (λ o. a) (λ o. (a.0, above_insert x es k v a.1 l))

pub ordered_insert : {X : Type 0} (es : List (List ℕ × X)) (k : List ℕ) (v : X) → Ordered es → Ordered (insert_entry text_cmp es k v)
ordered_insert [] k v o = (tt, tt)
ordered_insert {X = X} (e ∷ es) k v o =
    by_order (λ (z : List (List ℕ × X)). Ordered z) (text_cmp k e.0) _ _ _
    (λ l. ((l, above_after k e.0 es l o.0), o)) (λ l. o)
    (λ l. (above_insert e.0 es k v o.0 (nat_list_cmp_total.antisymm e.0 k ∙ ap ordering_reverse l), ordered_insert es k v o.1))

-- without an entry
remove_if : {A : Type 0} (P : A → Type 0) (t : Bool) (x y : A) → P x → P y → P (if t then x else y)
remove_if P true x y p q = p
remove_if P false x y p q = q

above_remove : {X : Type 0} (x : List ℕ) (test : List ℕ → Bool) (es : List (List ℕ × X)) → Above x es → Above x (remove_entry test es)
above_remove x test [] a = tt
above_remove {X = X} x test (e ∷ es) a = remove_if (λ (z : List (List ℕ × X)). Above x z) (test e.0) _ _ a.1 (a.0, above_remove x test es a.1)

pub ordered_remove : {X : Type 0} (test : List ℕ → Bool) (es : List (List ℕ × X)) → Ordered es → Ordered (remove_entry test es)
ordered_remove test [] o = tt
ordered_remove {X = X} test (e ∷ es) o = remove_if (λ (z : List (List ℕ × X)). Ordered z) (test e.0) _ _ o.1 (above_remove e.0 test es o.0, ordered_remove test es o.1)

keys_remove : (P : List ℕ → Bool) {X : Type 0} (test : List ℕ → Bool) (es : List (List ℕ × X)) → IsTrue (list_all (λ e. P e.0) es) → IsTrue (list_all (λ e. P e.0) (remove_entry test es))
keys_remove P test [] h = refl
keys_remove P {X = X} test (e ∷ es) h =
    let k = and_parts (P e.0) (list_all (λ e. P e.0) es) h in
    remove_if (λ (z : List (List ℕ × X)). IsTrue (list_all (λ e. P e.0) z)) (test e.0) _ _ k.1 (and_from (P e.0) _ k.0 (keys_remove P test es k.1))

pub record ProperValues (vs : Variables) : Type 0 where
  pub names : IsTrue (list_all (λ b. is_own_name b.0) vs)
  pub ordered : Ordered vs

values_put : (vs : Variables) (name : List ℕ) (value : List (List (List ℕ))) → ProperValues vs → IsTrue (is_own_name name) → ProperValues (put_values vs name value)
values_put vs name [] p n = record { names = keys_remove is_own_name (bytes_eq name) vs p.names; ordered = ordered_remove (bytes_eq name) vs p.ordered }
values_put vs name (v ∷ value) p n = record { names = keys_hold is_own_name vs name (v ∷ value) p.names n; ordered = ordered_insert vs name (v ∷ value) p.ordered }

-- a name that has values is one of a variable
held_if : (name : List ℕ) (e : List ℕ × List (List (List ℕ))) (es : Variables) (x : List (List (List ℕ))) → IsTrue (is_own_name e.0)
    → (lookup (bytes_eq name) es ≡ Some x → IsTrue (is_own_name name)) → (t : Bool) → bytes_eq name e.0 ≡ t
    → (if t then Some e.1 else lookup (bytes_eq name) es) ≡ Some x → IsTrue (is_own_name name)
held_if name e es x n f true h g = ap is_own_name ((bytes_eq-Decides name e.0).0 h) ∙ n
held_if name e es x n f false h g = f g

held : (name : List ℕ) (es : Variables) (x : List (List (List ℕ))) → IsTrue (list_all (λ b. is_own_name b.0) es) → lookup (bytes_eq name) es ≡ Some x → IsTrue (is_own_name name)
held name [] x n h = absurd (cc)
held name (e ∷ es) x n h =
    let k = and_parts (is_own_name e.0) (list_all (λ b. is_own_name b.0) es) n in
    held_if name e es x k.0 (λ g. held name es x k.1 g) (bytes_eq name e.0) refl h

uncover_by : (vs : Variables) (name : List ℕ) (o : Option (List (List (List ℕ)))) → lookup (bytes_eq name) vs ≡ o → ProperValues vs → ProperValues (put_values vs name (covered (unwrap_or o [])))
uncover_by vs name None e p = record { names = keys_remove is_own_name (bytes_eq name) vs p.names; ordered = ordered_remove (bytes_eq name) vs p.ordered }
uncover_by vs name (Some x) e p = values_put vs name (covered x) p (held name vs x p.names e)

abbrev values_proper : {s : State} → IsProper s → ProperValues s.variables
values_proper p = record { names = p.names; ordered = p.ordered }

-- other variables, or other functions
with_values : (s t : State) → t.functions ≡ s.functions → IsProper s → ProperValues t.variables → IsProper t
with_values s t e p v = record {
  names = v.names;
  ordered = v.ordered;
  function_names = subst (λ fs. IsTrue (list_all (λ f. is_function_name f.0) fs)) (sym e) p.function_names;
  functions_ordered = subst Ordered (sym e) p.functions_ordered;
  bodies = subst AllProperTrees (sym e) p.bodies;
}

own_name : (name : List ℕ) → IsTrue (is_name name) → bytes_eq name status_name ≡ false → IsTrue (is_own_name name)
own_name name n e = and_from (is_name name) _ n (not_from_false _ e)

pub proper_new : IsProper new_state
proper_new = record { names = refl; ordered = tt; function_names = refl; functions_ordered = tt; bodies = tt }

set_by : (s : State) (name : List ℕ) (a b : State) (t : Bool) → bytes_eq name status_name ≡ t → IsProper a → (bytes_eq name status_name ≡ false → IsProper b) → IsProper (if t then a else b)
set_by s name a b true e p f = p
set_by s name a b false e p f = f e

pub proper_set : (s : State) (name : List ℕ) (value : List (List ℕ)) → IsTrue (is_name name) → IsProper s → IsProper (set_value s name value)
proper_set s name value n p =
    set_by s name _ _ (bytes_eq name status_name) refl (with_values s _ refl p (values_proper p))
    (λ e. with_values s _ refl p (values_put s.variables name (value ∷ covered (values_of s name)) (values_proper p) (own_name name n e)))

pub proper_push : (s : State) (name : List ℕ) (value : List (List ℕ)) → IsTrue (is_name name) → IsProper s → IsProper (push_local s name value)
proper_push s name value n p =
    set_by s name _ _ (bytes_eq name status_name) refl (with_values s _ refl p (values_proper p))
    (λ e. with_values s _ refl p (values_put s.variables name (value ∷ values_of s name) (values_proper p) (own_name name n e)))

proper_end : (s : State) (names : List (List ℕ)) → IsProper s → IsProper (end_local s names)
proper_end s [] p = p
proper_end s (name ∷ names) p =
    set_by s name _ _ (bytes_eq name status_name) refl (with_values s _ refl p (values_proper p))
    (λ e. with_values s _ refl p (uncover_by s.variables name (lookup (bytes_eq name) s.variables) refl (values_proper p)))

pub proper_pop : (s : State) → IsProper s → IsProper (pop_local s)
proper_pop s p = proper_end s s.locals p

pub scripts_insert : (fs : List (List ℕ × Node cmd)) (name : List ℕ) (body : Node cmd) → IsProperTree body → AllProperTrees fs → AllProperTrees (insert_entry text_cmp fs name body)
scripts_insert [] name body b h = (b, tt)
scripts_insert (f ∷ fs) name body b h =
    by_order (λ (z : List (List ℕ × Node cmd)). AllProperTrees z) (text_cmp name f.0) _ _ _ (λ o. (b, h)) (λ o. (b, h.1))
    (λ o. (h.0, scripts_insert fs name body b h.1))

scripts_remove : (test : List ℕ → Bool) (fs : List (List ℕ × Node cmd)) → AllProperTrees fs → AllProperTrees (remove_entry test fs)
scripts_remove test [] h = tt
scripts_remove test (f ∷ fs) h = remove_if (λ (z : List (List ℕ × Node cmd)). AllProperTrees z) (test f.0) _ _ h.1 (h.0, scripts_remove test fs h.1)

pub proper_define : (s : State) (name : List ℕ) (body : Node cmd) → IsTrue (is_function_name name) → IsProperTree body → IsProper s → IsProper (define s name body)
proper_define s name body n b p = record {
  names = p.names;
  ordered = p.ordered;
  function_names = keys_hold is_function_name s.functions name body p.function_names n;
  functions_ordered = ordered_insert s.functions name body p.functions_ordered;
  bodies = scripts_insert s.functions name body b p.bodies;
}

pub proper_undefine : (s : State) (names : List (List ℕ)) → IsProper s → IsProper (undefine s names)
proper_undefine s [] p = p
proper_undefine s (name ∷ names) p = proper_undefine (record s { functions = remove_entry (bytes_eq name) s.functions }) names (record {
  names = p.names;
  ordered = p.ordered;
  function_names = keys_remove is_function_name (bytes_eq name) s.functions p.function_names;
  functions_ordered = ordered_remove (bytes_eq name) s.functions p.functions_ordered;
  bodies = scripts_remove (bytes_eq name) s.functions p.bodies;
})

-- the state in which a subshell begins
above_top : (x name : List ℕ) (value : List (List ℕ)) (vs : Variables) → text_cmp x name ≡ Less → Above x vs → Above x (with_top name value vs)
above_top x name [] vs l a = a
above_top x name (m ∷ ms) vs l a = (l, a)

above_flat : (x : List ℕ) (vs : Variables) → Above x vs → Above x (flat vs)
above_flat x [] a = tt
above_flat x (b ∷ vs) a = above_top x b.0 (visible b.1) (flat vs) a.0 (above_flat x vs a.1)

proper_top : (name : List ℕ) (value : List (List ℕ)) (vs : Variables) → IsTrue (is_own_name name) → Above name vs → ProperValues vs → ProperValues (with_top name value vs)
proper_top name [] vs n a p = p
proper_top name (m ∷ ms) vs n a p = record { names = and_from (is_own_name name) _ n p.names; ordered = (a, p.ordered) }

proper_flat : (vs : Variables) → ProperValues vs → ProperValues (flat vs)
proper_flat [] p = p
proper_flat (b ∷ vs) p =
    let k = and_parts (is_own_name b.0) (list_all (λ b. is_own_name b.0) vs) p.names in
    proper_top b.0 (visible b.1) (flat vs) k.0 (above_flat b.0 vs p.ordered.0) (proper_flat vs (record { names = k.1; ordered = p.ordered.1 }))

pub proper_entry : (s : State) → IsProper s → IsProper (entry_state s)
proper_entry s p = with_values s _ refl p (proper_flat s.variables (values_proper p))

-- any state that differs elsewhere
pub proper_same : (s t : State) → t.variables ≡ s.variables → t.functions ≡ s.functions → IsProper s → IsProper t
proper_same s t v f p = with_values s t f p (subst ProperValues (sym v) (values_proper p))
