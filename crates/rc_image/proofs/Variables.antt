-- The variables and the status that entries denote.
use Rattle.std.specs.Prelude.{Option, Some, if◌then◌else◌, not, ◌||◌, unwrap_or, codes}
use Rattle.std.proofs.Common.{◌≡◌, ℕ, List, [], ◌∷◌, ◌&&◌, Bool, true, false, cond, refl, sym, ap, ◌∙◌}
use Rattle.std.specs.Str.{bytes_eq}
use Rattle.std.specs.Map.{lookup}
use Rattle.std.specs.BTreeMap.{insert_entry}
use Rattle.std.proofs.lemmas.Bool.{false≢true}
use Rattle.std.proofs.lemmas.Slice.Eq.{bytes_eq-Decides}
use Rattle.rc_model.specs.Syntax.Text.{text_cmp, begins_with, spaced}
use Rattle.rc_model.specs.Run.State.{State, covered, values_of, put_values, set_value, with_status, status_name, is_name}
use Rattle.rc_model.specs.Handed.Environment.{Bindings, Variables, with_cut, cut_entry, entry_members, is_variable, variables_in, status_in, own_status, fresh_state}
use Rattle.rc_image.specs.Entries.{is_ignored, values_state}
use Rattle.rc_image.proofs.Beginnings.{begun_split}
use Rattle.rc_image.proofs.Puts.{found}

one_value : (t : Bool) (v : List (List ℕ)) (o : Option (List (List (List ℕ)))) → covered (unwrap_or o []) ≡ [] → covered (unwrap_or (cond t (Some (v ∷ [])) o) []) ≡ []
one_value true v o h = refl
one_value false v o h = h

-- each variable has one value
pub single : (bs : Bindings) (n : List ℕ) → covered (unwrap_or (lookup (bytes_eq n) (variables_in bs)) []) ≡ []
single [] n = refl
single (b ∷ bs) n = by_test (is_variable b.0) (single bs n)
  where
    by_test : (t : Bool) → covered (unwrap_or (lookup (bytes_eq n) (variables_in bs)) []) ≡ [] → covered (unwrap_or (lookup (bytes_eq n) (if t then insert_entry text_cmp (variables_in bs) b.0 (entry_members b.1 ∷ []) else variables_in bs)) []) ≡ []
    by_test true h =
        ap (λ o. covered (unwrap_or o [])) (found (variables_in bs) n b.0 (entry_members b.1 ∷ []))
        ∙ one_value (bytes_eq n b.0) (entry_members b.1) (lookup (bytes_eq n) (variables_in bs)) h
    by_test false h = h

-- what an entry of this name adds, where the tests of the name are these
abbrev step_variables : (star st nm : Bool) (name text : List ℕ) → Bindings → Variables
step_variables star st nm name text bs =
    if nm && not (star || st) then insert_entry text_cmp (variables_in bs) name (entry_members text ∷ []) else variables_in bs

abbrev step_status : (own st : Bool) (text : List ℕ) → Bindings → List ℕ
step_status true st text bs = if st then spaced (entry_members text) else status_in bs
step_status false st text bs = []

status_step : (own st : Bool) (name text : List ℕ) (bs : Bindings) → bytes_eq name status_name ≡ st → own_status own ((name, text) ∷ bs) ≡ step_status own st text bs
status_step true st name text bs h = ap (λ t. if t then spaced (entry_members text) else status_in bs) h
status_step false st name text bs h = refl

variables_step : (star st nm : Bool) (name text : List ℕ) (bs : Bindings) → bytes_eq name (codes "*") ≡ star → bytes_eq name status_name ≡ st → is_name name ≡ nm →
    variables_in ((name, text) ∷ bs) ≡ step_variables star st nm name text bs
variables_step star st nm name text bs h k i =
    ap (λ t. if t && not (bytes_eq name (codes "*") || bytes_eq name status_name) then insert_entry text_cmp (variables_in bs) name (entry_members text ∷ []) else variables_in bs) i
    ∙ ap (λ t. if nm && not (t || bytes_eq name status_name) then insert_entry text_cmp (variables_in bs) name (entry_members text ∷ []) else variables_in bs) h
    ∙ ap (λ t. if nm && not (star || t) then insert_entry text_cmp (variables_in bs) name (entry_members text ∷ []) else variables_in bs) k

values_step : (own star st nm : Bool) (name text : List ℕ) (bs : Bindings) → bytes_eq name (codes "*") ≡ star → bytes_eq name status_name ≡ st → is_name name ≡ nm →
    values_state own ((name, text) ∷ bs) ≡ fresh_state (step_variables star st nm name text bs) [] (step_status own st text bs)
unfolding values_state
values_step own star st nm name text bs h k i =
    ap (λ vs. fresh_state vs [] (own_status own ((name, text) ∷ bs))) (variables_step star st nm name text bs h k i)
    ∙ ap (fresh_state (step_variables star st nm name text bs) []) (status_step own st name text bs k)

-- the status has a name
named_status : (name : List ℕ) → bytes_eq name status_name ≡ true → is_name name ≡ false → ⊥
named_status name h k = false≢true (sym k ∙ ap is_name ((bytes_eq-Decides name status_name).0 h))

other_star : (name : List ℕ) → bytes_eq name (codes "*") ≡ true → bytes_eq name status_name ≡ true → ⊥
other_star name h k = false≢true (sym (ap (λ z. bytes_eq z status_name) ((bytes_eq-Decides name (codes "*")).0 h)) ∙ k)

-- what is ignored changes nothing
skip_by : (own star st nm : Bool) (name text : List ℕ) (bs : Bindings) → bytes_eq name (codes "*") ≡ star → bytes_eq name status_name ≡ st → (star || (st && not own)) ≡ true →
    fresh_state (step_variables star st nm name text bs) [] (step_status own st text bs) ≡ values_state own bs
unfolding values_state
skip_by own true true nm name text bs h k i = absurd (other_star name h k)
skip_by true true false true name text bs h k i = refl
skip_by true true false false name text bs h k i = refl
skip_by false true false true name text bs h k i = refl
skip_by false true false false name text bs h k i = refl
skip_by true false true nm name text bs h k i = absurd (false≢true i)
skip_by false false true true name text bs h k i = refl
skip_by false false true false name text bs h k i = refl
skip_by own false false nm name text bs h k i = absurd (false≢true i)

pub skip_next : (own : Bool) (name text : List ℕ) (bs : Bindings) → is_ignored own name ≡ true → values_state own bs ≡ values_state own ((name, text) ∷ bs)
skip_next own name text bs h =
    sym (values_step own (bytes_eq name (codes "*")) (bytes_eq name status_name) (is_name name) name text bs refl refl refl
    ∙ skip_by own (bytes_eq name (codes "*")) (bytes_eq name status_name) (is_name name) name text bs refl refl h)

-- nor does another kind of name
bad_by : (own star st : Bool) (name text : List ℕ) (bs : Bindings) → bytes_eq name status_name ≡ st → is_name name ≡ false →
    fresh_state (step_variables star st false name text bs) [] (step_status own st text bs) ≡ values_state own bs
unfolding values_state
bad_by own star true name text bs k i = absurd (named_status name k i)
bad_by true star false name text bs k i = refl
bad_by false star false name text bs k i = refl

put_one : (s : State) (name : List ℕ) (value : List (List ℕ)) → covered (values_of s name) ≡ [] → bytes_eq name status_name ≡ false →
    set_value s name value ≡ record s { variables = insert_entry text_cmp s.variables name (value ∷ []) }
put_one s name value h k =
    ap (λ t. if t then with_status s (spaced value) else record s { variables = put_values s.variables name (value ∷ covered (values_of s name)) }) k
    ∙ ap (λ c. record s { variables = insert_entry text_cmp s.variables name (value ∷ c) }) h

put_status : (s : State) (name : List ℕ) (value : List (List ℕ)) → bytes_eq name status_name ≡ true → set_value s name value ≡ with_status s (spaced value)
put_status s name value k =
    ap (λ t. if t then with_status s (spaced value) else record s { variables = put_values s.variables name (value ∷ covered (values_of s name)) }) k

set_by : (own star st : Bool) (name text : List ℕ) (bs : Bindings) → bytes_eq name status_name ≡ st → (star || (st && not own)) ≡ false →
    set_value (values_state own bs) name (entry_members text) ≡ fresh_state (step_variables star st true name text bs) [] (step_status own st text bs)
unfolding values_state
set_by own true st name text bs k i = absurd (false≢true (sym i))
set_by true false true name text bs k i = put_status (values_state true bs) name (entry_members text) k
set_by false false true name text bs k i = absurd (false≢true (sym i))
set_by true false false name text bs k i = put_one (values_state true bs) name (entry_members text) (single bs name) k
set_by false false false name text bs k i = put_one (values_state false bs) name (entry_members text) (single bs name) k

next_by : (own nm : Bool) (name text : List ℕ) (bs : Bindings) → is_name name ≡ nm → is_ignored own name ≡ false →
    (if nm then set_value (values_state own bs) name (entry_members text) else values_state own bs) ≡ values_state own ((name, text) ∷ bs)
next_by own true name text bs i h =
    set_by own (bytes_eq name (codes "*")) (bytes_eq name status_name) name text bs refl h
    ∙ sym (values_step own (bytes_eq name (codes "*")) (bytes_eq name status_name) true name text bs refl refl i)
next_by own false name text bs i h =
    sym (values_step own (bytes_eq name (codes "*")) (bytes_eq name status_name) false name text bs refl refl i
    ∙ bad_by own (bytes_eq name (codes "*")) (bytes_eq name status_name) name text bs refl i)

-- any other is set
pub set_next : (own : Bool) (name text : List ℕ) (bs : Bindings) → is_ignored own name ≡ false →
    (if is_name name then set_value (values_state own bs) name (entry_members text) else values_state own bs) ≡ values_state own ((name, text) ∷ bs)
set_next own name text bs h = next_by own (is_name name) name text bs refl h

-- the name of a function is not that of a variable
unnamed : (name : List ℕ) → begins_with (codes "fn#") name ≡ true → is_name name ≡ false
unnamed name h = ap is_name (begun_split (codes "fn#") name h)

pub skip_function : (own : Bool) (name text : List ℕ) (bs : Bindings) → begins_with (codes "fn#") name ≡ true → is_ignored own name ≡ false →
    values_state own bs ≡ values_state own ((name, text) ∷ bs)
skip_function own name text bs h k = next_by own false name text bs (unnamed name h) k

pub entry_set : (own : Bool) (name text entry : List ℕ) (bs : Bindings) (s t : State) (v : List (List ℕ)) → Some (name, text) ≡ cut_entry entry → is_ignored own name ≡ false → v ≡ entry_members text →
    s ≡ values_state own bs → t ≡ (if is_name name then set_value s name v else s) → t ≡ values_state own (with_cut (cut_entry entry) bs)
entry_set own name text entry bs s t v h i k w d =
    d
    ∙ ap (λ v. if is_name name then set_value s name v else s) k
    ∙ ap (λ s. if is_name name then set_value s name (entry_members text) else s) w
    ∙ set_next own name text bs i
    ∙ ap (λ z. values_state own (with_cut z bs)) h
