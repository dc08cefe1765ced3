-- What changes a state keeps its variables and functions those of a proper one.
use Rattle.std.proofs.Common.{◌≡◌, ℕ, Bool, true, false, cond, if◌then◌else◌, IsTrue, List, [], ◌∷◌, Option, Some, Result, Ok, Err, OnOk, OnErr, refl, sym, ap, ◌∙◌, subst, string_bytes}
use Rattle.std.specs.Cmp.Lexicographic.{slice_cmp}
use Rattle.std.specs.Ordering.{nat_cmp}
use Rattle.std.specs.Map.{lookup, remove_entry}
use Rattle.std.specs.BTreeMap.{insert_entry, is_at}
use Rattle.std.specs.Str.{bytes_eq}
use Rattle.std.specs.String.{string_cmp}
use Rattle.std.specs.declared.alloc.Global.{Global}
use Rattle.std.specs.declared.string.String.{String}
use Rattle.rc_model.specs.Syntax.Text.{spaced}
use Rattle.rc_model.specs.Syntax.Tree.{Node, cmd}
use Rattle.rc_model.specs.Run.State as model
use Rattle.rc_model.specs.Run.State.{status_name, covered, is_name, is_function_name, put_values, with_status}
use Rattle.rc_model.specs.Handed.Proper.{IsProper, IsProperTree, AllProperTrees}
use Rattle.law_image.proofs.Proper.{proper_set, proper_push, proper_pop, proper_define, proper_undefine, proper_same}
use Rattle.rc_scope.specs.Bodies.{functions_of}
use Rattle.rc_scope.specs.FunctionBodies.{body_tree}
use Rattle.rc_scope.specs.ProperStates.{state_with, AreProper}
use Rattle.rc_scope.specs.Stacks.{stacks_of, locals_of, stack_in, uncovered}
use Rattle.rc_scope.specs.States.{state_of}
use Rattle.rc_scope.specs.declared.functions.Function.{Function}
use Rattle.rc_scope.specs.declared.state.State.{State}
use Rattle.rc_scope.specs.declared.variables.Variables.{Variables}
use Rattle.rc_scope.proofs.Bodies.{insert_function, remove_function}
use Rattle.rc_scope.proofs.Ends.{ended}

abbrev Entries : Type 0
Entries = List (String Global × Function)

-- the state that a value stands for is proper
pub is_proper : (s : State) → IsProper (state_of s)
unfolding state_of
is_proper s = proper_same (state_with s.variables s.functions.entries) (state_of s) refl refl s.proper

-- what follows of a call, whether it failed or not
pub by_result : {T E P Q X : Type 0} (result : Result T E) → OnOk result P → OnErr result Q → (P → X) → (Q → X) → X
by_result (Ok x) p q f g = f p
by_result (Err e) p q f g = g q

-- ** variables

with_variables : (v w : Variables) (fs : Entries) (vs : List (List ℕ × List (List (List ℕ)))) → stacks_of w ≡ vs → IsProper (record (state_with v fs) { variables = vs }) → AreProper w fs
with_variables v w fs vs e p = subst (λ z. IsProper (record (state_with v fs) { variables = z })) (sym e) p

pub nothing_set : (v w : Variables) (fs : Entries) → AreProper v fs → stacks_of w ≡ stacks_of v → AreProper w fs
nothing_set v w fs p e = with_variables v w fs (stacks_of v) e p

pub value_set : (v w : Variables) (fs : Entries) (name : List ℕ) (value : List (List ℕ)) → AreProper v fs → IsTrue (is_name name) → bytes_eq name status_name ≡ false
    → stacks_of w ≡ put_values (stacks_of v) name (value ∷ covered (stack_in (stacks_of v) name)) → AreProper w fs
value_set v w fs name value p n other e =
    let s = state_with v fs in
    let vs = put_values (stacks_of v) name (value ∷ covered (stack_in (stacks_of v) name)) in
    with_variables v w fs vs e
    (subst (λ b. IsProper (if b then with_status s (spaced value) else record s { variables = vs })) other (proper_set s name value n p))

pub local_pushed : (v w : Variables) (fs : Entries) (name : List ℕ) (value : List (List ℕ)) → AreProper v fs → IsTrue (is_name name) → bytes_eq name status_name ≡ false
    → stacks_of w ≡ put_values (stacks_of v) name (value ∷ stack_in (stacks_of v) name) → AreProper w fs
local_pushed v w fs name value p n other e =
    let s = state_with v fs in
    let vs = put_values (stacks_of v) name (value ∷ stack_in (stacks_of v) name) in
    let named : model.State = record s { locals = name ∷ [] } in
    with_variables v w fs vs e
    (proper_same (record named { variables = vs }) (record s { variables = vs }) refl refl
    (subst (λ b. IsProper (if b then record named { status = spaced value } else record named { variables = vs })) other (proper_push s name value n p)))

pub local_popped : (v w : Variables) (fs : Entries) → AreProper v fs → stacks_of w ≡ uncovered (locals_of v) (stacks_of v) → AreProper w fs
local_popped v w fs p e =
    let s : model.State = record (state_with v fs) { locals = locals_of v } in
    let vs = uncovered (locals_of v) (stacks_of v) in
    let q : IsProper s = proper_same (state_with v fs) s refl refl p in
    with_variables v w fs vs e
    (proper_same _ (record (state_with v fs) { variables = vs }) refl refl (subst IsProper (sym (ended s)) (proper_pop s q)))

-- ** functions

with_functions : (v : Variables) (es fs : Entries) (gs : List (List ℕ × Node cmd)) → functions_of fs ≡ gs → IsProper (record (state_with v es) { functions = gs }) → AreProper v fs
with_functions v es fs gs e p = subst (λ z. IsProper (record (state_with v es) { functions = z })) (sym e) p

pub function_put : (v : Variables) (es fs : Entries) (name : String Global) (f : Function) → AreProper v es → IsTrue (is_function_name (string_bytes name)) → IsProperTree (body_tree f)
    → fs ≡ insert_entry string_cmp es name f → AreProper v fs
function_put v es fs name f p n body e =
    with_functions v es fs _ (ap functions_of e ∙ insert_function es name f) (proper_define (state_with v es) (string_bytes name) (body_tree f) n body p)

pub function_removed : (v : Variables) (es fs : Entries) (name : List ℕ) → AreProper v es → fs ≡ remove_entry (is_at (λ k. slice_cmp nat_cmp name (string_bytes k))) es → AreProper v fs
function_removed v es fs name p e =
    with_functions v es fs _ (ap functions_of e ∙ remove_function name es) (proper_undefine (state_with v es) (name ∷ []) p)

pub functions_kept : (v : Variables) (es fs : Entries) → AreProper v es → fs ≡ es → AreProper v fs
functions_kept v es fs p e = subst (AreProper v) (sym e) p

body_by : (t : Bool) (f g : Function) (o : Option Function) → IsProperTree (body_tree f) → (o ≡ Some g → IsProperTree (body_tree g)) → cond t (Some f) o ≡ Some g → IsProperTree (body_tree g)
body_by true f g o p q h = let same : f ≡ g = cc in subst (λ z. IsProperTree (body_tree z)) same p
body_by false f g o p q h = q h

-- the body of a function
pub proper_body : (es : Entries) (test : String Global → Bool) (f : Function) → AllProperTrees (functions_of es) → lookup test es ≡ Some f → IsProperTree (body_tree f)
proper_body [] test f p h = absurd (cc)
proper_body (e ∷ es) test f p h = body_by _ e.1 f _ p.0 (λ g. proper_body es test f p.1 g) h

-- ** both

pub all_copied : (v w : Variables) (es fs : Entries) → AreProper v es → stacks_of w ≡ stacks_of v → functions_of fs ≡ functions_of es → AreProper w fs
all_copied v w es fs p a b = with_functions w es fs (functions_of es) b (nothing_set v w es p a)
