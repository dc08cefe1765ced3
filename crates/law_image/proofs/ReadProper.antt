-- Whatever is read, the tree is one that a shell holds and the state is proper.
use Rattle.std.specs.Prelude.{Result, Ok, IsTrue, not, codes, drop, if◌then◌else◌}
use Rattle.std.proofs.Common.{◌≡◌, ℕ, List, [], ◌∷◌, Bool, true, false, ◌&&◌, ◌||◌, refl, subst}
use Rattle.std.specs.List.{list_all, list_any}
use Rattle.std.specs.Str.{bytes_eq}
use Rattle.std.specs.BTreeMap.{insert_entry}
use Rattle.std.proofs.lemmas.Bool.{and_parts, and_from}
use Rattle.rc_model.specs.Syntax.Text.{text_cmp, begins_with}
use Rattle.rc_model.specs.Syntax.Tree.{Node, cmd}
use Rattle.rc_model.specs.Run.State.{State, status_name, is_name, is_function_name}
use Rattle.rc_model.specs.Handed.TreeReading.{◌>>=◌, read_tree}
use Rattle.rc_model.specs.Handed.WordsReading.{read_pieces}
use Rattle.rc_model.specs.Handed.Environment.{Bindings, Variables, Functions, bindings, entry_members, is_variable, variables_in, is_function}
use Rattle.rc_model.specs.Handed.Environment.{with_function, functions_in, with_args, own_functions, own_status, fresh_state, read_state}
use Rattle.rc_model.specs.Handed.Proper.{Ordered, IsProperTree, AllProperTrees, is_own_name, IsProper}
use Rattle.rc_model.specs.Handed.HandedLaws.{ReadsProper, ReadsScripts}
use Rattle.law_image.proofs.Exact.{ok_inj, bind_back}
use Rattle.law_image.proofs.Trees.{reads_spellings}
use Rattle.law_image.proofs.Texts.{text_of}
use Rattle.law_image.proofs.Words.{reads_words}
use Rattle.law_image.proofs.Entries.{keys_hold}
use Rattle.law_image.proofs.Proper.{ProperValues, ordered_insert, scripts_insert, proper_same}
use Rattle.rc_model.specs.declared.fault.ImageFault.{ImageFault}

pub read_script : (text : List ℕ) (c : Node cmd) → read_tree text ≡ Ok c → IsProperTree c
read_script text c h = let s = (reads_spellings text c).0 h in record { sound = s.1; characters = (text_of c s.0.back s.0.second).characters }

-- variables
kept_parts : (name : List ℕ) (b c : Bool) → not (b || c) ≡ true → IsTrue (not c)
kept_parts name true c h = absurd (cc)
kept_parts name false c h = h

variable_own : (name : List ℕ) → IsTrue (is_variable name) → IsTrue (is_own_name name)
variable_own name h =
    let k = and_parts (is_name name) _ h in
    and_from (is_name name) _ k.0 (kept_parts name (bytes_eq name (codes "*")) (bytes_eq name status_name) k.1)

with_value : (vs : Variables) (name : List ℕ) (value : List (List (List ℕ))) → IsTrue (is_own_name name) → ProperValues vs → ProperValues (insert_entry text_cmp vs name value)
with_value vs name value n p = record { names = keys_hold is_own_name vs name value p.names n; ordered = ordered_insert vs name value p.ordered }

one_variable : (vs : Variables) (name text : List ℕ) (t : Bool) → is_variable name ≡ t → ProperValues vs → ProperValues (if t then insert_entry text_cmp vs name (entry_members text ∷ []) else vs)
one_variable vs name text true e p = with_value vs name (entry_members text ∷ []) (variable_own name e) p
one_variable vs name text false e p = p

variables_proper : (bs : Bindings) → ProperValues (variables_in bs)
variables_proper [] = record { names = refl; ordered = tt }
variables_proper (b ∷ bs) = one_variable (variables_in bs) b.0 b.1 (is_variable b.0) refl (variables_proper bs)

args_proper : (args : List (List ℕ)) (vs : Variables) → ProperValues vs → ProperValues (with_args args vs)
args_proper [] vs p = p
args_proper (a ∷ args) vs p = with_value vs (codes "*") ((a ∷ args) ∷ []) refl p

-- functions
record ProperFunctions (fs : Functions) : Type 0 where
  names : IsTrue (list_all (λ f. is_function_name f.0) fs)
  ordered : Ordered fs
  bodies : AllProperTrees fs

no_functions : ProperFunctions []
no_functions = record { names = refl; ordered = tt; bodies = tt }

with_body : (fs : Functions) (name : List ℕ) (body : Node cmd) → IsTrue (is_function_name name) → IsProperTree body → ProperFunctions fs → ProperFunctions (insert_entry text_cmp fs name body)
with_body fs name body n b p = record {
  names = keys_hold is_function_name fs name body p.names n;
  ordered = ordered_insert fs name body p.ordered;
  bodies = scripts_insert fs name body b p.bodies;
}

one_function : (b : List ℕ × List ℕ) (others : Result Functions ImageFault) (fs : Functions) → IsTrue (is_function b.0) → ((gs : Functions) → others ≡ Ok gs → ProperFunctions gs)
    → with_function b.0 (read_tree b.1) others ≡ Ok fs → ProperFunctions fs
one_function b others fs n p h =
    let body = bind_back (read_tree b.1) (λ c. others >>= λ gs. Ok (insert_entry text_cmp gs (drop 3 b.0) c)) fs h in
    let rest = bind_back others (λ gs. Ok (insert_entry text_cmp gs (drop 3 b.0) body.0)) fs body.2 in
    subst ProperFunctions (ok_inj (insert_entry text_cmp rest.0 (drop 3 b.0) body.0) fs rest.2)
    (with_body rest.0 (drop 3 b.0) body.0 (and_parts (begins_with (codes "fn#") b.0) _ n).1 (read_script b.1 body.0 body.1) (p rest.0 rest.1))

by_seen : (b : List ℕ × List ℕ) (others rest : Result Functions ImageFault) (fs : Functions) (t u : Bool) → is_function b.0 ≡ t
    → ((gs : Functions) → others ≡ Ok gs → ProperFunctions gs) → (rest ≡ Ok fs → ProperFunctions fs)
    → (if t && not u then with_function b.0 (read_tree b.1) others else rest) ≡ Ok fs → ProperFunctions fs
by_seen b others rest fs true false n p q h = one_function b others fs n p h
by_seen b others rest fs true true n p q h = q h
by_seen b others rest fs false u n p q h = q h

functions_proper : (seen : List (List ℕ)) (bs : Bindings) (fs : Functions) → functions_in seen bs ≡ Ok fs → ProperFunctions fs
functions_proper seen [] fs h = subst ProperFunctions (ok_inj [] fs h) no_functions
functions_proper seen (b ∷ bs) fs h =
    by_seen b (functions_in (b.0 ∷ seen) bs) (functions_in seen bs) fs (is_function b.0) (list_any (bytes_eq b.0) seen) refl
    (λ gs e. functions_proper (b.0 ∷ seen) bs gs e) (λ e. functions_proper seen bs fs e) h

own_proper : (own : Bool) (bs : Bindings) (fs : Functions) → own_functions own bs ≡ Ok fs → ProperFunctions fs
own_proper true bs fs h = functions_proper [] bs fs h
own_proper false bs fs h = subst ProperFunctions (ok_inj [] fs h) no_functions

fresh_proper : (vs : Variables) (fs : Functions) (status : List ℕ) → ProperValues vs → ProperFunctions fs → IsProper (fresh_state vs fs status)
fresh_proper vs fs status v f = record { names = v.names; ordered = v.ordered; function_names = f.names; functions_ordered = f.ordered; bodies = f.bodies }

pub reads_proper : ReadsProper
reads_proper own args entries s h =
    let bs = bindings entries in
    let f = bind_back (own_functions own (bindings entries)) (λ fs. Ok (fresh_state (with_args args (variables_in (bindings entries))) fs (own_status own (bindings entries)))) s h in
    subst IsProper (ok_inj (fresh_state (with_args args (variables_in (bindings entries))) f.0 (own_status own (bindings entries))) s f.2)
    (fresh_proper (with_args args (variables_in (bindings entries))) f.0 (own_status own (bindings entries))
    (args_proper args (variables_in (bindings entries)) (variables_proper (bindings entries))) (own_proper own (bindings entries) f.0 f.1))

read_words_script : (words : List (List ℕ)) (c : Node cmd) (n : ℕ) → read_pieces words ≡ Ok (c, n) → IsProperTree c
read_words_script words c n h = let r = (reads_words words c n).0 h in record { sound = r.2; characters = (text_of c r.1.text r.1.spelled).characters }

pub reads_scripts : ReadsScripts
reads_scripts strict words entries x h =
    let i = bind_back (read_pieces words) (λ image. read_state true (drop image.1 words) entries >>= λ s. Ok (image.0, record s { strict = strict })) x h in
    let r = bind_back (read_state true (drop i.0.1 words) entries) (λ s. Ok (i.0.0, record s { strict = strict })) x i.2 in
    let e = ok_inj (i.0.0, record (r.0) { strict = strict }) x r.2 in
    subst (λ (z : Node cmd × State). IsProperTree z.0 × IsProper z.1) e
    (read_words_script words i.0.0 i.0.1 i.1, proper_same r.0 (record (r.0) { strict = strict }) refl refl (reads_proper true (drop i.0.1 words) entries r.0 r.1))
