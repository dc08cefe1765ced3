-- The rules by which each shape keeps everything, and the acts that need nothing else: names, values, file names.
use Rattle.std.proofs.Common.{◌≡◌, ℕ, List, [], ◌∷◌, ◌++◌, Bool, true, false, refl}
use Rattle.std.specs.Prelude.{if◌then◌else◌, codes, length, Result, Ok, Err}
use Rattle.std.specs.Fmt.{decimal}
use Rattle.std.specs.List.{list_any}
use Rattle.rc_model.specs.Syntax.Words.{Word, word_text, word_texts, plain_words, has_pattern}
use Rattle.rc_model.specs.Run.Lists.{concatenated, list_words}
use Rattle.rc_model.specs.Run.Calls.{list_names, probe, change_dir, write, as_names}
use Rattle.rc_model.specs.declared.call.Slots.{Slots}
use Rattle.rc_model.specs.Run.Plans.{done_with}
use Rattle.rc_model.specs.Run.State.{State, dollar_value, is_name, is_readable, is_function_name, define}
use Rattle.rc_model.specs.Run.Shell.{Shell, Exit, under, leaves, pure, call, get, change}
use Rattle.rc_model.specs.Run.Acts.{one_name, variable, value, value_words, count_words, flat_words, selected_words, joined_lists, concat_words, define_each}
use Rattle.rc_model.specs.Run.FileNames.{components, fitting_names, directory, each_name, listed, step, walk, paths_of, or_itself, names_of, expanded_word, expanded}
use Rattle.rc_model.specs.Run.Meaning.{Runner}
use Rattle.rc_model.specs.Family.Accounts.{Account}
use Rattle.law_traces.proofs.Keep.{Keeps, keeps_under, Held, Kid, Rest}
use Rattle.law_traces.proofs.Steps.{rest_on, may_call}
use Rattle.law_traces.proofs.Does.{Ends, Covers, holds_slot, Clean, clean_bind, clean_pure, clean_skip, clean_get, clean_probe, clean_fails, clean_change, neat_state}
use Rattle.rc_model.specs.declared.fault.ListFault.{ListFault}

pub clean_names : {slots : Slots} (path : List ℕ) → Clean slots (call (list_names path))
clean_names path = record { by = λ F O a s c n. (may_call (list_names path) n tt tt tt, λ x f. rest_on (list_names path) n) }

pub clean_dir : {slots : Slots} (path : List ℕ) → Clean slots (call (change_dir path))
clean_dir path = record { by = λ F O a s c n. (may_call (change_dir path) n tt tt tt, λ x f. rest_on (change_dir path) n) }

pub clean_output : {slots : Slots} (text : List ℕ) → Clean slots (call (write slots.output text))
clean_output {slots = slots} text = record { by = λ F O a s c n. (may_call (write slots.output text) n (holds_slot slots.output c.output n) tt tt, λ x f. rest_on (write slots.output text) n) }

-- by a test, and by the state
pub clean_if : {A : Type 0} {slots : Slots} (c : Bool) (m o : Shell A) → Clean slots m → Clean slots o → Clean slots (if c then m else o)
clean_if true m o km ko = km
clean_if false m o km ko = ko

pub clean_at : {A : Type 0} {slots : Slots} (m : State → Shell A) → ((t : State) → Clean slots (m t)) → Clean slots (λ s. m s s)
clean_at m k = record { by = λ F O a s c n. (k s).by F O a s c n }

pub clean_choice : {A : Type 0} {slots : Slots} (test : State → Bool) (m o : Shell A) → Clean slots m → Clean slots o → Clean slots (λ s. if test s then m s else o s)
clean_choice {slots = slots} test m o km ko = record { by = λ F O a s c n. by_test F O a s c n (test s) }
  where
    by_test : (F : List Held) (O : List Kid) (a : Account) (s : State) → Covers F slots → Rest F O a s → (b : Bool) → Keeps a (if b then m s else o s) (Ends F O (λ x. Rest F O))
    by_test F O a s c n true = km.by F O a s c n
    by_test F O a s c n false = ko.by F O a s c n

pub clean_then : {B : Type 0} {slots : Slots} (m : Runner) (o : Shell B) → Clean slots m → Clean slots o → Clean slots (λ s. under (m s) (λ a. o) leaves)
clean_then m o km ko = clean_bind m (λ a. o) km (λ a. ko)

pub clean_from : {B : Type 0} {slots : Slots} (f : State → Shell B) → ((t : State) → Clean slots (f t)) → Clean slots (λ s. under (get s) f leaves)
clean_from f k = clean_bind get f clean_get k

-- a scope that changes the state after its body, however that ends
pub clean_scope : {slots : Slots} (f : State → State) → ((s : State) → (f s).background ≡ s.background) → (m : Runner) → Clean slots m
    → Clean slots (λ s. under (m s) (λ a. change f) (λ t owed. done_with (Exit (f t) owed)))
clean_scope f e m k = record {
  by = λ F O a s c n. keeps_under a (m s) _ _ (Ends F O (λ x. Rest F O)) (Ends F O (λ x. Rest F O)) (k.by F O a s c n)
      (λ b x t q. neat_state (f t) (e t) q) (λ b t owed q. neat_state (f t) (e t) q);
}

-- names and values
pub clean_one_name : {slots : Slots} (fits : List ℕ → Bool) (xs : List (List ℕ)) → Clean slots (one_name slots fits xs)
clean_one_name fits [] = clean_fails (codes "bad name")
clean_one_name fits (x ∷ []) = clean_if (fits x) (pure x) _ (clean_pure x) (clean_fails (codes "bad name"))
clean_one_name fits (x ∷ y ∷ ys) = clean_fails (codes "bad name")

pub clean_variable : {slots : Slots} (x : List Word) → Clean slots (variable slots x)
clean_variable x = clean_one_name is_name (word_texts x)

clean_value : {slots : Slots} (x : List Word) → Clean slots (value slots x)
clean_value {slots = slots} x =
    clean_bind (one_name slots is_readable (word_texts x)) _ (clean_one_name is_readable (word_texts x))
    (λ y. clean_from (λ s. pure (dollar_value s y)) (λ t. clean_pure (dollar_value t y)))

pub clean_value_words : {slots : Slots} (x : List Word) → Clean slots (value_words slots x)
clean_value_words {slots = slots} x = clean_bind (value slots x) _ (clean_value x) (λ v. clean_pure (plain_words v))

pub clean_count_words : {slots : Slots} (x : List Word) → Clean slots (count_words slots x)
clean_count_words {slots = slots} x = clean_bind (value slots x) _ (clean_value x) (λ v. clean_pure (plain_words (decimal (length v) ∷ [])))

pub clean_flat_words : {slots : Slots} (x : List Word) → Clean slots (flat_words slots x)
clean_flat_words {slots = slots} x = clean_bind (value slots x) _ (clean_value x) (λ v. clean_pure _)

pub clean_selected_words : {slots : Slots} (x ss : List Word) → Clean slots (selected_words slots x ss)
clean_selected_words {slots = slots} x ss = clean_bind (value slots x) _ (clean_value x) (λ v. clean_pure _)

clean_joined : {slots : Slots} (r : Result (List Word) ListFault) → Clean slots (joined_lists slots r)
clean_joined (Ok ws) = clean_pure ws
clean_joined (Err fault) = clean_fails (list_words fault)

pub clean_concat : {slots : Slots} (a b : List Word) → Clean slots (concat_words slots a b)
clean_concat a b = clean_joined (concatenated a b)

pub clean_define : {slots : Slots} (xs : List (List ℕ)) (body : _) → Clean slots (define_each slots xs body)
clean_define [] body = clean_skip
clean_define {slots = slots} (x ∷ xs) body =
    clean_bind (one_name slots is_function_name (x ∷ [])) _ (clean_one_name is_function_name (x ∷ []))
    (λ y. clean_then (change (λ s. define s y body)) _ (clean_change (λ s. define s y body) (λ s. refl)) (clean_define xs body))

-- file names
clean_each_name : {slots : Slots} (go : List ℕ → Shell (List (List ℕ))) → ((path : List ℕ) → Clean slots (go path)) → (path : List ℕ) (ns : List (List ℕ)) → Clean slots (each_name go path ns)
clean_each_name go k path [] = clean_pure []
clean_each_name go k path (n ∷ ns) =
    clean_bind (go (path ++ n)) _ (k (path ++ n))
    (λ first. clean_bind (each_name go path ns) _ (clean_each_name go k path ns) (λ others. clean_pure (first ++ others)))

clean_step : {slots : Slots} (c : Word) (go : List ℕ → Shell (List (List ℕ))) → ((path : List ℕ) → Clean slots (go path)) → (path : List ℕ) → Clean slots (step c go path)
clean_step c go k path = clean_if (has_pattern c) (listed c go path) (go (path ++ word_text c))
    (clean_bind (call (list_names (directory path))) _ (clean_names (directory path)) (λ a. clean_each_name go k path (fitting_names c (as_names a)))) (k (path ++ word_text c))

clean_walk : {slots : Slots} (cs : List Word) (path : List ℕ) → Clean slots (walk cs path)
clean_walk [] path = clean_pure (path ∷ [])
clean_walk (c ∷ cs) path = clean_if (list_any has_pattern (c ∷ cs)) _ _ (clean_step c (walk cs) (clean_walk cs) (path ++ codes "/"))
    (clean_bind (call (probe _)) _ (clean_probe _) (λ a. clean_pure _))

clean_paths : {slots : Slots} (cs : List Word) → Clean slots (paths_of cs)
clean_paths [] = clean_pure []
clean_paths (c ∷ cs) = clean_step c (walk cs) (clean_walk cs) []

clean_expanded_word : {slots : Slots} (w : Word) → Clean slots (expanded_word w)
clean_expanded_word w =
    clean_if (has_pattern w) (names_of w) (pure (w ∷ []))
    (clean_bind (paths_of (components w)) _ (clean_paths (components w)) (λ p. clean_pure (or_itself w p))) (clean_pure (w ∷ []))

pub clean_expanded : {slots : Slots} (ws : List Word) → Clean slots (expanded ws)
clean_expanded [] = clean_pure []
clean_expanded (w ∷ ws) = clean_bind (expanded_word w) _ (clean_expanded_word w) (λ first. clean_bind (expanded ws) _ (clean_expanded ws) (λ others. clean_pure (first ++ others)))
