-- What is handed over reads back.
use Rattle.std.specs.Prelude.{Option, Some, None, option_map, unwrap_or, Result, Ok, IsTrue, map, not, if◌then◌else◌, codes, nat_le, drop, ◌++◌}
use Rattle.std.proofs.Common.{length, ◌≡◌, ℕ, List, [], ◌∷◌, Bool, true, false, refl, sym, ap, ◌∙◌, append-nil}
use Rattle.std.specs.List.{list_all}
use Rattle.std.specs.BTreeMap.{insert_entry}
use Rattle.std.proofs.Math.Seq.{drop-append_seam}
use Rattle.std.proofs.lemmas.Bool.{and_parts, not_from_false}
use Rattle.rc_model.specs.Syntax.Text.{text_cmp, spaced}
use Rattle.rc_model.specs.Run.Calls.{plain}
use Rattle.rc_model.specs.Syntax.Tree.{Node, cmd}
use Rattle.rc_model.specs.Syntax.Tokens.{is_name_char}
use Rattle.rc_model.specs.Run.State.{State, status_name, is_name, value_of}
use Rattle.rc_model.specs.Handed.Pieces.{longest_word, most_pieces, one_word, several_words, pieces}
use Rattle.rc_model.specs.Handed.Image.{node_image, image_words, handed_words, strict_option, shell_args, entries, value_text, handed_values, with_functions, is_fit, is_short, shell_launch}
use Rattle.rc_model.specs.Handed.TreeReading.{◌>>=◌}
use Rattle.rc_model.specs.Handed.Environment.{bindings, is_function, variables_in, status_in, functions_in, with_args, fresh_state, read_state}
use Rattle.rc_model.specs.Handed.Arguments.{as_option, reads, reads_by, options, read_image, entry_state, flat}
use Rattle.rc_model.specs.Handed.Proper.{IsProperTree, IsProper, is_own_name}
use Rattle.rc_model.specs.Handed.HandedLaws.{HandedReadsBack}
use Rattle.law_image.proofs.Words.{words_read_back}
use Rattle.law_image.proofs.Members.{bindings_back, no_equals, members_back}
use Rattle.law_image.proofs.Entries.{keys_hold, variables_skip, variables_back, status_put, star_back, plain_flat}
use Rattle.law_image.proofs.Functions.{fns, fns_of, fns_none, functions_same, functions_back, unseen_none, variables_past, status_past}
use Rattle.law_image.proofs.Functions.{name_no_equals, name_no_function, names_handed, names_functions, fn_binding, AllWritable, handed_writable}
use Rattle.rc_model.specs.declared.fault.ImageFault.{ImageFault}

-- what is handed over beside the functions
abbrev values : State → List (List ℕ × List ℕ)
values s = insert_entry text_cmp (handed_values s.variables) status_name (value_text (s.status ∷ []))

abbrev all_bindings : State → List (List ℕ × List ℕ)
all_bindings s = with_functions s.functions (values s)

chars_of : (name : List ℕ) → IsTrue (is_own_name name) → IsTrue (list_all is_name_char name)
chars_of name h = (and_parts (list_all is_name_char name) _ (and_parts (is_name name) _ h).0).0

names_fit : (s : State) → IsProper s → IsTrue (list_all (λ b. no_equals b.0) (all_bindings s))
names_fit s p =
    names_functions s.functions (values s) p.function_names
    (keys_hold no_equals (handed_values s.variables) status_name (value_text (s.status ∷ [])) (names_handed no_equals (λ n h. name_no_equals n (chars_of n h)) s.variables p.names) refl)

cut_of : (s : State) → IsProper s → bindings (entries s) ≡ all_bindings s
cut_of s p = bindings_back (all_bindings s) (names_fit s p)

variables_of : (s : State) → IsProper s → with_args (value_of s (codes "*")) (variables_in (all_bindings s)) ≡ flat s.variables
variables_of s p =
    let e : variables_in (all_bindings s) ≡ plain_flat s.variables =
    variables_past s.functions (values s) ∙ variables_skip (handed_values s.variables) status_name (value_text (s.status ∷ [])) refl ∙ variables_back s.variables p.names p.ordered in
    ap (λ z. with_args (value_of s (codes "*")) z) e ∙ star_back s.variables (value_of s (codes "*")) p.names p.ordered refl

status_of : (s : State) → status_in (all_bindings s) ≡ s.status
status_of s = status_past s.functions (values s) ∙ status_put (handed_values s.variables) (value_text (s.status ∷ [])) ∙ ap spaced (members_back s.status []) ∙ append-nil s.status

fns_handed : (s : State) → IsProper s → fns (all_bindings s) ≡ map fn_binding s.functions
fns_handed s p =
    let others : fns (values s) ≡ [] = fns_none (values s) (keys_hold (λ n. not (is_function n)) (handed_values s.variables) status_name (value_text (s.status ∷ []))
    (names_handed (λ n. not (is_function n)) (λ n h. not_from_false _ (name_no_function n (chars_of n h))) s.variables p.names) refl) in
    fns_of s.functions (values s) p.function_names p.functions_ordered others

functions_of : (s : State) → IsProper s → AllWritable s.functions → functions_in [] (all_bindings s) ≡ Ok s.functions
functions_of s p w =
    functions_same [] (all_bindings s) ∙ ap (functions_in []) (fns_handed s p)
    ∙ functions_back [] s.functions p.function_names p.functions_ordered w (unseen_none s.functions)

-- the parts of the state, put together
abbrev made_of : List (List ℕ) → List (List ℕ × List ℕ) → Result (List (List ℕ × Node cmd)) ImageFault → Result State ImageFault
made_of args bs fs = fs >>= λ fs. Ok (fresh_state (with_args args (variables_in bs)) fs (status_in bs))

state_back : (s : State) → IsProper s → AllWritable s.functions → read_state true (value_of s (codes "*")) (entries s) ≡ Ok (fresh_state (flat s.variables) s.functions s.status)
state_back s p w =
    ap (λ bs. made_of (value_of s (codes "*")) bs (functions_in [] bs)) (cut_of s p)
    ∙ ap (λ z. made_of (value_of s (codes "*")) (all_bindings s) z) (functions_of s p w)
    ∙ ap (λ z. Ok (fresh_state z s.functions (status_in (all_bindings s)))) (variables_of s p)
    ∙ ap (λ z. Ok (fresh_state (flat s.variables) s.functions z)) (status_of s)

-- the words of the image, and what they leave
image_back : (c : Node cmd) (s : State) (words : List (List ℕ)) → IsProperTree c → image_words c ≡ Some words → IsProper s → AllWritable s.functions
    → read_image s.strict (words ++ value_of s (codes "*")) (entries s) ≡ Ok (c, entry_state s)
image_back c s words t e p w =
    let args = value_of s (codes "*") in
    ap (λ z. z >>= λ image. read_state true (drop image.1 (words ++ value_of s (codes "*"))) (entries s) >>= λ r. Ok (image.0, record r { strict = s.strict }))
    (words_read_back c words (value_of s (codes "*")) t e)
    ∙ ap (λ z. read_state true z (entries s) >>= λ r. Ok (c, record r { strict = s.strict })) (drop-append_seam words (value_of s (codes "*")))
    ∙ ap (λ z. z >>= λ r. Ok (c, record r { strict = s.strict })) (state_back s p w)

options_back : (strict : Bool) (words : List (List ℕ)) → options (strict_option strict ++ (codes "-S" ∷ words)) ≡ Some (strict, words)
options_back true words = refl
options_back false words = refl

-- words that are not too long are those of the image
record Written (c : Node cmd) : Type 0 where
  words : List (List ℕ)
  are : image_words c ≡ Some words
  handed : handed_words c ≡ words

in_one_word : (c : Node cmd) → IsTrue (nat_le (length (codes "rc1;" ++ node_image c)) longest_word) → image_words c ≡ Some (one_word (node_image c))
in_one_word c h = ap (λ t. if t then Some (one_word (node_image c)) else option_map several_words (pieces most_pieces longest_word (node_image c))) h

written_by : (c : Node cmd) (args : List (List ℕ)) (o : Option (List (List ℕ))) → image_words c ≡ o → IsTrue (list_all is_short (unwrap_or o (one_word (node_image c)) ++ args)) → Written c
written_by c args None e h =
    let k = and_parts (is_short (codes "rc1;" ++ node_image c)) (list_all is_short args) h in
    let one = sym (in_one_word c k.0) ∙ e in absurd (cc)
written_by c args (Some words) e h = record { words = words; are = e; handed = ap (λ o. unwrap_or o (one_word (node_image c))) e }

reads_launch : (c : Node cmd) (s : State) → IsProperTree c → Written c → IsProper s → AllWritable s.functions → reads (shell_args c s) (entries s) ≡ Some (c, entry_state s)
reads_launch c s t w p ws =
    ap (λ z. reads_by (options (strict_option s.strict ++ (codes "-S" ∷ (z ++ value_of s (codes "*"))))) (entries s)) w.handed
    ∙ ap (λ z. reads_by z (entries s)) (options_back s.strict (w.words ++ value_of s (codes "*")))
    ∙ ap as_option (image_back c s w.words t w.are p ws)

fit_back : (t : Bool) (x y : List (List ℕ) × List (List ℕ)) → (if t then Some x else None) ≡ Some y → (t ≡ true) × (x ≡ y)
fit_back true x y h = (refl, cc)
fit_back false x y h = absurd (cc)

-- what was handed over is short
after_options : (strict : Bool) (words : List (List ℕ)) → IsTrue (list_all is_short (strict_option strict ++ (codes "-S" ∷ words))) → IsTrue (list_all is_short words)
after_options true words h = h
after_options false words h = h

pub launch_reads_back : (c : Node cmd) (s : State) → IsProperTree c → IsProper s → IsTrue (is_fit (shell_launch plain c s)) → reads (shell_args c s) (entries s) ≡ Some (c, entry_state s)
launch_reads_back c s t p h =
    let k = and_parts (list_all is_short (shell_args c s)) (list_all is_short (entries s)) h in
    let w = written_by c (value_of s (codes "*")) (image_words c) refl (after_options s.strict (handed_words c ++ value_of s (codes "*")) k.0) in
    reads_launch c s t w p (handed_writable s.functions (all_bindings s) (fns_handed s p) p.bodies k.1)

pub handed_reads_back : HandedReadsBack
handed_reads_back c s h t p e =
    let q = fit_back (is_fit (shell_launch plain c s)) _ h e in
    ap (λ (z : List (List ℕ) × List (List ℕ)). reads z.0 z.1) (sym q.1) ∙ launch_reads_back c s t p q.0
