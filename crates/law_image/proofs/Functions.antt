-- The functions that are handed over read back.
use Rattle.std.specs.Prelude.{Ok, IsTrue, map, not, ◌==◌, ◌||◌, if◌then◌else◌, codes, filter}
use Rattle.std.proofs.Common.{◌≡◌, ℕ, List, [], ◌∷◌, ◌++◌, length, Bool, true, false, ◌&&◌, refl, sym, ap, subst, ◌∙◌, arith}
use Rattle.std.specs.List.{list_all, list_any}
use Rattle.std.specs.Str.{bytes_eq}
use Rattle.std.specs.BTreeMap.{insert_entry}
use Rattle.std.specs.declared.cmp.Ordering.TheVariants.{Less, Greater}
use Rattle.std.proofs.lemmas.Bool.{and_parts, and_from, eqb-true, not-true, not_from_false, false≢true, false_from_ne_true, or_from, or_parts}
use Rattle.rc_model.specs.Syntax.Text.{text_cmp, begins_with}
use Rattle.rc_model.specs.Syntax.Tree.{Node, cmd}
use Rattle.rc_model.specs.Syntax.Tokens.{is_name_char}
use Rattle.rc_model.specs.Run.State.{visible, is_function_name}
use Rattle.rc_model.specs.Handed.Image.{stays_behind, value_text, image, with_binding, handed_values, with_functions}
use Rattle.rc_model.specs.Handed.TreeReading.{read_tree}
use Rattle.rc_model.specs.Handed.Environment.{variables_in, status_in, is_function, with_function, functions_in}
use Rattle.rc_model.specs.Handed.Proper.{Above, Ordered, IsProperTree, AllProperTrees, is_own_name}
use Rattle.rc_model.specs.Run.Numbers.{greatest_number}
use Rattle.rc_model.specs.Syntax.WellFormed.{well_formed}
use Rattle.rc_model.specs.Handed.TreeSpelling.{has_characters, within}
use Rattle.rc_model.specs.Handed.Image.{entry, is_short, node_image}
use Rattle.std.proofs.Common.{◌≤◌, length-append}
use Rattle.std.proofs.lemmas.Bool.{leb-true}
use Rattle.law_image.proofs.Sizes.{within_of}
use Rattle.law_image.proofs.Exact.{if_is}
use Rattle.law_image.proofs.Trees.{trees_read_back}
use Rattle.law_image.proofs.Members.{no_equals}
use Rattle.law_image.proofs.Entries.{by_order, equal_texts, less_differ, turned, put_first, keys_hold, variables_skip, status_skip}

-- a tree that can be written
pub record Writable (c : Node cmd) : Type 0 where
  pub sound : IsTrue (well_formed c)
  pub characters : IsTrue (has_characters c)
  pub sizes : IsTrue (within greatest_number c)

abbrev pub AllWritable : List (List ℕ × Node cmd) → Type 0
AllWritable [] = Unit {0}
AllWritable (f ∷ fs) = Writable f.1 × AllWritable fs

abbrev pub fn_name : List ℕ → List ℕ
fn_name name = codes "fn#" ++ name

abbrev pub fn_binding : List ℕ × Node cmd → List ℕ × List ℕ
fn_binding f = (fn_name f.0, image f.1)

-- the bindings of functions
abbrev pub fns : List (List ℕ × List ℕ) → List (List ℕ × List ℕ)
fns bs = filter (λ b. is_function b.0) bs

-- no other bindings matter
same_case : (seen : List (List ℕ)) (b : List ℕ × List ℕ) (bs : List (List ℕ × List ℕ))
    → functions_in (b.0 ∷ seen) bs ≡ functions_in (b.0 ∷ seen) (fns bs) → functions_in seen bs ≡ functions_in seen (fns bs) → (t : Bool)
    → is_function b.0 ≡ t
    → (if t && not (list_any (bytes_eq b.0) seen) then with_function b.0 (read_tree b.1) (functions_in (b.0 ∷ seen) bs) else functions_in seen bs) ≡ functions_in seen
    (if t then b ∷ fns bs else fns bs)
same_case seen b bs f g true e =
    ap (λ z. if not (list_any (bytes_eq b.0) seen) then with_function b.0 (read_tree b.1) z else functions_in seen bs) f
    ∙ ap (λ z. if not (list_any (bytes_eq b.0) seen) then with_function b.0 (read_tree b.1) (functions_in (b.0 ∷ seen) (fns bs)) else z) g
    ∙ ap (λ t. if t && not (list_any (bytes_eq b.0) seen) then with_function b.0 (read_tree b.1) (functions_in (b.0 ∷ seen) (fns bs)) else functions_in seen (fns bs)) (sym e)
same_case seen b bs f g false e = g

pub functions_same : (seen : List (List ℕ)) (bs : List (List ℕ × List ℕ)) → functions_in seen bs ≡ functions_in seen (fns bs)
functions_same seen [] = refl
functions_same seen (b ∷ bs) = same_case seen b bs (functions_same (b.0 ∷ seen) bs) (functions_same seen bs) (is_function b.0) refl

-- a function in front of the others is put before them, whatever else is there
keep : (k v : List ℕ) (es : List (List ℕ × List ℕ)) → is_function k ≡ true → fns ((k, v) ∷ es) ≡ (k, v) ∷ fns es
keep k v es h = ap (λ t. if t then (k, v) ∷ fns es else fns es) h

above_head : (k : List ℕ) (e : List ℕ × List ℕ) (es : List (List ℕ × List ℕ)) → is_function e.0 ≡ true → Above k (fns (e ∷ es)) → text_cmp k e.0 ≡ Less
above_head k e es h a = (subst (λ t. Above k (if t then e ∷ fns es else fns es)) h a).0

put_case : (k v : List ℕ) (e : List ℕ × List ℕ) (es others : List (List ℕ × List ℕ)) → text_cmp k e.0 ≡ Greater → (Above k (fns es) → fns others ≡ (k, v) ∷ fns es) → (t : Bool) → is_function e.0 ≡ t
    → Above k (if t then e ∷ fns es else fns es) → (if t then e ∷ fns others else fns others) ≡ (k, v) ∷ (if t then e ∷ fns es else fns es)
put_case k v e es others o f true h a = let l = a.0 in absurd (cc)
put_case k v e es others o f false h a = f a

fns_put : (es : List (List ℕ × List ℕ)) (k v : List ℕ) → is_function k ≡ true → Above k (fns es) → fns (insert_entry text_cmp es k v) ≡ (k, v) ∷ fns es
fns_put [] k v h a = keep k v [] h
fns_put (e ∷ es) k v h a =
    by_order (λ (z : List (List ℕ × List ℕ)). fns z ≡ (k, v) ∷ fns (e ∷ es)) (text_cmp k e.0) _ _ _
    (λ o. keep k v (e ∷ es) h)
    (λ o. let l : text_cmp k e.0 ≡ Less = above_head k e es (ap is_function (sym (equal_texts k e.0 o)) ∙ h) a in absurd (cc))
    (λ o. put_case k v e es (insert_entry text_cmp es k v) o (λ b. fns_put es k v h b) (is_function e.0) refl a)

above_fns : (k : List ℕ) (fs : List (List ℕ × Node cmd)) → Above k fs → Above (fn_name k) (map fn_binding fs)
above_fns k [] h = tt
above_fns k (f ∷ fs) h = (h.0, above_fns k fs h.1)

pub fns_of : (fs : List (List ℕ × Node cmd)) (others : List (List ℕ × List ℕ)) → IsTrue (list_all (λ f. is_function_name f.0) fs) → Ordered fs
    → fns others ≡ [] → fns (with_functions fs others) ≡ map fn_binding fs
fns_of [] others n o h = h
fns_of (f ∷ fs) others n o h =
    let k = and_parts (is_function_name f.0) (list_all (λ f. is_function_name f.0) fs) n in
    let ih = fns_of fs others k.1 o.1 h in
    fns_put (with_functions fs others) (fn_name f.0) (image f.1) k.0 (subst (λ z. Above (fn_name f.0) z) (sym ih) (above_fns f.0 fs o.0)) ∙ ap (λ z. fn_binding f ∷ z) ih

-- names that weren't seen before
abbrev pub Unseen : List (List ℕ) → List (List ℕ × Node cmd) → Type 0
Unseen seen [] = Unit {0}
Unseen seen (f ∷ fs) = (list_any (bytes_eq (fn_name f.0)) seen ≡ false) × Unseen seen fs

unseen_more : (k : List ℕ) (seen : List (List ℕ)) (fs : List (List ℕ × Node cmd)) → Above k fs → Unseen seen fs → Unseen (fn_name k ∷ seen) fs
unseen_more k seen [] a u = tt
unseen_more k seen (f ∷ fs) a u = (or_from (bytes_eq f.0 k) _ (turned k f.0 (less_differ k f.0 a.0)) u.0, unseen_more k seen fs a.1 u.1)

pub unseen_none : (fs : List (List ℕ × Node cmd)) → Unseen [] fs
unseen_none [] = tt
unseen_none (f ∷ fs) = (refl, unseen_none fs)

pub functions_back : (seen : List (List ℕ)) (fs : List (List ℕ × Node cmd)) → IsTrue (list_all (λ f. is_function_name f.0) fs) → Ordered fs
    → AllWritable fs → Unseen seen fs → functions_in seen (map fn_binding fs) ≡ Ok fs
functions_back seen [] n o w u = refl
functions_back seen (f ∷ fs) n o w u =
    let k = and_parts (is_function_name f.0) (list_all (λ f. is_function_name f.0) fs) n in
    let ih = functions_back (fn_name f.0 ∷ seen) fs k.1 o.1 w.1 (unseen_more f.0 seen fs o.0 u.1) in
    if_is (is_function (fn_name f.0) && not (list_any (bytes_eq (fn_name f.0)) seen)) _ _ (and_from (is_function (fn_name f.0)) _ k.0 (not_from_false _ u.0))
    ∙ ap (λ z. with_function (fn_name f.0) z (functions_in (fn_name f.0 ∷ seen) (map fn_binding fs))) (trees_read_back f.1 w.0.sound w.0.characters w.0.sizes)
    ∙ ap (λ z. with_function (fn_name f.0) (Ok f.1) z) ih
    ∙ ap (λ z. Ok z) (put_first fs f.0 f.1 o.0)

-- functions are neither variables nor the status
pub variables_past : (fs : List (List ℕ × Node cmd)) (others : List (List ℕ × List ℕ)) → variables_in (with_functions fs others) ≡ variables_in others
variables_past [] others = refl
variables_past (f ∷ fs) others = variables_skip (with_functions fs others) (fn_name f.0) (image f.1) refl ∙ variables_past fs others

pub status_past : (fs : List (List ℕ × Node cmd)) (others : List (List ℕ × List ℕ)) → status_in (with_functions fs others) ≡ status_in others
status_past [] others = refl
status_past (f ∷ fs) others = status_skip (with_functions fs others) (fn_name f.0) (image f.1) refl ∙ status_past fs others

-- a variable is no function
char_no_equals : (c : ℕ) → IsTrue (is_name_char c) → (c == 61) ≡ false
char_no_equals c h = false_from_ne_true (c == 61) (λ e. false≢true (ap is_name_char (sym (eqb-true c 61 e)) ∙ h))

pub name_no_equals : (name : List ℕ) → IsTrue (list_all is_name_char name) → IsTrue (no_equals name)
name_no_equals [] h = refl
name_no_equals (c ∷ name) h =
    let k = and_parts (is_name_char c) (list_all is_name_char name) h in
    and_from (not (c == 61)) _ (not_from_false (c == 61) (char_no_equals c k.0)) (name_no_equals name k.1)

any_no_equals : (name : List ℕ) → list_any (λ c. (c == 61) || (c == 0)) name ≡ false → IsTrue (no_equals name)
any_no_equals [] h = refl
any_no_equals (c ∷ name) h =
    let k = or_parts ((c == 61) || (c == 0)) (list_any (λ c. (c == 61) || (c == 0)) name) h in
    and_from (not (c == 61)) _ (not_from_false (c == 61) (or_parts (c == 61) (c == 0) k.0).0) (any_no_equals name k.1)

pub function_no_equals : (name : List ℕ) → IsTrue (is_function_name name) → IsTrue (no_equals (fn_name name))
function_no_equals name h = any_no_equals name (not-true _ (and_parts (not (length name == 0)) _ h).1)

pub name_no_function : (name : List ℕ) → IsTrue (list_all is_name_char name) → is_function name ≡ false
name_no_function [] h = refl
name_no_function (a ∷ []) h = false_from_ne_true _ (λ e. false≢true ((and_parts (102 == a) false (and_parts (begins_with (codes "fn#") (a ∷ [])) _ e).0).1))
name_no_function (a ∷ b ∷ []) h =
    false_from_ne_true _
    (λ e. false≢true ((and_parts (110 == b) false (and_parts (102 == a) ((110 == b) && false) (and_parts (begins_with (codes "fn#") (a ∷ b ∷ [])) _ e).0).1).1))
name_no_function (a ∷ b ∷ c ∷ name) h = false_from_ne_true _ (λ e.
    let u = and_parts (102 == a) ((110 == b) && ((35 == c) && true)) (and_parts (begins_with (codes "fn#") (a ∷ b ∷ c ∷ name)) _ e).0 in
    let v = and_parts (110 == b) ((35 == c) && true) u.1 in
    let w = eqb-true 35 c (and_parts (35 == c) true v.1).0 in
    let p = and_parts (is_name_char a) (is_name_char b && (is_name_char c && list_all is_name_char name)) h in
    let q = and_parts (is_name_char b) (is_name_char c && list_all is_name_char name) p.1 in
    let r = and_parts (is_name_char c) (list_all is_name_char name) q.1 in
    false≢true (ap is_name_char w ∙ r.0))

-- no binding among these is one of a function
pub fns_none : (es : List (List ℕ × List ℕ)) → IsTrue (list_all (λ e. not (is_function e.0)) es) → fns es ≡ []
fns_none [] h = refl
fns_none (e ∷ es) h =
    let k = and_parts (not (is_function e.0)) (list_all (λ e. not (is_function e.0)) es) h in
    ap (λ t. if t then e ∷ fns es else fns es) (not-true _ k.0) ∙ fns_none es k.1

-- what holds of the names of variables holds of what is handed over
names_if : (P : List ℕ → Bool) (name v : List ℕ) (t : Bool) (es : List (List ℕ × List ℕ)) → IsTrue (P name) → IsTrue (list_all (λ e. P e.0) es)
    → IsTrue (list_all (λ e. P e.0) (if t then es else (name, v) ∷ es))
names_if P name v true es p h = h
names_if P name v false es p h = and_from (P name) _ p h

names_one : (P : List ℕ → Bool) (name : List ℕ) (value : List (List ℕ)) (es : List (List ℕ × List ℕ)) → IsTrue (P name)
    → IsTrue (list_all (λ e. P e.0) es) → IsTrue (list_all (λ e. P e.0) (with_binding name value es))
names_one P name [] es p h = h
names_one P name (m ∷ ms) es p h = names_if P name (value_text (m ∷ ms)) (stays_behind name) es p h

pub names_handed : (P : List ℕ → Bool) → ((name : List ℕ) → IsTrue (is_own_name name) → IsTrue (P name)) → (bs : List (List ℕ × List (List (List ℕ))))
    → IsTrue (list_all (λ b. is_own_name b.0) bs) → IsTrue (list_all (λ e. P e.0) (handed_values bs))
names_handed P f [] h = refl
names_handed P f (b ∷ bs) h =
    let k = and_parts (is_own_name b.0) (list_all (λ b. is_own_name b.0) bs) h in
    names_one P b.0 (visible b.1) (handed_values bs) (f b.0 k.0) (names_handed P f bs k.1)

pub names_functions : (fs : List (List ℕ × Node cmd)) (others : List (List ℕ × List ℕ)) → IsTrue (list_all (λ f. is_function_name f.0) fs)
    → IsTrue (list_all (λ e. no_equals e.0) others) → IsTrue (list_all (λ e. no_equals e.0) (with_functions fs others))
names_functions [] others n h = h
names_functions (f ∷ fs) others n h =
    let k = and_parts (is_function_name f.0) (list_all (λ f. is_function_name f.0) fs) n in
    keys_hold no_equals (with_functions fs others) (fn_name f.0) (image f.1) (names_functions fs others k.1 h) (function_no_equals f.0 k.0)

-- what is short enough to be handed over can be written
short_image : (c : Node cmd) → length (image c) ≤ 100000 → length (node_image c) ≤ greatest_number
short_image c h = omega (arith, length-append (codes "rc1;") (node_image c))

pub writable : (c : Node cmd) → IsProperTree c → length (image c) ≤ 100000 → Writable c
writable c t h = record { sound = t.sound; characters = t.characters; sizes = within_of c greatest_number (short_image c h) }

short_entry : (b : List ℕ × List ℕ) → IsTrue (is_short (entry b)) → length b.1 ≤ 100000
short_entry b h = let l : length (entry b) ≤ 100000 = leb-true (length (entry b)) 100000 h in omega (arith, l, length-append b.0 (61 ∷ b.1))

all_map : (bs : List (List ℕ × List ℕ)) → IsTrue (list_all is_short (map entry bs)) → IsTrue (list_all (λ b. is_short (entry b)) bs)
all_map [] h = refl
all_map (b ∷ bs) h = let k = and_parts (is_short (entry b)) (list_all is_short (map entry bs)) h in and_from (is_short (entry b)) _ k.0 (all_map bs k.1)

fns_if : (Q : List ℕ × List ℕ → Bool) (b : List ℕ × List ℕ) (bs : List (List ℕ × List ℕ)) (t : Bool) → IsTrue (Q b) → IsTrue (list_all Q bs) → IsTrue (list_all Q (if t then b ∷ bs else bs))
fns_if Q b bs true p h = and_from (Q b) _ p h
fns_if Q b bs false p h = h

all_fns : (Q : List ℕ × List ℕ → Bool) (bs : List (List ℕ × List ℕ)) → IsTrue (list_all Q bs) → IsTrue (list_all Q (fns bs))
all_fns Q [] h = refl
all_fns Q (b ∷ bs) h = let k = and_parts (Q b) (list_all Q bs) h in fns_if Q b (fns bs) (is_function b.0) k.0 (all_fns Q bs k.1)

all_writable : (fs : List (List ℕ × Node cmd)) → AllProperTrees fs → IsTrue (list_all (λ b. is_short (entry b)) (map fn_binding fs)) → AllWritable fs
all_writable [] t h = tt
all_writable (f ∷ fs) t h =
    let k = and_parts (is_short (entry (fn_binding f))) (list_all (λ b. is_short (entry b)) (map fn_binding fs)) h in
    (writable f.1 t.0 (short_entry (fn_binding f) k.0), all_writable fs t.1 k.1)

pub handed_writable : (fs : List (List ℕ × Node cmd)) (bs : List (List ℕ × List ℕ)) → fns bs ≡ map fn_binding fs → AllProperTrees fs → IsTrue (list_all is_short (map entry bs)) → AllWritable fs
handed_writable fs bs e t h = all_writable fs t (subst (λ z. IsTrue (list_all (λ b. is_short (entry b)) z)) e (all_fns (λ b. is_short (entry b)) bs (all_map bs h)))
