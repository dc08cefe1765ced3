-- What is read of arguments and entries is the state that they denote, and no other.
use Rattle.std.specs.Prelude.{Option, Some, None, Ok, map, not, ◌==◌, ◌||◌, if◌then◌else◌, codes, option_map}
use Rattle.std.proofs.Common.{◌≡◌, ◌≢◌, ◌↔◌, ℕ, List, [], ◌∷◌, ◌++◌, Bool, true, false, refl, sym, ap, subst, ◌∙◌}
use Rattle.std.specs.List.{list_all, slice_split, onto_first}
use Rattle.std.specs.Str.{bytes_eq}
use Rattle.std.specs.BTreeMap.{insert_entry}
use Rattle.std.proofs.lemmas.Bool.{and_parts, and_from, eqb-true, not-true, not_from_false, false≢true, false_from_ne_true, or_from, or_parts}
use Rattle.std.proofs.lemmas.Slice.Eq.{bytes_eq-Decides}
use Rattle.rc_model.specs.Syntax.Text.{text_cmp, spaced}
use Rattle.rc_model.specs.Syntax.Tree.{Node, cmd}
use Rattle.rc_model.specs.Run.State.{State, status_name, is_function_name}
use Rattle.rc_model.specs.Handed.Image.{stays_behind}
use Rattle.rc_model.specs.Handed.TreeReading.{read_tree}
use Rattle.rc_model.specs.Handed.Environment.{Bindings, Variables, Functions, unescaped, entry_members, cut_entry, with_first, with_cut, bindings}
use Rattle.rc_model.specs.Handed.Environment.{is_variable, variables_in, status_in, with_args, own_functions, own_status, fresh_state, read_state}
use Rattle.rc_model.specs.Handed.Proper.{IsProper}
use Rattle.rc_model.specs.Handed.Denoted.{IsEntryOf, FirstOf, here, later, begins_letter, IsWritten, nothing, one, two, alone, itself, is_part}
use Rattle.rc_model.specs.Handed.Denoted.{AreWritten, last, next, HasMembers, from_args, from_entry, HasBody, HasStatus, handed, null, Denotes}
use Rattle.rc_model.specs.Handed.Denoted.{ReadsWhatIsDenoted}
use Rattle.law_image.proofs.Exact.{ok_inj, bind_back, bind_on}
use Rattle.law_image.proofs.Trees.{reads_spellings}
use Rattle.law_image.proofs.Members.{is_one, past_other, split_last, split_first, cut_back}
use Rattle.law_image.proofs.Entries.{turned}
use Rattle.law_image.proofs.Functions.{fn_name}
use Rattle.law_image.proofs.DenotedFunctions.{HasBodyIn, functions_found, reads_each, all_read}
use Rattle.law_image.proofs.ReadProper.{reads_proper}
use Rattle.law_image.proofs.Lookups.{find, same_text, find_insert, same_maps}

-- ** entries

-- a name and a text
abbrev Pair : Type 0
Pair = List ℕ × List ℕ

abbrev Same : Pair → Pair → Type 0
Same p q = p ≡ q

cut_more : (b : ℕ) (bs name text : List ℕ) (o : Option (List ℕ × List ℕ)) → ((n t : List ℕ) → o ≡ Some (n, t) → IsEntryOf n t bs) → (b == 61) ≡ false
    → with_first b o ≡ Some (name, text) → IsEntryOf name text (b ∷ bs)
cut_more b bs name text None f h g = absurd cc
cut_more b bs name text (Some x) f h g =
    let k = f x.0 x.1 refl in
    let pair : Same (b ∷ x.0, x.1) (name, text) = cc in
    let front : b ∷ x.0 ≡ name = ap (λ z. z.0) pair in
    let back : x.1 ≡ text = ap (λ z. z.1) pair in
    record {
      is = ap (λ z. b ∷ z) k.is ∙ ap (λ z. z ++ 61 ∷ x.1) front ∙ ap (λ z. name ++ 61 ∷ z) back;
      whole = subst (λ z. list_all (λ b. not (b == 61)) z ≡ true) front (and_from (not (b == 61)) (list_all (λ b. not (b == 61)) x.0) (not_from_false (b == 61) h) k.whole);
    }

cut_by : (b : ℕ) (bs name text : List ℕ) (t : Bool) → (b == 61) ≡ t → ((n u : List ℕ) → cut_entry bs ≡ Some (n, u) → IsEntryOf n u bs)
    → (if t then Some ([], bs) else with_first b (cut_entry bs)) ≡ Some (name, text) → IsEntryOf name text (b ∷ bs)
cut_by b bs name text true h f g =
    let pair : Same ([], bs) (name, text) = cc in
    let front : [] ≡ name = ap (λ z. z.0) pair in
    let back : bs ≡ text = ap (λ z. z.1) pair in
    record { is = ap (λ z. z ∷ bs) (eqb-true b 61 h) ∙ ap (λ z. z ++ 61 ∷ bs) front ∙ ap (λ z. name ++ 61 ∷ z) back; whole = subst (λ z. list_all (λ b. not (b == 61)) z ≡ true) front refl }
cut_by b bs name text false h f g = cut_more b bs name text (cut_entry bs) f h g

entry_of : (e name text : List ℕ) → cut_entry e ≡ Some (name, text) → IsEntryOf name text e
entry_of [] name text h = absurd cc
entry_of (b ∷ bs) name text h = cut_by b bs name text (b == 61) refl (entry_of bs) h

cut_of : (e name text : List ℕ) → IsEntryOf name text e → cut_entry e ≡ Some (name, text)
cut_of e name text i = ap cut_entry i.is ∙ cut_back name text i.whole

past_cut : (name : List ℕ) (e : List ℕ) (bs : Bindings) (o : Option (List ℕ × List ℕ)) → cut_entry e ≡ o → ((other : List ℕ) → IsEntryOf name other e → ⊥) → find name (with_cut o bs) ≡ find name bs
past_cut name e bs None h n = refl
past_cut name e bs (Some b) h n =
    ap (λ t. if t then Some b.1 else find name bs)
    (false_from_ne_true (bytes_eq name b.0) (λ q. n b.1 (entry_of e name b.1 (h ∙ ap (λ z. Some (z, b.1)) (sym ((bytes_eq-Decides name b.0).0 q))))))

first_found : (name text : List ℕ) (es : List (List ℕ)) → FirstOf name text es → find name (bindings es) ≡ Some text
first_found name text es (here e rest i) =
    ap (λ o. find name (with_cut o (bindings rest))) (cut_of e name text i) ∙ ap (λ t. if t then Some text else find name (bindings rest)) (same_text name)
first_found name text es (later e rest n k) = past_cut name e (bindings rest) (cut_entry e) refl n ∙ first_found name text rest k

found_head : (name text e : List ℕ) (es : List (List ℕ)) (b : List ℕ × List ℕ) (t : Bool) → cut_entry e ≡ Some b → bytes_eq name b.0 ≡ t → (find name (bindings es) ≡ Some text → FirstOf name text es)
    → (if t then Some b.1 else find name (bindings es)) ≡ Some text → FirstOf name text (e ∷ es)
found_head name text e es b true c h f g =
    let front : b.0 ≡ name = sym ((bytes_eq-Decides name b.0).0 h) in
    let back : b.1 ≡ text = cc in
    here e es (entry_of e name text (c ∙ ap (λ z. Some (z, b.1)) front ∙ ap (λ z. Some (name, z)) back))
found_head name text e es b false c h f g =
    later e es (λ other i.
    let q = cut_of e name other i in
    let pair : Same (name, other) b = cc in
    false≢true (sym h ∙ (bytes_eq-Decides name b.0).1 (ap (λ z. z.0) pair))) (f g)

found_by : (name text e : List ℕ) (es : List (List ℕ)) (o : Option (List ℕ × List ℕ)) → cut_entry e ≡ o
    → (find name (bindings es) ≡ Some text → FirstOf name text es) → find name (with_cut o (bindings es)) ≡ Some text → FirstOf name text (e ∷ es)
found_by name text e es None h f g = later e es (λ other i. let q = cut_of e name other i in absurd cc) (f g)
found_by name text e es (Some b) h f g = found_head name text e es b (bytes_eq name b.0) h refl f g

found_first : (name text : List ℕ) (es : List (List ℕ)) → find name (bindings es) ≡ Some text → FirstOf name text es
found_first name text [] h = absurd cc
found_first name text (e ∷ es) h = found_by name text e es (cut_entry e) refl (found_first name text es) h

-- ** members

alone_step : (bytes : List ℕ) → begins_letter bytes ≡ false → unescaped (2 ∷ bytes) ≡ 2 ∷ unescaped bytes
alone_step [] h = refl
alone_step (b ∷ bytes) h =
    let k = or_parts (b == 65) (b == 66) h in
    ap (λ t. if t then 1 ∷ unescaped bytes else (if b == 66 then 2 ∷ unescaped bytes else 2 ∷ unescaped (b ∷ bytes))) k.0 ∙ ap (λ t. if t then 2 ∷ unescaped bytes else 2 ∷ unescaped (b ∷ bytes)) k.1

unescaped_is : (m bytes : List ℕ) → IsWritten m bytes → unescaped bytes ≡ m
unescaped_is m bytes nothing = refl
unescaped_is m bytes (one n bs k) = ap (λ z. 1 ∷ z) (unescaped_is n bs k)
unescaped_is m bytes (two n bs k) = ap (λ z. 2 ∷ z) (unescaped_is n bs k)
unescaped_is m bytes (alone n bs h k) = alone_step bs h ∙ ap (λ z. 2 ∷ z) (unescaped_is n bs k)
unescaped_is m bytes (itself b n bs h k) = past_other b bs h ∙ ap (λ z. b ∷ z) (unescaped_is n bs k)

written_by : (b c : ℕ) (rest : List ℕ) (t u v : Bool) → (b == 2) ≡ t → (c == 65) ≡ u → (c == 66) ≡ v → IsWritten (unescaped rest) rest → IsWritten (unescaped (c ∷ rest)) (c ∷ rest)
    → IsWritten (if t then (if u then 1 ∷ unescaped rest else (if v then 2 ∷ unescaped rest else 2 ∷ unescaped (c ∷ rest))) else b ∷ unescaped (c ∷ rest)) (b ∷ c ∷ rest)
written_by b c rest true true v h k l far near =
    subst (λ z. IsWritten (1 ∷ unescaped rest) (z ∷ c ∷ rest)) (sym (eqb-true b 2 h))
    (subst (λ z. IsWritten (1 ∷ unescaped rest) (2 ∷ z ∷ rest)) (sym (eqb-true c 65 k)) (one (unescaped rest) rest far))
written_by b c rest true false true h k l far near =
    subst (λ z. IsWritten (2 ∷ unescaped rest) (z ∷ c ∷ rest)) (sym (eqb-true b 2 h))
    (subst (λ z. IsWritten (2 ∷ unescaped rest) (2 ∷ z ∷ rest)) (sym (eqb-true c 66 l)) (two (unescaped rest) rest far))
written_by b c rest true false false h k l far near =
    subst (λ z. IsWritten (2 ∷ unescaped (c ∷ rest)) (z ∷ c ∷ rest)) (sym (eqb-true b 2 h))
    (alone (unescaped (c ∷ rest)) (c ∷ rest) (or_from (c == 65) (c == 66) k l) near)
written_by b c rest false u v h k l far near = itself b (unescaped (c ∷ rest)) (c ∷ rest) h near

last_byte : (b : ℕ) (t : Bool) → (b == 2) ≡ t → IsWritten (b ∷ []) (b ∷ [])
last_byte b true h = subst (λ z. IsWritten (z ∷ []) (z ∷ [])) (sym (eqb-true b 2 h)) (alone [] [] refl nothing)
last_byte b false h = itself b [] [] h nothing

is_written : (bytes : List ℕ) → IsWritten (unescaped bytes) bytes
is_written [] = nothing
is_written (b ∷ []) = last_byte b (b == 2) refl
is_written (b ∷ c ∷ rest) = written_by b c rest (b == 2) (c == 65) (c == 66) refl refl refl (is_written rest) (is_written (c ∷ rest))

members_are : (ms : List (List ℕ)) (text : List ℕ) → AreWritten ms text → entry_members text ≡ ms
members_are ms text (last m part p w) = ap (map unescaped) (split_last part p) ∙ ap (λ z. z ∷ []) (unescaped_is m part w)
members_are ms text (next m part ns rest text' is p w k) =
    ap entry_members is ∙ ap (map unescaped) (split_first part rest p) ∙ ap (λ z. z ∷ entry_members rest) (unescaped_is m part w) ∙ ap (λ z. m ∷ z) (members_are ns rest k)

-- parts with bytes 1 between them
data Parts : List (List ℕ) → List ℕ → Type 0 where
  last_part : (part : List ℕ) → is_part part ≡ true → Parts (part ∷ []) part
  next_part : (part : List ℕ) (parts : List (List ℕ)) (rest text : List ℕ) → text ≡ part ++ 1 ∷ rest → is_part part ≡ true → Parts parts rest → Parts (part ∷ parts) text

onto : (b : ℕ) (parts : List (List ℕ)) (text : List ℕ) → (b == 1) ≡ false → Parts parts text → Parts (onto_first b parts) (b ∷ text)
onto b parts text h (last_part part p) = last_part (b ∷ part) (and_from (not (b == 1)) (is_part part) (not_from_false (b == 1) h) p)
onto b parts text h (next_part part more rest text' is p k) = next_part (b ∷ part) more rest (b ∷ text') (ap (λ z. b ∷ z) is) (and_from (not (b == 1)) (is_part part) (not_from_false (b == 1) h) p) k

parts_by : (b : ℕ) (text : List ℕ) (t : Bool) → (b == 1) ≡ t → Parts (slice_split is_one text) text
    → Parts (if t then [] ∷ slice_split is_one text else onto_first b (slice_split is_one text)) (b ∷ text)
parts_by b text true h k = next_part [] (slice_split is_one text) text (b ∷ text) (ap (λ z. z ∷ text) (eqb-true b 1 h)) refl k
parts_by b text false h k = onto b (slice_split is_one text) text h k

parts_of : (text : List ℕ) → Parts (slice_split is_one text) text
parts_of [] = last_part [] refl
parts_of (b ∷ text) = parts_by b text (b == 1) refl (parts_of text)

written_parts : (parts : List (List ℕ)) (text : List ℕ) → Parts parts text → AreWritten (map unescaped parts) text
written_parts parts text (last_part part p) = last (unescaped part) part p (is_written part)
written_parts parts text (next_part part more rest text' is p k) = next (unescaped part) part (map unescaped more) rest text' is p (is_written part) (written_parts more rest k)

are_written : (text : List ℕ) → AreWritten (entry_members text) text
are_written text = written_parts (slice_split is_one text) text (parts_of text)

-- ** variables

abbrev value_in : Bool → Option (List ℕ) → Option (List (List (List ℕ)))
value_in t o = if t then option_map (λ text. entry_members text ∷ []) o else None

none_in : (t : Bool) → None ≡ value_in t None
none_in true = refl
none_in false = refl

variable_step : (b : List ℕ × List ℕ) (bs : Bindings) (q : List ℕ) (t u : Bool) → is_variable b.0 ≡ t → bytes_eq q b.0 ≡ u → find q (variables_in bs) ≡ value_in (is_variable q) (find q bs)
    → find q (if t then insert_entry text_cmp (variables_in bs) b.0 (entry_members b.1 ∷ []) else variables_in bs) ≡ value_in (is_variable q) (if u then Some b.1 else find q bs)
variable_step b bs q true true h k f =
    find_insert q (variables_in bs) b.0 (entry_members b.1 ∷ []) ∙ ap (λ z. if z then Some (entry_members b.1 ∷ []) else find q (variables_in bs)) k
    ∙ sym (ap (λ z. value_in z (Some b.1)) (ap is_variable ((bytes_eq-Decides q b.0).0 k) ∙ h))
variable_step b bs q true false h k f = find_insert q (variables_in bs) b.0 (entry_members b.1 ∷ []) ∙ ap (λ z. if z then Some (entry_members b.1 ∷ []) else find q (variables_in bs)) k ∙ f
variable_step b bs q false true h k f =
    let no : is_variable q ≡ false = ap is_variable ((bytes_eq-Decides q b.0).0 k) ∙ h in
    f ∙ ap (λ z. value_in z (find q bs)) no ∙ sym (ap (λ z. value_in z (Some b.1)) no)
variable_step b bs q false false h k f = f

variable_found : (bs : Bindings) (q : List ℕ) → find q (variables_in bs) ≡ value_in (is_variable q) (find q bs)
variable_found [] q = none_in (is_variable q)
variable_found (b ∷ bs) q = variable_step b bs q (is_variable b.0) (bytes_eq q b.0) refl refl (variable_found bs q)

abbrev Valued : (args entries : List (List ℕ)) → List ℕ → List (List (List ℕ)) → Type 0
Valued args entries name values = (members : List (List ℕ)) × (values ≡ members ∷ []) × HasMembers args entries name members

valued_by : (args entries : List (List ℕ)) (name : List ℕ) (values : List (List (List ℕ))) (t : Bool) (o : Option (List ℕ)) → is_variable name ≡ t
    → find name (bindings entries) ≡ o → value_in t o ≡ Some values → Valued args entries name values
valued_by args entries name values true None h k g = absurd cc
valued_by args entries name values true (Some text) h k g =
    let is : values ≡ entry_members text ∷ [] = cc in
    (entry_members text, is, from_entry text h (found_first name text entries k) (are_written text))
valued_by args entries name values false o h k g = absurd cc

valued : (args entries : List (List ℕ)) (name : List ℕ) (values : List (List (List ℕ))) → find name (variables_in (bindings entries)) ≡ Some values → Valued args entries name values
valued args entries name values g = valued_by args entries name values (is_variable name) (find name (bindings entries)) refl refl (sym (variable_found (bindings entries) name) ∙ g)

valued_args_by : (a : List ℕ) (args entries : List (List ℕ)) (name : List ℕ) (values : List (List (List ℕ))) (t : Bool) → bytes_eq name (codes "*") ≡ t
    → (if t then Some ((a ∷ args) ∷ []) else find name (variables_in (bindings entries))) ≡ Some values → Valued (a ∷ args) entries name values
valued_args_by a args entries name values true h g =
    let is : values ≡ (a ∷ args) ∷ [] = cc in
    (a ∷ args, is, from_args ((bytes_eq-Decides name (codes "*")).0 h) refl (λ e. absurd cc))
valued_args_by a args entries name values false h g = valued (a ∷ args) entries name values g

valued_args : (args entries : List (List ℕ)) (name : List ℕ) (values : List (List (List ℕ)))
    → find name (with_args args (variables_in (bindings entries))) ≡ Some values → Valued args entries name values
valued_args [] entries name values g = valued [] entries name values g
valued_args (a ∷ args) entries name values g =
    valued_args_by a args entries name values (bytes_eq name (codes "*")) refl (sym (find_insert name (variables_in (bindings entries)) (codes "*") ((a ∷ args) ∷ [])) ∙ g)

star_found : (args : List (List ℕ)) (vs : Variables) → args ≢ [] → find (codes "*") (with_args args vs) ≡ Some (args ∷ [])
star_found [] vs n = absurd (n refl)
star_found (a ∷ args) vs n = find_insert (codes "*") vs (codes "*") ((a ∷ args) ∷ [])

past_args : (args : List (List ℕ)) (vs : Variables) (name : List ℕ) → is_variable name ≡ true → find name (with_args args vs) ≡ find name vs
past_args [] vs name h = refl
past_args (a ∷ args) vs name h =
    let kept : (bytes_eq name (codes "*") || bytes_eq name status_name) ≡ false = not-true _ (and_parts _ (not (stays_behind name)) h).1 in
    find_insert name vs (codes "*") ((a ∷ args) ∷ []) ∙ ap (λ t. if t then Some ((a ∷ args) ∷ []) else find name vs) (or_parts (bytes_eq name (codes "*")) (bytes_eq name status_name) kept).0

has_members : (args entries : List (List ℕ)) (name : List ℕ) (members : List (List ℕ)) → HasMembers args entries name members
    → find name (with_args args (variables_in (bindings entries))) ≡ Some (members ∷ [])
has_members args entries name members (from_args at is some) =
    ap (λ z. find z (with_args args (variables_in (bindings entries)))) at ∙ star_found args (variables_in (bindings entries)) some ∙ ap (λ z. Some (z ∷ [])) (sym is)
has_members args entries name members (from_entry text h f w) =
    past_args args (variables_in (bindings entries)) name h ∙ variable_found (bindings entries) name
    ∙ ap (λ z. value_in z (find name (bindings entries))) h ∙ ap (value_in true) (first_found name text entries f) ∙ ap (λ z. Some (z ∷ [])) (members_are members text w)

variables_so : (args entries : List (List ℕ)) (name : List ℕ) (values : List (List (List ℕ)))
    → (find name (with_args args (variables_in (bindings entries))) ≡ Some values) ↔ Valued args entries name values
variables_so args entries name values = (valued_args args entries name values, λ v. has_members args entries name v.0 v.2 ∙ ap Some (sym v.1))

-- ** the status

abbrev status_by : Option (List ℕ) → List ℕ
status_by None = []
status_by (Some text) = spaced (entry_members text)

other_way : (a b : List ℕ) (t : Bool) → bytes_eq b a ≡ t → bytes_eq a b ≡ t
other_way a b true h = (bytes_eq-Decides a b).1 (sym ((bytes_eq-Decides b a).0 h))
other_way a b false h = turned b a h

status_step : (b : List ℕ × List ℕ) (bs : Bindings) (t : Bool) → status_in bs ≡ status_by (find status_name bs)
    → (if t then spaced (entry_members b.1) else status_in bs) ≡ status_by (if t then Some b.1 else find status_name bs)
status_step b bs true f = refl
status_step b bs false f = f

status_found : (bs : Bindings) → status_in bs ≡ status_by (find status_name bs)
status_found [] = refl
status_found (b ∷ bs) =
    ap (λ t. if t then spaced (entry_members b.1) else status_in bs) (other_way b.0 status_name (bytes_eq status_name b.0) refl) ∙ status_step b bs
    (bytes_eq status_name b.0) (status_found bs)

status_has_by : (entries : List (List ℕ)) (o : Option (List ℕ)) → find status_name (bindings entries) ≡ o → HasStatus true entries (status_in (bindings entries))
status_has_by entries None h = null (λ e text f. let there = first_found status_name text entries f in absurd cc) (status_found (bindings entries) ∙ ap status_by h)
status_has_by entries (Some text) h = handed text (entry_members text) refl (found_first status_name text entries h) (are_written text) (status_found (bindings entries) ∙ ap status_by h)

has_status : (own : Bool) (entries : List (List ℕ)) → HasStatus own entries (own_status own (bindings entries))
has_status true entries = status_has_by entries (find status_name (bindings entries)) refl
has_status false entries = null (λ e. absurd (false≢true e)) refl

no_status : (entries : List (List ℕ)) → ((text : List ℕ) → FirstOf status_name text entries → ⊥) → (o : Option (List ℕ)) → find status_name (bindings entries) ≡ o → status_by o ≡ []
no_status entries n None h = refl
no_status entries n (Some text) h = absurd (n text (found_first status_name text entries h))

status_is : (own : Bool) (entries : List (List ℕ)) (status : List ℕ) → HasStatus own entries status → status ≡ own_status own (bindings entries)
status_is true entries status (handed text members o f w is) =
    is ∙ ap spaced (sym (members_are members text w)) ∙ sym (status_found (bindings entries) ∙ ap status_by (first_found status_name text entries f))
status_is true entries status (null n is) = is ∙ sym (status_found (bindings entries) ∙ no_status entries (n refl) (find status_name (bindings entries)) refl)
status_is false entries status (handed text members o f w is) = absurd (false≢true o)
status_is false entries status (null n is) = is

-- ** functions

to_body : (entries : List (List ℕ)) (q : List ℕ) (body : Node cmd) → HasBodyIn [] (bindings entries) q body → HasBody true entries q body
to_body entries q body k =
    let s = (reads_spellings k.text body).0 k.read in
    record { from_shell = refl; named = k.named; text = k.text; first = found_first (fn_name q) k.text entries k.found; spelled = s.0; sound = s.1 }

from_body : (entries : List (List ℕ)) (q : List ℕ) (body : Node cmd) → HasBody true entries q body → HasBodyIn [] (bindings entries) q body
from_body entries q body k =
    record { named = k.named; unseen = refl; text = k.text; found = first_found (fn_name q) k.text entries k.first; read = (reads_spellings k.text body).1 (k.spelled, k.sound) }

functions_so : (own : Bool) (entries : List (List ℕ)) (fs : Functions) → own_functions own (bindings entries) ≡ Ok fs → (q : List ℕ) (body : Node cmd)
    → (find q fs ≡ Some body) ↔ HasBody own entries q body
functions_so true entries fs h q body =
    let f = functions_found [] (bindings entries) fs h q body in
    (λ g. to_body entries q body (f.0 g), λ k. f.1 (from_body entries q body k))
functions_so false entries fs h q body =
    let none : [] ≡ fs = ok_inj [] fs h in
    (λ g. let no : find q fs ≡ None = ap (find q) (sym none) in absurd cc, λ k. absurd (false≢true k.from_shell))

bodies_so : (own : Bool) (entries : List (List ℕ)) (fs : Functions) → own_functions own (bindings entries) ≡ Ok fs → (q text : List ℕ) → own ≡ true
    → is_function_name q ≡ true → FirstOf (codes "fn#" ++ q) text entries → (body : Node cmd) × HasBody own entries q body
bodies_so true entries fs h q text o n f =
    let there = first_found (fn_name q) text entries f in
    let k = reads_each [] (bindings entries) fs q text n refl h there in
    (k.0, to_body entries q k.0 (record { named = n; unseen = refl; text = text; found = there; read = k.1 }))
bodies_so false entries fs h q text o n f = absurd (false≢true o)

-- ** the state

abbrev made : Bool → (args entries : List (List ℕ)) → Functions → State
made own args entries fs = fresh_state (with_args args (variables_in (bindings entries))) fs (own_status own (bindings entries))

denotes_made : (own : Bool) (args entries : List (List ℕ)) (fs : Functions) → own_functions own (bindings entries) ≡ Ok fs
    → IsProper (made own args entries fs) → Denotes own args entries (made own args entries fs)
denotes_made own args entries fs h p = record {
  variables = variables_so args entries;
  ordered = p.ordered;
  functions = functions_so own entries fs h;
  functions_ordered = p.functions_ordered;
  bodies = bodies_so own entries fs h;
  status = has_status own entries;
  fresh = refl;
}

what_is_read : (own : Bool) (args entries : List (List ℕ)) (s : State) → read_state own args entries ≡ Ok s → Denotes own args entries s
what_is_read own args entries s h =
    let f = bind_back (own_functions own (bindings entries)) (λ fs. Ok (made own args entries fs)) s h in
    let is : made own args entries f.0 ≡ s = ok_inj (made own args entries f.0) s f.2 in
    subst (Denotes own args entries) is (denotes_made own args entries f.0 f.1 (subst IsProper (sym is) (reads_proper own args entries s h)))

-- two states that are denoted are the same
one_state : (own : Bool) (args entries : List (List ℕ)) (s t : State) → Denotes own args entries s → Denotes own args entries t → s ≡ t
one_state own args entries s t d e =
    let variables : s.variables ≡ t.variables =
    same_maps s.variables t.variables d.ordered e.ordered
    (λ q v. (λ g. (e.variables q v).1 ((d.variables q v).0 g), λ g. (d.variables q v).1 ((e.variables q v).0 g))) in
    let functions : s.functions ≡ t.functions =
    same_maps s.functions t.functions d.functions_ordered e.functions_ordered
    (λ q v. (λ g. (e.functions q v).1 ((d.functions q v).0 g), λ g. (d.functions q v).1 ((e.functions q v).0 g))) in
    let status : s.status ≡ t.status = status_is own entries s.status d.status ∙ sym (status_is own entries t.status e.status) in
    d.fresh ∙ ap (λ z. fresh_state z s.functions s.status) variables ∙ ap (λ z. fresh_state t.variables z s.status) functions ∙ ap (λ z. fresh_state t.variables t.functions z) status ∙ sym e.fresh

some_functions : (own : Bool) (args entries : List (List ℕ)) (s : State) → Denotes own args entries s → (fs : Functions) × (own_functions own (bindings entries) ≡ Ok fs)
some_functions true args entries s d =
    all_read [] (bindings entries) (λ q text n u f.
    let b = d.bodies q text refl n (found_first (fn_name q) text entries f) in
    let there : find (fn_name q) (bindings entries) ≡ Some b.1.text = first_found (fn_name q) b.1.text entries b.1.first in
    let same : text ≡ b.1.text = cc in
    (b.0, ap read_tree same ∙ (reads_spellings b.1.text b.0).1 (b.1.spelled, b.1.sound)))
some_functions false args entries s d = ([], refl)

is_read : (own : Bool) (args entries : List (List ℕ)) (s : State) → Denotes own args entries s → read_state own args entries ≡ Ok s
is_read own args entries s d =
    let f = some_functions own args entries s d in
    let r : read_state own args entries ≡ Ok (made own args entries f.0) =
    bind_on (own_functions own (bindings entries)) (λ fs. Ok (made own args entries fs)) f.0 (Ok (made own args entries f.0)) f.1 refl in
    r ∙ ap Ok (one_state own args entries (made own args entries f.0) s (what_is_read own args entries (made own args entries f.0) r) d)

pub reads_what_is_denoted : ReadsWhatIsDenoted
reads_what_is_denoted own args entries s = (what_is_read own args entries s, is_read own args entries s)
