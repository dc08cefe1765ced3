-- The functions that are read of entries are those that they denote.
use Rattle.std.specs.Prelude.{Some, Ok, Result, not, ◌==◌, if◌then◌else◌, codes, drop}
use Rattle.std.proofs.Common.{◌≡◌, ◌↔◌, ℕ, List, [], ◌∷◌, Bool, true, false, ◌&&◌, refl, sym, ap, subst, ◌∙◌}
use Rattle.std.specs.List.{list_any}
use Rattle.std.specs.Str.{bytes_eq}
use Rattle.std.specs.BTreeMap.{insert_entry}
use Rattle.std.proofs.lemmas.Bool.{and_parts, and_from, eqb-true, not_from_false, false≢true, false_from_ne_true, or_from, or_parts}
use Rattle.std.proofs.lemmas.Slice.Eq.{bytes_eq-Decides}
use Rattle.rc_model.specs.Syntax.Text.{text_cmp, begins_with}
use Rattle.rc_model.specs.Syntax.Tree.{Node, cmd}
use Rattle.rc_model.specs.Run.State.{is_function_name}
use Rattle.rc_model.specs.Handed.TreeReading.{◌>>=◌, read_tree}
use Rattle.rc_model.specs.Handed.Environment.{Bindings, Functions, is_function, with_function, functions_in}
use Rattle.rc_model.specs.declared.fault.ImageFault.{ImageFault}
use Rattle.law_image.proofs.Exact.{ok_inj, bind_back, bind_on}
use Rattle.law_image.proofs.Functions.{fn_name}
use Rattle.law_image.proofs.Lookups.{find, find_insert}

-- a name of an entry that is a function's
fn_is : (name : List ℕ) → begins_with (codes "fn#") name ≡ true → name ≡ fn_name (drop 3 name)
fn_is [] h = absurd cc
fn_is (a ∷ []) h = absurd (false≢true (and_parts (102 == a) false h).1)
fn_is (a ∷ b ∷ []) h = absurd (false≢true (and_parts (110 == b) false (and_parts (102 == a) ((110 == b) && false) h).1).1)
fn_is (a ∷ b ∷ c ∷ rest) h =
    let u = and_parts (102 == a) ((110 == b) && ((35 == c) && true)) h in
    let v = and_parts (110 == b) ((35 == c) && true) u.1 in
    let w = and_parts (35 == c) true v.1 in
    ap (λ z. z ∷ b ∷ c ∷ rest) (sym (eqb-true 102 a u.0)) ∙ ap (λ z. 102 ∷ z ∷ c ∷ rest) (sym (eqb-true 110 b v.0)) ∙ ap (λ z. 102 ∷ 110 ∷ z ∷ rest) (sym (eqb-true 35 c w.0))

-- among these bindings the first of a function that wasn't seen before reads as this body
pub record HasBodyIn (seen : List (List ℕ)) (bs : Bindings) (q : List ℕ) (body : Node cmd) : Type 0 where
  pub named : is_function_name q ≡ true
  pub unseen : list_any (bytes_eq (fn_name q)) seen ≡ false
  pub text : List ℕ
  pub found : find (fn_name q) bs ≡ Some text
  pub read : read_tree text ≡ Ok body

abbrev FoundSo : List (List ℕ) → Bindings → Functions → Type 0
FoundSo seen bs fs = (q : List ℕ) (body : Node cmd) → (find q fs ≡ Some body) ↔ HasBodyIn seen bs q body

further : (b : List ℕ × List ℕ) (bs : Bindings) (seen : List (List ℕ)) (q : List ℕ) (body : Node cmd) → bytes_eq (fn_name q) b.0 ≡ false → HasBodyIn seen bs q body → HasBodyIn seen (b ∷ bs) q body
further b bs seen q body h k = record { named = k.named; unseen = k.unseen; text = k.text; found = ap (λ t. if t then Some b.1 else find (fn_name q) bs) h ∙ k.found; read = k.read }

nearer : (b : List ℕ × List ℕ) (bs : Bindings) (seen : List (List ℕ)) (q : List ℕ) (body : Node cmd) → bytes_eq (fn_name q) b.0 ≡ false → HasBodyIn seen (b ∷ bs) q body → HasBodyIn seen bs q body
nearer b bs seen q body h k = record { named = k.named; unseen = k.unseen; text = k.text; found = sym (ap (λ t. if t then Some b.1 else find (fn_name q) bs) h) ∙ k.found; read = k.read }

forget : (name : List ℕ) (bs : Bindings) (seen : List (List ℕ)) (q : List ℕ) (body : Node cmd) → HasBodyIn (name ∷ seen) bs q body → HasBodyIn seen bs q body
forget name bs seen q body k = record {
  named = k.named;
  unseen =
      (or_parts (bytes_eq (fn_name q) name) (list_any (bytes_eq (fn_name q)) seen) k.unseen).1;
  text = k.text;
  found = k.found;
  read = k.read;
}

remember : (name : List ℕ) (bs : Bindings) (seen : List (List ℕ)) (q : List ℕ) (body : Node cmd) → bytes_eq (fn_name q) name ≡ false → HasBodyIn seen bs q body → HasBodyIn (name ∷ seen) bs q body
remember name bs seen q body h k = record {
  named = k.named;
  unseen = or_from (bytes_eq (fn_name q) name)
      (list_any (bytes_eq (fn_name q)) seen) h k.unseen;
  text = k.text;
  found = k.found;
  read = k.read;
}

abbrev Counts : List (List ℕ) → List ℕ → Bool
Counts seen name = is_function name && not (list_any (bytes_eq name) seen)

counts_of : (seen : List (List ℕ)) (q : List ℕ) → is_function_name q ≡ true → list_any (bytes_eq (fn_name q)) seen ≡ false → Counts seen (fn_name q) ≡ true
counts_of seen q n u = and_from (is_function (fn_name q)) (not (list_any (bytes_eq (fn_name q)) seen)) n (not_from_false (list_any (bytes_eq (fn_name q)) seen) u)

-- a binding that doesn't count is none of a function that was not seen
no_clash : (seen : List (List ℕ)) (name q : List ℕ) → is_function_name q ≡ true → list_any (bytes_eq (fn_name q)) seen ≡ false → Counts seen name ≡ false → bytes_eq (fn_name q) name ≡ false
no_clash seen name q n u c = false_from_ne_true (bytes_eq (fn_name q) name) (λ e. false≢true (sym c ∙ ap (Counts seen) (sym ((bytes_eq-Decides (fn_name q) name).0 e)) ∙ counts_of seen q n u))

-- another name than that of the first
other_name : (name q : List ℕ) → bytes_eq q (drop 3 name) ≡ false → bytes_eq (fn_name q) name ≡ false
other_name name q h =
    false_from_ne_true (bytes_eq (fn_name q) name)
    (λ e. let at : fn_name q ≡ name = (bytes_eq-Decides (fn_name q) name).0 e in false≢true (sym h ∙ (bytes_eq-Decides q (drop 3 name)).1 (ap (drop 3) at)))

first_by : (b : List ℕ × List ℕ) (bs : Bindings) (seen : List (List ℕ)) (c : Node cmd) (gs : Functions) → Counts seen b.0 ≡ true
    → read_tree b.1 ≡ Ok c → FoundSo (b.0 ∷ seen) bs gs → (q : List ℕ) (body : Node cmd) (v : Bool) → bytes_eq q (drop 3 b.0) ≡ v
    → (find q (insert_entry text_cmp gs (drop 3 b.0) c) ≡ Some body) ↔ HasBodyIn seen (b ∷ bs) q body
first_by b bs seen c gs n r f q body true h =
    let parts = and_parts (is_function b.0) (not (list_any (bytes_eq b.0) seen)) n in
    let at : q ≡ drop 3 b.0 = (bytes_eq-Decides q (drop 3 b.0)).0 h in
    let named = and_parts (begins_with (codes "fn#") b.0) (is_function_name (drop 3 b.0)) parts.0 in
    let same : fn_name q ≡ b.0 = ap fn_name at ∙ sym (fn_is b.0 named.0) in
    let there : find q (insert_entry text_cmp gs (drop 3 b.0) c) ≡ Some c = find_insert q gs (drop 3 b.0) c ∙ ap (λ t. if t then Some c else find q gs) h in
    let text : find (fn_name q) (b ∷ bs) ≡ Some b.1 = ap (λ t. if t then Some b.1 else find (fn_name q) bs) ((bytes_eq-Decides (fn_name q) b.0).1 same) in (
      λ g. let is : c ≡ body = cc in
          record {
            named = ap is_function_name at ∙ named.1;
            unseen = ap (λ z. list_any (bytes_eq z) seen) same ∙ not_seen
                (list_any (bytes_eq b.0) seen) parts.1;
            text = b.1;
            found = text;
            read = r ∙ ap Ok is;
          },
      λ k. let same_text : b.1 ≡ k.text = cc in
          there ∙ ap Some (ok_inj c body (sym r ∙ ap read_tree same_text ∙ k.read)),
    )
  where
    not_seen : (u : Bool) → not u ≡ true → u ≡ false
    not_seen true e = sym e
    not_seen false e = refl
first_by b bs seen c gs n r f q body false h =
    let other : bytes_eq (fn_name q) b.0 ≡ false = other_name b.0 q h in
    let past : find q (insert_entry text_cmp gs (drop 3 b.0) c) ≡ find q gs = find_insert q gs (drop 3 b.0) c ∙ ap (λ t. if t then Some c else find q gs) h in (
      λ g. further b bs seen q body other (forget b.0 bs seen q body ((f q body).0 (sym past ∙ g))),
      λ k. past ∙ (f q body).1 (remember b.0 bs seen q body other (nearer b bs seen q body other k)),
    )

other_so : (b : List ℕ × List ℕ) (bs : Bindings) (seen : List (List ℕ)) (fs : Functions) → Counts seen b.0 ≡ false → FoundSo seen bs fs → FoundSo seen (b ∷ bs) fs
other_so b bs seen fs n f q body = (
  λ g. let k = (f q body).0 g in further b bs seen q body (no_clash seen b.0 q k.named k.unseen n) k,
  λ k. (f q body).1 (nearer b bs seen q body (no_clash seen b.0 q k.named k.unseen n) k),
)

-- what reading one function and the others takes
record ReadBoth (b : List ℕ × List ℕ) (others : Result Functions ImageFault) (fs : Functions) : Type 0 where
  body : Node cmd
  rest : Functions
  read : read_tree b.1 ≡ Ok body
  more : others ≡ Ok rest
  is : insert_entry text_cmp rest (drop 3 b.0) body ≡ fs

read_both : (b : List ℕ × List ℕ) (others : Result Functions ImageFault) (fs : Functions) → with_function b.0 (read_tree b.1) others ≡ Ok fs → ReadBoth b others fs
read_both b others fs h =
    let body = bind_back (read_tree b.1) (λ c. others >>= λ gs. Ok (insert_entry text_cmp gs (drop 3 b.0) c)) fs h in
    let rest = bind_back others (λ gs. Ok (insert_entry text_cmp gs (drop 3 b.0) body.0)) fs body.2 in
    record { body = body.0; rest = rest.0; read = body.1; more = rest.1; is = ok_inj (insert_entry text_cmp rest.0 (drop 3 b.0) body.0) fs rest.2 }

found_by : (b : List ℕ × List ℕ) (bs : Bindings) (seen : List (List ℕ)) (fs : Functions) (t : Bool) → Counts seen b.0 ≡ t
    → ((gs : Functions) → functions_in (b.0 ∷ seen) bs ≡ Ok gs → FoundSo (b.0 ∷ seen) bs gs) → (functions_in seen bs ≡ Ok fs → FoundSo seen bs fs)
    → (if t then with_function b.0 (read_tree b.1) (functions_in (b.0 ∷ seen) bs) else functions_in seen bs) ≡ Ok fs → FoundSo seen (b ∷ bs) fs
found_by b bs seen fs true n f g h =
    let r = read_both b (functions_in (b.0 ∷ seen) bs) fs h in
    subst (FoundSo seen (b ∷ bs)) r.is (λ q body. first_by b bs seen r.body r.rest n r.read (f r.rest r.more) q body (bytes_eq q (drop 3 b.0)) refl)
found_by b bs seen fs false n f g h = other_so b bs seen fs n (g h)

no_functions : (seen : List (List ℕ)) → FoundSo seen [] []
no_functions seen q body = (λ g. absurd cc, λ k. let none = k.found in absurd cc)

pub functions_found : (seen : List (List ℕ)) (bs : Bindings) (fs : Functions) → functions_in seen bs ≡ Ok fs → (q : List ℕ) (body : Node cmd) → (find q fs ≡ Some body) ↔ HasBodyIn seen bs q body
functions_found seen [] fs h = subst (FoundSo seen []) (ok_inj [] fs h) (no_functions seen)
functions_found seen (b ∷ bs) fs h = found_by b bs seen fs (Counts seen b.0) refl (λ gs e. functions_found (b.0 ∷ seen) bs gs e) (λ e. functions_found seen bs fs e) h

-- where all are read, each that counts reads as a body
reads_by : (b : List ℕ × List ℕ) (bs : Bindings) (seen : List (List ℕ)) (fs : Functions) (q text : List ℕ) (t v : Bool) → is_function_name q ≡ true
    → list_any (bytes_eq (fn_name q)) seen ≡ false → Counts seen b.0 ≡ t → bytes_eq (fn_name q) b.0 ≡ v
    → ((gs : Functions) → list_any (bytes_eq (fn_name q)) (b.0 ∷ seen) ≡ false → functions_in (b.0 ∷ seen) bs ≡ Ok gs → find
    (fn_name q) bs ≡ Some text → (body : Node cmd) × (read_tree text ≡ Ok body))
    → (functions_in seen bs ≡ Ok fs → find (fn_name q) bs ≡ Some text → (body : Node cmd) × (read_tree text ≡ Ok body))
    → (if t then with_function b.0 (read_tree b.1) (functions_in (b.0 ∷ seen) bs) else functions_in seen bs) ≡ Ok fs
    → (if v then Some b.1 else find (fn_name q) bs) ≡ Some text → (body : Node cmd) × (read_tree text ≡ Ok body)
reads_by b bs seen fs q text true true n u c w f g h e =
    let r = read_both b (functions_in (b.0 ∷ seen) bs) fs h in
    let same : text ≡ b.1 = cc in
    (r.body, ap read_tree same ∙ r.read)
reads_by b bs seen fs q text true false n u c w f g h e =
    let r = read_both b (functions_in (b.0 ∷ seen) bs) fs h in
    f r.rest (or_from (bytes_eq (fn_name q) b.0) (list_any (bytes_eq (fn_name q)) seen) w u) r.more e
reads_by b bs seen fs q text false true n u c w f g h e = absurd (false≢true (sym (no_clash seen b.0 q n u c) ∙ w))
reads_by b bs seen fs q text false false n u c w f g h e = g h e

pub reads_each : (seen : List (List ℕ)) (bs : Bindings) (fs : Functions) (q text : List ℕ) → is_function_name q ≡ true
    → list_any (bytes_eq (fn_name q)) seen ≡ false → functions_in seen bs ≡ Ok fs → find (fn_name q) bs ≡ Some text
    → (body : Node cmd) × (read_tree text ≡ Ok body)
reads_each seen [] fs q text n u h e = absurd cc
reads_each seen (b ∷ bs) fs q text n u h e =
    reads_by b bs seen fs q text (Counts seen b.0) (bytes_eq (fn_name q) b.0) n u refl refl (λ gs v k l. reads_each (b.0 ∷ seen) bs gs q text n v k l) (λ k l. reads_each seen bs fs q text n u k l) h e

-- where each that counts reads as a body, all are read
abbrev EachReads : List (List ℕ) → Bindings → Type 0
EachReads seen bs = (q text : List ℕ) → is_function_name q ≡ true → list_any (bytes_eq (fn_name q)) seen ≡ false → find (fn_name q) bs ≡ Some text → (body : Node cmd) × (read_tree text ≡ Ok body)

each_after : (b : List ℕ × List ℕ) (bs : Bindings) (seen : List (List ℕ)) → EachReads seen (b ∷ bs) → EachReads (b.0 ∷ seen) bs
each_after b bs seen f q text n u e =
    let k = or_parts (bytes_eq (fn_name q) b.0) (list_any (bytes_eq (fn_name q)) seen) u in
    f q text n k.1 (ap (λ t. if t then Some b.1 else find (fn_name q) bs) k.0 ∙ e)

each_past : (b : List ℕ × List ℕ) (bs : Bindings) (seen : List (List ℕ)) → Counts seen b.0 ≡ false → EachReads seen (b ∷ bs) → EachReads seen bs
each_past b bs seen c f q text n u e = f q text n u (ap (λ t. if t then Some b.1 else find (fn_name q) bs) (no_clash seen b.0 q n u c) ∙ e)

all_by : (b : List ℕ × List ℕ) (bs : Bindings) (seen : List (List ℕ)) (t : Bool) → Counts seen b.0 ≡ t → EachReads seen (b ∷ bs)
    → (EachReads (b.0 ∷ seen) bs → (fs : Functions) × (functions_in (b.0 ∷ seen) bs ≡ Ok fs)) → (EachReads seen bs → (fs : Functions) × (functions_in seen bs ≡ Ok fs))
    → (fs : Functions) × ((if t then with_function b.0 (read_tree b.1) (functions_in (b.0 ∷ seen) bs) else functions_in seen bs) ≡ Ok fs)
all_by b bs seen true c f more others =
    let parts = and_parts (is_function b.0) (not (list_any (bytes_eq b.0) seen)) c in
    let named = and_parts (begins_with (codes "fn#") b.0) (is_function_name (drop 3 b.0)) parts.0 in
    let at : fn_name (drop 3 b.0) ≡ b.0 = sym (fn_is b.0 named.0) in
    let unseen : list_any (bytes_eq (fn_name (drop 3 b.0))) seen ≡ false = ap (λ z. list_any (bytes_eq z) seen) at ∙ not_true (list_any (bytes_eq b.0) seen) parts.1 in
    let here : find (fn_name (drop 3 b.0)) (b ∷ bs) ≡ Some b.1 = ap (λ t. if t then Some b.1 else find (fn_name (drop 3 b.0)) bs) ((bytes_eq-Decides (fn_name (drop 3 b.0)) b.0).1 at) in
    let body = f (drop 3 b.0) b.1 named.1 unseen here in
    let rest = more (each_after b bs seen f) in (
      insert_entry text_cmp rest.0 (drop 3 b.0) body.0,
      bind_on (read_tree b.1)
          (λ d. functions_in (b.0 ∷ seen) bs >>= λ gs. Ok (insert_entry text_cmp gs (drop 3 b.0) d)) body.0 _ body.1
          (bind_on (functions_in (b.0 ∷ seen) bs) (λ gs. Ok (insert_entry text_cmp gs (drop 3 b.0) body.0)) rest.0 _ rest.1 refl),
    )
  where
    not_true : (u : Bool) → not u ≡ true → u ≡ false
    not_true true e = sym e
    not_true false e = refl
all_by b bs seen false c f more others = others (each_past b bs seen c f)

pub all_read : (seen : List (List ℕ)) (bs : Bindings)
    → ((q text : List ℕ) → is_function_name q ≡ true → list_any (bytes_eq (fn_name q)) seen ≡ false → find (fn_name q) bs ≡ Some text → (body : Node cmd) × (read_tree text ≡ Ok body))
    → (fs : Functions) × (functions_in seen bs ≡ Ok fs)
all_read seen [] f = ([], refl)
all_read seen (b ∷ bs) f = all_by b bs seen (Counts seen b.0) refl f (λ g. all_read (b.0 ∷ seen) bs g) (λ g. all_read seen bs g)
