-- Members of a value, and entries, as they are read back.
use Rattle.std.specs.Prelude.{Some, IsTrue, map, not, ◌==◌, if◌then◌else◌}
use Rattle.std.proofs.Common.{◌≡◌, ℕ, List, [], ◌∷◌, ◌++◌, Bool, true, false, refl, sym, ap, ◌∙◌}
use Rattle.std.specs.List.{list_all, slice_split}
use Rattle.std.proofs.lemmas.Bool.{and_parts, and_from, eqb-true, not-true}
use Rattle.rc_model.specs.Handed.Image.{escaped, value_text, entry}
use Rattle.rc_model.specs.Handed.Environment.{unescaped, entry_members, cut_entry, with_cut, bindings}

abbrev pub is_one : ℕ → Bool
is_one b = b == 1

abbrev escape_by : Bool → Bool → ℕ → List ℕ
escape_by t u b = if t then 2 ∷ 65 ∷ [] else (if u then 2 ∷ 66 ∷ [] else b ∷ [])

-- no byte 1 in a member that is escaped
abbrev pub no_one : List ℕ → Bool
no_one x = list_all (λ b. not (b == 1)) x

no_one_step : (b : ℕ) (t u : Bool) (rest : List ℕ) → (b == 1) ≡ t → IsTrue (no_one rest) → IsTrue (no_one (escape_by t u b ++ rest))
no_one_step b true u rest e h = h
no_one_step b false true rest e h = h
no_one_step b false false rest e h = and_from (not (b == 1)) _ (ap not e) h

pub escaped_no_one : (x : List ℕ) → IsTrue (no_one (escaped x))
escaped_no_one [] = refl
escaped_no_one (b ∷ x) = no_one_step b (b == 1) (b == 2) (escaped x) refl (escaped_no_one x)

pub past_other : (b : ℕ) (rest : List ℕ) → (b == 2) ≡ false → unescaped (b ∷ rest) ≡ b ∷ unescaped rest
past_other b [] e = refl
past_other b (c ∷ rest) e = ap (λ t. if t then (if c == 65 then 1 ∷ unescaped rest else (if c == 66 then 2 ∷ unescaped rest else 2 ∷ unescaped (c ∷ rest))) else b ∷ unescaped (c ∷ rest)) e

unescaped_step : (b : ℕ) (t u : Bool) (rest : List ℕ) → (b == 1) ≡ t → (b == 2) ≡ u → unescaped (escape_by t u b ++ rest) ≡ b ∷ unescaped rest
unescaped_step b true u rest e f = ap (λ z. z ∷ unescaped rest) (sym (eqb-true b 1 e))
unescaped_step b false true rest e f = ap (λ z. z ∷ unescaped rest) (sym (eqb-true b 2 f))
unescaped_step b false false rest e f = past_other b rest f

pub unescaped_escaped : (x : List ℕ) → unescaped (escaped x) ≡ x
unescaped_escaped [] = refl
unescaped_escaped (b ∷ x) = unescaped_step b (b == 1) (b == 2) (escaped x) refl refl ∙ ap (λ z. b ∷ z) (unescaped_escaped x)

-- parts without byte 1 that are joined by it
pub split_last : (x : List ℕ) → IsTrue (no_one x) → slice_split is_one x ≡ x ∷ []
split_last [] h = refl
split_last (b ∷ x) h =
    let k = and_parts (not (b == 1)) (no_one x) h in
    let e : (b == 1) ≡ false = not-true (b == 1) k.0 in
    rw (e, split_last x k.1) refl

pub split_first : (x rest : List ℕ) → IsTrue (no_one x) → slice_split is_one (x ++ (1 ∷ rest)) ≡ x ∷ slice_split is_one rest
split_first [] rest h = refl
split_first (b ∷ x) rest h =
    let k = and_parts (not (b == 1)) (no_one x) h in
    let e : (b == 1) ≡ false = not-true (b == 1) k.0 in
    rw (e, split_first x rest k.1) refl

pub split_joined : (m : List ℕ) (ms : List (List ℕ)) → slice_split is_one (value_text (m ∷ ms)) ≡ map escaped (m ∷ ms)
split_joined m [] = split_last (escaped m) (escaped_no_one m)
split_joined m (m' ∷ ms) = split_first (escaped m) (value_text (m' ∷ ms)) (escaped_no_one m) ∙ ap (λ z. escaped m ∷ z) (split_joined m' ms)

unescaped_all : (ms : List (List ℕ)) → map unescaped (map escaped ms) ≡ ms
unescaped_all [] = refl
unescaped_all (m ∷ ms) = ap (λ z. z ∷ map unescaped (map escaped ms)) (unescaped_escaped m) ∙ ap (λ z. m ∷ z) (unescaped_all ms)

-- the members of a value that isn't empty are read back
pub members_back : (m : List ℕ) (ms : List (List ℕ)) → entry_members (value_text (m ∷ ms)) ≡ m ∷ ms
members_back m ms = ap (map unescaped) (split_joined m ms) ∙ unescaped_all (m ∷ ms)

-- names without `=`
abbrev pub no_equals : List ℕ → Bool
no_equals name = list_all (λ c. not (c == 61)) name

pub cut_back : (name text : List ℕ) → IsTrue (no_equals name) → cut_entry (name ++ (61 ∷ text)) ≡ Some (name, text)
cut_back [] text h = refl
cut_back (b ∷ name) text h =
    let k = and_parts (not (b == 61)) (no_equals name) h in
    let e : (b == 61) ≡ false = not-true (b == 61) k.0 in
    rw (e, cut_back name text k.1) refl

pub bindings_back : (bs : List (List ℕ × List ℕ)) → IsTrue (list_all (λ b. no_equals b.0) bs) → bindings (map entry bs) ≡ bs
bindings_back [] h = refl
bindings_back (b ∷ bs) h =
    let k = and_parts (no_equals b.0) (list_all (λ b. no_equals b.0) bs) h in
    ap (λ z. with_cut z (bindings (map entry bs))) (cut_back b.0 b.1 k.0) ∙ ap (λ z. b ∷ z) (bindings_back bs k.1)
