-- The entries of a launch, variable by variable.
use Rattle.std.proofs.Common.{◌≡◌, ℕ, Bool, true, false, not, cond, List, [], ◌∷◌, ◌++◌, length, map, refl, sym, ap, ◌∙◌, arith, append_assoc, ◌&&◌, ◌==◌, ◌<◌, ◌+◌, codes, take, drop, get_or, drop-cons, add-one, subst}
use Rattle.std.proofs.lemmas.Bool.{ne_eqb}
use Rattle.std.proofs.lemmas.List.{drop_at, get_or_at, length-append, take_at}
use Rattle.std.proofs.lemmas.Str.{IsCharBoundary-before_ascii}
use Rattle.std.specs.Str.{IsCharBoundary}
use mathlib.Core.Bool.{true≢false}
use Rattle.std.specs.declared.cmp.Ordering.TheVariants.{Less, Equal, Greater}
use Rattle.rc_text.specs.Texts.{text_bytes}
use Rattle.rc_model.specs.Syntax.Text.{text_cmp}
use Rattle.rc_model.specs.Run.State.{State, status_name, visible}
use Rattle.rc_model.specs.Handed.Environment.{Bindings}
use Rattle.rc_model.specs.Handed.Image.{image, entry, entries, value_text, with_binding, with_functions, stays_behind, handed_values}
use Rattle.rc_scope.specs.Bindings.{binding_of, bindings_of, visible_values}
use Rattle.rc_scope.specs.Bodies.{definitions_of}
use Rattle.rc_scope.specs.declared.functions.Definition.{Definition}
use Rattle.rc_scope.specs.declared.variables.Binding.{Binding}
use Rattle.rc_model.specs.Handed.Proper.{Above, Ordered}
use Rattle.rc_image.specs.Additions.{additions, handed, is_handed, put_all}
use Rattle.rc_image.proofs.Insertions.{BeginsAfter, comes_first, functions_among, in_order, passes_first, takes_place}

-- the values that are handed over are those of the state
pub handed_visible : (vs : List (List ℕ × List (List (List ℕ)))) → handed_values (map (λ v. (v.0, v.1 ∷ [])) (visible_values vs)) ≡ handed_values vs
handed_visible [] = refl
handed_visible (v ∷ vs) = ap (with_binding v.0 (visible v.1)) (handed_visible vs)

and_false : (b : Bool) → b && false ≡ false
and_false true = refl
and_false false = refl

-- a variable that is handed over
on_by : (name : List ℕ) (value : List (List ℕ)) (others : Bindings) (k : Bool) → stays_behind name ≡ k → not (length value == 0) && not k ≡ true → with_binding name value others ≡ (name, value_text value) ∷ others
on_by name [] others true h e = cc
on_by name [] others false h e = cc
on_by name (m ∷ ms) others true h e = absurd (true≢false (sym e ∙ and_false _))
on_by name (m ∷ ms) others false h e = ap (λ b. cond b others ((name, value_text (m ∷ ms)) ∷ others)) h

pub handed_on : (v : Binding) (vs : List Binding) → is_handed (binding_of v) ≡ true → handed (v ∷ vs) ≡ (v.name.now, value_text (map text_bytes v.value.now)) ∷ handed vs
handed_on v vs h = on_by (v.name.now) (map text_bytes v.value.now) (handed vs) (stays_behind v.name.now) refl h

-- one that is not
off_by : (name : List ℕ) (value : List (List ℕ)) (others : Bindings) (k : Bool) → stays_behind name ≡ k → not (length value == 0) && not k ≡ false → with_binding name value others ≡ others
off_by name [] others k h e = refl
off_by name (m ∷ ms) others true h e = ap (λ b. cond b others ((name, value_text (m ∷ ms)) ∷ others)) h
off_by name (m ∷ ms) others false h e = absurd (true≢false (sym (ap (λ b. not b && true) (ne_eqb (length (m ∷ ms)) 0 (λ z. omega (arith, z)))) ∙ e))

pub handed_off : (v : Binding) (vs : List Binding) → is_handed (binding_of v) ≡ false → handed (v ∷ vs) ≡ handed vs
handed_off v vs h = off_by (v.name.now) (map text_bytes v.value.now) (handed vs) (stays_behind v.name.now) refl h

-- ** the variables that are left

variable_left : (vs : List Binding) (i : ℕ) (v : Binding) → i < length vs → v ≡ get_or vs i v → drop i vs ≡ v ∷ drop (i + 1) vs
variable_left vs i v lt is =
    drop-cons vs i v lt ∙ ap (λ n. get_or vs i v ∷ drop n vs) (sym (add-one i)) ∙ ap (λ w. w ∷ drop (i + 1) vs) (sym is)

pub left_on : (vs : List Binding) (i : ℕ) (v : Binding) → i < length vs → v ≡ get_or vs i v → is_handed (binding_of v) ≡ true
    → handed (drop i vs) ≡ (v.name.now, value_text (map text_bytes v.value.now)) ∷ handed (drop (i + 1) vs)
left_on vs i v lt is h = ap handed (variable_left vs i v lt is) ∙ handed_on v (drop (i + 1) vs) h

pub left_off : (vs : List Binding) (i : ℕ) (v : Binding) → i < length vs → v ≡ get_or vs i v → is_handed (binding_of v) ≡ false → handed (drop i vs) ≡ handed (drop (i + 1) vs)
left_off vs i v lt is h = ap handed (variable_left vs i v lt is) ∙ handed_off v (drop (i + 1) vs) h

-- one entry more
pub entry_on : (w all : List (List ℕ)) (e : List ℕ) (b : List ℕ × List ℕ) (bs more : Bindings) → e ≡ entry b → more ≡ b ∷ bs
    → w ++ map entry more ≡ all → (w ++ e ∷ []) ++ map entry bs ≡ all
entry_on w all e b bs more is h inv = append_assoc w (e ∷ []) (map entry bs) ∙ ap (λ t. w ++ t ∷ map entry bs) is ∙ ap (λ l. w ++ map entry l) (sym h) ∙ inv

-- ** the variables before a name

-- what has this name, and others after it, are still to come among the variables
abbrev pub Keeps : List ℕ → (bs rest : Bindings) → (before after : List (List ℕ)) → Type 0
Keeps name bs rest before after = (text : List ℕ) (others : Bindings) → Above name others →
    before ++ map entry (put_all ((name, text) ∷ others) bs) ≡ after ++ map entry (put_all ((name, text) ∷ others) rest)

-- a variable before the name
pub keeps_on : (name : List ℕ) (bs more rest : Bindings) (b : List ℕ × List ℕ) (e : List ℕ) (before after : List (List ℕ)) → text_cmp name b.0 ≡ Greater → e ≡ entry b → more ≡ b ∷ rest
    → Keeps name bs more before after → Keeps name bs rest before (after ++ e ∷ [])
keeps_on name bs more rest b e before after gt is h k = λ text others a.
    k text others a ∙ ap (λ l. after ++ map entry l) (ap (put_all ((name, text) ∷ others)) h ∙ passes_first others rest b name text gt a)
    ∙ ap (λ x. after ++ x ∷ map entry (put_all ((name, text) ∷ others) rest)) (sym is) ∙ sym (append_assoc after (e ∷ []) (map entry (put_all ((name, text) ∷ others) rest)))

-- one after it
pub ends_before : (name : List ℕ) (bs more rest : Bindings) (b : List ℕ × List ℕ) (before after : List (List ℕ)) → text_cmp name b.0 ≡ Less → more ≡ b ∷ rest → Keeps name bs more before after
    → (text : List ℕ) (others : Bindings) → Above name others → before ++ map entry (put_all ((name, text) ∷ others) bs) ≡ after ++ (entry (name, text) ∷ map entry (put_all others more))
ends_before name bs more rest b before after lt h k = λ text others a.
    k text others a ∙ ap (λ l. after ++ map entry l) (comes_first others more name text a (subst (λ l. BeginsAfter name l) (sym h) lt))

-- one of this name
pub ends_at : (name : List ℕ) (bs more rest : Bindings) (b : List ℕ × List ℕ) (before after : List (List ℕ)) → text_cmp name b.0 ≡ Equal → more ≡ b ∷ rest → Keeps name bs more before after
    → (text : List ℕ) (others : Bindings) → Above name others → before ++ map entry (put_all ((name, text) ∷ others) bs) ≡ after ++ (entry (name, text) ∷ map entry (put_all others rest))
ends_at name bs more rest b before after eq h k = λ text others a.
    k text others a ∙ ap (λ l. after ++ map entry l) (ap (put_all ((name, text) ∷ others)) h ∙ takes_place others rest b name text eq a)

-- no more
pub ends_all : (name : List ℕ) (bs more last : Bindings) (before after : List (List ℕ)) → more ≡ [] → last ≡ [] → Keeps name bs more before after
    → (text : List ℕ) (others : Bindings) → Above name others → before ++ map entry (put_all ((name, text) ∷ others) bs) ≡ after ++ (entry (name, text) ∷ map entry (put_all others last))
ends_all name bs more last before after h i k = λ text others a.
    k text others a ∙ ap (λ l. after ++ map entry (put_all ((name, text) ∷ others) l)) (h ∙ sym i) ∙ ap (λ l. after ++ map entry l) (comes_first others last name text a (subst (λ l. BeginsAfter name l) (sym i) tt))

-- ** all of them

pub all_to_come : (ds : List Definition) (vs : List Binding) (s : State) → definitions_of ds ≡ s.functions → Ordered s.functions → bindings_of vs ≡ visible_values s.variables → map entry (put_all (additions ds s.status) (handed vs)) ≡ entries s
all_to_come ds vs s g o k =
    let base : Bindings = (status_name, value_text (s.status ∷ [])) ∷ [] in
    ap (λ n. map entry (put_all n (handed vs))) (sym (in_order ds s.status (subst Ordered (sym g) o)) ∙ ap (λ fs. with_functions fs base) g)
    ∙ sym (ap (map entry) (functions_among s.functions base (handed vs)))
    ∙ ap (λ l. map entry (with_functions s.functions (put_all base l))) (ap (λ v. handed_values (map (λ b. (b.0, b.1 ∷ [])) v)) k ∙ handed_visible s.variables)

-- what was added under its name, and the others
pub turn : (w v all : List (List ℕ)) (x : List ℕ) (b : List ℕ × List ℕ) (others more bs rest : Bindings) → more ≡ b ∷ others →
    ((text : List ℕ) (ms : Bindings) → Above b.0 ms → w ++ map entry (put_all ((b.0, text) ∷ ms) bs) ≡ v ++ (entry (b.0, text) ∷ map entry (put_all ms rest)))
    → x ≡ entry b → Above b.0 others → w ++ map entry (put_all more bs) ≡ all → (v ++ x ∷ []) ++ map entry (put_all others rest) ≡ all
turn w v all x b others more bs rest is pushes h after inv =
    append_assoc v (x ∷ []) (map entry (put_all others rest)) ∙ ap (λ y. v ++ y ∷ map entry (put_all others rest)) h
    ∙ sym (pushes b.1 others after) ∙ ap (λ l. w ++ map entry (put_all l bs)) (sym is) ∙ inv

pub function_left : (ds : List Definition) (i : ℕ) (d : Definition) → i < length ds → d ≡ get_or ds i d → drop i ds ≡ d ∷ drop (i + 1) ds
function_left ds i d lt is = drop-cons ds i d lt ∙ ap (λ n. get_or ds i d ∷ drop n ds) (sym (add-one i)) ∙ ap (λ e. e ∷ drop (i + 1) ds) (sym is)

-- ** the name of a function in its entry

-- it ends before `=`
pub has_name : (e name image : List ℕ) → e ≡ entry (codes "fn#" ++ name, image) → IsCharBoundary e (3 + length name)
has_name e name image h =
    let sum : length e ≡ length (codes "fn#" ++ name) + length (61 ∷ image) = ap length h ∙ length-append (codes "fn#" ++ name) (61 ∷ image) in
    let front : length (codes "fn#" ++ name) ≡ 3 + length name = length-append (codes "fn#") name in
    let equals : get_or e (3 + length name) 0 ≡ 61 = ap (λ l. get_or l (3 + length name) 0) h ∙ get_or_at (codes "fn#" ++ name) 61 image 0 (3 + length name) front in
    IsCharBoundary-before_ascii e (3 + length name) (omega (arith, sum, front)) (omega (arith, equals))

pub name_of : (e name image : List ℕ) → e ≡ entry (codes "fn#" ++ name, image) → take (3 + length name) e ≡ codes "fn#" ++ name
name_of e name image h =
    ap (take (3 + length name)) h ∙ take_at (codes "fn#" ++ name) (61 ∷ image) (3 + length name) (length-append (codes "fn#") name)

-- ** what stands after the name in an entry

pub value_after : (e name text : List ℕ) → e ≡ entry (name, text) → drop (length name + 1) e ≡ text
value_after e name text h =
    let one : length (name ++ 61 ∷ []) ≡ length name + 1 = length-append name (61 ∷ []) in
    ap (drop (length name + 1)) (h ∙ sym (append_assoc name (61 ∷ []) text)) ∙ drop_at (name ++ 61 ∷ []) text (length name + 1) one

pub function_after : (e name image : List ℕ) → e ≡ entry (codes "fn#" ++ name, image) → drop (3 + length name + 1) e ≡ image
function_after e name image h =
    let front : length (codes "fn#" ++ name) ≡ 3 + length name = length-append (codes "fn#") name in
    ap (λ n. drop (n + 1) e) (sym front) ∙ value_after e (codes "fn#" ++ name) image h
