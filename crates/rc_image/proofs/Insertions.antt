-- Entries that are put in: which order does not matter, and where they stand.
use Rattle.std.proofs.Common.{◌≡◌, ℕ, codes, List, [], ◌∷◌, ◌++◌, refl, sym, ap, ◌∙◌, subst}
use Rattle.std.proofs.lemmas.Cmp.{nat_list_cmp_total, tied_itself, alike_right}
use Rattle.std.specs.Cmp.Lexicographic.{bytes_decides}
use Rattle.std.proofs.lemmas.Map.Text.{is_eq-slice_cmp}
use Rattle.std.specs.declared.cmp.Ordering.{Ordering}
use Rattle.std.specs.declared.cmp.Ordering.TheVariants.{Less, Equal, Greater}
use Rattle.std.specs.Ordering.{is_eq, match_ordering, ordering_reverse}
use Rattle.std.specs.BTreeMap.{insert_entry}
use Rattle.rc_model.specs.Syntax.Text.{text_cmp}
use Rattle.rc_model.specs.Run.State.{status_name}
use Rattle.rc_model.specs.Handed.Environment.{Bindings, Functions}
use Rattle.rc_model.specs.Handed.Image.{image, value_text, with_functions}
use Rattle.rc_model.specs.Handed.Proper.{Above, Ordered}
use Rattle.rc_scope.specs.Bodies.{definitions_of}
use Rattle.rc_scope.specs.FunctionBodies.{body_tree}
use Rattle.rc_scope.specs.declared.functions.Definition.{Definition}
use Rattle.rc_image.specs.Additions.{additions, put_all}

abbrev Entry : Type 0
Entry = List ℕ × List ℕ

abbrev ins : Bindings → List ℕ → List ℕ → Bindings
ins es k v = insert_entry text_cmp es k v

-- ** by the order of two names

pub turned : (x y : List ℕ) → text_cmp x y ≡ Less → text_cmp y x ≡ Greater
turned x y h = nat_list_cmp_total.antisymm y x ∙ ap ordering_reverse h

pub turned_back : (x y : List ℕ) → text_cmp x y ≡ Greater → text_cmp y x ≡ Less
turned_back x y h = nat_list_cmp_total.antisymm y x ∙ ap ordering_reverse h

pub same_name : (x y : List ℕ) → text_cmp x y ≡ Equal → x ≡ y
same_name x y h = (bytes_decides x y).0 (sym (is_eq-slice_cmp x y) ∙ ap is_eq h)

pub less_in : (e : Entry) (es : Bindings) (k v : List ℕ) → text_cmp k e.0 ≡ Less → ins (e ∷ es) k v ≡ (k, v) ∷ e ∷ es
less_in e es k v h = ap (λ o. match_ordering o ((k, v) ∷ e ∷ es) ((e.0, v) ∷ es) (e ∷ ins es k v)) h

pub equal_in : (e : Entry) (es : Bindings) (k v : List ℕ) → text_cmp k e.0 ≡ Equal → ins (e ∷ es) k v ≡ (e.0, v) ∷ es
equal_in e es k v h = ap (λ o. match_ordering o ((k, v) ∷ e ∷ es) ((e.0, v) ∷ es) (e ∷ ins es k v)) h

pub greater_in : (e : Entry) (es : Bindings) (k v : List ℕ) → text_cmp k e.0 ≡ Greater → ins (e ∷ es) k v ≡ e ∷ ins es k v
greater_in e es k v h = ap (λ o. match_ordering o ((k, v) ∷ e ∷ es) ((e.0, v) ∷ es) (e ∷ ins es k v)) h

-- ** the last of one name counts

over_by : (e : Entry) (es : Bindings) (k a b : List ℕ) (o : Ordering) → text_cmp k e.0 ≡ o → ins (ins es k a) k b ≡ ins es k b → ins (ins (e ∷ es) k a) k b ≡ ins (e ∷ es) k b
over_by e es k a b Less h go = ap (λ l. ins l k b) (less_in e es k a h) ∙ equal_in (k, a) (e ∷ es) k b (tied_itself nat_list_cmp_total k) ∙ sym (less_in e es k b h)
over_by e es k a b Equal h go = ap (λ l. ins l k b) (equal_in e es k a h) ∙ equal_in (e.0, a) es k b h ∙ sym (equal_in e es k b h)
over_by e es k a b Greater h go = ap (λ l. ins l k b) (greater_in e es k a h) ∙ greater_in e (ins es k a) k b h ∙ ap (λ l. e ∷ l) go ∙ sym (greater_in e es k b h)

pub over : (es : Bindings) (k a b : List ℕ) → ins (ins es k a) k b ≡ ins es k b
over [] k a b = equal_in (k, a) [] k b (tied_itself nat_list_cmp_total k)
over (e ∷ es) k a b = over_by e es k a b (text_cmp k e.0) refl (over es k a b)

-- ** two names, in either order

swap_by : (e : Entry) (es : Bindings) (k v y w : List ℕ) (o p : Ordering) → text_cmp k e.0 ≡ o → text_cmp y e.0 ≡ p → text_cmp y k ≡ Less → ins (ins es k v) y w ≡ ins (ins es y w) k v
    → ins (ins (e ∷ es) k v) y w ≡ ins (ins (e ∷ es) y w) k v
swap_by e es k v y w Less p h i yk go =
    let ye : text_cmp y e.0 ≡ Less = nat_list_cmp_total.trans y k e.0 yk h in
    ap (λ l. ins l y w) (less_in e es k v h) ∙ less_in (k, v) (e ∷ es) y w yk
    ∙ sym (ap (λ l. ins l k v) (less_in e es y w ye) ∙ greater_in (y, w) (e ∷ es) k v (turned y k yk) ∙ ap (λ l. (y, w) ∷ l) (less_in e es k v h))
swap_by e es k v y w Equal p h i yk go =
    let ye : text_cmp y e.0 ≡ Less = sym (alike_right nat_list_cmp_total k e.0 y h) ∙ yk in
    ap (λ l. ins l y w) (equal_in e es k v h) ∙ less_in (e.0, v) es y w ye
    ∙ sym (ap (λ l. ins l k v) (less_in e es y w ye) ∙ greater_in (y, w) (e ∷ es) k v (turned y k yk) ∙ ap (λ l. (y, w) ∷ l) (equal_in e es k v h))
swap_by e es k v y w Greater Less h i yk go =
    ap (λ l. ins l y w) (greater_in e es k v h) ∙ less_in e (ins es k v) y w i
    ∙ sym (ap (λ l. ins l k v) (less_in e es y w i) ∙ greater_in (y, w) (e ∷ es) k v (turned y k yk) ∙ ap (λ l. (y, w) ∷ l) (greater_in e es k v h))
swap_by e es k v y w Greater Equal h i yk go =
    ap (λ l. ins l y w) (greater_in e es k v h) ∙ equal_in e (ins es k v) y w i
    ∙ sym (ap (λ l. ins l k v) (equal_in e es y w i) ∙ greater_in (e.0, w) es k v h)
swap_by e es k v y w Greater Greater h i yk go =
    ap (λ l. ins l y w) (greater_in e es k v h) ∙ greater_in e (ins es k v) y w i ∙ ap (λ l. e ∷ l) go
    ∙ sym (ap (λ l. ins l k v) (greater_in e es y w i) ∙ greater_in e (ins es y w) k v h)

pub swap : (es : Bindings) (k v y w : List ℕ) → text_cmp y k ≡ Less → ins (ins es k v) y w ≡ ins (ins es y w) k v
swap [] k v y w yk = less_in (k, v) [] y w yk ∙ sym (greater_in (y, w) [] k v (turned y k yk))
swap (e ∷ es) k v y w yk = swap_by e es k v y w (text_cmp k e.0) (text_cmp y e.0) refl refl yk (swap es k v y w yk)

-- ** many are put in

put_by : (x : Entry) (m l : Bindings) (k v : List ℕ) (o : Ordering) → text_cmp k x.0 ≡ o → put_all (ins m k v) l ≡ ins (put_all m l) k v
    → put_all (ins (x ∷ m) k v) l ≡ ins (put_all (x ∷ m) l) k v
put_by x m l k v Less h go = ap (λ t. put_all t l) (less_in x m k v h)
put_by x m l k v Equal h go =
    ap (λ t. put_all t l) (equal_in x m k v h) ∙ sym (over (put_all m l) x.0 x.1 v) ∙ ap (λ n. ins (ins (put_all m l) x.0 x.1) n v) (sym (same_name k x.0 h))
put_by x m l k v Greater h go =
    ap (λ t. put_all t l) (greater_in x m k v h) ∙ ap (λ t. ins t x.0 x.1) go ∙ swap (put_all m l) k v x.0 x.1 (turned_back k x.0 h)

pub put_one : (m l : Bindings) (k v : List ℕ) → put_all (ins m k v) l ≡ ins (put_all m l) k v
put_one [] l k v = refl
put_one (x ∷ m) l k v = put_by x m l k v (text_cmp k x.0) refl (put_one m l k v)

-- ** where they stand

-- the first of these comes after a name
abbrev pub BeginsAfter : List ℕ → Bindings → Type 0
BeginsAfter k [] = Unit {0}
BeginsAfter k (b ∷ bs) = text_cmp k b.0 ≡ Less

first_in : (l : Bindings) (k v : List ℕ) → BeginsAfter k l → ins l k v ≡ (k, v) ∷ l
first_in [] k v h = refl
first_in (e ∷ es) k v h = less_in e es k v h

after_by : (e : Entry) (es : Bindings) (k y w : List ℕ) (o : Ordering) → text_cmp k y ≡ Less → text_cmp k e.0 ≡ Less → BeginsAfter k (match_ordering o ((y, w) ∷ e ∷ es) ((e.0, w) ∷ es) (e ∷ ins es y w))
after_by e es k y w Less h i = h
after_by e es k y w Equal h i = i
after_by e es k y w Greater h i = i

after_in : (l : Bindings) (k y w : List ℕ) → text_cmp k y ≡ Less → BeginsAfter k l → BeginsAfter k (ins l y w)
after_in [] k y w h i = h
after_in (e ∷ es) k y w h i = after_by e es k y w (text_cmp y e.0) h i

after_all : (m l : Bindings) (k : List ℕ) → Above k m → BeginsAfter k l → BeginsAfter k (put_all m l)
after_all [] l k h i = i
after_all (x ∷ m) l k h i = after_in (put_all m l) k x.0 x.1 h.0 (after_all m l k h.1 i)

-- one before all others comes first
pub comes_first : (m l : Bindings) (k v : List ℕ) → Above k m → BeginsAfter k l → put_all ((k, v) ∷ m) l ≡ (k, v) ∷ put_all m l
comes_first m l k v h i = first_in (put_all m l) k v (after_all m l k h i)

-- those after an entry leave it first
pub stays_first : (m l : Bindings) (b : Entry) → Above b.0 m → put_all m (b ∷ l) ≡ b ∷ put_all m l
stays_first [] l b h = refl
stays_first (x ∷ m) l b h = ap (λ t. ins t x.0 x.1) (stays_first m l b h.1) ∙ greater_in b (put_all m l) x.0 x.1 (turned b.0 x.0 h.0)

-- what is after one name is after any name before it
pub after_before : (m : Bindings) (y k : List ℕ) → text_cmp y k ≡ Less → Above k m → Above y m
after_before [] y k h i = tt
after_before (x ∷ m) y k h i = (nat_list_cmp_total.trans y k x.0 h i.0, after_before m y k h i.1)

-- one of the name of the first takes its place
pub takes_place : (m l : Bindings) (b : Entry) (k v : List ℕ) → text_cmp k b.0 ≡ Equal → Above k m → put_all ((k, v) ∷ m) (b ∷ l) ≡ (k, v) ∷ put_all m l
takes_place m l b k v h i =
    let same : k ≡ b.0 = same_name k b.0 h in
    ap (λ t. ins t k v) (stays_first m l b (subst (λ n. Above n m) same i)) ∙ equal_in b (put_all m l) k v h ∙ ap (λ n. (n, v) ∷ put_all m l) (sym same)

-- one after the first leaves it first
pub passes_first : (m l : Bindings) (b : Entry) (k v : List ℕ) → text_cmp k b.0 ≡ Greater → Above k m → put_all ((k, v) ∷ m) (b ∷ l) ≡ b ∷ put_all ((k, v) ∷ m) l
passes_first m l b k v h i = stays_first ((k, v) ∷ m) l b (turned_back k b.0 h, after_before m b.0 k (turned_back k b.0 h) i)

-- ** functions

-- the functions among others are those put in after what they were put in by themselves
pub functions_among : (fs : Functions) (base l : Bindings) → with_functions fs (put_all base l) ≡ put_all (with_functions fs base) l
functions_among [] base l = refl
functions_among (f ∷ fs) base l = ap (λ t. ins t (codes "fn#" ++ f.0) (image f.1)) (functions_among fs base l) ∙ sym (put_one (with_functions fs base) l (codes "fn#" ++ f.0) (image f.1))

-- a function comes before those after it, and before the status
pub comes_before : (name : List ℕ) (ds : List Definition) (status : List ℕ) → Above name (definitions_of ds) → Above (codes "fn#" ++ name) (additions ds status)
comes_before name [] status h = (refl, tt)
comes_before name (d ∷ ds) status h = (h.0, comes_before name ds status h.1)

begins_after : (k : List ℕ) (l : Bindings) → Above k l → BeginsAfter k l
begins_after k [] h = tt
begins_after k (b ∷ bs) h = h.0

-- the functions are put in before the status, in their order
pub in_order : (ds : List Definition) (status : List ℕ) → Ordered (definitions_of ds) → with_functions (definitions_of ds) ((status_name, value_text (status ∷ [])) ∷ []) ≡ additions ds status
in_order [] status h = refl
in_order (d ∷ ds) status h =
    ap (λ t. ins t (codes "fn#" ++ d.name.now) (image (body_tree d.function.now))) (in_order ds status h.1)
    ∙ first_in (additions ds status) (codes "fn#" ++ d.name.now) (image (body_tree d.function.now)) (begins_after (codes "fn#" ++ d.name.now) (additions ds status) (comes_before d.name.now ds status h.0))
