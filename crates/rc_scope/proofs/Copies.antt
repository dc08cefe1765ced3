-- Copies stand for the same.
use Rattle.std.proofs.Common.{◌≡◌, ℕ, ◌+◌, if◌then◌else◌, not, ◌&&◌, List, [], ◌∷◌, ◌++◌, map, reverse, refl, ap, ◌∙◌, string_bytes}
use mathlib.Core.List.{reverse_aux}
use Rattle.std.specs.List.{AllZip, AllByRecursion}
use Rattle.std.specs.List.Sorted.{IsStrictlySortedBy}
use Rattle.std.specs.Map.{keys_of}
use Rattle.std.specs.Str.{bytes_eq}
use Rattle.std.specs.String.{string_cmp}
use Rattle.std.specs.declared.alloc.Global.{Global}
use Rattle.std.specs.declared.string.String.{String}
use Rattle.std.specs.declared.cmp.Ordering.TheVariants.{Less}
use Rattle.std.specs.Cmp.Lexicographic.{slice_cmp}
use Rattle.std.specs.Ordering.{nat_cmp}
use Rattle.rc_model.specs.Run.State.{status_name}
use Rattle.rc_model.specs.declared.call.ChildNo.{ChildNo}
use Rattle.rc_scope.specs.Bodies.{function_of, functions_of}
use Rattle.rc_scope.specs.FunctionBodies.{body_tree}
use Rattle.rc_scope.specs.Copies.{IsValueCopy, IsLocalCopy, AreCopies}
use Rattle.rc_scope.specs.Locals.{name_of}
use Rattle.rc_scope.specs.Rows.{entries_in, entries_of, row_of, AreIn, AreRows}
use Rattle.rc_scope.specs.RowCopies.{IsRowCopy}
use Rattle.rc_scope.specs.Stacks.{texts_of, is_local_of, covered_in, stack_of, variable_of, stacks_of, locals_of}
use Rattle.rc_scope.specs.Children.{child_numbers}
use Rattle.rc_scope.specs.declared.functions.Function.{Function}
use Rattle.rc_scope.specs.declared.variables.locals.Local.{Local}
use Rattle.rc_scope.specs.declared.variables.name_rows.Row.{Row}
use Rattle.rc_scope.specs.declared.variables.value_rows.Value.{Value}
use Rattle.rc_scope.specs.declared.variables.Variables.{Variables}

-- ** rows
copies_append : (es fs gs hs : List (String Global × Value)) → AreCopies es fs → AreCopies gs hs → AreCopies (es ++ gs) (fs ++ hs)
copies_append [] [] gs hs a b = b
copies_append [] (f ∷ fs) gs hs a b = absurd a
copies_append (e ∷ es) [] gs hs a b = absurd a
copies_append (e ∷ es) (f ∷ fs) gs hs a b = (a.0, copies_append es fs gs hs a.1 b)

pub rows_copied : (rows copies : List Row) → AllZip IsRowCopy rows copies → AreCopies (entries_of rows) (entries_of copies)
rows_copied [] [] h = tt
rows_copied [] (t ∷ ts) h = absurd h
rows_copied (r ∷ rs) [] h = absurd h
rows_copied (r ∷ rs) (t ∷ ts) h = copies_append (entries_in r) (entries_in t) (entries_of rs) (entries_of ts) h.0 (rows_copied rs ts h.1)

keys_in : (n : ℕ) (es fs : List (String Global × Value)) → AreCopies es fs → AreIn n (keys_of es) → AreIn n (keys_of fs)
keys_in n [] [] h k = tt
keys_in n [] (f ∷ fs) h k = absurd h
keys_in n (e ∷ es) [] h k = absurd h
keys_in n (e ∷ es) (f ∷ fs) h k = (ap row_of h.0.0 ∙ k.0, keys_in n es fs h.1 k.1)

keys_above : (x y : String Global) (es fs : List (String Global × Value)) → string_bytes y ≡ string_bytes x → AreCopies es fs
    → AllByRecursion (λ k. string_cmp x k ≡ Less) (keys_of es) → AllByRecursion (λ k. string_cmp y k ≡ Less) (keys_of fs)
keys_above x y [] [] s h k = tt
keys_above x y [] (f ∷ fs) s h k = absurd h
keys_above x y (e ∷ es) [] s h k = absurd h
keys_above x y (e ∷ es) (f ∷ fs) s h k =
    (ap (λ a. slice_cmp nat_cmp a (string_bytes f.0)) s ∙ (ap (slice_cmp nat_cmp (string_bytes x)) h.0.0 ∙ k.0), keys_above x y es fs s h.1 k.1)

keys_sorted : (es fs : List (String Global × Value)) → AreCopies es fs → IsStrictlySortedBy string_cmp (keys_of es) → IsStrictlySortedBy string_cmp (keys_of fs)
unfolding IsStrictlySortedBy
keys_sorted [] [] h k = tt
keys_sorted [] (f ∷ fs) h k = absurd h
keys_sorted (e ∷ es) [] h k = absurd h
keys_sorted (e ∷ es) (f ∷ fs) h k = (keys_above e.0 f.0 es fs h.0.0 h.1 k.0, keys_sorted es fs h.1 k.1)

pub rows_are : (n : ℕ) (rows copies : List Row) → AllZip IsRowCopy rows copies → AreRows n rows → AreRows n copies
rows_are n [] [] h a = tt
rows_are n [] (t ∷ ts) h a = absurd h
rows_are n (r ∷ rs) [] h a = absurd h
rows_are n (r ∷ rs) (t ∷ ts) h a = (keys_in n (entries_in r) (entries_in t) h.0 a.0, keys_sorted (entries_in r) (entries_in t) h.0 a.1, rows_are (n + 1) rs ts h.1 a.2)

-- ** stacks
zip_onto : (ls ms fs gs : List Local) → AllZip IsLocalCopy ls ms → AllZip IsLocalCopy fs gs → AllZip IsLocalCopy (reverse_aux ls fs) (reverse_aux ms gs)
zip_onto [] [] fs gs h k = k
zip_onto [] (m ∷ ms) fs gs h k = absurd h
zip_onto (l ∷ ls) [] fs gs h k = absurd h
zip_onto (l ∷ ls) (m ∷ ms) fs gs h k = zip_onto ls ms (l ∷ fs) (m ∷ gs) h.1 (h.0, k)

zip_reverse : (ls ms : List Local) → AllZip IsLocalCopy ls ms → AllZip IsLocalCopy (reverse ls) (reverse ms)
zip_reverse ls ms h = zip_onto ls ms [] [] h tt

covered_same : (ls ms : List Local) (name : List ℕ) → AllZip IsLocalCopy ls ms → covered_in ms name ≡ covered_in ls name
covered_same [] [] name h = refl
covered_same [] (m ∷ ms) name h = absurd h
covered_same (l ∷ ls) [] name h = absurd h
covered_same (l ∷ ls) (m ∷ ms) name h =
    let rest = covered_same ls ms name h.1 in
    ap (λ r. if is_local_of name m then texts_of m.covered ∷ (if m.covered.covers then r else []) else r) rest
    ∙ (ap (λ b. if b then texts_of m.covered ∷ (if m.covered.covers then covered_in ls name else []) else covered_in ls name) (ap (λ n. bytes_eq name n && not (bytes_eq name status_name)) h.0.0)
    ∙ (ap (λ t. if is_local_of name l then t ∷ (if m.covered.covers then covered_in ls name else []) else covered_in ls name) h.0.1.0
    ∙ ap (λ c. if is_local_of name l then texts_of l.covered ∷ (if c then covered_in ls name else []) else covered_in ls name) h.0.1.1))

stack_same : (ls ms : List Local) (name : List ℕ) (v w : Value) → AllZip IsLocalCopy ls ms → IsValueCopy v w → stack_of ms name w ≡ stack_of ls name v
stack_same ls ms name v w h k =
    ap (λ c. texts_of w ∷ (if w.covers then c else [])) (covered_same ls ms name h)
    ∙ (ap (λ t. t ∷ (if w.covers then covered_in ls name else [])) k.0
    ∙ ap (λ c. texts_of v ∷ (if c then covered_in ls name else [])) k.1)

stacks_same : (es fs : List (String Global × Value)) (ls ms : List Local) → AreCopies es fs → AllZip IsLocalCopy ls ms → map (variable_of ms) fs ≡ map (variable_of ls) es
stacks_same [] [] ls ms h k = refl
stacks_same [] (f ∷ fs) ls ms h k = absurd h
stacks_same (e ∷ es) [] ls ms h k = absurd h
stacks_same (e ∷ es) (f ∷ fs) ls ms h k =
    ap (λ n. (n, stack_of ms n f.1) ∷ map (variable_of ms) fs) h.0.0
    ∙ (ap (λ s. (string_bytes e.0, s) ∷ map (variable_of ms) fs) (stack_same ls ms (string_bytes e.0) e.1 f.1 k h.0.1)
    ∙ ap (λ vs. variable_of ls e ∷ vs) (stacks_same es fs ls ms h.1 k))

names_same : (ls ms : List Local) → AllZip IsLocalCopy ls ms → map (λ (l : Local). name_of l.name) ms ≡ map (λ (l : Local). name_of l.name) ls
names_same [] [] h = refl
names_same [] (m ∷ ms) h = absurd h
names_same (l ∷ ls) [] h = absurd h
names_same (l ∷ ls) (m ∷ ms) h = ap (λ n. n ∷ map (λ (l : Local). name_of l.name) ms) h.0.0 ∙ ap (λ ns. name_of l.name ∷ ns) (names_same ls ms h.1)

-- the variables of a copy, and its open locals
pub stacks_copied : (v w : Variables) → AreCopies v.values w.values → AllZip IsLocalCopy v.log.items w.log.items → stacks_of w ≡ stacks_of v
unfolding stacks_of
stacks_copied v w h k = stacks_same v.values w.values (reverse v.log.items) (reverse w.log.items) h (zip_reverse v.log.items w.log.items k)

pub locals_copied : (v w : Variables) → AllZip IsLocalCopy v.log.items w.log.items → locals_of w ≡ locals_of v
unfolding locals_of
locals_copied v w k = names_same (reverse v.log.items) (reverse w.log.items) (zip_reverse v.log.items w.log.items k)

pub ruleset variables = (stacks_copied, locals_copied)

-- ** functions and children
pub functions_same : (es fs : List (String Global × Function)) → AllZip (λ e f. (string_bytes f.0 ≡ string_bytes e.0) × (body_tree f.1 ≡ body_tree e.1)) es fs → functions_of fs ≡ functions_of es
functions_same [] [] h = refl
functions_same [] (f ∷ fs) h = absurd h
functions_same (e ∷ es) [] h = absurd h
functions_same (e ∷ es) (f ∷ fs) h =
    ap (λ n. (n, body_tree f.1) ∷ functions_of fs) h.0.0
    ∙ (ap (λ b. (string_bytes e.0, b) ∷ functions_of fs) h.0.1
    ∙ ap (λ gs. function_of e ∷ gs) (functions_same es fs h.1))

pub children_same : (xs ys : List ChildNo) → AllZip (λ a b. b ≡ a) xs ys → child_numbers ys ≡ child_numbers xs
children_same [] [] h = refl
children_same [] (y ∷ ys) h = absurd h
children_same (x ∷ xs) [] h = absurd h
children_same (x ∷ xs) (y ∷ ys) h = ap (λ c. c.0 ∷ child_numbers ys) h.0 ∙ ap (λ ns. x.0 ∷ ns) (children_same xs ys h.1)

pub ruleset functions = (functions_same, children_same)
