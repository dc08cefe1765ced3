-- How the writing of parts joins.
use Rattle.std.proofs.Common.{◌≡◌, ◌+◌, ◌<◌, ℕ, Bool, false, [], ◌∷◌, ◌++◌, length, refl, sym, ap, ◌∙◌, arith, append_assoc, length-append, append-nil}
use Rattle.std.proofs.Math.Seq.{set-append_seam}
use Rattle.std.proofs.lemmas.Grind.{common_steps}
use Rattle.rc_model.specs.Syntax.Tree.{Node, Many, cmd, arg, Pair, pair, redir, none, more}
use Rattle.rc_model.specs.Syntax.Tree as tree
use Rattle.rc_model.specs.Code.Layout.{Op, Kept, Code, Part, Nothing, Do, Keep, Past, PastKeep, Loop, ◌⨾◌, ops_of, kept_of, Jump, Return, code, cmd_code, pairs_code, redirs_code}
use Rattle.rc_tree.specs.View.{tree_nodes}
use Rattle.rc_tree.proofs.Numbers.{count_nodes}
use Rattle.rc_code.specs.Writing.{with_part, with_kept, patched}
use Rattle.rc_code.specs.Emission.{pairs_alone, redirs_alone, members_code, turns_code}

pub same_code : (a b : Code) → a.ops ≡ b.ops → a.kept ≡ b.kept → a ≡ b
same_code a b e f = ap (λ ops. record a { ops = ops }) e ∙ ap (λ kept. record b { kept = kept }) f

pub with_part-Nothing : (c : Code) → with_part c Nothing ≡ c
unfolding with_part
with_part-Nothing c = same_code (with_part c Nothing) c (append-nil c.ops) (append-nil c.kept)

pub with_part-then : (c : Code) (x y : Part) → with_part c (x ⨾ y) ≡ with_part (with_part c x) y
unfolding with_part
with_part-then c x y =
    let at_p = length-append c.ops (ops_of x (length c.ops) (length c.kept)) in
    let at_k = length-append c.kept (kept_of x) in
    same_code (with_part c (x ⨾ y)) (with_part (with_part c x) y) (rw (at_p, at_k, append_assoc)) (sym (append_assoc c.kept (kept_of x) (kept_of y)))

-- something is kept, and then its instruction is written
pub with_part-Keep : (c : Code) (f : ℕ → Op) (x : Kept) → with_part c (Keep f x) ≡ with_part (with_kept c x) (Do (f (length c.kept)))
unfolding with_part with_kept
with_part-Keep c f x = ap (λ kept. record c { ops = c.ops ++ f (length c.kept) ∷ []; kept = kept }) (sym (append-nil (c.kept ++ x ∷ [])))

-- the instructions of a part, with one before them that is not known yet
before : (c : Code) (op : Op) (x : Part) → (with_part (with_part c (Do op)) x).ops ≡ c.ops ++ op ∷ ops_of x (length c.ops + 1) (length c.kept)
unfolding with_part
before c op x =
    let at_p = length-append c.ops (op ∷ []) in
    let at_k = append-nil c.kept in
    rw (at_p, at_k, append_assoc)

-- an instruction that jumps past a part is put in when the part stands
pub with_part-Past : (c : Code) (f : ℕ → Op) (x : Part)
    → with_part c (Past f x) ≡ (let d = with_part (with_part c (Do (Jump 0))) x in patched d (length c.ops) (f (length d.ops)))
unfolding with_part patched
with_part-Past c f x =
    let rest = ops_of x (length c.ops + 1) (length c.kept) in
    let d = with_part (with_part c (Do (Jump 0))) x in
    let whole : d.ops ≡ c.ops ++ Jump 0 ∷ rest = before c (Jump 0) x in
    let len : length d.ops ≡ length c.ops + 1 + length rest = rw whole (omega (arith, length-append c.ops (Jump 0 ∷ rest))) in
    same_code (with_part c (Past f x)) (patched d (length c.ops) (f (length d.ops)))
    (rw (len, whole, set-append_seam c.ops (Jump 0) rest (f (length c.ops + 1 + length rest))))
    (ap (λ ks. ks ++ kept_of x) (sym (append-nil c.kept)))

-- so is one that keeps something, too
pub with_part-PastKeep : (c : Code) (f : ℕ → ℕ → Op) (x : Kept) (y : Part)
    → with_part c (PastKeep f x y) ≡ with_part (with_kept c x) (Past (f (length c.kept)) y)
unfolding with_part with_kept
with_part-PastKeep c f x y =
    same_code (with_part c (PastKeep f x y)) (with_part (with_kept c x) (Past (f (length c.kept)) y))
    (rw (length-append c.kept (x ∷ [])))
    (sym (append_assoc c.kept (x ∷ []) (kept_of y)))

-- and the one by which a loop ends
pub with_part-Loop : (c : Code) (x : Part) (f : ℕ → Op) (y : Part)
    → with_part c (Loop x f y) ≡ with_part (with_part c x) (Past f (y ⨾ Do (Jump (length c.ops))))
unfolding with_part
with_part-Loop c x f y =
    let p = length c.ops in
    let k = length c.kept in
    let test = ops_of x p k in
    let q = p + length test in
    let i = k + length (kept_of x) in
    let body = ops_of y (q + 1) i in
    let at_p : length (c.ops ++ test) ≡ q = length-append c.ops test in
    let at_k : length (c.kept ++ kept_of x) ≡ i = length-append c.kept (kept_of x) in
    let len : q + 1 + length (body ++ Jump p ∷ []) ≡ q + 1 + length body + 1 = omega (arith, length-append body (Jump p ∷ [])) in
    same_code (with_part c (Loop x f y)) (with_part (with_part c x) (Past f (y ⨾ Do (Jump p))))
    (rw (at_p, at_k, len, append_assoc))
    (rw (append-nil (kept_of y), append_assoc))

-- a part only adds instructions
pub length_part : (c : Code) (x : Part) → length (with_part c x).ops ≡ length c.ops + length (ops_of x (length c.ops) (length c.kept))
unfolding with_part
length_part c x = length-append c.ops (ops_of x (length c.ops) (length c.kept))

-- the place of an instruction stands within the code, and stays there
pub starts : (p : ℕ) (b c : Code) (op : Op) → p ≡ length b.ops → c ≡ with_part b (Do op) → p < length c.ops
starts p b c op at e = omega (arith, at, ap (λ d. length d.ops) e, length_part b (Do op))

pub stays : (p : ℕ) (b c : Code) (x : Part) → c ≡ with_part b x → p < length b.ops → p < length c.ops
stays p b c x e h = omega (arith, h, ap (λ d. length d.ops) e, length_part b x)

pub put_last : (p : ℕ) (b c : Code) (op : Op) → p ≡ length b.ops → c ≡ with_part b (Do op) → p + 1 ≡ length c.ops
put_last p b c op at e = omega (arith, at, ap (λ d. length d.ops) e, length_part b (Do op))

-- a part that stands alone
pub with_part-alone : (x : Part) → with_part (record { ops = []; kept = [] }) x ≡ record { ops = ops_of x 0 0; kept = kept_of x }
unfolding with_part
with_part-alone x = refl

-- assignments, and then what stands after them
pub pairs_then : (ps : Many pair) (bare : Bool) (c : Code) (inner : Part) → with_part c (pairs_code ps bare inner) ≡ with_part (with_part c (pairs_alone ps bare)) inner
pairs_then none bare c inner = ap (λ d. with_part d inner) (sym (with_part-Nothing c))
pairs_then (more (Pair name value) rest) bare c inner = simp (with_part-then, pairs_then rest)

-- redirections, and then what stands after them
pub redirs_then : (rs : Many redir) (c : Code) (inner : Part) → with_part c (redirs_code rs inner) ≡ with_part (with_part c (redirs_alone rs)) inner
redirs_then none c inner = ap (λ d. with_part d inner) (sym (with_part-Nothing c))
redirs_then (more (tree.Open mode slot path) rest) c inner = simp (with_part-then, redirs_then rest)
redirs_then (more (tree.Copy to from) rest) c inner = simp (with_part-then, redirs_then rest)
redirs_then (more (tree.Here pieces) rest) c inner = simp (with_part-then, redirs_then rest)

-- a `for`, as it is written
pub for_parts : (c : Code) (name : Node arg) (words : Many arg) (body : Node cmd) (g : Bool)
    → with_part c (cmd_code (tree.For name words body) g)
    ≡ with_part (with_part c (members_code words name)) (turns_code (cmd_code body g))
for_parts c name words body g = simp with_part-then

-- a command, whose end is the end of its code
pub whole_code : (a c : Code) (t : Node cmd) → a ≡ record { ops = []; kept = [] } → c ≡ with_part a (cmd_code t false ⨾ Do Return) → c ≡ code t
whole_code a c t empty written =
    written ∙ (ap (λ d. with_part d (cmd_code t false ⨾ Do Return)) empty ∙ with_part-alone (cmd_code t false ⨾ Do Return))

-- what the writing of a form needs
pub ruleset emitting =
    (with_part-Nothing, with_part-then, with_part-Keep, with_part-Past, with_part-PastKeep, with_part-Loop, pairs_then, redirs_then, count_nodes, tree_nodes, common_steps)
