-- Where instructions stand.
use Rattle.std.proofs.Common.{◌≡◌, ℕ, ◌+◌, ◌<◌, List, [], ◌∷◌, ◌++◌, length, Some, ap, ◌∙◌, subst, arith, append_assoc, length-append}
use Rattle.std.specs.Prelude.{slice_get, false}
use Rattle.std.proofs.Math.Seq.{get_or-append_seam}
use Rattle.std.proofs.lemmas.Option.{slice_get-get_or}
use Rattle.rc_model.specs.Code.Layout.{Part, Code, ◌⨾◌, ops_of, kept_of, code, cmd_code, Do, Return}
use Rattle.rc_model.specs.Syntax.Tree.{Node, cmd}

-- the items stand in the list at this place
abbrev pub HasAt : {X : Type 0} → List X → ℕ → List X → Type 0
HasAt ops p [] = Unit {0}
HasAt ops p (i ∷ is) = (slice_get ops p ≡ Some i) × HasAt ops (p + 1) is

pub has_front : {X : Type 0} (ops : List X) (p : ℕ) (a b : List X) → HasAt ops p (a ++ b) → HasAt ops p a
has_front ops p [] b h = tt
has_front ops p (i ∷ a) b h = (h.0, has_front ops (p + 1) a b h.1)

pub has_back : {X : Type 0} (ops : List X) (p : ℕ) (a b : List X) → HasAt ops p (a ++ b) → HasAt ops (p + length a) b
has_back ops p [] b h = let e : p ≡ p + 0 = omega arith in subst (λ n. HasAt ops n b) e h
has_back ops p (i ∷ a) b h =
    let e : p + 1 + length a ≡ p + length (i ∷ a) = omega arith in
    subst (λ n. HasAt ops n b) e (has_back ops (p + 1) a b h.1)

pub has_all : {X : Type 0} (is pre : List X) → HasAt (pre ++ is) (length pre) is
has_all [] pre = tt
has_all (i ∷ is) pre =
    let within : length pre < length (pre ++ i ∷ is) = omega (arith, length-append pre (i ∷ is)) in
    let here = slice_get-get_or (pre ++ i ∷ is) (length pre) i within ∙ ap Some (get_or-append_seam pre i is i) in
    let n : length (pre ++ i ∷ []) ≡ length pre + 1 = omega (arith, length-append pre (i ∷ [])) in
    let rest = has_all is (pre ++ i ∷ []) in
    let rest' = subst (λ l. HasAt l (length (pre ++ i ∷ [])) is) (append_assoc pre (i ∷ []) is) rest in
    (here, subst (λ m. HasAt (pre ++ i ∷ is) m is) n rest')

-- a part stands in the code at this place, and what it keeps has the numbers from k on
abbrev pub Stands : Code → ℕ → ℕ → Part → Type 0
Stands code p k part = HasAt code.ops p (ops_of part p k) × HasAt code.kept k (kept_of part)

-- the place after a part
abbrev pub past : Part → ℕ → ℕ → ℕ
past part p k = p + length (ops_of part p k)

-- the number after those of a part
abbrev pub kept_past : Part → ℕ → ℕ
kept_past part k = k + length (kept_of part)

pub stands_first : (code : Code) (p k : ℕ) (a b : Part) → Stands code p k (a ⨾ b) → Stands code p k a
stands_first code p k a b h =
    (has_front code.ops p (ops_of a p k) (ops_of b (past a p k) (kept_past a k)) h.0, has_front code.kept k (kept_of a) (kept_of b) h.1)

pub stands_second : (code : Code) (p k : ℕ) (a b : Part) → Stands code p k (a ⨾ b) → Stands code (past a p k) (kept_past a k) b
stands_second code p k a b h =
    (has_back code.ops p (ops_of a p k) (ops_of b (past a p k) (kept_past a k)) h.0, has_back code.kept k (kept_of a) (kept_of b) h.1)

pub past_then : (p k : ℕ) (a b : Part) → past b (past a p k) (kept_past a k) ≡ past (a ⨾ b) p k
past_then p k a b = omega (arith, length-append (ops_of a p k) (ops_of b (past a p k) (kept_past a k)))

-- the code of a command, and its last instruction
pub stands_code : (d : Node cmd) → Stands (code d) 0 0 (cmd_code d false ⨾ Do Return)
stands_code d = (has_all (code d).ops [], has_all (code d).kept [])
