-- The branches of a switch: the loop that writes them learns last where they end, and puts in their jumps then.
use Rattle.std.specs.Prelude.{slice_set}
use Rattle.std.proofs.Common.{◌≡◌, ◌+◌, ◌<◌, ◌≤◌, ℕ, Bool, List, [], ◌∷◌, ◌++◌, length, refl, sym, ap, ◌∙◌, subst, arith, append_assoc, length-append, append-nil}
use Rattle.std.specs.List.{All}
use Rattle.std.proofs.lemmas.List.{set-append_left, length-set}
use Rattle.std.proofs.lemmas.List.Elements.{All-nil, All-head, All-tail, All-push, All-weaker}
use Rattle.std.proofs.Math.Seq.{set-append_seam}
use Rattle.rc_model.specs.Syntax.Tree.{Node, Many, branch, Branch, none, more}
use Rattle.rc_model.specs.Code.Layout.{Op, Nil, Case, Jump, Code, Part, Nothing, Do, Past, Either, ◌⨾◌, ops_of, kept_of, branches_code, cmd_code, args_code}
use Rattle.rc_code.specs.Writing.{with_part, patched, jumps_patched}
use Rattle.rc_code.specs.Emission.{branch_to, branches_to}
use Rattle.rc_code.proofs.PatchedJumps.{jumps_patched-none, length_patched}
use Rattle.rc_code.proofs.Parts.{same_code, with_part-Nothing, with_part-then, length_part}

-- jumps that are put in with a part after them

length_jumps_patched : (places : List ℕ) (c : Code) (e : ℕ) → length (jumps_patched c places e).ops ≡ length c.ops
unfolding jumps_patched
length_jumps_patched [] c e = refl
length_jumps_patched (p ∷ places) c e = length_jumps_patched places (patched c p (Jump e)) e ∙ length_patched c p (Jump e)

jumps_patched-push : (places : List ℕ) (c : Code) (last e : ℕ) → jumps_patched c (places ++ last ∷ []) e ≡ patched (jumps_patched c places e) last (Jump e)
unfolding jumps_patched
jumps_patched-push [] c last e = refl
jumps_patched-push (p ∷ places) c last e = jumps_patched-push places (patched c p (Jump e)) last e

patched-with_part : (c : Code) (x : Part) (p : ℕ) (op : Op) → p < length c.ops → patched (with_part c x) p op ≡ with_part (patched c p op) x
unfolding with_part patched
patched-with_part c x p op h =
    let rest = ops_of x (length c.ops) (length c.kept) in
    let len : length (slice_set c.ops p op) ≡ length c.ops = length-set c.ops p op in
    same_code (patched (with_part c x) p op) (with_part (patched c p op) x) (rw (set-append_left c.ops rest p op h, len)) refl

wider : (m n : ℕ) (places : List ℕ) → m ≤ n → All (λ p. p < m) places → All (λ p. p < n) places
wider m n places h all = All-weaker (λ p. p < m) (λ p. p < n) (λ p below. omega (arith, below)) places all

jumps_patched-with_part : (places : List ℕ) (c : Code) (x : Part) (e : ℕ) → All (λ p. p < length c.ops) places
    → jumps_patched (with_part c x) places e ≡ with_part (jumps_patched c places e) x
unfolding jumps_patched
jumps_patched-with_part [] c x e all = refl
jumps_patched-with_part (p ∷ places) c x e all =
    ap (λ d. jumps_patched d places e) (patched-with_part c x p (Jump e) (All-head (λ p. p < length c.ops) p places all))
    ∙ jumps_patched-with_part places (patched c p (Jump e)) x e (wider (length c.ops) _ places (omega (arith, length_patched c p (Jump e))) (All-tail (λ p. p < length c.ops) p places all))

-- one branch and its last instruction

jump_last : (c : Code) (f : ℕ → Op) (x : Part) (last e : ℕ) → last + 1 ≡ length (with_part c (Past f (x ⨾ Do (Jump 0)))).ops
    → patched (with_part c (Past f (x ⨾ Do (Jump 0)))) last (Jump e) ≡ with_part c (Past f (x ⨾ Do (Jump e)))
unfolding with_part patched
jump_last c f x last e at =
    let rest = ops_of x (length c.ops + 1) (length c.kept) in
    let n = length c.ops + 1 + (length rest + 1) in
    let front = c.ops ++ f n ∷ rest in
    let len : (j : ℕ) → length (rest ++ Jump j ∷ []) ≡ length rest + 1 = λ j. length-append rest (Jump j ∷ []) in
    let whole : (j : ℕ) → (with_part c (Past f (x ⨾ Do (Jump j)))).ops ≡ front ++ Jump j ∷ [] = λ j. rw (len j, append_assoc) in
    let at_last : last ≡ length front = omega (arith, at, ap length (whole 0), length-append front (Jump 0 ∷ [])) in
    same_code (patched (with_part c (Past f (x ⨾ Do (Jump 0)))) last (Jump e)) (with_part c (Past f (x ⨾ Do (Jump e))))
    (rw (whole 0, at_last, set-append_seam front (Jump 0) [] (Jump e)) (sym (whole e)))
    refl

branch_last : (b : Node branch) (c : Code) (g : Bool) (last e : ℕ) → last + 1 ≡ length (with_part c (branch_to b g 0)).ops
    → patched (with_part c (branch_to b g 0)) last (Jump e) ≡ with_part c (branch_to b g e)
branch_last (Branch patterns body) c g last e at =
    let h = with_part (with_part c (Do Nil)) (args_code patterns) in
    let split : (j : ℕ) → with_part c (branch_to (Branch patterns body) g j) ≡ with_part h (Past Case (cmd_code body g ⨾ Do (Jump j))) =
    λ j. simp with_part-then in
    ap (λ d. patched d last (Jump e)) (split 0)
    ∙ (jump_last h Case (cmd_code body g) last e (at ∙ ap (λ d. length d.ops) (split 0)) ∙ sym (split e))

-- a jump past the other branches, which is known to end where they do
Past-Either : (c : Code) (f : ℕ → Op) (x y : Part) (e : ℕ) → e ≡ length (with_part (with_part c (Past f (x ⨾ Do (Jump e)))) y).ops
    → with_part (with_part c (Past f (x ⨾ Do (Jump e)))) y ≡ with_part c (Either f x y)
unfolding with_part
Past-Either c f x y e at =
    let p = length c.ops in
    let k = length c.kept in
    let first = ops_of x (p + 1) k in
    let q = p + 1 + length first + 1 in
    let second = ops_of y q (k + length (kept_of x)) in
    let len : p + 1 + length (first ++ Jump e ∷ []) ≡ q = omega (arith, length-append first (Jump e ∷ [])) in
    let front = c.ops ++ f q ∷ (first ++ Jump e ∷ []) in
    let at_q : length front ≡ q = omega (arith, length-append c.ops (f q ∷ (first ++ Jump e ∷ [])), length-append first (Jump e ∷ [])) in
    let at_k : length (c.kept ++ (kept_of x ++ [])) ≡ k + length (kept_of x) = rw (append-nil (kept_of x)) (length-append c.kept (kept_of x)) in
    let whole : (with_part (with_part c (Past f (x ⨾ Do (Jump e)))) y).ops ≡ front ++ second = rw (len, at_q, at_k) in
    let end : e ≡ q + length second = at ∙ (ap length whole ∙ omega (arith, length-append front second, at_q)) in
    let joined : front ++ second ≡ c.ops ++ f q ∷ (first ++ Jump e ∷ second) = simp append_assoc in
    same_code (with_part (with_part c (Past f (x ⨾ Do (Jump e)))) y) (with_part c (Either f x y))
    (whole ∙ (joined ∙ ap (λ j. c.ops ++ f q ∷ (first ++ Jump j ∷ second)) end))
    (rw (append-nil (kept_of x), append_assoc))

branches_joined : (bs : Many branch) (g : Bool) (c : Code) (e : ℕ) → e ≡ length (with_part c (branches_to bs g e)).ops
    → with_part c (branches_to bs g e) ≡ with_part c (branches_code bs g)
branches_joined none g c e at = refl
branches_joined (more (Branch patterns body) rest) g c e at =
    let h = with_part (with_part c (Do Nil)) (args_code patterns) in
    let d = with_part h (Past Case (cmd_code body g ⨾ Do (Jump e))) in
    let split : with_part c (branches_to (more (Branch patterns body) rest) g e) ≡ with_part d (branches_to rest g e) = simp with_part-then in
    let at_rest : e ≡ length (with_part d (branches_to rest g e)).ops = at ∙ ap (λ x. length x.ops) split in
    let others : with_part d (branches_to rest g e) ≡ with_part d (branches_code rest g) = branches_joined rest g d e at_rest in
    let joined : with_part d (branches_code rest g) ≡ with_part h (Either Case (cmd_code body g) (branches_code rest g)) =
    Past-Either h Case (cmd_code body g) (branches_code rest g) e (at_rest ∙ ap (λ x. length x.ops) others) in
    let whole : with_part c (branches_code (more (Branch patterns body) rest) g) ≡ with_part h (Either Case (cmd_code body g) (branches_code rest g)) =
    simp with_part-then in
    split ∙ (others ∙ (joined ∙ sym whole))

-- Some branches are written, and some are left. Whatever the end will be: with the jumps to it put in, all are written.
pub record Leaves (start now : Code) (ends : List ℕ) (g : Bool) (all left : Many branch) : Type 0 where
  pub within : All (λ p. p < length now.ops) ends
  pub joins : (e : ℕ) → with_part (jumps_patched now ends e) (branches_to left g e) ≡ with_part start (branches_to all g e)

pub leaves_start : (c : Code) (ends : List ℕ) (g : Bool) (bs : Many branch) → ends ≡ [] → Leaves c c ends g bs bs
leaves_start c ends g bs none_yet =
    subst (λ ends. Leaves c c ends g bs bs) (sym none_yet) (record {
      within = All-nil (λ p. p < length c.ops);
      joins = λ e. ap (λ d. with_part d (branches_to bs g e)) (jumps_patched-none c e);
    })

pub leaves_more : (start now next : Code) (ends after : List ℕ) (g : Bool) (all left : Many branch) (b : Node branch) (rest : Many branch) (last : ℕ)
    → Leaves start now ends g all left → left ≡ more b rest → next ≡ with_part now (branch_to b g 0) → last + 1 ≡ length next.ops → after ≡ ends ++ last ∷ []
    → Leaves start next after g all rest
leaves_more start now next ends after g all left b rest last was first written at more_ends =
    let room : length now.ops ≤ length next.ops =
    omega (arith, ap (λ d. length d.ops) written, length_part now (branch_to b g 0)) in
    let redirects : (e : ℕ) → jumps_patched next ends e ≡ with_part (jumps_patched now ends e) (branch_to b g 0) =
    λ e. ap (λ d. jumps_patched d ends e) written ∙ jumps_patched-with_part ends now (branch_to b g 0) e was.within in
    let at_last : (e : ℕ) → last + 1 ≡ length (with_part (jumps_patched now ends e) (branch_to b g 0)).ops =
    λ e. at ∙ (sym (length_jumps_patched ends next e) ∙ ap (λ d. length d.ops) (redirects e)) in
    let known : (e : ℕ) → jumps_patched next (ends ++ last ∷ []) e ≡ with_part (jumps_patched now ends e) (branch_to b g e) =
    λ e. jumps_patched-push ends next last e
    ∙ (ap (λ d. patched d last (Jump e)) (redirects e) ∙ branch_last b (jumps_patched now ends e) g last e (at_last e)) in
    let joins : (e : ℕ) → with_part (jumps_patched now ends e) (branches_to (more b rest) g e) ≡ with_part start (branches_to all g e) =
    λ e. subst (λ left. with_part (jumps_patched now ends e) (branches_to left g e) ≡ with_part start (branches_to all g e)) first (was.joins e) in
    subst (λ ends. Leaves start next ends g all rest) (sym more_ends) (record {
      within = All-push (λ p. p < length next.ops) ends last (wider (length now.ops) (length next.ops) ends room was.within) (omega (arith, at));
      joins = λ e. ap (λ d. with_part d (branches_to rest g e)) (known e)
          ∙ (sym (with_part-then (jumps_patched now ends e) (branch_to b g e) (branches_to rest g e)) ∙ joins e);
    })

pub leaves_none : (start now done : Code) (ends : List ℕ) (g : Bool) (all left : Many branch) (e : ℕ)
    → Leaves start now ends g all left → left ≡ none → e ≡ length now.ops → done ≡ jumps_patched now ends e → done ≡ with_part start (branches_code all g)
leaves_none start now done ends g all left e was no_more at redirects =
    let joins : with_part (jumps_patched now ends e) Nothing ≡ with_part start (branches_to all g e) =
    subst (λ left. with_part (jumps_patched now ends e) (branches_to left g e) ≡ with_part start (branches_to all g e)) no_more (was.joins e) in
    let whole : done ≡ with_part start (branches_to all g e) = redirects ∙ (sym (with_part-Nothing (jumps_patched now ends e)) ∙ joins) in
    let at_end : e ≡ length (with_part start (branches_to all g e)).ops =
    at ∙ (sym (length_jumps_patched ends now e) ∙ (ap (λ d. length d.ops) (sym redirects) ∙ ap (λ d. length d.ops) whole)) in
    whole ∙ branches_joined all g start e at_end
