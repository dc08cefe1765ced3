-- A text spells at most one tree, and where that ends is known, whatever follows.
use Rattle.std.specs.Prelude.{IsTrue, codes, drop, ◌==◌}
use Rattle.std.proofs.Common.{◌≡◌, ℕ, List, [], ◌∷◌, ◌++◌, Bool, true, false, refl, sym, ap, ◌∙◌, arith}
use Rattle.std.proofs.lemmas.Bool.{false≢true, eq-eqb}
use Rattle.rc_model.specs.declared.call.Mode.TheVariants.{Read, Write, Append}
use Rattle.rc_model.specs.declared.syntax.Logic.TheVariants.{And, Or}
use Rattle.rc_model.specs.Syntax.Tree.{Sort, Node, Many, none, more, count}
use Rattle.rc_model.specs.Syntax.Tree as t
use Rattle.rc_model.specs.Handed.TreeSpelling.{◌⨾◌, Is, Number, Output, Crossing, Plainly, Texted, Spells, SpellsAll}
use Rattle.rc_model.specs.Handed.TreeReading.{Reader}
use Rattle.rc_model.specs.Handed.TreeLaws.{OneTree}
use Rattle.law_image.proofs.Exact.{Exact, ok_inj, seam, after_mark, count_exact, text_exact, Nodes}
use Rattle.law_image.proofs.Levels.{output_exact, crossing_exact}

-- if one text begins with a spelling of x and with one of y, then x is y, and both spellings end at the same place
abbrev Agree : {X : Type 0} → (X → List ℕ → Type 0) → X → Type 0
Agree {X = X} S x = (y : X) (a b u v : List ℕ) → S x a → S y b → a ++ u ≡ b ++ v → (x ≡ y) × (u ≡ v)

record Alone {X : Type 0} (S : X → List ℕ → Type 0) (x : X) : Type 0 where
  other : Agree S x

-- the same of lists of one length
abbrev AllAgree : {s : Sort} → Many s → Type 0
AllAgree {s = s} ns = (ms : Many s) (a b u v : List ℕ) → count ns ≡ count ms → SpellsAll ns a → SpellsAll ms b → a ++ u ≡ b ++ v → (ns ≡ ms) × (u ≡ v)

-- what an exact reader takes, if it takes each spelling
taken : {X : Type 0} {r : Reader X} {S : X → List ℕ → Type 0} {ok : X → Bool} → Exact r S ok → ((x : X) → IsTrue (ok x)) → (x : X) → Alone S x
taken {X = X} {r = r} R fine x = record {
  other = λ y a b u v j k e.
      let same = ok_inj _ _ (sym (R.accepts x a u j (fine x)) ∙ ap r e ∙ R.accepts y b v k (fine y)) in
      (ap (λ (z : X × List ℕ). z.0) same, ap (λ (z : X × List ℕ). z.1) same);
}

texts : (x : List ℕ) → Alone Texted x
texts = taken text_exact (λ x. refl)

outputs : (n : ℕ) → Alone Output n
outputs = taken output_exact (λ n. refl)

crossings : (p : ℕ × ℕ) → Alone (λ (p : ℕ × ℕ). Crossing p.0 p.1) p
crossings = taken crossing_exact (λ p. refl)

numbers : (n : ℕ) → Alone (λ n. Number n ⨾ Is (codes ",")) n
numbers = taken (count_exact 44 refl) (λ n. refl)

-- a text that begins in two ways, cut where the first parts of both end
cut : (front back front' back' a b u v : List ℕ) → a ≡ front ++ back → b ≡ front' ++ back' → a ++ u ≡ b ++ v → front ++ (back ++ u) ≡ front' ++ (back' ++ v)
cut front back front' back' a b u v p q e = sym (seam front back a u p) ∙ e ∙ seam front' back' b v q

-- one thing and then another
both : {X Y : Type 0} {S : X → List ℕ → Type 0} {T : Y → List ℕ → Type 0} {x : X} {y : Y} → Alone S x → Alone T y → Alone (λ (p : X × Y). S p.0 ⨾ T p.1) (x, y)
both {x = x} {y = y} A B = record {
  other = λ q a b u v j k e.
      let one = A.other q.0 j.front k.front (j.back ++ u) (k.back ++ v) j.first k.first (cut j.front j.back k.front k.back a b u v j.cut k.cut e) in
      let two = B.other q.1 j.back k.back u v j.second k.second one.1 in
      (ap (λ z. (z, y)) one.0 ∙ ap (λ z. (q.0, z)) two.0, two.1);
}

-- what follows a mark
marked : {X : Type 0} {S : X → List ℕ → Type 0} (mark : ℕ) {x : X} → Alone S x → Alone (λ y. Is (mark ∷ []) ⨾ S y) x
marked mark A = record {
  other = λ y a b u v j k e. A.other y j.back k.back u v j.second k.second (ap (drop 1) (sym (after_mark mark a u j) ∙ e ∙ after_mark mark b v k));
}

-- nodes, and lists of them after their number
alone : {s : Sort} (x : Node s) → Agree (λ (y : Node s). Spells y) x → Alone (λ (y : Node s). Spells y) x
alone x h = record { other = h }

listed : {s : Sort} (ns : Many s) → AllAgree ns → Alone (λ (ms : Many s). Nodes ms) ns
listed ns h = record {
  other = λ ms a b u v j k e.
      let n = (numbers (count ns)).other (count ms) j.front k.front (j.back ++ u) (k.back ++ v) j.first k.first (cut j.front j.back k.front k.back a b u v j.cut k.cut e) in
      h ms j.back k.back u v n.0 j.second k.second n.1;
}

-- a node that is made of such things
form : {X Y : Type 0} {S : X → List ℕ → Type 0} {x : X} (f : X → Y) → Alone S x → (y : X) (a b u v : List ℕ) → S x a → S y b → a ++ u ≡ b ++ v → (f x ≡ f y) × (u ≡ v)
form f A y a b u v j k e = let h = A.other y a b u v j k e in (ap f h.0, h.1)

-- a file opened for reading, whose descriptor is 0
plainly : {X : Type 0} {S : X → List ℕ → Type 0} {x : X} (n : ℕ) → Alone S x → Alone (λ (p : ℕ × X). Plainly p.0 (S p.1)) (n, x)
plainly {x = x} n A = record {
  other = λ q a b u v j k e.
      let h = A.other q.1 a b u v j.rest k.rest e in
      (ap (λ i. (i, x)) (j.input ∙ sym k.input) ∙ ap (λ z. (q.0, z)) h.0, h.1);
}

-- no text begins with two marks
first_of : List ℕ → ℕ
first_of [] = 0
first_of (b ∷ bs) = b

apart : {P Q : List ℕ → Type 0} (m n : ℕ) (a b u v : List ℕ) → (Is (m ∷ []) ⨾ P) a → (Is (n ∷ []) ⨾ Q) b → a ++ u ≡ b ++ v → (m == n) ≡ false → ⊥
unfolding first_of
apart m n a b u v j k e h = false≢true (sym h ∙ eq-eqb m n (ap first_of (sym (after_mark m a u j) ∙ e ∙ after_mark n b v k)))

-- a mark alone
bare : {mark : ℕ} {a : List ℕ} → Is (mark ∷ []) a → (Is (mark ∷ []) ⨾ Is []) a
bare {mark = mark} j = record { front = mark ∷ []; back = []; cut = j; first = refl; second = refl }

mutual
  agree : {s : Sort} (x : Node s) → Agree (λ (y : Node s). Spells y) x
  agree t.Empty t.Empty a b u v j k e = (refl, ap (drop 1) (ap (λ z. z ++ u) (sym j) ∙ e ∙ ap (λ z. z ++ v) k))
  agree (t.Seq x) (t.Seq x') a b u v j k e = form t.Seq (marked 115 (listed x (all_agree x))) x' a b u v j k e
  agree (t.Simple x) (t.Simple x') a b u v j k e = form t.Simple (marked 99 (listed x (all_agree x))) x' a b u v j k e
  agree (t.Assign x y) (t.Assign x' y') a b u v j k e = form (λ p. t.Assign p.0 p.1) (marked 61 (both (listed x (all_agree x)) (alone y (agree y)))) (x', y') a b u v j k e
  agree (t.Redirect x y) (t.Redirect x' y') a b u v j k e = form (λ p. t.Redirect p.0 p.1) (marked 114 (both (listed x (all_agree x)) (alone y (agree y)))) (x', y') a b u v j k e
  agree (t.Pipeline x y) (t.Pipeline x' y') a b u v j k e = form (λ p. t.Pipeline p.0 p.1) (marked 112 (both (listed x (all_agree x)) (alone y (agree y)))) (x', y') a b u v j k e
  agree (t.AndOr x y) (t.AndOr x' y') a b u v j k e = form (λ p. t.AndOr p.0 p.1) (marked 97 (both (alone x (agree x)) (listed y (all_agree y)))) (x', y') a b u v j k e
  agree (t.Not x) (t.Not x') a b u v j k e = form t.Not (marked 33 (alone x (agree x))) x' a b u v j k e
  agree (t.Subshell x) (t.Subshell x') a b u v j k e = form t.Subshell (marked 64 (alone x (agree x))) x' a b u v j k e
  agree (t.If x y) (t.If x' y') a b u v j k e = form (λ p. t.If p.0 p.1) (marked 105 (both (alone x (agree x)) (alone y (agree y)))) (x', y') a b u v j k e
  agree (t.IfNot x) (t.IfNot x') a b u v j k e = form t.IfNot (marked 110 (alone x (agree x))) x' a b u v j k e
  agree (t.While x y) (t.While x' y') a b u v j k e = form (λ p. t.While p.0 p.1) (marked 119 (both (alone x (agree x)) (alone y (agree y)))) (x', y') a b u v j k e
  agree (t.ForAll x y) (t.ForAll x' y') a b u v j k e = form (λ p. t.ForAll p.0 p.1) (marked 102 (both (alone x (agree x)) (alone y (agree y)))) (x', y') a b u v j k e
  agree (t.For x y z) (t.For x' y' z') a b u v j k e =
      form (λ p. t.For p.0 p.1.0 p.1.1) (marked 70 (both (alone x (agree x)) (both (listed y (all_agree y)) (alone z (agree z)))))
      (x', (y', z')) a b u v j k e
  agree (t.Switch x y) (t.Switch x' y') a b u v j k e = form (λ p. t.Switch p.0 p.1) (marked 83 (both (alone x (agree x)) (listed y (all_agree y)))) (x', y') a b u v j k e
  agree (t.Match x y) (t.Match x' y') a b u v j k e = form (λ p. t.Match p.0 p.1) (marked 126 (both (alone x (agree x)) (listed y (all_agree y)))) (x', y') a b u v j k e
  agree (t.Define x y) (t.Define x' y') a b u v j k e = form (λ p. t.Define p.0 p.1) (marked 100 (both (listed x (all_agree x)) (alone y (agree y)))) (x', y') a b u v j k e
  agree (t.Undefine x) (t.Undefine x') a b u v j k e = form t.Undefine (marked 117 (listed x (all_agree x))) x' a b u v j k e
  agree (t.Brace x) (t.Brace x') a b u v j k e = form t.Brace (marked 98 (alone x (agree x))) x' a b u v j k e
  agree (t.Lit x false) (t.Lit x' false) a b u v j k e = form (λ z. t.Lit z false) (marked 119 (texts x)) x' a b u v j k e
  agree (t.Lit x true) (t.Lit x' true) a b u v j k e = form (λ z. t.Lit z true) (marked 113 (texts x)) x' a b u v j k e
  agree (t.Concat x) (t.Concat x') a b u v j k e = form t.Concat (marked 94 (listed x (all_agree x))) x' a b u v j k e
  agree (t.Paren x) (t.Paren x') a b u v j k e = form t.Paren (marked 40 (listed x (all_agree x))) x' a b u v j k e
  agree (t.Var x) (t.Var x') a b u v j k e = form t.Var (marked 36 (alone x (agree x))) x' a b u v j k e
  agree (t.Count x) (t.Count x') a b u v j k e = form t.Count (marked 35 (alone x (agree x))) x' a b u v j k e
  agree (t.Flat x) (t.Flat x') a b u v j k e = form t.Flat (marked 34 (alone x (agree x))) x' a b u v j k e
  agree (t.Sub x y) (t.Sub x' y') a b u v j k e = form (λ p. t.Sub p.0 p.1) (marked 91 (both (alone x (agree x)) (listed y (all_agree y)))) (x', y') a b u v j k e
  agree (t.Back x) (t.Back x') a b u v j k e = form t.Back (marked 96 (alone x (agree x))) x' a b u v j k e
  agree (t.Item x false) (t.Item x' false) a b u v j k e = form (λ z. t.Item z false) (marked 59 (alone x (agree x))) x' a b u v j k e
  agree (t.Item x true) (t.Item x' true) a b u v j k e = form (λ z. t.Item z true) (marked 38 (alone x (agree x))) x' a b u v j k e
  agree (t.Pair x y) (t.Pair x' y') a b u v j k e = form (λ p. t.Pair p.0 p.1) (both (alone x (agree x)) (alone y (agree y))) (x', y') a b u v j k e
  agree (t.Stage x n) (t.Stage x' n') a b u v j k e = form (λ p. t.Stage p.1 p.0) (both (outputs n) (alone x (agree x))) (n', x') a b u v j k e
  agree (t.Link And x) (t.Link And x') a b u v j k e = form (t.Link And) (marked 38 (alone x (agree x))) x' a b u v j k e
  agree (t.Link Or x) (t.Link Or x') a b u v j k e = form (t.Link Or) (marked 124 (alone x (agree x))) x' a b u v j k e
  agree (t.Branch x y) (t.Branch x' y') a b u v j k e = form (λ p. t.Branch p.0 p.1) (both (listed x (all_agree x)) (alone y (agree y))) (x', y') a b u v j k e
  agree (t.Open Read n x) (t.Open Read n' x') a b u v j k e = form (λ p. t.Open Read p.0 p.1) (marked 60 (plainly n (alone x (agree x)))) (n', x') a b u v j k e
  agree (t.Open Write n x) (t.Open Write n' x') a b u v j k e = form (λ p. t.Open Write p.0 p.1) (marked 62 (both (outputs n) (alone x (agree x)))) (n', x') a b u v j k e
  agree (t.Open Append n x) (t.Open Append n' x') a b u v j k e = form (λ p. t.Open Append p.0 p.1) (marked 43 (both (outputs n) (alone x (agree x)))) (n', x') a b u v j k e
  agree (t.Copy n m) (t.Copy n' m') a b u v j k e = form (λ p. t.Copy p.0 p.1) (marked 61 (crossings (n, m))) (n', m') a b u v j k e
  agree (t.Here x) (t.Here x') a b u v j k e = form t.Here (marked 104 (listed x (all_agree x))) x' a b u v j k e
  agree (t.Text x) (t.Text x') a b u v j k e = form t.Text (marked 116 (texts x)) x' a b u v j k e
  agree (t.Name x) (t.Name x') a b u v j k e = form t.Name (marked 118 (texts x)) x' a b u v j k e
  -- nodes of two forms have different marks
  agree t.Empty y a b u v j k e = absurd (apart _ _ a b u v (bare j) k e refl)
  agree x t.Empty a b u v j k e = absurd (apart _ _ a b u v j (bare k) e refl)
  agree x (t.Lit y false) a b u v j k e = absurd (apart _ _ a b u v j k e refl)
  agree x (t.Lit y true) a b u v j k e = absurd (apart _ _ a b u v j k e refl)
  agree x (t.Open Read n y) a b u v j k e = absurd (apart _ _ a b u v j k e refl)
  agree x (t.Open Write n y) a b u v j k e = absurd (apart _ _ a b u v j k e refl)
  agree x (t.Open Append n y) a b u v j k e = absurd (apart _ _ a b u v j k e refl)
  agree x y a b u v j k e = absurd (apart _ _ a b u v j k e refl)

  all_agree : {s : Sort} (ns : Many s) → AllAgree ns
  all_agree none none a b u v c j k e = (refl, ap (λ z. z ++ u) (sym j) ∙ e ∙ ap (λ z. z ++ v) k)
  all_agree none (more m ms) a b u v c j k e = absurd (omega (arith, c))
  all_agree (more n ns) none a b u v c j k e = absurd (omega (arith, c))
  all_agree (more n ns) (more m ms) a b u v c j k e =
      let one = agree n m j.front k.front (j.back ++ u) (k.back ++ v) j.first k.first (cut j.front j.back k.front k.back a b u v j.cut k.cut e) in
      let two = all_agree ns ms j.back k.back u v (omega (arith, c)) j.second k.second one.1 in
      (ap (λ z. more z ns) one.0 ∙ ap (λ z. more m z) two.0, two.1)

pub one_tree : OneTree
one_tree c d text j k =
    let same : j.back ≡ k.back = ap (drop 4) (ap (λ z. z ++ j.back) (sym j.first) ∙ sym j.cut ∙ k.cut ∙ ap (λ z. z ++ k.back) k.first) in
    (agree c d j.back k.back [] [] j.second k.second (ap (λ z. z ++ []) same)).0
