-- One step over the body of a here document.
use Rattle.std.proofs.Common.{◌≡◌, ℕ, List, [], ◌∷◌, length, refl, ap, arith}
use Rattle.rc_model.specs.Syntax.Tree.{Many, snoc}
use Rattle.rc_model.specs.Syntax.Tree as t
use Rattle.std.proofs.lemmas.Grind.{common_steps}
use Rattle.rc_tree.specs.View.{tree_lists}
use Rattle.rc_model.specs.Syntax.HereDocs.{PieceSoFar, begun_after, ended_by, with_text, with_last, pieces_from}

pub pieces_next : (begun : PieceSoFar) (pieces : Many t.piece) (all cs : List ℕ) (c : ℕ) → all ≡ c ∷ cs → pieces_from begun pieces all ≡ pieces_from (begun_after begun c) (ended_by begun c pieces) cs
pieces_next begun pieces all cs c h = ap (pieces_from begun pieces) h

pub pieces_end : (begun : PieceSoFar) (pieces : Many t.piece) (all : List ℕ) → all ≡ [] → pieces_from begun pieces all ≡ with_last begun pieces
pieces_end begun pieces all h = ap (pieces_from begun pieces) h

pub ruleset pieces = (pieces_next, pieces_end, common_steps)

pub with_text_empty : (pieces : Many t.piece) (text : List ℕ) → length text ≡ 0 → with_text pieces text ≡ pieces
with_text_empty pieces [] h = refl
with_text_empty pieces (b ∷ bs) h = absurd (omega arith)

pub with_text_some : (pieces : Many t.piece) (text : List ℕ) → (length text ≡ 0 → ⊥) → with_text pieces text ≡ snoc pieces (t.Text text)
with_text_some pieces [] h = absurd (h refl)
with_text_some pieces (b ∷ bs) h = refl

pub ruleset texts = (with_text_empty, with_text_some, tree_lists)
