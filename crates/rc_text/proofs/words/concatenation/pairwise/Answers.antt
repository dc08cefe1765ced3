use Rattle.std.proofs.Common.{◌≡◌, [], ◌∷◌, List, ◌++◌, inl, inr, refl, ap, sym, ◌∙◌}
use Rattle.std.proofs.lemmas.List.{append-nil}
use Rattle.std.proofs.lemmas.Slice.Zip.{either_empty_from_Zip}
use Rattle.std.specs.Prelude.{◌⊎◌}
use Rattle.rc_model.specs.Syntax.Words.{Word}
use Rattle.rc_model.specs.Run.Lists.{pairwise}
use Rattle.rc_text.proofs.words.concatenation.pairwise.Goals as goal

no_pairs : (xs ys : List Word) → (xs ≡ []) ⊎ (ys ≡ []) → pairwise xs ys ≡ []
no_pairs xs ys (inl h) = ap (λ z. pairwise z ys) h
no_pairs [] ys (inr h) = refl
no_pairs (x ∷ xs) ys (inr h) = ap (pairwise (x ∷ xs)) h

pub returns : goal.returns
returns c =
    let e : pairwise _ _ ≡ [] = no_pairs _ _ (either_empty_from_Zip c.loop-left.left-iterator c.next.new.self c.next.result c.in-None.is c.next.ensures.steps) in
    sym (append-nil _) ∙ ap (λ t. c.loop-left.list ++ t) (sym e) ∙ c.loop-left.invariant
