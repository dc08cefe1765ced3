use Rattle.std.proofs.Common.{◌∙◌, ◌++◌, ap, false, ◌∷◌, [], append_assoc}
use Rattle.std.proofs.lemmas.Str.{IsUtf8-had}
use Rattle.rc_model.specs.Syntax.Words.{unmarked}
use Rattle.rc_text.proofs.LiteralMarks.{at_ok, on_ok}
use Rattle.rc_text.proofs.Marks.{pushed, space_added}
use Rattle.rc_text.proofs.words.lists.push_spaced.Goals as goal

pub returns : goal.returns
returns c =
    on_ok c.push_text.result
    (λ e. e ∙ ap (λ w. w ++ unmarked c.args.word.now) (space_added _ _ (IsUtf8-had _ c.args.joined.now.ok) (at_ok c.in_ok-push.was (pushed c.push.result _ _ _ c.push.ensures.bytes))) ∙ append_assoc _ ((32, false) ∷ []) (unmarked c.args.word.now))
    c.push_text.ensures
