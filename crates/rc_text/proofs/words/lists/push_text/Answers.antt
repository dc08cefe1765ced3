use Rattle.std.proofs.lemmas.Str.{IsUtf8-had}
use Rattle.rc_text.proofs.LiteralMarks.{on_ok}
use Rattle.rc_text.proofs.Marks.{pushed, text_added}
use Rattle.rc_text.proofs.words.lists.push_text.Goals as goal

pub returns : goal.returns
returns c =
    on_ok c.push_str.result (λ e. text_added _ _ _ _ (IsUtf8-had _ c.args.joined.now.ok) e c.text.ensures.characters) (pushed c.push_str.result _ _ _ c.push_str.ensures.bytes)
