use Rattle.std.proofs.Common.{ap, ◌∙◌, ◌++◌, map, true}
use Rattle.std.specs.Str.{chars}
use Rattle.rc_text.specs.Literals.{marks}
use Rattle.rc_text.proofs.LiteralMarks.{at_ok}
use Rattle.rc_text.proofs.words.literal.all_marked.Goals as goal

pub returns : goal.returns
returns c = at_ok c.in_ok-push_text.was c.push_text.ensures ∙ ap (λ xs. marks xs ++ map (λ z. (z, true)) (chars c.args.text.now)) c.in_ok-all.ensures.items
