use Rattle.std.proofs.Common.{rules}
use Rattle.std.proofs.lemmas.Iterator.{YieldsList-from_chars, YieldsList-from_map}
use Rattle.std.proofs.lemmas.Iterator.Adapters.{items_from_extend}
use Rattle.std.specs.Str.{chars}
use Rattle.rc_text.proofs.LiteralMarks.{marked_by, marks_added, on_ok}
use Rattle.rc_text.proofs.words.literal.push_text.Goals as goal

pub returns : goal.returns
returns c =
    on_ok c.extend.result (λ h. marks_added c.args.pat _ _ (chars c.args.text.now) h.0)
    (items_from_extend _ c.extend.ensures.ran (YieldsList-from_map _ (marked_by c.args.pat) (YieldsList-from_chars c.args.text.now c.utf8.text cc) c.map.ensures.closure (λ x r q k. search rules)))
