use Rattle.std.proofs.Common.{rules, sym, ◌∙◌}
use Rattle.std.proofs.lemmas.Iterator.{YieldsList-from_slice}
use Rattle.std.proofs.lemmas.Iterator.Search.{any_from_yields_List}
use borrow.Author.Tests.{tests}
use Rattle.rc_model.specs.Syntax.Words.{is_pattern}
use Rattle.rc_text.specs.Literals.{mark_of}
use Rattle.rc_text.proofs.LiteralMarks.{list_any_marks}
use Rattle.rc_text.proofs.words.literal.any_pattern.Goals as goal

pub returns : goal.returns
returns c =
    any_from_yields_List (λ ch. is_pattern (mark_of ch)) _ _ _ c.any.ensures.ran (YieldsList-from_slice _ c.iter.ensures.rest) (λ x b q k. search (rules, tests))
    ∙ sym (list_any_marks is_pattern c.args.chars.now)
