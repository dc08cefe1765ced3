use Rattle.std.proofs.Common.{rules, sym, ◌∙◌}
use Rattle.std.proofs.lemmas.Iterator.{YieldsList-from_slice}
use Rattle.std.proofs.lemmas.Iterator.Search.{any_from_yields_List}
use borrow.Author.Tests.{tests}
use Rattle.rc_text.specs.Texts.{text_bytes}
use Rattle.rc_trace.proofs.Parts.{any_mapped}
use Rattle.rc_trace.specs.Starts.{has_name, is_named}
use Rattle.rc_trace.proofs.starts.has_name.Goals as goal

pub returns : goal.returns
unfolding has_name
returns c =
    any_from_yields_List (λ entry. is_named c.args.name.now (text_bytes entry)) _ _ _ c.any.ensures.ran (YieldsList-from_slice _ c.iter.ensures.rest) (λ x b q k. search (rules, tests))
    ∙ sym (any_mapped (is_named c.args.name.now) text_bytes c.args.entries.now)
