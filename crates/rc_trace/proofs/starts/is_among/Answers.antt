use Rattle.std.proofs.Common.{rules, sym, ◌∙◌, string_bytes}
use Rattle.std.proofs.lemmas.Iterator.{YieldsList-from_slice}
use Rattle.std.proofs.lemmas.Iterator.Search.{any_from_yields_List}
use Rattle.std.specs.Str.{bytes_eq}
use borrow.Author.Tests.{tests}
use Rattle.rc_trace.proofs.Parts.{any_mapped}
use Rattle.rc_trace.specs.Starts.{is_among}
use Rattle.rc_trace.proofs.starts.is_among.Goals as goal

pub returns : goal.returns
unfolding is_among
returns c =
    any_from_yields_List (λ one. bytes_eq (string_bytes one) c.args.text.now) _ _ _ c.any.ensures.ran (YieldsList-from_slice _ c.iter.ensures.rest) (λ x b q k. search (rules, tests))
    ∙ sym (any_mapped (λ one. bytes_eq one c.args.text.now) string_bytes c.args.texts.now)
