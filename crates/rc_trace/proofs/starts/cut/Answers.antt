use Rattle.std.proofs.Common.{lit<}
use Rattle.std.proofs.lemmas.Str.Pattern.{split_parts}
use Rattle.rc_trace.proofs.Parts.{cut_is}
use Rattle.rc_trace.proofs.starts.cut.Goals as goal

pub returns : goal.returns
returns c =
    cut_is c.args.entry.now c.split_once.result (split_parts 61 c.args.entry.now c.split_once.result c.split_once.ensures.cases (lit< tt))
