use Rattle.rc_trace.proofs.Parts.{past_is}
use Rattle.rc_trace.proofs.quotes.past.Goals as goal

pub returns : goal.returns
returns c = past_is c.args.mark.now c.args.text.now c.strip_prefix.result c.strip_prefix.ensures.cases
