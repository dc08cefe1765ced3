use Rattle.std.proofs.Common.{sym, ◌∙◌}
use Rattle.rc_spelling.proofs.Strings.{string_made}
use Rattle.rc_spelling.proofs.leaves.string_at.Goals as goal

pub returns-in-Ok : goal.returns-in-Ok
returns-in-Ok c =
    string_made c.args.count c.args.bytes.now c.split_at.result.0.now c.split_at.result.1.now _ c.if-count-bytes.false
    c.split_at.ensures.front c.split_at.ensures.back c.in-Ok.ensures.cases.1 (sym c.contains.ensures.value ∙ c.if-contains.false)
    c.in-Ok.ensures.cases.0
