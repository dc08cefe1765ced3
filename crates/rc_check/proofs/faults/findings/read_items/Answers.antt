use Rattle.std.proofs.Common.{Ok, subst}
use Rattle.rc_model.specs.Syntax.Tree.{Seq, none}
use Rattle.rc_parser.specs.ItemReading.{ReadsItem}
use Rattle.rc_check.proofs.faults.findings.read_items.Goals as goal

pub loop-items-init : goal.loop-items-init
loop-items-init c = (none, c.new-items.ensures)

pub returns-clause-accepted : goal.returns-clause-accepted
returns-clause-accepted c =
    let script = c.args.source.now.script.now in
    let front = c.loop-items.invariant.0 in
    let read = c.in_ok-item.ensures.read script front c.loop-items.invariant.1 in
    let all = subst (λ o. ReadsItem script front c.next.new.self (Ok o)) c.in_default.is read in
    (Seq front, all.0)
