use Rattle.rc_model.specs.Syntax.Tree.{Many, item}
use Rattle.rc_parser.specs.ItemReading.{HasRead, turns_left}
use Rattle.rc_check.proofs.faults.findings.read_items.Given as goal

-- these items were read
abbrev pub invariant-loop-items : goal.invariant-loop-items
invariant-loop-items l = (front : Many item) × HasRead l.fn.source.script.now front l.items

abbrev pub decreases-loop-items : goal.decreases-loop-items
decreases-loop-items l = turns_left l.items
