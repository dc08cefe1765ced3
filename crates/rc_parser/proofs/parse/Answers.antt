use Rattle.std.proofs.Common.{rules, ◌≡◌, IfOk, subst}
use Rattle.rc_model.specs.Syntax.Accepted.{IsAccepted}
use Rattle.rc_model.specs.Syntax.Tree.{Node, cmd}
use Rattle.rc_tree.specs.View.{cmd_tree}
use Rattle.rc_parser.proofs.parse.Goals as goal

pub returns-clause-only : goal.returns-clause-only
returns-clause-only c =
    let fed : c.feed.new.self ≡ c.args.script.now = search rules in
    subst (λ z. IfOk c.finish.result (λ x. (other : Node cmd) → IsAccepted z other → other ≡ cmd_tree x)) fed c.finish.ensures.only
