use Rattle.std.proofs.Common.{rules, ◌≡◌, IfOk, subst}
use Rattle.rc_model.specs.Syntax.Accepted.{IsAccepted}
use Rattle.rc_model.specs.Syntax.Tree.{Node, cmd}
use Rattle.rc_tree.specs.View.{cmd_tree}
use Rattle.rc_parser.proofs.reader.Reader.finish.Goals as goal

pub returns-clause-only : goal.returns-clause-only
returns-clause-only c =
    let whole : c.source.result.script.now ≡ c.args.self = search rules in
    subst (λ z. IfOk c.tree_of_tokens.result (λ x. (other : Node cmd) → IsAccepted z other → other ≡ cmd_tree x)) whole c.tree_of_tokens.ensures.only
