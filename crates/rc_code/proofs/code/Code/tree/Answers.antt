use Rattle.std.specs.Option.{option_copied}
use Rattle.std.specs.declared.alloc.Global.{Global}
use Rattle.std.specs.declared.rc.Rc.{Rc}
use Rattle.rc_tree.specs.View.{cmd_tree}
use Rattle.rc_tree.specs.declared.types.Cmd.{Cmd}
use Rattle.rc_code.specs.Views.{code_of}
use Rattle.rc_code.proofs.ProperTrees.{proper_tree}
use Rattle.rc_code.proofs.code.Code.tree.Goals as goal

pub returns-clause-proper : goal.returns-clause-proper
unfolding code_of
returns-clause-proper c =
    let code = code_of c.args.self.now in
    proper_tree (λ (tree : Rc Cmd Global). cmd_tree tree.value) code.kept c.args.number (option_copied c.found_tree.result) c.args.self.now.proper c.found_tree.ensures
