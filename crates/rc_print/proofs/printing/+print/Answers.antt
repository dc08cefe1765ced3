use Rattle.std.proofs.Common.{arith, refl, true}
use Rattle.rc_model.specs.Syntax.Printing.{branch_items, cmd_text}
use Rattle.std.proofs.lemmas.Grind.{common_steps}
use Rattle.rc_tree.specs.View.{cmd_tree, tree_For}
use Rattle.rc_print.proofs.Bodies.{not_listed}
use Rattle.rc_print.proofs.Texts.{cmd_text_For_begins, space_is_text, writing}
use Rattle.rc_print.proofs.printing.+print.Goals as goal

pub print_cmd-returns-in-For : goal.print_cmd-returns-in-For
print_cmd-returns-in-For t c = rw (c.in-For.is, tree_For, cmd_text_For_begins, ← c.deref-in-For.ensures.value, ← c.deref-in-For-2.ensures) c.print_for.ensures

pub print_body-returns-in_ok-print_cmd-in_default : goal.print_body-returns-in_ok-print_cmd-in_default
print_body-returns-in_ok-print_cmd-in_default t c =
    let lines = not_listed c.args.body.now (branch_items (cmd_tree c.args.body.now)) (cmd_text (cmd_tree c.args.body.now) true) c.in_default.not-Seq in
    rw lines (record { written = grind (arith, common_steps); after = refl })

pub print_pairs-loop-pair-preserved : goal.print_pairs-loop-pair-preserved
print_pairs-loop-pair-preserved t c = (space_is_text, grind (arith, writing))

pub print_redirs-loop-redir-preserved : goal.print_redirs-loop-redir-preserved
print_redirs-loop-redir-preserved t c = (space_is_text, grind (arith, writing))
