use Rattle.std.proofs.Common.{◌≡◌, drop}
use Rattle.rc_model.specs.Syntax.Printing.{have_here}
use Rattle.rc_tree.specs.View.{args_tree, items_tree, pairs_tree, redirs_tree, stages_tree, links_tree, branches_tree}
use Rattle.rc_print.proofs.here_inside.+here.Given as goal

abbrev pub invariant-have_here_args-loop-arg : goal.invariant-have_here_args-loop-arg
invariant-have_here_args-loop-arg l = have_here (args_tree (drop l.arg-index l.args)) ≡ have_here (args_tree l.args)

abbrev pub invariant-have_here_items-loop-item : goal.invariant-have_here_items-loop-item
invariant-have_here_items-loop-item l = have_here (items_tree (drop l.item-index l.items)) ≡ have_here (items_tree l.items)

abbrev pub invariant-have_here_pairs-loop-pair : goal.invariant-have_here_pairs-loop-pair
invariant-have_here_pairs-loop-pair l = have_here (pairs_tree (drop l.pair-index l.pairs)) ≡ have_here (pairs_tree l.pairs)

abbrev pub invariant-have_here_redirs-loop-redir : goal.invariant-have_here_redirs-loop-redir
invariant-have_here_redirs-loop-redir l = have_here (redirs_tree (drop l.redir-index l.redirs)) ≡ have_here (redirs_tree l.redirs)

abbrev pub invariant-have_here_stages-loop-stage : goal.invariant-have_here_stages-loop-stage
invariant-have_here_stages-loop-stage l = have_here (stages_tree (drop l.stage-index l.stages)) ≡ have_here (stages_tree l.stages)

abbrev pub invariant-have_here_links-loop-link : goal.invariant-have_here_links-loop-link
invariant-have_here_links-loop-link l = have_here (links_tree (drop l.link-index l.links)) ≡ have_here (links_tree l.links)

abbrev pub invariant-have_here_branches-loop-branch : goal.invariant-have_here_branches-loop-branch
invariant-have_here_branches-loop-branch l = have_here (branches_tree (drop l.branch-index l.branches)) ≡ have_here (branches_tree l.branches)
