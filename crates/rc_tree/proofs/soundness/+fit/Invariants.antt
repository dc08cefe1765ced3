use Rattle.std.proofs.Common.{◌≡◌, drop}
use Rattle.rc_tree.specs.View.{args_tree, items_tree, pairs_tree, redirs_tree, stages_tree, links_tree, branches_tree}
use Rattle.rc_tree.specs.Fits.{all_fit}
use Rattle.rc_tree.proofs.soundness.+fit.Given as goal

abbrev pub invariant-fit_args-loop-arg : goal.invariant-fit_args-loop-arg
invariant-fit_args-loop-arg l = all_fit (args_tree (drop l.arg-index l.args)) l.left ≡ all_fit (args_tree l.args) l.left

abbrev pub invariant-fit_items-loop-item : goal.invariant-fit_items-loop-item
invariant-fit_items-loop-item l = all_fit (items_tree (drop l.item-index l.items)) l.left ≡ all_fit (items_tree l.items) l.left

abbrev pub invariant-fit_pairs-loop-pair : goal.invariant-fit_pairs-loop-pair
invariant-fit_pairs-loop-pair l = all_fit (pairs_tree (drop l.pair-index l.pairs)) l.left ≡ all_fit (pairs_tree l.pairs) l.left

abbrev pub invariant-fit_redirs-loop-redir : goal.invariant-fit_redirs-loop-redir
invariant-fit_redirs-loop-redir l = all_fit (redirs_tree (drop l.redir-index l.redirs)) l.left ≡ all_fit (redirs_tree l.redirs) l.left

abbrev pub invariant-fit_stages-loop-stage : goal.invariant-fit_stages-loop-stage
invariant-fit_stages-loop-stage l = all_fit (stages_tree (drop l.stage-index l.stages)) l.left ≡ all_fit (stages_tree l.stages) l.left

abbrev pub invariant-fit_links-loop-link : goal.invariant-fit_links-loop-link
invariant-fit_links-loop-link l = all_fit (links_tree (drop l.link-index l.links)) l.left ≡ all_fit (links_tree l.links) l.left

abbrev pub invariant-fit_branches-loop-branch : goal.invariant-fit_branches-loop-branch
invariant-fit_branches-loop-branch l = all_fit (branches_tree (drop l.branch-index l.branches)) l.left ≡ all_fit (branches_tree l.branches) l.left
