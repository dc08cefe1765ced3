use Rattle.std.proofs.Common.{◌≡◌, drop}
use Rattle.rc_tree.specs.View.{args_tree, items_tree, pairs_tree, redirs_tree, stages_tree, links_tree, branches_tree}
use Rattle.rc_tree.specs.Levels.{within_all}
use Rattle.rc_tree.proofs.depth.+within.Given as goal

abbrev pub invariant-within_args-loop-arg : goal.invariant-within_args-loop-arg
invariant-within_args-loop-arg l = within_all (args_tree (drop l.arg-index l.args)) l.left ≡ within_all (args_tree l.args) l.left

abbrev pub invariant-within_items-loop-item : goal.invariant-within_items-loop-item
invariant-within_items-loop-item l = within_all (items_tree (drop l.item-index l.items)) l.left ≡ within_all (items_tree l.items) l.left

abbrev pub invariant-within_pairs-loop-pair : goal.invariant-within_pairs-loop-pair
invariant-within_pairs-loop-pair l = within_all (pairs_tree (drop l.pair-index l.pairs)) l.left ≡ within_all (pairs_tree l.pairs) l.left

abbrev pub invariant-within_redirs-loop-redir : goal.invariant-within_redirs-loop-redir
invariant-within_redirs-loop-redir l = within_all (redirs_tree (drop l.redir-index l.redirs)) l.left ≡ within_all (redirs_tree l.redirs) l.left

abbrev pub invariant-within_stages-loop-stage : goal.invariant-within_stages-loop-stage
invariant-within_stages-loop-stage l = within_all (stages_tree (drop l.stage-index l.stages)) l.left ≡ within_all (stages_tree l.stages) l.left

abbrev pub invariant-within_links-loop-link : goal.invariant-within_links-loop-link
invariant-within_links-loop-link l = within_all (links_tree (drop l.link-index l.links)) l.left ≡ within_all (links_tree l.links) l.left

abbrev pub invariant-within_branches-loop-branch : goal.invariant-within_branches-loop-branch
invariant-within_branches-loop-branch l = within_all (branches_tree (drop l.branch-index l.branches)) l.left ≡ within_all (branches_tree l.branches) l.left
