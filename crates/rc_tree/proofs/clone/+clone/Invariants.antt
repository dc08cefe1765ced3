use Rattle.std.proofs.Common.{◌≡◌, ◌+◌, ◌*◌, max, take}
use denote.Param.Weighed.{most}
use Rattle.rc_tree.specs.View.{items_tree, links_tree, branches_tree}
use Rattle.rc_tree.proofs.types.Cmd.TheLaws as command
use Rattle.rc_tree.proofs.types.Branch.TheLaws as branch
use Rattle.rc_tree.proofs.Sizes.{body_size}
use Rattle.rc_tree.proofs.clone.+clone.Given as goal

abbrev pub invariant-clone_items-loop-item : goal.invariant-clone_items-loop-item
invariant-clone_items-loop-item l = items_tree l.copies.items ≡ items_tree (take l.item-index l.items)

abbrev pub invariant-clone_links-loop-link : goal.invariant-clone_links-loop-link
invariant-clone_links-loop-link l = links_tree l.copies.items ≡ links_tree (take l.link-index l.links)

abbrev pub invariant-clone_branches-loop-branch : goal.invariant-clone_branches-loop-branch
invariant-clone_branches-loop-branch l = branches_tree l.copies.items ≡ branches_tree (take l.branch-index l.branches)

abbrev pub decreases-clone_assign : goal.decreases-clone_assign
decreases-clone_assign l = 3 * (body_size l.body.now) + 2

abbrev pub decreases-clone_redirect : goal.decreases-clone_redirect
decreases-clone_redirect l = 3 * (command.the_size l.body.now.value) + 2

abbrev pub decreases-clone_pipeline : goal.decreases-clone_pipeline
decreases-clone_pipeline l = 3 * (command.the_size l.last.now.value) + 2

abbrev pub decreases-clone_and_or : goal.decreases-clone_and_or
decreases-clone_and_or l = 3 * (max (goal.size-clone_and_or l) (most (λ link. max 0 (command.the_size link.1)) l.links.now)) + 2

abbrev pub decreases-clone_if : goal.decreases-clone_if
decreases-clone_if l = 3 * (max (goal.size-clone_if l) (command.the_size l.body.now.value)) + 2

abbrev pub decreases-clone_while : goal.decreases-clone_while
decreases-clone_while l = 3 * (max (goal.size-clone_while l) (command.the_size l.body.now.value)) + 2

abbrev pub decreases-clone_for_all : goal.decreases-clone_for_all
decreases-clone_for_all l = 3 * (command.the_size l.body.now.value) + 2

abbrev pub decreases-clone_for : goal.decreases-clone_for
decreases-clone_for l = 3 * (command.the_size l.body.now.value) + 2

abbrev pub decreases-clone_switch : goal.decreases-clone_switch
decreases-clone_switch l = 3 * (most branch.the_size l.branches.now) + 2

abbrev pub decreases-clone_tree : goal.decreases-clone_tree
decreases-clone_tree l = 3 * goal.size-clone_tree l

abbrev pub decreases-clone_box : goal.decreases-clone_box
decreases-clone_box l = 3 * goal.size-clone_box l + 1

abbrev pub decreases-clone_body : goal.decreases-clone_body
decreases-clone_body l = 3 * (body_size l.body.now) + 1

abbrev pub decreases-clone_items : goal.decreases-clone_items
decreases-clone_items l = 3 * goal.size-clone_items l + 1

abbrev pub decreases-clone_links : goal.decreases-clone_links
decreases-clone_links l = 3 * goal.size-clone_links l + 1

abbrev pub decreases-clone_branches : goal.decreases-clone_branches
decreases-clone_branches l = 3 * goal.size-clone_branches l + 1
