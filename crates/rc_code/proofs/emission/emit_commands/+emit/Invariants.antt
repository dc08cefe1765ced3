use Rattle.std.proofs.Common.{◌≡◌, ◌+◌, ◌*◌, max, drop}
use denote.Param.Weighed.{most}
use Rattle.rc_model.specs.Code.Layout.{items_code, links_code}
use Rattle.rc_tree.specs.View.{items_tree, links_tree, branches_tree}
use Rattle.rc_tree.proofs.types.Cmd.TheLaws as command
use Rattle.rc_tree.proofs.types.Branch.TheLaws as branch
use Rattle.rc_tree.proofs.Sizes.{body_size}
use Rattle.rc_code.specs.Listings.{listing_of}
use Rattle.rc_code.specs.Writing.{with_part}
use Rattle.rc_code.proofs.Branches.{Leaves}
use Rattle.rc_code.proofs.emission.emit_commands.+emit.Given as goal

-- what is written and what is left is the whole
abbrev pub invariant-emit_items-loop-item : goal.invariant-emit_items-loop-item
invariant-emit_items-loop-item l =
    with_part (listing_of l.code) (items_code (items_tree (drop l.item-index l.items)) l.guarded) ≡ with_part (listing_of l.fn.code) (items_code (items_tree l.items) l.guarded)

abbrev pub invariant-emit_and_or-loop-index : goal.invariant-emit_and_or-loop-index
invariant-emit_and_or-loop-index l =
    with_part (listing_of l.code) (links_code (links_tree (drop l.index l.links)) l.guarded) ≡ with_part (listing_of l.initial.code) (links_code (links_tree l.links) l.guarded)

abbrev pub invariant-emit_branches-loop-branch : goal.invariant-emit_branches-loop-branch
invariant-emit_branches-loop-branch l =
    Leaves (listing_of l.initial.code) (listing_of l.code) l.ends.items l.guarded (branches_tree l.branches) (branches_tree (drop l.branch-index l.branches))

-- what gets smaller at each call: a part of a tree is smaller than the tree

abbrev pub decreases-emit_assign : goal.decreases-emit_assign
decreases-emit_assign l = 4 * body_size l.body.now + 2

abbrev pub decreases-emit_local : goal.decreases-emit_local
decreases-emit_local l = 4 * command.the_size l.body.now + 1

abbrev pub decreases-emit_redirect : goal.decreases-emit_redirect
decreases-emit_redirect l = 4 * command.the_size l.body.now + 1

abbrev pub decreases-emit_pipeline : goal.decreases-emit_pipeline
decreases-emit_pipeline l = 4 * command.the_size l.last.now + 1

abbrev pub decreases-emit_and_or : goal.decreases-emit_and_or
decreases-emit_and_or l = 4 * (max (goal.size-emit_and_or l) (most (λ link. max 0 (command.the_size link.1)) l.links.now)) + 1

abbrev pub decreases-emit_if : goal.decreases-emit_if
decreases-emit_if l = 4 * (max (goal.size-emit_if l) (command.the_size l.body.now)) + 1

abbrev pub decreases-emit_while : goal.decreases-emit_while
decreases-emit_while l = 4 * (max (goal.size-emit_while l) (command.the_size l.body.now)) + 2

abbrev pub decreases-emit_switch : goal.decreases-emit_switch
decreases-emit_switch l = 4 * most branch.the_size l.branches.now + 3

abbrev pub decreases-emit_cmd : goal.decreases-emit_cmd
decreases-emit_cmd l = 4 * goal.size-emit_cmd l

abbrev pub decreases-emit_items : goal.decreases-emit_items
decreases-emit_items l = 4 * goal.size-emit_items l + 1

abbrev pub decreases-emit_if_not : goal.decreases-emit_if_not
decreases-emit_if_not l = 4 * goal.size-emit_if_not l + 1

abbrev pub decreases-emit_condition : goal.decreases-emit_condition
decreases-emit_condition l = 4 * goal.size-emit_condition l + 1

abbrev pub decreases-emit_turns : goal.decreases-emit_turns
decreases-emit_turns l = 4 * goal.size-emit_turns l + 1

abbrev pub decreases-emit_branch : goal.decreases-emit_branch
decreases-emit_branch l = 4 * goal.size-emit_branch l + 1

abbrev pub decreases-emit_branches : goal.decreases-emit_branches
decreases-emit_branches l = 4 * goal.size-emit_branches l + 2
