use Rattle.std.proofs.Common.{◌+◌, ◌*◌, max}
use denote.Param.Weighed.{most}
use Rattle.rc_tree.proofs.types.Cmd.TheLaws as command
use Rattle.rc_tree.proofs.types.Arg.TheLaws as argument
use Rattle.rc_tree.proofs.Sizes.{body_size}
use Rattle.test_texts.proofs.dump.+dump.Given as goal

-- what gets smaller at each call: a part of a tree is smaller than the tree

abbrev pub decreases-dump_assign : goal.decreases-dump_assign
decreases-dump_assign l = 4 * (max (goal.size-dump_assign l) (body_size l.body.now)) + 3

abbrev pub decreases-dump_redirect : goal.decreases-dump_redirect
decreases-dump_redirect l = 4 * (max (goal.size-dump_redirect l) (command.the_size l.body.now)) + 3

abbrev pub decreases-dump_pipeline : goal.decreases-dump_pipeline
decreases-dump_pipeline l = 4 * (max (goal.size-dump_pipeline l) (command.the_size l.last.now)) + 3

abbrev pub decreases-dump_for : goal.decreases-dump_for
decreases-dump_for l =
    4 * (max (max (goal.size-dump_for l) (most argument.the_size l.words.now)) (command.the_size l.body.now)) + 3

abbrev pub decreases-dump_parts : goal.decreases-dump_parts
decreases-dump_parts l = 4 * goal.size-dump_parts l

abbrev pub decreases-dump_arg : goal.decreases-dump_arg
decreases-dump_arg l = 4 * goal.size-dump_arg l

abbrev pub decreases-dump_redir : goal.decreases-dump_redir
decreases-dump_redir l = 4 * goal.size-dump_redir l

abbrev pub decreases-dump_cmd : goal.decreases-dump_cmd
decreases-dump_cmd l = 4 * goal.size-dump_cmd l + 1

abbrev pub decreases-dump_args : goal.decreases-dump_args
decreases-dump_args l = 4 * goal.size-dump_args l + 1

abbrev pub decreases-dump_named : goal.decreases-dump_named
decreases-dump_named l = 4 * goal.size-dump_named l + 1

abbrev pub decreases-dump_last : goal.decreases-dump_last
decreases-dump_last l = 4 * goal.size-dump_last l + 2

abbrev pub decreases-dump_items : goal.decreases-dump_items
decreases-dump_items l = 4 * goal.size-dump_items l + 2

abbrev pub decreases-dump_links : goal.decreases-dump_links
decreases-dump_links l = 4 * goal.size-dump_links l + 2

abbrev pub decreases-dump_branches : goal.decreases-dump_branches
decreases-dump_branches l = 4 * goal.size-dump_branches l + 2

abbrev pub decreases-dump_group : goal.decreases-dump_group
decreases-dump_group l = 4 * goal.size-dump_group l + 2
