use Rattle.std.proofs.Common.{◌≡◌, ◌+◌, ◌-◌, ◌*◌}
use Rattle.rc_model.specs.Handed.TreeReading.{arg_at}
use Rattle.rc_tree.specs.View.{args_tree, items_tree, pairs_tree, redirs_tree, stages_tree, links_tree, branches_tree}
use Rattle.rc_spelling.specs.Steps.{nodes_from, list_by, count_from, stage_count, args_by, item_by, pair_by, stage_by, link_by, branch_by}
use Rattle.rc_spelling.specs.Reading.{redir_by}
use Rattle.rc_spelling.proofs.node_reader.+read.Given as goal

abbrev pub decreases-read_cmd : goal.decreases-read_cmd
decreases-read_cmd l = 8 * l.left + 0

abbrev pub decreases-read_arg : goal.decreases-read_arg
decreases-read_arg l = 8 * l.left + 0

abbrev pub decreases-read_args : goal.decreases-read_args
decreases-read_args l = 8 * l.left + 1

abbrev pub decreases-read_items : goal.decreases-read_items
decreases-read_items l = 8 * l.left + 1

abbrev pub decreases-read_pairs : goal.decreases-read_pairs
decreases-read_pairs l = 8 * l.left + 1

abbrev pub decreases-read_stages : goal.decreases-read_stages
decreases-read_stages l = 8 * l.left + 1

abbrev pub decreases-read_links : goal.decreases-read_links
decreases-read_links l = 8 * l.left + 1

abbrev pub decreases-read_redir : goal.decreases-read_redir
decreases-read_redir l = 8 * l.left + 2

abbrev pub decreases-read_branches : goal.decreases-read_branches
decreases-read_branches l = 8 * l.left + 2

abbrev pub decreases-read_redirs : goal.decreases-read_redirs
decreases-read_redirs l = 8 * l.left + 3

abbrev pub decreases-read_front : goal.decreases-read_front
decreases-read_front l = 8 * l.left + 4

abbrev pub decreases-read_subject : goal.decreases-read_subject
decreases-read_subject l = 8 * l.left + 4

abbrev pub decreases-read_arg_of : goal.decreases-read_arg_of
decreases-read_arg_of l = 8 * l.below + 5

abbrev pub decreases-read_cmd_of : goal.decreases-read_cmd_of
decreases-read_cmd_of l = 8 * l.below + 5

-- in each loop: what was read, and what is still read, is the whole

abbrev pub invariant-read_args-loop : goal.invariant-read_args-loop
invariant-read_args-loop l = nodes_from (arg_at l.left) (l.count - l.counter) (args_tree l.args.items) l.rest ≡ args_by l.least l.left l.bytes

abbrev pub invariant-read_items-loop : goal.invariant-read_items-loop
invariant-read_items-loop l = nodes_from (item_by l.left) (l.count - l.counter) (items_tree l.items.items) l.rest ≡ list_by (count_from 0) (item_by l.left) l.bytes

abbrev pub invariant-read_pairs-loop : goal.invariant-read_pairs-loop
invariant-read_pairs-loop l = nodes_from (pair_by l.left) (l.count - l.counter) (pairs_tree l.pairs.items) l.rest ≡ list_by (count_from 1) (pair_by l.left) l.bytes

abbrev pub invariant-read_redirs-loop : goal.invariant-read_redirs-loop
invariant-read_redirs-loop l = nodes_from (redir_by l.left) (l.count - l.counter) (redirs_tree l.redirs.items) l.rest ≡ list_by (count_from 1) (redir_by l.left) l.bytes

abbrev pub invariant-read_stages-loop : goal.invariant-read_stages-loop
invariant-read_stages-loop l = nodes_from (stage_by l.left) (l.count - l.counter) (stages_tree l.stages.items) l.rest ≡ list_by stage_count (stage_by l.left) l.bytes

abbrev pub invariant-read_links-loop : goal.invariant-read_links-loop
invariant-read_links-loop l = nodes_from (link_by l.left) (l.count - l.counter) (links_tree l.links.items) l.rest ≡ list_by (count_from 1) (link_by l.left) l.bytes

abbrev pub invariant-read_branches-loop : goal.invariant-read_branches-loop
invariant-read_branches-loop l = nodes_from (branch_by l.left) (l.count - l.counter) (branches_tree l.branches.items) l.rest ≡ list_by (count_from 0) (branch_by l.left) l.bytes
