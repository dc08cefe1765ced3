use Rattle.std.proofs.Common.{◌≡◌, ◌+◌, ◌-◌, ◌*◌}
use Rattle.rc_spelling.specs.Rests.{past_each, past_arg, past_args, past_part}
use Rattle.rc_spelling.proofs.check.+check.Given as goal

abbrev pub decreases-check_cmd : goal.decreases-check_cmd
decreases-check_cmd l = 8 * l.left + 0

abbrev pub decreases-check_arg : goal.decreases-check_arg
decreases-check_arg l = 8 * l.left + 0

abbrev pub decreases-check_args : goal.decreases-check_args
decreases-check_args l = 8 * l.left + 1

abbrev pub decreases-check_redir : goal.decreases-check_redir
decreases-check_redir l = 8 * l.left + 1

abbrev pub decreases-check_part : goal.decreases-check_part
decreases-check_part l = 8 * l.left + 2

abbrev pub decreases-check_each : goal.decreases-check_each
decreases-check_each l = 8 * l.left + 3

abbrev pub decreases-check_list : goal.decreases-check_list
decreases-check_list l = 8 * l.left + 4

abbrev pub decreases-check_front : goal.decreases-check_front
decreases-check_front l = 8 * l.left + 5

abbrev pub decreases-check_subject : goal.decreases-check_subject
decreases-check_subject l = 8 * l.left + 5

abbrev pub decreases-check_arg_of : goal.decreases-check_arg_of
decreases-check_arg_of l = 8 * l.below + 6

abbrev pub decreases-check_cmd_of : goal.decreases-check_cmd_of
decreases-check_cmd_of l = 8 * l.below + 6

-- in each loop: what is left after what is still read is what is left after the whole

abbrev pub invariant-check_args-loop : goal.invariant-check_args-loop
invariant-check_args-loop l = past_each (past_arg l.left) (l.count - l.counter) l.rest ≡ past_args l.least l.left l.bytes

abbrev pub invariant-check_each-loop : goal.invariant-check_each-loop
invariant-check_each-loop l = past_each (past_part l.left l.part) (l.count - l.counter) l.rest ≡ past_each (past_part l.left l.part) l.count l.bytes
