use Rattle.std.proofs.Common.{◌≡◌, ◌+◌, ◌*◌, ◌++◌, [], drop, max, codes, string_bytes}
use denote.Shadow.{shadow}
use denote.Text.{Utf8}
use denote.Param.Weighed.{most}
use Rattle.rc_model.specs.Syntax.Printing.{arg_texts, pair_texts, redir_texts, stages_text, links_text, item_lines, branch_lines}
use Rattle.rc_print.specs.Lines.{led, trailed, lines_after, parting_after}
use Rattle.rc_tree.specs.View.{args_tree, items_tree, pairs_tree, redirs_tree, stages_tree, links_tree, branches_tree}
use Rattle.rc_tree.proofs.types.Cmd.TheLaws as command
use Rattle.rc_tree.proofs.types.Arg.TheLaws as argument
use Rattle.rc_tree.proofs.types.Branch.TheLaws as branch
use Rattle.rc_tree.proofs.Sizes.{body_size}
use Rattle.rc_print.proofs.printing.+print.Given as goal

-- in each loop: what is written, and what is left, is the whole

abbrev pub invariant-print_args-loop-arg : goal.invariant-print_args-loop-arg
invariant-print_args-loop-arg l =
    shadow (Utf8 l.between)
    × (string_bytes l.out ++ led l.between l.mark (arg_texts (args_tree (drop l.arg-index l.args)))
    ≡ string_bytes l.fn.out ++ led l.fn.between l.mark (arg_texts (args_tree l.args)))

abbrev pub invariant-print_pairs-loop-pair : goal.invariant-print_pairs-loop-pair
invariant-print_pairs-loop-pair l =
    shadow (Utf8 l.between)
    × (string_bytes l.out ++ led l.between (codes " ") (pair_texts (pairs_tree (drop l.pair-index l.pairs)))
    ≡ string_bytes l.fn.out ++ led [] (codes " ") (pair_texts (pairs_tree l.pairs)))

abbrev pub invariant-print_redirs-loop-redir : goal.invariant-print_redirs-loop-redir
invariant-print_redirs-loop-redir l =
    shadow (Utf8 l.between)
    × (string_bytes l.out ++ led l.between (codes " ") (redir_texts (redirs_tree (drop l.redir-index l.redirs)))
    ≡ string_bytes l.fn.out ++ led l.fn.between (codes " ") (redir_texts (redirs_tree l.redirs)))

abbrev pub invariant-print_redirs_before-loop-redir : goal.invariant-print_redirs_before-loop-redir
invariant-print_redirs_before-loop-redir l =
    string_bytes l.out ++ trailed (redir_texts (redirs_tree (drop l.redir-index l.redirs)))
    ≡ string_bytes l.fn.out ++ trailed (redir_texts (redirs_tree l.redirs))

abbrev pub invariant-print_stages-loop-stage : goal.invariant-print_stages-loop-stage
invariant-print_stages-loop-stage l =
    string_bytes l.out ++ stages_text (stages_tree (drop l.stage-index l.stages)) l.begins
    ≡ string_bytes l.fn.out ++ stages_text (stages_tree l.stages) l.fn.begins

abbrev pub invariant-print_links-loop-link : goal.invariant-print_links-loop-link
invariant-print_links-loop-link l =
    string_bytes l.out ++ links_text (links_tree (drop l.link-index l.links)) ≡ string_bytes l.fn.out ++ links_text (links_tree l.links)

abbrev pub invariant-print_items-loop-item : goal.invariant-print_items-loop-item
invariant-print_items-loop-item l =
    shadow (Utf8 l.between)
    × (string_bytes l.out ++ lines_after l.between (item_lines (items_tree (drop l.item-index l.items)) l.begins l.others)
    ≡ string_bytes l.fn.out ++ lines_after l.fn.between (item_lines (items_tree l.items) l.fn.begins l.others))
    × (parting_after l.between (item_lines (items_tree (drop l.item-index l.items)) l.begins l.others)
    ≡ parting_after l.fn.between (item_lines (items_tree l.items) l.fn.begins l.others))

abbrev pub invariant-print_branches-loop-branch : goal.invariant-print_branches-loop-branch
invariant-print_branches-loop-branch l =
    shadow (Utf8 l.between)
    × (string_bytes l.out ++ lines_after l.between (branch_lines (branches_tree (drop l.branch-index l.branches)))
    ≡ string_bytes l.fn.out ++ lines_after [] (branch_lines (branches_tree l.branches)))

-- what gets smaller at each call: a part of a tree is smaller than the tree

abbrev pub decreases-print_assign : goal.decreases-print_assign
decreases-print_assign l = 4 * (max (goal.size-print_assign l) (body_size l.body.now)) + 3

abbrev pub decreases-print_redirect : goal.decreases-print_redirect
decreases-print_redirect l = 4 * (max (goal.size-print_redirect l) (command.the_size l.body.now)) + 3

abbrev pub decreases-print_pipeline : goal.decreases-print_pipeline
decreases-print_pipeline l = 4 * (max (goal.size-print_pipeline l) (command.the_size l.last.now)) + 3

abbrev pub decreases-print_and_or : goal.decreases-print_and_or
decreases-print_and_or l = 4 * (max (goal.size-print_and_or l) (most (λ link. max 0 (command.the_size link.1)) l.links.now)) + 3

abbrev pub decreases-print_conditional : goal.decreases-print_conditional
decreases-print_conditional l = 4 * (max (goal.size-print_conditional l) (command.the_size l.body.now)) + 3

abbrev pub decreases-print_for : goal.decreases-print_for
decreases-print_for l =
    4 * (max (max (goal.size-print_for l) (most argument.the_size l.words.now)) (command.the_size l.body.now)) + 3

abbrev pub decreases-print_switch : goal.decreases-print_switch
decreases-print_switch l = 4 * (max (goal.size-print_switch l) (most branch.the_size l.branches.now)) + 3

abbrev pub decreases-print_match : goal.decreases-print_match
decreases-print_match l = 4 * (max (goal.size-print_match l) (most argument.the_size l.patterns.now)) + 3

abbrev pub decreases-print_cmd : goal.decreases-print_cmd
decreases-print_cmd l = 4 * goal.size-print_cmd l

abbrev pub decreases-print_arg : goal.decreases-print_arg
decreases-print_arg l = 4 * goal.size-print_arg l

abbrev pub decreases-print_redir : goal.decreases-print_redir
decreases-print_redir l = 4 * goal.size-print_redir l

abbrev pub decreases-print_words_after : goal.decreases-print_words_after
decreases-print_words_after l = 4 * goal.size-print_words_after l + 2

abbrev pub decreases-print_after : goal.decreases-print_after
decreases-print_after l = 4 * goal.size-print_after l + 1

abbrev pub decreases-print_braced : goal.decreases-print_braced
decreases-print_braced l = 4 * goal.size-print_braced l + 1

abbrev pub decreases-print_arg_after : goal.decreases-print_arg_after
decreases-print_arg_after l = 4 * goal.size-print_arg_after l + 1

abbrev pub decreases-print_args : goal.decreases-print_args
decreases-print_args l = 4 * goal.size-print_args l + 1

abbrev pub decreases-print_pairs : goal.decreases-print_pairs
decreases-print_pairs l = 4 * goal.size-print_pairs l + 2

abbrev pub decreases-print_redirs : goal.decreases-print_redirs
decreases-print_redirs l = 4 * goal.size-print_redirs l + 1

abbrev pub decreases-print_redirs_before : goal.decreases-print_redirs_before
decreases-print_redirs_before l = 4 * goal.size-print_redirs_before l + 1

abbrev pub decreases-print_stages : goal.decreases-print_stages
decreases-print_stages l = 4 * goal.size-print_stages l + 1

abbrev pub decreases-print_links : goal.decreases-print_links
decreases-print_links l = 4 * goal.size-print_links l + 2

abbrev pub decreases-print_items : goal.decreases-print_items
decreases-print_items l = 4 * goal.size-print_items l + 1

abbrev pub decreases-print_branches : goal.decreases-print_branches
decreases-print_branches l = 4 * goal.size-print_branches l + 1

abbrev pub decreases-print_body : goal.decreases-print_body
decreases-print_body l = 4 * goal.size-print_body l + 1
