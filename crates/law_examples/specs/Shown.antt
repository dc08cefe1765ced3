-- How a worked example is written: the text of a script, the state that it begins in, its calls with their answers, and
-- its end.
use Rattle.std.proofs.Common.{◌≡◌, List, [], ◌∷◌, ◌++◌}
use Rattle.std.proofs.Math.Utf8.{encode}
use Rattle.std.specs.Prelude.{ℕ, true, codes, Some, None, Option, option_map}
use Rattle.std.specs.Str.{chars, is_utf8}
use Rattle.std.specs.Fmt.{digits}
use Rattle.std.specs.Str.Lossy.{utf8_lossy, utf8_valid_len, utf8_error_len}
use Rattle.rc_model.specs.Run.Calls.{Call, Answer, Event, event, calls, answers, plain, to_file, Launch, probe, start}
use Rattle.rc_model.specs.Run.Calls.{wait, found, child, ended}
use Rattle.rc_model.specs.declared.call.Slot.{Slot}
use Rattle.rc_model.specs.declared.call.Slots.{Slots}
use Rattle.rc_model.specs.declared.call.Kind.TheVariants.{Program}
use Rattle.rc_model.specs.declared.call.Ending.TheVariants.{Code}
use Rattle.rc_model.specs.Run.Plans.{Played, Ends, Waits, Cut}
use Rattle.rc_model.specs.Run.State.{State, new_state, set_value, value_of}
use Rattle.rc_model.specs.Run.Script.{script, run}
use Rattle.rc_model.specs.Syntax.Tree.{Node, cmd}
use Rattle.rc_model.specs.Code.Layout.{Op, code}
use Rattle.rc_model.specs.Mirrors.TreeOfText.{tree_of}
use Rattle.rc_model.specs.Mirrors.Descent.{arg_by as Descent_arg_by, assigned_by as Descent_assigned_by}
use Rattle.rc_model.specs.Mirrors.Descent.{block_by as Descent_block_by, body_by as Descent_body_by}
use Rattle.rc_model.specs.Mirrors.Descent.{brace_by as Descent_brace_by, branch_by as Descent_branch_by}
use Rattle.rc_model.specs.Mirrors.Descent.{branches_by as Descent_branches_by, branches_from as Descent_branches_from}
use Rattle.rc_model.specs.Mirrors.Descent.{command_by as Descent_command_by, control_by as Descent_control_by}
use Rattle.rc_model.specs.Mirrors.Descent.{define_by as Descent_define_by, dollar_by as Descent_dollar_by}
use Rattle.rc_model.specs.Mirrors.Descent.{first_by as Descent_first_by, for_by as Descent_for_by}
use Rattle.rc_model.specs.Mirrors.Descent.{if_by as Descent_if_by, item_end as Descent_item_end}
use Rattle.rc_model.specs.Mirrors.Descent.{items_by as Descent_items_by, items_from as Descent_items_from}
use Rattle.rc_model.specs.Mirrors.Descent.{leading_by as Descent_leading_by, links_by as Descent_links_by}
use Rattle.rc_model.specs.Mirrors.Descent.{links_from as Descent_links_from, match_by as Descent_match_by}
use Rattle.rc_model.specs.Mirrors.Descent.{members_by as Descent_members_by, members_from as Descent_members_from}
use Rattle.rc_model.specs.Mirrors.Descent.{name_by as Descent_name_by, opening_by as Descent_opening_by}
use Rattle.rc_model.specs.Mirrors.Descent.{operand_by as Descent_operand_by, optional_operand_by as Descent_optional_by}
use Rattle.rc_model.specs.Mirrors.Descent.{over_by as Descent_over_by, paren_by as Descent_paren_by}
use Rattle.rc_model.specs.Mirrors.Descent.{part_by as Descent_part_by, parts_by as Descent_parts_by}
use Rattle.rc_model.specs.Mirrors.Descent.{parts_from as Descent_parts_from, pipe_by as Descent_pipe_by}
use Rattle.rc_model.specs.Mirrors.Descent.{pipe_from as Descent_pipe_from, piped_by as Descent_piped_by}
use Rattle.rc_model.specs.Mirrors.Descent.{read as Descent_read, read_by as Descent_read_by}
use Rattle.rc_model.specs.Mirrors.Descent.{redir_by as Descent_redir_by, redirected_by as Descent_redirected_by}
use Rattle.rc_model.specs.Mirrors.Descent.{redirs_by as Descent_redirs_by, redirs_from as Descent_redirs_from}
use Rattle.rc_model.specs.Mirrors.Descent.{script_tree as Descent_script_tree, simple_by as Descent_simple_by}
use Rattle.rc_model.specs.Mirrors.Descent.{simple_from as Descent_simple_from, switch_by as Descent_switch_by}
use Rattle.rc_model.specs.Mirrors.Descent.{values_by as Descent_values_by, values_from as Descent_values_from}
use Rattle.rc_model.specs.Mirrors.Descent.{while_by as Descent_while_by, worded_by as Descent_worded_by}
use Rattle.rc_model.specs.Mirrors.Descent.{words_by as Descent_words_by, words_from as Descent_words_from}
use Rattle.rc_model.specs.Syntax.Printing.{arg_text as Printing_arg_text, arg_texts as Printing_arg_texts}
use Rattle.rc_model.specs.Syntax.Printing.{branch_items as Printing_branch_items, branch_lines as Printing_branch_lines}
use Rattle.rc_model.specs.Syntax.Printing.{cmd_text as Printing_cmd_text, item_lines as Printing_item_lines}
use Rattle.rc_model.specs.Syntax.Printing.{links_text as Printing_links_text, pair_texts as Printing_pair_texts}
use Rattle.rc_model.specs.Syntax.Printing.{redir_text as Printing_redir_text, redir_texts as Printing_redir_texts}
use Rattle.rc_model.specs.Syntax.Printing.{stages_text as Printing_stages_text}
use Rattle.rc_model.specs.Run.Patterns.{matches}
use Rattle.rc_model.specs.Run.Acts.{longest_file, longest_output}
use Rattle.rc_model.specs.Handed.TreeReading.{cmd_at, arg_at}
use Rattle.rc_model.specs.Handed.Arguments.{reads}
use Rattle.rc_model.specs.Handed.Image.{many_image, node_image}

-- ** states, and their environments

-- path=(/bin), and nothing else
abbrev pub fresh : State
fresh = set_value new_state (codes "path") (codes "/bin" ∷ [])

-- the same for a strict shell
abbrev pub strict : State
strict = record fresh { strict = true }

-- a state with one more variable
abbrev pub with_value : State → List ℕ → List (List ℕ) → State
with_value s name value = set_value s name value

-- the entries of most launches
abbrev pub usual : List (List ℕ)
usual = codes "path=/bin" ∷ codes "status=" ∷ []

-- ** launches and calls

-- the three descriptors
abbrev pub slots : Slot → Slot → Slot → Slots
slots input output errors = record { input = input; output = output; errors = errors }

-- the launch of a program
abbrev pub program : List ℕ → List (List ℕ) → List (List ℕ) → Slots → Launch
program path args entries slots = record { program = Some path; args = args; entries = entries; slots = slots }

-- the launch of the shell itself
abbrev pub shell : List (List ℕ) → List (List ℕ) → Slots → Launch
shell args entries slots = record { program = None; args = args; entries = entries; slots = slots }

-- the own descriptors, with a file for the output
abbrev pub writing_to : ℕ → Slots
writing_to file = record plain { output = to_file file }

-- with a file for the input
abbrev pub reading_from : ℕ → Slots
reading_from file = record plain { input = to_file file }

-- the start of a subshell with a command and without arguments
abbrev pub subshell : (image : List ℕ) → (entries : List (List ℕ)) → Slots → Call
subshell image entries slots = start (shell (codes "-S" ∷ image ∷ []) entries slots)

-- the same for a strict shell
abbrev pub strict_subshell : (image : List ℕ) → (entries : List (List ℕ)) → Slots → Call
strict_subshell image entries slots = start (shell (codes "-e" ∷ codes "-S" ∷ image ∷ []) entries slots)

-- a call and its answer
infix 68 ◌▸◌
abbrev pub ◌▸◌ : Call → Answer → Event
call ▸ answer = event call answer

-- a program of /bin is found, started with these arguments, entries and descriptors, and waited for: it ends with this
-- code
abbrev pub runs_in : Slots → List ℕ → List (List ℕ) → List (List ℕ) → (child code : ℕ) → List Event
runs_in slots name args entries n c =
    let path = codes "/bin/" ++ name in
    probe path ▸ found Program ∷ start (program path args entries slots) ▸ child n ∷ wait n ▸ ended (Code c) ∷ []

-- the same with the shell's own descriptors
abbrev pub runs : List ℕ → List (List ℕ) → List (List ℕ) → (child code : ℕ) → List Event
runs name args entries n c = runs_in plain name args entries n c

-- ** the end of a script

-- the tree of a text, if it has one
unfoldable pub tree : List ℕ → Option (Node cmd)
unfolding chars encode is_utf8 digits utf8_lossy utf8_valid_len utf8_error_len Descent_arg_by Descent_assigned_by
    Descent_block_by Descent_body_by Descent_brace_by Descent_branch_by Descent_branches_by Descent_branches_from
    Descent_command_by Descent_control_by Descent_define_by Descent_dollar_by Descent_first_by Descent_for_by
    Descent_if_by Descent_item_end Descent_items_by Descent_items_from Descent_leading_by Descent_links_by
    Descent_links_from Descent_match_by Descent_members_by Descent_members_from Descent_name_by Descent_opening_by
    Descent_operand_by Descent_optional_by Descent_over_by Descent_paren_by Descent_part_by Descent_parts_by
    Descent_parts_from Descent_pipe_by Descent_pipe_from Descent_piped_by Descent_read Descent_read_by
    Descent_redir_by Descent_redirected_by Descent_redirs_by Descent_redirs_from Descent_script_tree Descent_simple_by
    Descent_simple_from Descent_switch_by Descent_values_by Descent_values_from Descent_while_by Descent_worded_by
    Descent_words_by Descent_words_from Printing_arg_text Printing_arg_texts Printing_branch_items
    Printing_branch_lines Printing_cmd_text Printing_item_lines Printing_links_text Printing_pair_texts
    Printing_redir_text Printing_redir_texts Printing_stages_text matches longest_output longest_file node_image
    many_image
tree text = tree_of text

-- the calls, the final state and the answers that are left, if a script ends
abbrev ended_so : Played State → Option (List Call × State × List Answer)
ended_so (Ends made s left) = Some (made, s, left)
ended_so _ = None

-- the calls, if a script was cut
abbrev cut_so : Played State → Option (List Call)
cut_so (Cut made) = Some made
cut_so _ = None

-- the calls, if a script waits for an answer
abbrev waits_so : Played State → Option (List Call)
waits_so (Waits made) = Some made
waits_so _ = None

-- goes on with a value, if there is one
abbrev then : {A B : Type 0} → (A → Option B) → Option A → Option B
then f None = None
then f (Some x) = f x

-- a script by its meaning, with at most nine turns of each loop and nine bodies within one another
abbrev by_meaning : List ℕ → State → List Answer → Option (Played State)
by_meaning text s given = option_map (λ c. script 9 c s given) (tree text)

-- a script by at most 900 instructions of its code
abbrev by_code : List ℕ → State → List Answer → Option (Played State)
by_code text s given = option_map (λ c. run 900 c s given) (tree text)

-- only the status of the final state
abbrev seen : Option (List Call × State × List Answer) → Option (List Call × List ℕ × List Answer)
seen x = option_map (λ y. (y.0, y.1.status, y.2)) x

-- how a script ends by its meaning
unfoldable pub meant : List ℕ → State → List Answer → Option (List Call × List ℕ × List Answer)
unfolding tree
meant text s given = seen (then ended_so (by_meaning text s given))

-- how a script ends by its code
unfoldable pub ran : List ℕ → State → List Answer → Option (List Call × List ℕ × List Answer)
unfolding tree
ran text s given = seen (then ended_so (by_code text s given))

-- The script makes these calls, with all their answers, and ends with this status: by its meaning and by its code.
abbrev pub Performs : (text : List ℕ) → State → List Event → (status : List ℕ) → Type 0
Performs text s trace status =
    (meant text s (answers trace) ≡ Some (calls trace, status, [])) ×
    (ran text s (answers trace) ≡ Some (calls trace, status, []))

-- only one value of the final state
abbrev value_in : List ℕ → Option (List Call × State × List Answer) → Option (List Call × List (List ℕ))
value_in name x = option_map (λ y. (y.0, value_of y.1 name)) x

-- the same by the meaning
unfoldable pub meant_value : List ℕ → List ℕ → State → List Answer → Option (List Call × List (List ℕ))
unfolding tree
meant_value name text s given = value_in name (then ended_so (by_meaning text s given))

-- the same by the code
unfoldable pub ran_value : List ℕ → List ℕ → State → List Answer → Option (List Call × List (List ℕ))
unfolding tree
ran_value name text s given = value_in name (then ended_so (by_code text s given))

-- The script makes these calls and leaves a variable with this value: by its meaning and by its code.
abbrev pub Leaves : (text : List ℕ) → State → List Event → (name : List ℕ) → (value : List (List ℕ)) → Type 0
Leaves text s trace name value =
    (meant_value name text s (answers trace) ≡ Some (calls trace, value)) ×
    (ran_value name text s (answers trace) ≡ Some (calls trace, value))

-- the calls of a script that waits, by its meaning
unfoldable pub meant_wait : List ℕ → State → List Answer → Option (List Call)
unfolding tree
meant_wait text s given = then waits_so (by_meaning text s given)

-- the calls of a script that waits, by its code
unfoldable pub ran_wait : List ℕ → State → List Answer → Option (List Call)
unfolding tree
ran_wait text s given = then waits_so (by_code text s given)

-- The last of these calls is not answered, and the script waits there: by its meaning and by its code.
abbrev pub Awaits : (text : List ℕ) → State → List Event → Type 0
Awaits text s trace =
    (meant_wait text s (answers trace) ≡ Some (calls trace)) × (ran_wait text s (answers trace) ≡ Some (calls trace))

-- the calls of `limit` instructions, if they were cut
unfoldable pub cut_at : ℕ → List ℕ → State → List Answer → Option (List Call)
unfolding tree
cut_at limit text s given = then cut_so (option_map (λ c. run limit c s given) (tree text))

-- `limit` instructions make these calls, and don't reach the end.
abbrev pub StopsAt : (limit : ℕ) → (text : List ℕ) → State → List Event → Type 0
StopsAt limit text s trace = cut_at limit text s (answers trace) ≡ Some (calls trace)

-- the calls of at most `limit` instructions, if they reached the end
unfoldable pub ends_by : ℕ → List ℕ → State → List Answer → Option (List Call)
unfolding tree
ends_by limit text s given = option_map (λ y. y.0) (then ended_so (option_map (λ c. run limit c s given) (tree text)))

-- the effect of a shell with what it is handed
unfoldable pub does_handed : (args entries : List (List ℕ)) → List Answer → Option (List Call × List ℕ × List Answer)
unfolding tree cmd_at arg_at
does_handed args entries given = seen (then ended_so (option_map (λ c. script 9 c.0 c.1 given) (reads args entries)))

-- the instructions of a text
unfoldable pub ops : List ℕ → Option (List Op)
unfolding tree
ops text = option_map (λ c. (code c).ops) (tree text)
