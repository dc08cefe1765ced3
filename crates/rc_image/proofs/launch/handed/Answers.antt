use Rattle.std.proofs.Common.{rules, ◌≡◌, true, false, map, string_bytes}
use Rattle.std.specs.List.{list_all}
use Rattle.law_image.proofs.Handed.{handed_reads_back}
use Rattle.rc_model.specs.Handed.Image.{is_short}
use Rattle.rc_text.specs.Texts.{text_bytes}
use Rattle.rc_tree.specs.View.{cmd_tree}
use Rattle.rc_scope.proofs.ProperStates.{is_proper}
use Rattle.rc_scope.specs.States.{state_of}
use Rattle.rc_image.proofs.Launches.{is_handed, long_argument, long_entry}
use Rattle.rc_image.proofs.launch.handed.Goals as goal
use Rattle.rc_image.proofs.launch.handed.Goals.{else-are_short-via-then-are_short+else-are_short-2, else-are_short-via-else-are_short}

pub returns-then-are_short-2-clause-written : goal.returns-then-are_short-2-clause-written
returns-then-are_short-2-clause-written c =
    let args : list_all (λ text. is_short (text_bytes text)) c.in_ok-args.args.items ≡ true = search rules in
    let entries : list_all (λ text. is_short (text_bytes text)) c.in_ok-entries.entries.items ≡ true = search rules in
    is_handed (map string_bytes c.in_ok-words.words.items) c.in_ok-args.args.items c.in_ok-entries.entries.items (cmd_tree c.args.cmd.now) (state_of c.args.state.now)
    c.in_ok-words.ensures (search rules) c.in_ok-entries.ensures args entries

pub returns-then-are_short-2-clause-back : goal.returns-then-are_short-2-clause-back
returns-then-are_short-2-clause-back c =
    λ proper. handed_reads_back (cmd_tree c.args.cmd.now) (state_of c.args.state.now) _ proper (is_proper c.args.state.now) (returns-then-are_short-2-clause-written c)

pub returns-else-are_short-clause-written : goal.returns-else-are_short-clause-written
returns-else-are_short-clause-written c =
    let words = map string_bytes c.in_ok-words.words.items in
    elim c.else-are_short.branch [
      | else-are_short-via-then-are_short+else-are_short-2 w ↦
          let args : list_all (λ text. is_short (text_bytes text)) c.in_ok-args.args.items ≡ true = search rules in
          let entries : list_all (λ text. is_short (text_bytes text)) c.in_ok-entries.entries.items ≡ false = search rules in
          long_entry words c.in_ok-args.args.items c.in_ok-entries.entries.items (cmd_tree c.args.cmd.now) (state_of c.args.state.now)
          c.in_ok-words.ensures (search rules) c.in_ok-entries.ensures args entries
      | else-are_short-via-else-are_short w ↦
          let args : list_all (λ text. is_short (text_bytes text)) c.in_ok-args.args.items ≡ false = search rules in
          long_argument words c.in_ok-args.args.items c.in_ok-entries.entries.items (cmd_tree c.args.cmd.now) (state_of c.args.state.now)
          c.in_ok-words.ensures (search rules) c.in_ok-entries.ensures args
    ]
