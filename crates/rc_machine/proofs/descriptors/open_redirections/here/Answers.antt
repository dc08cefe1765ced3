use Rattle.std.proofs.Common.{rules, ◌≡◌, Some, refl}
use Rattle.rc_code.specs.Views.{code_of, pieces_at}
use Rattle.rc_model.specs.Code.Machine.{redirect}
use Rattle.rc_model.specs.Run.Acts.{here_text}
use Rattle.rc_redir.specs.Opening.{open_text}
use Rattle.rc_scope.specs.States.{state_of}
use Rattle.rc_tree.specs.View.{pieces_tree}
use Rattle.rc_world.specs.declared.starts.Stop.TheVariants.{NoMemory}
use Rattle.rc_world.proofs.Joins.{left_as, ran_as}
use Rattle.rc_machine.specs.Configurations.{config_of}
use Rattle.rc_machine.proofs.DescriptorActs.{opens_here}
use Rattle.rc_machine.proofs.Left.{step_left, steps_as}
use Rattle.rc_machine.proofs.Opened.{opened, opened_left, opens_refused}
use Rattle.rc_machine.proofs.descriptors.open_redirections.here.Goals as goal

pub returns-in-Err : goal.returns-in-Err
returns-in-Err g c place counted =
    let m = c.args.machine.now in
    let start = record (config_of m) { counter = place } in
    let pieces : pieces_at (code_of m.code) c.args.number ≡ Some (pieces_tree c.in-Some.pieces.now) = search rules in
    let text : c.deref.result.now ≡ here_text (state_of m.state) (pieces_tree c.in-Some.pieces.now) = search rules in
    steps_as _ _ _ _ _ c.refuse.result (opens_here start c.args.number (pieces_tree c.in-Some.pieces.now) c.deref.result.now pieces text)
    (opens_refused _ _ m c.push_here.new.self 0 (open_text m.redirs.slots c.deref.result.now) _
    (λ h s. redirect start m.words 0 h s) (config_of c.refuse.new.machine) c.refuse.result c.in-Err.error
    c.in-Err.ensures.opened (rw c.in-Err.ensures.err at c.refuse.ensures))

pub returns-in_err-push : goal.returns-in_err-push
returns-in_err-push g c place counted =
    let m = c.args.machine.now in
    let start = record (config_of m) { counter = place } in
    let pieces : pieces_at (code_of m.code) c.args.number ≡ Some (pieces_tree c.in-Some.pieces.now) = search rules in
    let text : c.deref.result.now ≡ here_text (state_of m.state) (pieces_tree c.in-Some.pieces.now) = search rules in
    step_left _ _ _ _ c.from_residual-in_err-push.result NoMemory c.from_residual-in_err-push.ensures.1
    (left_as _ _ _ _ NoMemory (opens_here start c.args.number (pieces_tree c.in-Some.pieces.now) c.deref.result.now pieces text)
    (opened_left _ _ m c.push_here.new.self 0 (open_text m.redirs.slots c.deref.result.now) (λ h s. redirect start m.words 0 h s)
    c.in_default-push_here.ensures.opened))

pub returns : goal.returns
returns g c place counted =
    let m = c.args.machine.now in
    let start = record (config_of m) { counter = place } in
    let pieces : pieces_at (code_of m.code) c.args.number ≡ Some (pieces_tree c.in-Some.pieces.now) = search rules in
    let text : c.deref.result.now ≡ here_text (state_of m.state) (pieces_tree c.in-Some.pieces.now) = search rules in
    rw (counted, c.in_ok-push.ensures) (ran_as _ _ _ _ _ (opens_here start c.args.number (pieces_tree c.in-Some.pieces.now) c.deref.result.now pieces text)
    (opened _ _ m c.push_here.new.self 0 (open_text m.redirs.slots c.deref.result.now) place m.words _
    c.in_default-push_here.ensures.opened refl))
