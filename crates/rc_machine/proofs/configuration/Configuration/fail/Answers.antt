use Rattle.std.proofs.Common.{rules, ◌≡◌, []}
use Rattle.rc_model.specs.Code.Machine.{goes, unwind}
use Rattle.rc_model.specs.Run.Acts.{fails, runtime_error}
use Rattle.rc_model.specs.Run.Shell.{exits, leaves}
use Rattle.law_plans.proofs.Runs.{ran_exit, ran_next, ran_none}
use Rattle.rc_world.proofs.Shells.{left_under}
use Rattle.rc_machine.specs.Configurations.{config_of}
use Rattle.rc_machine.specs.Steps.{failed}
use Rattle.rc_machine.proofs.Left.{step_left}
use Rattle.rc_machine.proofs.Left.{steps_after}
use Rattle.rc_scope.specs.States.{state_of}
use Rattle.rc_machine.proofs.configuration.Configuration.fail.Goals as goal

pub returns-in_err-runtime_error : goal.returns-in_err-runtime_error
returns-in_err-runtime_error g c =
    let m = c.args.self.now in
    let s = state_of m.state in
    let slots = m.redirs.slots in
    let own : c.slots-slots.result ≡ m.redirs.slots = search rules in
    step_left _ _ _ _ c.from_residual.result c.in_err-runtime_error.field-0.0 c.from_residual.ensures.1
    (left_under _ _ _ (fails {A = Unit {0}} slots c.args.text.now s) (λ x t. goes (config_of m)) (unwind (config_of m).scopes)
    (left_under _ _ _ (runtime_error slots c.args.text.now s) (λ x. exits) leaves (rw own at c.in_err-runtime_error.ensures.does)))

pub returns : goal.returns
returns g c =
    let m = c.args.self.now in
    let s = state_of m.state in
    let t = state_of c.runtime_error.new.state in
    let slots = m.redirs.slots in
    let own : c.slots-slots.result ≡ m.redirs.slots = search rules in
    let before = g.W.World.events c.args.world.now in
    let after = g.W.World.events c.runtime_error.new.world in
    let rest = unwind (config_of m).scopes t [] in
    steps_after before after (g.W.World.events c.unwind.new.world) (failed (config_of m) c.args.text.now) rest (config_of c.unwind.new.self) c.unwind.result
    (ran_exit before after after (fails {A = Unit {0}} slots c.args.text.now s) t [] (λ x t. goes (config_of m)) (unwind (config_of m).scopes) (unwind (config_of m).scopes t [])
    (ran_next before after after (runtime_error slots c.args.text.now s) tt t (λ x. exits) leaves _ (rw own at c.in_ok-runtime_error.ensures.does) (ran_none after _))
    (ran_none after rest))
    c.unwind.ensures
