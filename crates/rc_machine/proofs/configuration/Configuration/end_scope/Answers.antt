use Rattle.rc_model.specs.Code.Machine.{unwind}
use Rattle.rc_scope.specs.Children.{child_numbers}
use Rattle.rc_scope.specs.States.{state_of}
use Rattle.rc_world.specs.declared.starts.Stop.TheVariants.{NoMemory}
use Rattle.rc_world.proofs.Joins.{given_up}
use Rattle.rc_machine.specs.Configurations.{scopes_of}
use Rattle.rc_machine.proofs.ScopeEnds.{goes_closed, left_after_close, left_pipeline, ran_pipeline}
use Rattle.rc_machine.proofs.configuration.Configuration.end_scope.Goals as goal

pub returns-in-Redirection-clause-ended : goal.returns-in-Redirection-clause-ended
returns-in-Redirection-clause-ended g c =
    let m = c.args.self.now in
    rw c.in-Redirection.is (goes_closed _ _ m.redirs (λ n. unwind (scopes_of m.scopes n) (state_of m.state) (child_numbers c.args.owed.now.items)) c.pop.new.self c.pop.result c.pop.ensures.closed c.pop.ensures.ok)

pub returns-in_err-pop-in-Pipeline-clause-ended : goal.returns-in_err-pop-in-Pipeline-clause-ended
returns-in_err-pop-in-Pipeline-clause-ended g c =
    let m = c.args.self.now in
    given_up _ _ _ _ c.from_residual.result c.in_err-pop-in-Pipeline.field-0.0 c.from_residual.ensures.1
    (rw c.in-Pipeline.is (left_pipeline _ _ m.redirs m.scopes c.in-Pipeline.children (state_of m.state) c.args.owed.now.items
    c.in_err-pop-in-Pipeline.field-0.0 c.in_err-pop-in-Pipeline.ensures.closed))

pub returns-in_err-append-in-Pipeline-clause-ended : goal.returns-in_err-append-in-Pipeline-clause-ended
returns-in_err-append-in-Pipeline-clause-ended g c =
    let m = c.args.self.now in
    given_up _ _ _ _ c.from_residual-in_err-append-in-Pipeline.result NoMemory c.from_residual-in_err-append-in-Pipeline.ensures.1
    (rw c.in-Pipeline.is (left_after_close _ _ m.redirs m.scopes c.in-Pipeline.children (state_of m.state) c.args.owed.now.items
    c.in_ok-pop-in-Pipeline.ensures.closed))

pub returns-clause-ended : goal.returns-clause-ended
returns-clause-ended g c =
    let m = c.args.self.now in
    rw c.in-Pipeline.is (ran_pipeline _ _ m.redirs m.scopes c.in-Pipeline.children (state_of m.state) c.args.owed.now.items c.pop-in-Pipeline.new.self c.append.new.self.items
    c.in_ok-pop-in-Pipeline.ensures.closed c.in_ok-pop-in-Pipeline.ensures.ok c.in_ok-append-in-Pipeline.ensures.items)
