use Rattle.std.proofs.Common.{◌≡◌, [], ◌∷◌, ◌++◌, map, string_bytes, arith}
use Rattle.std.proofs.lemmas.Grind.{common_steps}
use Rattle.rc_world.specs.declared.starts.Stop.TheVariants.{NoMemory}
use Rattle.rc_world.proofs.Joins.{left_here, passed_up}
use Rattle.law_plans.proofs.Runs.{ran_none}
use Rattle.rc_pipes.proofs.Waits.{next_waited, left_waiting, left_between, has_waited}
use Rattle.rc_pipes.proofs.child_statuses.wait_stages.Goals as goal

pub returns-in_err-statuses : goal.returns-in_err-statuses
returns-in_err-statuses g c = λ s. passed_up _ _ _ _ c.from_residual.result NoMemory c.from_residual.ensures.1 (left_here _ _ _ _ (ran_none _ _))

pub returns-in_err-status : goal.returns-in_err-status
returns-in_err-status g c = λ s.
    passed_up _ _ _ _ c.from_residual-in_err-status.result c.in_err-status.field-0.0 c.from_residual-in_err-status.ensures.1
    (left_waiting s _ _ _ c.args.children.now c.loop-child.child-index _ _ _ _ c.loop-child-test.true (c.loop-child.invariant s) (c.in_err-status.ensures s))

pub returns-in_err-push : goal.returns-in_err-push
returns-in_err-push g c = λ s.
    passed_up _ _ _ _ c.from_residual-in_err-push.result NoMemory c.from_residual-in_err-push.ensures.1
    (left_between s _ _ _ _ _
    (next_waited s _ _ _ c.args.children.now c.loop-child.child-index _ _ _ _ c.loop-child-test.true (c.loop-child.invariant s) (c.in_ok-status.ensures s)))

pub loop-child-preserved : goal.loop-child-preserved
loop-child-preserved g c =
    let more : map string_bytes c.push.new.self.items ≡ map string_bytes c.loop-child.statuses.items ++ string_bytes c.in_ok-status.status ∷ [] = grind (arith, common_steps) in
    λ s. rw more
    (next_waited s _ _ _ c.args.children.now c.loop-child.child-index _ _ _ _ c.loop-child-test.true (c.loop-child.invariant s) (c.in_ok-status.ensures s))

pub returns : goal.returns
returns g c = λ s. has_waited s _ _ _ c.args.children.now c.loop-child.child-index _ c.loop-child-test.false (c.loop-child.invariant s)
