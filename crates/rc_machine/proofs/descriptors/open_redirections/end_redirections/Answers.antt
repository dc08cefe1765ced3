use Rattle.std.proofs.Common.{rules, ◌≡◌}
use Rattle.rc_machine.specs.Configurations.{config_of}
use Rattle.rc_machine.proofs.Redirected.{ended_all, ended_early, ended_none, ended_one, left_ends, left_within}
use Rattle.rc_machine.proofs.descriptors.open_redirections.end_redirections.Goals as goal

pub loop-init : goal.loop-init
loop-init g c = ended_none _ (config_of c.args.machine.now)

pub returns-in_err-end_redirection : goal.returns-in_err-end_redirection
returns-in_err-end_redirection g c =
    left_ends _ _ c.args.count (config_of c.args.machine.now) (config_of c.end_redirection.new.machine) c.from_residual.result c.in_err-end_redirection.field-0.0 c.from_residual.ensures.1
    (λ go. left_within _ _ _ (config_of c.args.machine.now) (config_of c.loop.machine) (config_of c.end_redirection.new.machine) c.loop.counter c.loop.invariant c.args.count c.loop-test.true
    c.in_err-end_redirection.field-0.0 go c.in_err-end_redirection.ensures)

pub returns-then-not-branch : goal.returns-then-not-branch
returns-then-not-branch g c =
    ended_early _ _ _ (config_of c.args.machine.now) (config_of c.loop.machine) (config_of c.end_redirection.new.machine) c.loop.counter c.loop.invariant c.args.count c.loop-test.true
    (rw c.if-not-branch.true at c.in_ok-end_redirection.ensures)

pub loop-preserved : goal.loop-preserved
loop-preserved g c =
    ended_one _ _ _ (config_of c.args.machine.now) (config_of c.loop.machine) (config_of c.end_redirection.new.machine) c.loop.counter c.loop.invariant
    (rw c.if-not-branch.false at c.in_ok-end_redirection.ensures)

pub returns : goal.returns
returns g c =
    let e : c.loop.counter ≡ c.args.count = search rules in
    ended_all _ _ (config_of c.args.machine.now) (config_of c.loop.machine) c.args.count (rw e at c.loop.invariant)
