use Rattle.std.proofs.Common.{rules, ◌≡◌}
use Rattle.rc_machine.specs.Configurations.{config_of}
use Rattle.rc_machine.proofs.Unwinding.{ended_all, ended_early, ended_none, ended_one}
use Rattle.rc_machine.proofs.control.scopes.end_locals.Goals as goal

pub loop-init : goal.loop-init
loop-init c = ended_none (config_of c.args.machine.now)

pub loop-preserved : goal.loop-preserved
loop-preserved c =
    ended_one (config_of c.args.machine.now) (config_of c.loop.machine) (config_of c.end_local.new.machine) c.loop.counter c.loop.invariant
    (rw c.if-not-end_local.false at c.end_local.ensures)

pub returns-then-not-end_local : goal.returns-then-not-end_local
returns-then-not-end_local c =
    ended_early (config_of c.args.machine.now) (config_of c.loop.machine) (config_of c.end_local.new.machine) c.loop.counter c.args.count
    c.loop-test.true c.loop.invariant (rw c.if-not-end_local.true at c.end_local.ensures)

pub returns : goal.returns
returns c =
    let e : c.loop.counter ≡ c.args.count = search rules in
    ended_all (config_of c.args.machine.now) (config_of c.loop.machine) c.args.count (rw e at c.loop.invariant)
