use Rattle.rc_scope.proofs.ProperStates.{is_proper}
use Rattle.rc_scope.specs.States.{state_of}
use Rattle.rc_shell.proofs.Executed.{script_ran, script_without_code}
use Rattle.rc_shell.proofs.script.execute.Goals as goal

pub returns-in-Ok : goal.returns-in-Ok
returns-in-Ok g c =
    let made = c.in-Ok.ensures.made in
    script_ran c.args.script.now (state_of c.args.state) c.args.limit (g.W.World.events c.args.world.now) (g.W.World.events c.run_code.new.world)
    c.run_code.result made.tree made.accepted made.only (is_proper c.args.state) (c.run_code.ensures made.tree made.code_is)

pub returns-in-Err : goal.returns-in-Err
returns-in-Err g c =
    let without = script_without_code c.args.script.now (state_of c.args.state) c.args.limit (g.W.World.events c.args.world.now) c.in-Err.error
    c.in-Err.ensures (is_proper c.args.state) in
    rw c.shell_fault.ensures without
