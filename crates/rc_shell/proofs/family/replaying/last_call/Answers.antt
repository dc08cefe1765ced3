use Rattle.std.proofs.Common.{◌-◌, length, arith}
use Rattle.rc_shell.proofs.Replays.{last_copied}
use Rattle.rc_shell.proofs.family.replaying.last_call.Goals as goal

pub returns : goal.returns
returns c =
    let calls = c.args.calls.now in
    let some = c.requires in
    last_copied calls (length calls - 1) c.index-calls-calls.result c.clone.result _ (omega (arith, some)) c.index-calls-calls.is c.clone.ensures.cases
