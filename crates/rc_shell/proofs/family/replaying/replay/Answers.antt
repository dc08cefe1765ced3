use Rattle.std.proofs.Common.{◌≡◌, map, arith}
use Rattle.std.specs.List.{before_first}
use Rattle.std.proofs.lemmas.List.{length-map}
use Rattle.rc_model.specs.Run.Calls.{is_halt}
use Rattle.rc_model.specs.Code.Machine.{begin}
use Rattle.rc_code.specs.Views.{code_of}
use Rattle.rc_machine.specs.Machines.{config_of}
use Rattle.rc_scope.specs.States.{state_of}
use Rattle.rc_tree.specs.View.{cmd_tree}
use Rattle.rc_world.specs.Views.{answer_of, call_of}
use Rattle.rc_shell.specs.Replays.{replay_answers, replay_events}
use Rattle.rc_shell.proofs.Replays.{no_halt}
use Rattle.rc_shell.proofs.ReplayRuns.{came_so, halted_called, is_reached}
use Rattle.rc_shell.proofs.Runs.{begins}
use Rattle.rc_shell.proofs.family.replaying.replay.Goals as goal

pub reached_by-requires : goal.reached_by-requires
reached_by-requires c = λ halted.
    let t = cmd_tree c.args.cmd.now in
    let s = state_of c.args.state in
    let given = before_first is_halt (map answer_of c.args.answers.items) in
    let start : config_of c.new-machine.result ≡ begin t s = begins t s (code_of c.in_ok-code.code) (config_of c.new-machine.result) c.new-machine.ensures.begins c.in_ok-code.ensures in
    let came = came_so c.args.limit t s given (replay_answers c.new-world.result) (replay_answers c.run.new.world) (replay_events c.new-world.result) (map call_of c.run.new.world.tape.calls.items)
    c.new-world.ensures.answers c.new-world.ensures.events (no_halt (map answer_of c.args.answers.items))
    (config_of c.new-machine.result) (config_of c.run.new.self) c.in_ok-progress.progress (map call_of c.calls.result.now) start c.calls.ensures
    (c.in_ok-progress.ensures.runs c.new-machine.ensures.running) in
    let some = halted_called c.args.limit t s given c.in_ok-progress.progress (map call_of c.calls.result.now) came halted in
    omega (arith, some, length-map c.calls.result.now call_of)

pub returns : goal.returns
returns c =
    let t = cmd_tree c.args.cmd.now in
    let s = state_of c.args.state in
    let given = before_first is_halt (map answer_of c.args.answers.items) in
    let start : config_of c.new-machine.result ≡ begin t s = begins t s (code_of c.in_ok-code.code) (config_of c.new-machine.result) c.new-machine.ensures.begins c.in_ok-code.ensures in
    let came = came_so c.args.limit t s given (replay_answers c.new-world.result) (replay_answers c.run.new.world) (replay_events c.new-world.result) (map call_of c.run.new.world.tape.calls.items)
    c.new-world.ensures.answers c.new-world.ensures.events (no_halt (map answer_of c.args.answers.items))
    (config_of c.new-machine.result) (config_of c.run.new.self) c.in_ok-progress.progress (map call_of c.calls.result.now) start c.calls.ensures
    (c.in_ok-progress.ensures.runs c.new-machine.ensures.running) in
    is_reached c.args.limit t s given c.in_ok-progress.progress (map call_of c.calls.result.now) c.reached_by.result came c.reached_by.ensures
