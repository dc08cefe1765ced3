-- The record of a world that replays the answers of a process.
use Rattle.std.specs.Prelude.{List, [], ◌∷◌, ◌++◌, Option, Some}
use Rattle.rc_model.specs.Run.Calls.{Answer, Event, event, make_pipe, close, done}
use Rattle.rc_world.specs.Tapes.{tape_answers, tape_events}
use Rattle.rc_shell.specs.declared.family.replay_world.Replay.{Replay}

-- answers as events of one call, and an end by another call: no other answers are announced like this
abbrev pub announced : List Answer → List Event
announced [] = event (close 0) done ∷ []
announced (a ∷ given) = event make_pipe a ∷ announced given

-- the answers that it replays
abbrev pub replay_answers : Replay → List Answer
replay_answers replay = tape_answers replay.tape

-- its calls so far, with their answers
abbrev pub replay_events : Replay → List Event
replay_events replay = tape_events replay.tape

-- its whole record, which begins with the answers that it replays
abbrev pub record_of : Replay → Option (List Event)
record_of replay = Some (announced (replay_answers replay) ++ replay_events replay)
