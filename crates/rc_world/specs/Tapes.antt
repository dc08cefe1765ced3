-- The record of a tape: its calls, each with the answer that it replays.
use Rattle.std.specs.Prelude.{◌≡◌, List, [], ◌∷◌, ◌++◌, map}
use Rattle.rc_model.specs.Run.Calls.{Call, Answer, Event, event, recorded_by, fitting, refused}
use Rattle.rc_model.specs.declared.call.Fault.TheVariants.{Halt, NoMemory, Other}
use Rattle.rc_world.specs.Views.{call_of, answer_of}
use Rattle.rc_world.specs.declared.tape.Tape.{Tape}

-- each call takes the next answer as one that fits it; past the last answer it is a halt
abbrev pub played : List Call → List Answer → List Event
played [] answers = []
played (c ∷ rest) [] = event c (refused Halt) ∷ played rest []
played (c ∷ rest) (a ∷ answers) = event c (fitting c a) ∷ played rest answers

-- the answers that a tape replays: none is a halt, since a tape has only those before the first halt
abbrev pub tape_answers : Tape → List Answer
tape_answers tape = map answer_of tape.answers.items

-- the record of a tape
abbrev pub tape_events : Tape → List Event
tape_events tape = played (map call_of tape.calls.items) (tape_answers tape)

-- a tape replays an answer to one more call, and records it
abbrev pub Plays : Tape → Tape → Call → Answer → Type 0
Plays before after call answer =
    (tape_events after ≡ tape_events before ++ recorded_by call answer) × (tape_answers after ≡ tape_answers before)

-- the answer after these calls
abbrev pub next_answer : List Answer → List Call → Answer
next_answer [] made = refused Halt
next_answer (a ∷ answers) [] = a
next_answer (a ∷ answers) (c ∷ made) = next_answer answers made

-- the refusal that replaces an answer when another kind was wanted
abbrev pub refusal : Answer → Answer
refusal (refused NoMemory) = refused Other
refusal (refused fault) = refused fault
refusal _ = refused Other
