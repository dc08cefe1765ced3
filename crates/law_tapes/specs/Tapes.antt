-- The records of tapes, by the answers that they have left.
use Rattle.std.specs.Prelude.{◌≡◌, List, [], ◌∷◌, ◌++◌, map}
use Rattle.rc_model.specs.Run.Calls.{Call, Answer, Event, recorded_by}
use Rattle.law_machine.specs.Limits.{IsOnTape}
use Rattle.rc_world.specs.Tapes.{tape_answers, tape_events, Plays}
use Rattle.rc_world.specs.Views.{call_of}
use Rattle.rc_world.specs.declared.tape.Tape.{Tape}

-- the answers that are left after these calls
abbrev pub answers_after : List Call → List Answer → List Answer
answers_after [] given = given
answers_after (c ∷ made) [] = []
answers_after (c ∷ made) (a ∷ given) = answers_after made given

-- the answers that a tape has not replayed yet
abbrev pub left_of : Tape → List Answer
left_of tape = answers_after (map call_of tape.calls.items) (tape_answers tape)

-- Between two moments, and up to its first halt, a tape records its calls with the answers that it had left, in order.
abbrev pub TapesRecord : Type 0
TapesRecord = (before after : Tape) (trace : List Event) → tape_answers after ≡ tape_answers before →
    tape_events after ≡ tape_events before ++ trace → IsOnTape (left_of before) trace

-- The same for one call.
abbrev pub CallsAreOnTape : Type 0
CallsAreOnTape = (before after : Tape) (call : Call) (answer : Answer) → Plays before after call answer →
    IsOnTape (left_of before) (recorded_by call answer)

-- A tape that has recorded nothing has all its answers left.
abbrev pub NewTapesHaveAll : Type 0
NewTapesHaveAll = (tape : Tape) → tape_events tape ≡ [] → left_of tape ≡ tape_answers tape
