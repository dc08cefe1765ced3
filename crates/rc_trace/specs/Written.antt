-- The lines of events, and what they are written to.
use Rattle.std.specs.Prelude.{◌≡◌, ℕ, List, [], ◌∷◌, length, Option, Some, None, IsTrue, Bool, true, false}
use Rattle.std.specs.List.{flat_map}
use Rattle.std.specs.Io.KnownBytes.{Appends}
use Rattle.rc_model.specs.Run.Calls.{Call, Answer, Event, event, here, make_pipe, start, wait, done, bytes, plain}
use Rattle.rc_model.specs.Run.Calls.{was_made}
use Rattle.rc_trace.specs.Texts.{Style, Whole, Brief, line_text}

-- the lines of events, one after another
abbrev pub lines_text : (process : List ℕ) → Style → List Event → List ℕ
lines_text process style events = flat_map (λ e. line_text process style e.call e.answer) events

-- the known bytes of a writer have grown by the line of a call that was made, and not for one that was not
abbrev pub IsWrittenIf : (made : Bool) → (process : List ℕ) → Style → (before after : Option (List ℕ)) → Call → Answer →
    Type 0
IsWrittenIf true process style before after call answer = Appends before after (line_text process style call answer)
IsWrittenIf false process style before after call answer = after ≡ before

abbrev pub IsWritten : (process : List ℕ) → Style → (before after : Option (List ℕ)) → Call → Answer → Type 0
IsWritten process style before after call answer =
    IsWrittenIf (was_made answer) process style before after call answer

-- the lines of these events were written, while they are whole
abbrev pub AreShown : (whole : Bool) → (process : List ℕ) → Style → (before after : Option (List ℕ)) → List Event →
    Type 0
AreShown whole process style before after events =
    ∥ (IsTrue whole → Appends before after (lines_text process style events)) ∥₁

-- an event that says what the lines begin with, and what was there before them
abbrev pub opening : (process : List ℕ) → (before : Option (List ℕ)) → Event
opening process None = event (here process) done
opening process (Some text) = event (here process) (bytes text)

-- a mark that says whether images are shown
abbrev pub images_mark : Bool → Option (List ℕ)
images_mark true = Some []
images_mark false = None

-- an event that says how launches are shown
abbrev pub styled : Style → Event
styled Whole = event make_pipe done
styled (Brief known images) =
    event (start (record { program = images_mark images; args = known; entries = []; slots = plain })) done

-- what stands before the calls that are shown: how the lines were begun, and what the world below had recorded
abbrev pub beginning : (process : List ℕ) → Style → (before : Option (List ℕ)) → (recorded : Option (List Event)) →
    List Event
beginning process style before None = opening process before ∷ styled style ∷ event make_pipe done ∷ []
beginning process style before (Some events) =
    opening process before ∷ styled style ∷ event (wait (length events)) done ∷ events
