-- What is shown of the calls of a world.
use Rattle.std.specs.Prelude.{◌≡◌, ℕ, List, ◌++◌, Option, Some, IsTrue}
use Rattle.rc_model.specs.Run.Calls.{Call, Answer, Event}
use Rattle.rc_world.specs.Comes.{Recording, Records}
use Rattle.rc_trace.specs.Lines.{first_of, is_whole, out_of, process_of, style_in, trail_of}
use Rattle.rc_trace.specs.Written.{IsWritten, beginning}
use Rattle.rc_trace.specs.declared.lines.Lines.{Lines}
use Rattle.rc_trace.specs.declared.trace_world.TraceWorld.{TraceWorld}

-- the world whose calls are shown
abbrev pub traced : {W O : Type 0} {v w : _} → TraceWorld W O v w → W
traced world = world.world

-- that world, as it was before the first of them
abbrev pub first_world : {W O : Type 0} {v w : _} → TraceWorld W O v w → W
first_world world = world.first.value

-- what they are written to
abbrev pub lines_of : {W O : Type 0} {v w : _} → TraceWorld W O v w → Lines O w
lines_of world = world.lines

-- the record of a world that shows its calls: how it began, and the calls that were shown
abbrev pub record_of : {W O : Type 0} {v w : _} → Recording W → (contents : O → Option (List ℕ)) → TraceWorld W O v w →
    Option (List Event)
record_of events contents world =
    Some (beginning (process_of (lines_of world)) (style_in (lines_of world)) (contents (first_of (lines_of world)))
    (events (first_world world)) ++ trail_of (lines_of world))

-- a call is passed on, and shown with its answer
pub record Shows {W O : Type 0} {v w : _} (events : Recording W) (contents : O → Option (List ℕ))
    (old new : TraceWorld W O v w) (call : Call) (answer : Answer) : Type 0 where
  pub passed : Records events (traced old) (traced new) call answer
  pub process : process_of (lines_of new) ≡ process_of (lines_of old)
  pub style : style_in (lines_of new) ≡ style_in (lines_of old)
  pub before : IsTrue (is_whole (lines_of new)) → IsTrue (is_whole (lines_of old))
  pub shown : IsTrue (is_whole (lines_of new)) → IsWritten (process_of (lines_of old)) (style_in (lines_of old))
      (contents (out_of (lines_of old))) (contents (out_of (lines_of new))) call answer
  pub recorded : Records (record_of events contents) old new call answer
