-- What a run shows of its calls.
use Rattle.std.specs.Prelude.{◌≡◌, ℕ, List, ◌++◌, Option}
use Rattle.rc_model.specs.Run.Calls.{Event, extend}
use Rattle.rc_trace.specs.Lines.{first_of, is_whole, out_of, process_of, style_in, trail_of}
use Rattle.rc_trace.specs.Made.{HasMade}
use Rattle.rc_trace.specs.Shows.{lines_of, record_of, traced}
use Rattle.rc_trace.specs.Written.{AreShown}
use Rattle.rc_trace.specs.declared.trace_world.TraceWorld.{TraceWorld}
use Rattle.rc_world.specs.Comes.{Recording}

-- between two moments of a world that shows its calls
module _ {W O : Type 0} {v w : _} (events : Recording W) (contents : O → Option (List ℕ))
    (old new : TraceWorld W O v w) where
  -- these calls were shown, after those before, and no others were; and these were made in the world below
  pub record ShowsThese (calls : List Event) : Type 0 where
    pub shown : AreShown (is_whole (lines_of new)) (process_of (lines_of old)) (style_in (lines_of old))
        (contents (first_of (lines_of old))) (contents (out_of (lines_of new))) (trail_of (lines_of old) ++ calls)
    pub made : HasMade (events (traced old)) (events (traced new)) calls

  -- the calls that were recorded were shown and made
  abbrev pub ShowsCalls : Type 0
  ShowsCalls =
      (calls : List Event) → record_of events contents new ≡ extend (record_of events contents old) calls →
      ShowsThese calls
