-- Launches within the limits.
use Rattle.std.specs.Prelude.{Option, Some, None, if◌then◌else◌}
use Rattle.rc_model.specs.Handed.Image.{is_fit}
use Rattle.rc_model.specs.Run.Calls.{Launch}

-- the launch, if no argument and no entry is too long
abbrev pub if_fit : Launch → Option Launch
if_fit l = if is_fit l then Some l else None
