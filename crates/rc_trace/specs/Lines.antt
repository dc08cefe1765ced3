-- What lines are written to, and what they show.
use Rattle.std.specs.Prelude.{ℕ, List, Bool, string_bytes}
use Rattle.rc_model.specs.Run.Calls.{Event}
use Rattle.rc_trace.specs.Texts.{Style}
use Rattle.rc_trace.specs.Views.{style_of}
use Rattle.rc_trace.specs.declared.lines.Lines.{Lines}

-- what the lines begin with
abbrev pub process_of : {O : Type 0} {w : _} → Lines O w → List ℕ
process_of lines = string_bytes lines.process

-- how they show launches
abbrev pub style_in : {O : Type 0} {w : _} → Lines O w → Style
style_in lines = style_of lines.manner

-- what the lines are written to
abbrev pub out_of : {O : Type 0} {w : _} → Lines O w → O
out_of lines = lines.out

-- what they are written to, as it was before the first
abbrev pub first_of : {O : Type 0} {w : _} → Lines O w → O
first_of lines = lines.first.value

-- each line could be written so far
abbrev pub is_whole : {O : Type 0} {w : _} → Lines O w → Bool
is_whole lines = lines.is_whole

-- the calls that were shown
abbrev pub trail_of : {O : Type 0} {w : _} → Lines O w → List Event
trail_of lines = lines.trail.events
