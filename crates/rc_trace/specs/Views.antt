-- How what is shown stands for calls and answers.
use Rattle.std.specs.Prelude.{ℕ, List, Bool, map, string_bytes}
use denote.Ref.{Bor}
use Rattle.rc_text.specs.Texts.{text_bytes}
use Rattle.rc_text.specs.declared.texts.Text.{Text}
use Rattle.rc_model.specs.Run.Calls as calls
use Rattle.rc_world.specs.Views.{launch_of}
use Rattle.rc_trace.specs.Texts.{Style}
use Rattle.rc_trace.specs.Texts as style
use Rattle.rc_trace.specs.declared.manner.Manner.{Manner}
use Rattle.rc_trace.specs.declared.manner.Manner.TheVariants as manner
use Rattle.rc_trace.specs.declared.shown.ShownCall.{ShownCall}
use Rattle.rc_trace.specs.declared.shown.ShownCall.TheVariants as call
use Rattle.rc_trace.specs.declared.shown.ShownAnswer.{ShownAnswer}
use Rattle.rc_trace.specs.declared.shown.ShownAnswer.TheVariants as answer

-- the call that is shown
abbrev pub shown_call : ShownCall → calls.Call
shown_call (call.Open path mode) = calls.open_file path.now mode
shown_call (call.Here text) = calls.here text.now
shown_call call.Pipe = calls.make_pipe
shown_call (call.Close file) = calls.close file.0
shown_call (call.Read file) = calls.read file.0
shown_call (call.Write slot text) = calls.write slot text.now
shown_call (call.Start launch) = calls.start (launch_of launch.now)
shown_call (call.Wait child) = calls.wait child.0
shown_call (call.List path) = calls.list_names path.now
shown_call (call.Probe path) = calls.probe path.now
shown_call (call.Chdir path) = calls.change_dir path.now

-- the answer that is shown
abbrev pub shown_answer : ShownAnswer → calls.Answer
shown_answer (answer.File file) = calls.file file.0
shown_answer (answer.Pair r w) = calls.pair r.0 w.0
shown_answer answer.Done = calls.done
shown_answer (answer.Bytes bytes) = calls.bytes bytes.now
shown_answer (answer.Child child) = calls.child child.0
shown_answer (answer.Ended ending) = calls.ended ending
shown_answer (answer.Names names) = calls.names (map string_bytes names.now)
shown_answer (answer.Found kind) = calls.found kind
shown_answer (answer.Refused fault) = calls.refused fault

-- how launches are shown
abbrev pub style_of : Manner → Style
style_of manner.Whole = style.Whole
style_of (manner.Brief known images) = style.Brief (map string_bytes known.items) images

-- whether a shell is strict, and the words of what it is to run
abbrev pub piece_of : Bool × Bor (List Text) → Bool × List (List ℕ)
piece_of x = (x.0, map text_bytes x.1.now)

-- two borrowed texts
abbrev pub pair_of : Bor (List ℕ) × Bor (List ℕ) → List ℕ × List ℕ
pair_of x = (x.0.now, x.1.now)
