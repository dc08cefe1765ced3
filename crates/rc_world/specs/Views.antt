-- The launches, calls and answers that the values of a program represent.
use Rattle.std.specs.Prelude.{ℕ, List, String, Option, Some, None, Result, Ok, Err, map, string_bytes}
use Rattle.std.specs.declared.alloc.Global.{Global}
use Rattle.std.specs.Global.{Vec}
use Rattle.rc_model.specs.Run.Calls as calls
use Rattle.rc_model.specs.declared.call.Fault.{Fault}
use Rattle.rc_model.specs.declared.call.Handle.{Handle}
use Rattle.rc_model.specs.declared.call.ChildNo.{ChildNo}
use Rattle.rc_model.specs.declared.call.Kind.{Kind}
use Rattle.rc_model.specs.declared.call.Ending.{Ending}
use Rattle.rc_text.specs.Texts.{text_bytes}
use Rattle.rc_world.specs.declared.starts.Program.{Program}
use Rattle.rc_world.specs.declared.starts.Program.TheVariants as program
use Rattle.rc_world.specs.declared.starts.Launch.{Launch}
use Rattle.rc_world.specs.declared.event.Call.{Call}
use Rattle.rc_world.specs.declared.event.Call.TheVariants as call
use Rattle.rc_world.specs.declared.event.Answer.{Answer}
use Rattle.rc_world.specs.declared.event.Answer.TheVariants as answer

-- the path of a program, none for the shell itself
abbrev pub program_of : Program → Option (List ℕ)
program_of program.Shell = None
program_of (program.Path path) = Some (string_bytes path)

-- the launch that a value represents
abbrev pub launch_of : Launch → calls.Launch
launch_of launch = record {
  program = program_of launch.program;
  args = map text_bytes launch.args.items;
  entries = map text_bytes launch.env.items;
  slots = launch.slots;
}

-- the call that a value represents
abbrev pub call_of : Call → calls.Call
call_of (call.Open path mode) = calls.open_file (string_bytes path) mode
call_of (call.Here text) = calls.here (string_bytes text)
call_of call.Pipe = calls.make_pipe
call_of (call.Close handle) = calls.close handle.0
call_of (call.Read handle) = calls.read handle.0
call_of (call.Write slot text) = calls.write slot text.items
call_of (call.Start launch) = calls.start (launch_of launch)
call_of (call.Wait child) = calls.wait child.0
call_of (call.List path) = calls.list_names (string_bytes path)
call_of (call.Probe path) = calls.probe (string_bytes path)
call_of (call.Chdir path) = calls.change_dir (string_bytes path)

-- the answer that a value represents
abbrev pub answer_of : Answer → calls.Answer
answer_of (answer.File handle) = calls.file handle.0
answer_of (answer.Pair r w) = calls.pair r.0 w.0
answer_of answer.Done = calls.done
answer_of (answer.Bytes bytes) = calls.bytes bytes.items
answer_of (answer.Child child) = calls.child child.0
answer_of (answer.Ended ending) = calls.ended ending
answer_of (answer.Names names) = calls.names (map string_bytes names.items)
answer_of (answer.Found kind) = calls.found kind
answer_of (answer.Refused fault) = calls.refused fault

-- the result of a call as an answer
abbrev pub answer_or_refused : {T : Type 0} → (T → calls.Answer) → Result T Fault → calls.Answer
answer_or_refused good (Ok x) = good x
answer_or_refused good (Err fault) = calls.refused fault

-- the answer of a call that returns an open file
abbrev pub file_answer : Result Handle Fault → calls.Answer
file_answer result = answer_or_refused (λ handle. calls.file handle.0) result

-- the answer of a call that returns the two ends of a pipe
abbrev pub pair_answer : Result (Handle × Handle) Fault → calls.Answer
pair_answer result = answer_or_refused (λ ends. calls.pair ends.0.0 ends.1.0) result

-- the answer of a call that returns nothing
abbrev pub done_answer : Result (Unit {0}) Fault → calls.Answer
done_answer result = answer_or_refused (λ x. calls.done) result

-- the answer of a call that returns bytes
abbrev pub bytes_answer : Result (Vec ℕ) Fault → calls.Answer
bytes_answer result = answer_or_refused (λ bytes. calls.bytes bytes.items) result

-- the answer of a call that returns a child
abbrev pub child_answer : Result ChildNo Fault → calls.Answer
child_answer result = answer_or_refused (λ child. calls.child child.0) result

-- the answer of a call that returns how a child ended
abbrev pub ending_answer : Result Ending Fault → calls.Answer
ending_answer result = answer_or_refused calls.ended result

-- the answer of a call that returns the names in a directory
abbrev pub names_answer : Result (Vec (String Global)) Fault → calls.Answer
names_answer result = answer_or_refused (λ names. calls.names (map string_bytes names.items)) result

-- the answer of a call that returns the kind of a path
abbrev pub kind_answer : Result Kind Fault → calls.Answer
kind_answer result = answer_or_refused calls.found result
