-- Scripts whose traces have fresh answers, computed, and what the laws say of each of them.
use Rattle.std.proofs.Common.{◌≡◌, List, [], ◌∷◌, ◌++◌, None, refl, ap, sym, ◌∙◌, arith}
use Rattle.std.proofs.Math.Utf8.{encode}
use Rattle.std.proofs.lemmas.List.{append-nil}
use Rattle.std.specs.Prelude.{ℕ, codes, false, Some}
use Rattle.std.specs.Str.{chars}
use Rattle.std.specs.Fmt.{digits}
use Rattle.rc_model.specs.Run.Calls.{to_file, plain, Call, Event, event, open_file, make_pipe, close, start, wait, probe, write, file, pair, child, ended, done, found, refused, calls, answers}
use Rattle.rc_model.specs.declared.call.Ending.TheVariants.{Code}
use Rattle.rc_model.specs.declared.call.Fault.TheVariants.{Other}
use Rattle.rc_model.specs.declared.call.Kind.TheVariants.{Program}
use Rattle.rc_model.specs.declared.call.Mode.TheVariants.{Write}
use Rattle.rc_model.specs.declared.call.Slot.TheVariants.{Own}
use Rattle.rc_model.specs.declared.call.Slots.{Slots}
use Rattle.rc_model.specs.Run.Plans.{Ends, calls_made}
use Rattle.rc_model.specs.Run.State.{State, new_state, set_value, with_status}
use Rattle.rc_model.specs.Syntax.Tree.{Node, cmd, none, more, Seq, Item, Brace, Simple, Redirect, Pipeline, Stage, Open, Lit}
use Rattle.rc_model.specs.Handed.Image.{node_image, many_image}
use Rattle.rc_model.specs.Run.Script.{script}
use Rattle.rc_model.specs.Family.Accounts.{one, put, IsFresh, NothingLost, NothingLeft}
use Rattle.law_traces.proofs.Traces.{begun_loses_nothing, ended_leaves_nothing}

-- ** what is shown of each script

-- `path=(/bin)`, and nothing else
abbrev pub looking : State
looking = set_value new_state (codes "path") (codes "/bin" ∷ [])

-- the script ends, with this trace and this status
abbrev EndsSo : Node cmd → List Event → (status : List ℕ) → Type 0
EndsSo c trace status = script 0 c looking (answers trace) ≡ Ends (calls trace) (with_status looking status) []

-- then it leaves nothing, where its answers are fresh
leaves_nothing : (c : Node cmd) (trace : List Event) (status : List ℕ) → EndsSo c trace status → IsFresh looking trace → NothingLeft looking trace (with_status looking status)
leaves_nothing c trace status ends fresh = ended_leaves_nothing c looking trace (with_status looking status) (0, ends) fresh

-- and loses nothing before
loses_nothing : (c : Node cmd) (trace : List Event) (status : List ℕ) → EndsSo c trace status → IsFresh looking trace → NothingLost looking trace
loses_nothing c trace status ends fresh = begun_loses_nothing c looking trace (0, record { rest = []; is = begins }) fresh
  where
    begins : calls_made (script 0 c looking (answers trace)) ≡ calls trace ++ []
    begins = ap calls_made ends ∙ sym (append-nil (calls trace))

-- ** commands and calls

-- a command of one word
abbrev pub word : List ℕ → Node cmd
word text = Simple (more (Lit text false) none)

-- a list of one command
abbrev pub alone : Node cmd → Node cmd
alone c = Seq (more (Item c false) none)

-- a stage is started with the image of its command
abbrev pub stage : List ℕ → Slots → Call
stage image slots = start (record { program = None; args = codes "-S" ∷ image ∷ []; entries = codes "path=/bin" ∷ codes "status=" ∷ []; slots = slots })

-- a program is started
abbrev pub program : List ℕ → Slots → Call
program path slots = start (record { program = Some path; args = []; entries = codes "path=/bin" ∷ codes "status=" ∷ []; slots = slots })

-- ** a last stage that ends the shell

-- `{a | {exit 3}} >f`
abbrev exits : Node cmd
exits =
    alone
    (Redirect (more (Open Write 1 (Lit (codes "f") false)) none)
    (Brace (alone (Pipeline (more (Stage (word (codes "a")) 1) none) (Brace (alone (Simple (more (Lit (codes "exit") false) (more (Lit (codes "3") false) none)))))))))

abbrev exits_trace : List Event
exits_trace = event (open_file (codes "f") Write) (file 5) ∷ event make_pipe (pair 3 4) ∷ event (stage (codes "rc1;c1,w1:a") (record plain { output = to_file 4 })) (child 1)
    ∷ event (close 4) done ∷ event (close 3) done ∷ event (close 5) done ∷ event (wait 1) (ended (Code 0)) ∷ []

exits_ends : EndsSo exits exits_trace (codes "3")
unfolding chars encode digits node_image many_image
exits_ends = refl

exits_fresh : IsFresh looking exits_trace
unfolding one put
exits_fresh = record { differ = λ k. omega arith; fresh = (refl, ((refl, refl, λ e. absurd (omega arith)), (refl, (tt, (tt, (tt, (tt, tt))))))) }

exits_left : NothingLeft looking exits_trace (with_status looking (codes "3"))
exits_left = leaves_nothing exits exits_trace (codes "3") exits_ends exits_fresh

exits_lost : NothingLost looking exits_trace
exits_lost = loses_nothing exits exits_trace (codes "3") exits_ends exits_fresh

-- ** a pipeline into a file, with each call of it refused in turn

-- `{a | b} >f`
abbrev into_file : Node cmd
into_file = alone (Redirect (more (Open Write 1 (Lit (codes "f") false)) none) (Brace (alone (Pipeline (more (Stage (word (codes "a")) 1) none) (word (codes "b"))))))

-- no call is refused
abbrev into_trace : List Event
into_trace =
    event (open_file (codes "f") Write) (file 3)
    ∷ event make_pipe (pair 4 5)
    ∷ event (stage (codes "rc1;c1,w1:a") (record plain { output = to_file 5 })) (child 1)
    ∷ event (close 5) done
    ∷ event (probe (codes "/bin/b")) (found Program)
    ∷ event (program (codes "/bin/b") (record plain { input = to_file 4; output = to_file 3 })) (child 2)
    ∷ event (wait 2) (ended (Code 0))
    ∷ event (close 4) done
    ∷ event (wait 1) (ended (Code 0))
    ∷ event (close 3) done ∷ []

into_ends : EndsSo into_file into_trace (codes "|")
unfolding chars encode digits node_image many_image
into_ends = refl

into_fresh : IsFresh looking into_trace
unfolding one put
into_fresh = record { differ = λ k. omega arith; fresh = (refl, ((refl, refl, λ e. absurd (omega arith)), (refl, (tt, (tt, (refl, (tt, (tt, (tt, (tt, tt)))))))))) }

into_left : NothingLeft looking into_trace (with_status looking (codes "|"))
into_left = leaves_nothing into_file into_trace (codes "|") into_ends into_fresh

into_lost : NothingLost looking into_trace
into_lost = loses_nothing into_file into_trace (codes "|") into_ends into_fresh

-- the file is refused: the error is reported
abbrev opened_trace : List Event
opened_trace =
    event (open_file (codes "f") Write) (refused Other)
    ∷ event (write (Own 2) (codes "rc: cannot open f\n")) done ∷ []

opened_ends : EndsSo into_file opened_trace (codes "error")
unfolding chars encode digits node_image many_image
opened_ends = refl

opened_fresh : IsFresh looking opened_trace
unfolding one put
opened_fresh = record { differ = λ k. omega arith; fresh = (tt, (tt, tt)) }

opened_left : NothingLeft looking opened_trace (with_status looking (codes "error"))
opened_left = leaves_nothing into_file opened_trace (codes "error") opened_ends opened_fresh

opened_lost : NothingLost looking opened_trace
opened_lost = loses_nothing into_file opened_trace (codes "error") opened_ends opened_fresh

-- the pipe is refused: the file is closed
abbrev piped_trace : List Event
piped_trace =
    event (open_file (codes "f") Write) (file 3)
    ∷ event make_pipe (refused Other)
    ∷ event (close 3) done ∷ []

piped_ends : EndsSo into_file piped_trace (codes "cannot pipe")
unfolding chars encode digits node_image many_image
piped_ends = refl

piped_fresh : IsFresh looking piped_trace
unfolding one put
piped_fresh = record { differ = λ k. omega arith; fresh = (refl, (tt, (tt, tt))) }

piped_left : NothingLeft looking piped_trace (with_status looking (codes "cannot pipe"))
piped_left = leaves_nothing into_file piped_trace (codes "cannot pipe") piped_ends piped_fresh

piped_lost : NothingLost looking piped_trace
piped_lost = loses_nothing into_file piped_trace (codes "cannot pipe") piped_ends piped_fresh

-- the first start is refused: both ends are closed, and then the file
abbrev started_trace : List Event
started_trace =
    event (open_file (codes "f") Write) (file 3)
    ∷ event make_pipe (pair 4 5)
    ∷ event (stage (codes "rc1;c1,w1:a") (record plain { output = to_file 5 })) (refused Other)
    ∷ event (close 5) done
    ∷ event (close 4) done
    ∷ event (close 3) done ∷ []

started_ends : EndsSo into_file started_trace (codes "cannot start")
unfolding chars encode digits node_image many_image
started_ends = refl

started_fresh : IsFresh looking started_trace
unfolding one put
started_fresh = record { differ = λ k. omega arith; fresh = (refl, ((refl, refl, λ e. absurd (omega arith)), (tt, (tt, (tt, (tt, tt)))))) }

started_left : NothingLeft looking started_trace (with_status looking (codes "cannot start"))
started_left = leaves_nothing into_file started_trace (codes "cannot start") started_ends started_fresh

started_lost : NothingLost looking started_trace
started_lost = loses_nothing into_file started_trace (codes "cannot start") started_ends started_fresh

-- the last program is missing: the child is waited for all the same
abbrev probed_trace : List Event
probed_trace =
    event (open_file (codes "f") Write) (file 3)
    ∷ event make_pipe (pair 4 5)
    ∷ event (stage (codes "rc1;c1,w1:a") (record plain { output = to_file 5 })) (child 1)
    ∷ event (close 5) done
    ∷ event (probe (codes "/bin/b")) (refused Other)
    ∷ event (write (Own 2) (codes "rc: b: not found\n")) done
    ∷ event (close 4) done
    ∷ event (wait 1) (ended (Code 0))
    ∷ event (close 3) done ∷ []

probed_ends : EndsSo into_file probed_trace (codes "|not found")
unfolding chars encode digits node_image many_image
probed_ends = refl

probed_fresh : IsFresh looking probed_trace
unfolding one put
probed_fresh = record { differ = λ k. omega arith; fresh = (refl, ((refl, refl, λ e. absurd (omega arith)), (refl, (tt, (tt, (tt, (tt, (tt, (tt, tt))))))))) }

probed_left : NothingLeft looking probed_trace (with_status looking (codes "|not found"))
probed_left = leaves_nothing into_file probed_trace (codes "|not found") probed_ends probed_fresh

probed_lost : NothingLost looking probed_trace
probed_lost = loses_nothing into_file probed_trace (codes "|not found") probed_ends probed_fresh

-- the wait for the last program is refused
abbrev last_waited_trace : List Event
last_waited_trace =
    event (open_file (codes "f") Write) (file 3)
    ∷ event make_pipe (pair 4 5)
    ∷ event (stage (codes "rc1;c1,w1:a") (record plain { output = to_file 5 })) (child 1)
    ∷ event (close 5) done
    ∷ event (probe (codes "/bin/b")) (found Program)
    ∷ event (program (codes "/bin/b") (record plain { input = to_file 4; output = to_file 3 })) (child 2)
    ∷ event (wait 2) (refused Other)
    ∷ event (close 4) done
    ∷ event (wait 1) (ended (Code 0))
    ∷ event (close 3) done ∷ []

last_waited_ends : EndsSo into_file last_waited_trace (codes "|cannot wait")
unfolding chars encode digits node_image many_image
last_waited_ends = refl

last_waited_fresh : IsFresh looking last_waited_trace
unfolding one put
last_waited_fresh = record { differ = λ k. omega arith; fresh = (refl, ((refl, refl, λ e. absurd (omega arith)), (refl, (tt, (tt, (refl, (tt, (tt, (tt, (tt, tt)))))))))) }

last_waited_left : NothingLeft looking last_waited_trace (with_status looking (codes "|cannot wait"))
last_waited_left = leaves_nothing into_file last_waited_trace (codes "|cannot wait") last_waited_ends last_waited_fresh

last_waited_lost : NothingLost looking last_waited_trace
last_waited_lost = loses_nothing into_file last_waited_trace (codes "|cannot wait") last_waited_ends last_waited_fresh

-- the wait for the first stage is refused
abbrev first_waited_trace : List Event
first_waited_trace =
    event (open_file (codes "f") Write) (file 3)
    ∷ event make_pipe (pair 4 5)
    ∷ event (stage (codes "rc1;c1,w1:a") (record plain { output = to_file 5 })) (child 1)
    ∷ event (close 5) done
    ∷ event (probe (codes "/bin/b")) (found Program)
    ∷ event (program (codes "/bin/b") (record plain { input = to_file 4; output = to_file 3 })) (child 2)
    ∷ event (wait 2) (ended (Code 0))
    ∷ event (close 4) done
    ∷ event (wait 1) (refused Other)
    ∷ event (close 3) done ∷ []

first_waited_ends : EndsSo into_file first_waited_trace (codes "cannot wait|")
unfolding chars encode digits node_image many_image
first_waited_ends = refl

first_waited_fresh : IsFresh looking first_waited_trace
unfolding one put
first_waited_fresh = record { differ = λ k. omega arith; fresh = (refl, ((refl, refl, λ e. absurd (omega arith)), (refl, (tt, (tt, (refl, (tt, (tt, (tt, (tt, tt)))))))))) }

first_waited_left : NothingLeft looking first_waited_trace (with_status looking (codes "cannot wait|"))
first_waited_left = leaves_nothing into_file first_waited_trace (codes "cannot wait|") first_waited_ends first_waited_fresh

first_waited_lost : NothingLost looking first_waited_trace
first_waited_lost = loses_nothing into_file first_waited_trace (codes "cannot wait|") first_waited_ends first_waited_fresh

-- ** a pipeline of three stages

-- `a | b | c`
abbrev three : Node cmd
three = alone (Pipeline (more (Stage (word (codes "a")) 1) (more (Stage (word (codes "b")) 1) none)) (word (codes "c")))

-- its second start is refused: both ends of the new pipe are closed, and that of the one before
abbrev second_trace : List Event
second_trace =
    event make_pipe (pair 3 4)
    ∷ event (stage (codes "rc1;c1,w1:a") (record plain { output = to_file 4 })) (child 1)
    ∷ event (close 4) done
    ∷ event make_pipe (pair 5 6)
    ∷ event (stage (codes "rc1;c1,w1:b") (record plain { input = to_file 3; output = to_file 6 })) (refused Other)
    ∷ event (close 6) done
    ∷ event (close 5) done
    ∷ event (close 3) done
    ∷ event (wait 1) (ended (Code 0)) ∷ []

second_ends : EndsSo three second_trace (codes "|cannot start")
unfolding chars encode digits node_image many_image
second_ends = refl

second_fresh : IsFresh looking second_trace
unfolding one put
second_fresh = record { differ = λ k. omega arith; fresh = ((refl, refl, λ e. absurd (omega arith)), (refl, (tt, ((refl, refl, λ e. absurd (omega arith)), (tt, (tt, (tt, (tt, (tt, tt))))))))) }

second_left : NothingLeft looking second_trace (with_status looking (codes "|cannot start"))
second_left = leaves_nothing three second_trace (codes "|cannot start") second_ends second_fresh

second_lost : NothingLost looking second_trace
second_lost = loses_nothing three second_trace (codes "|cannot start") second_ends second_fresh
