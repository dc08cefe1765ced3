-- Scripts whose calls are refused, one after the other, computed: nothing is lost, and nothing is left.
use Rattle.std.proofs.Common.{◌≡◌, ℕ, List, [], ◌∷◌, refl, arith}
use Rattle.std.proofs.Math.Utf8.{encode}
use Rattle.std.specs.Prelude.{codes, false}
use Rattle.std.specs.Str.{chars}
use Rattle.std.specs.Fmt.{digits}
use Rattle.rc_model.specs.Run.Calls.{to_file, Event, event, open_file, make_pipe, close, start, wait, write, probe, file, pair, child, ended, done, found, refused, calls, answers}
use Rattle.rc_model.specs.declared.call.Ending.TheVariants.{Code}
use Rattle.rc_model.specs.declared.call.Fault.TheVariants.{Other}
use Rattle.rc_model.specs.declared.call.Kind.TheVariants.{Program}
use Rattle.rc_model.specs.declared.call.Mode.TheVariants.{Write}
use Rattle.rc_model.specs.declared.call.Slot.TheVariants.{Own}
use Rattle.rc_model.specs.declared.call.Slots.{Slots}
use Rattle.rc_model.specs.Run.Plans.{Ends}
use Rattle.rc_model.specs.Run.State.{with_status}
use Rattle.rc_model.specs.Syntax.Tree.{Node, cmd, none, more, Redirect, Pipeline, Stage, Open, Lit}
use Rattle.rc_model.specs.Handed.Image.{node_image, many_image, program_launch, shell_launch}
use Rattle.rc_model.specs.Run.Script.{script}
use Rattle.rc_model.specs.Family.Accounts.{one, put, IsFresh, NothingLeft}
use Rattle.law_traces.proofs.Traces.{ended_leaves_nothing}
use Rattle.law_traces.proofs.Rows.{looking, word}

-- `{a | b} >f`
abbrev piped : Node cmd
piped = Redirect (more (Open Write 1 (Lit (codes "f") false)) none) (Pipeline (more (Stage (word (codes "a")) 1) none) (word (codes "b")))

abbrev opened : List Event → List Event
opened es = event (open_file (codes "f") Write) (file 3) ∷ es

abbrev starts_a : Slots → Event
starts_a slots = event (start (shell_launch slots (word (codes "a")) looking)) (child 1)

abbrev started : List Event → List Event
started es = opened (event make_pipe (pair 4 5) ∷ starts_a (record { input = Own 0; output = to_file 5; errors = Own 2 }) ∷ event (close 5) done ∷ es)

abbrev runs_b : List Event → List Event
runs_b es = started (event (probe (codes "/bin/b")) (found Program)
    ∷ event (start (program_launch (record { input = to_file 4; output = to_file 3; errors = Own 2 }) (codes "/bin/b") [] looking)) (child 2) ∷ es)

-- the script ends with this status, by these calls over these answers
abbrev EndsBy : List ℕ → Node cmd → List Event → Type 0
EndsBy status c trace = script 0 c looking (answers trace) ≡ Ends (calls trace) (with_status looking status) []

-- the file is refused
abbrev no_file : List Event
no_file = event (open_file (codes "f") Write) (refused Other) ∷ event (write (Own 2) (codes "rc: cannot open f\n")) done ∷ []

no_file_ends : EndsBy (codes "error") piped no_file
unfolding chars encode digits node_image many_image
no_file_ends = refl

-- the pipe is refused
abbrev no_pipe : List Event
no_pipe = opened (event make_pipe (refused Other) ∷ event (close 3) done ∷ [])

no_pipe_ends : EndsBy (codes "cannot pipe") piped no_pipe
unfolding chars encode digits node_image many_image
no_pipe_ends = refl

-- the start of the first stage is refused
abbrev no_start : List Event
no_start = opened (event make_pipe (pair 4 5) ∷ event (start (shell_launch (record { input = Own 0; output = to_file 5; errors = Own 2 }) (word (codes "a")) looking)) (refused Other)
    ∷ event (close 5) done ∷ event (close 4) done ∷ event (close 3) done ∷ [])

no_start_ends : EndsBy (codes "cannot start") piped no_start
unfolding chars encode digits node_image many_image
no_start_ends = refl

-- the program of the last stage is not found
abbrev no_program : List Event
no_program = started (event (probe (codes "/bin/b")) (refused Other) ∷ event (write (Own 2) (codes "rc: b: not found\n")) done
    ∷ event (close 4) done ∷ event (wait 1) (ended (Code 0)) ∷ event (close 3) done ∷ [])

no_program_ends : EndsBy (codes "|not found") piped no_program
unfolding chars encode digits node_image many_image
no_program_ends = refl

-- the wait for the last stage is refused
abbrev no_last_wait : List Event
no_last_wait = runs_b (event (wait 2) (refused Other) ∷ event (close 4) done ∷ event (wait 1) (ended (Code 0)) ∷ event (close 3) done ∷ [])

no_last_wait_ends : EndsBy (codes "|cannot wait") piped no_last_wait
unfolding chars encode digits node_image many_image
no_last_wait_ends = refl

-- the wait for the first stage is refused
abbrev no_first_wait : List Event
no_first_wait = runs_b (event (wait 2) (ended (Code 0)) ∷ event (close 4) done ∷ event (wait 1) (refused Other) ∷ event (close 3) done ∷ [])

no_first_wait_ends : EndsBy (codes "cannot wait|") piped no_first_wait
unfolding chars encode digits node_image many_image
no_first_wait_ends = refl

-- what is left, by the law
module _ where
  file_fresh : IsFresh looking no_file
  unfolding one put
  file_fresh = record { differ = λ k. omega arith; fresh = (tt, (tt, tt)) }

  no_file_left : NothingLeft looking no_file (with_status looking (codes "error"))
  no_file_left = ended_leaves_nothing piped looking no_file (with_status looking (codes "error")) (0, no_file_ends) file_fresh

  pipe_fresh : IsFresh looking no_pipe
  unfolding one put
  pipe_fresh = record { differ = λ k. omega arith; fresh = (refl, (tt, (tt, tt))) }

  no_pipe_left : NothingLeft looking no_pipe (with_status looking (codes "cannot pipe"))
  no_pipe_left = ended_leaves_nothing piped looking no_pipe (with_status looking (codes "cannot pipe")) (0, no_pipe_ends) pipe_fresh

  start_fresh : IsFresh looking no_start
  unfolding one put
  start_fresh = record { differ = λ k. omega arith; fresh = (refl, ((refl, refl, λ e. absurd (omega arith)), (tt, (tt, (tt, (tt, tt)))))) }

  no_start_left : NothingLeft looking no_start (with_status looking (codes "cannot start"))
  no_start_left = ended_leaves_nothing piped looking no_start (with_status looking (codes "cannot start")) (0, no_start_ends) start_fresh

  program_fresh : IsFresh looking no_program
  unfolding one put
  program_fresh = record { differ = λ k. omega arith; fresh = (refl, ((refl, refl, λ e. absurd (omega arith)), (refl, (tt, (tt, (tt, (tt, (tt, (tt, tt))))))))) }

  no_program_left : NothingLeft looking no_program (with_status looking (codes "|not found"))
  no_program_left = ended_leaves_nothing piped looking no_program (with_status looking (codes "|not found")) (0, no_program_ends) program_fresh

  last_wait_fresh : IsFresh looking no_last_wait
  unfolding one put
  last_wait_fresh = record { differ = λ k. omega arith; fresh = (refl, ((refl, refl, λ e. absurd (omega arith)), (refl, (tt, (tt, (refl, (tt, (tt, (tt, (tt, tt)))))))))) }

  no_last_wait_left : NothingLeft looking no_last_wait (with_status looking (codes "|cannot wait"))
  no_last_wait_left = ended_leaves_nothing piped looking no_last_wait (with_status looking (codes "|cannot wait")) (0, no_last_wait_ends) last_wait_fresh

  first_wait_fresh : IsFresh looking no_first_wait
  unfolding one put
  first_wait_fresh = record { differ = λ k. omega arith; fresh = (refl, ((refl, refl, λ e. absurd (omega arith)), (refl, (tt, (tt, (refl, (tt, (tt, (tt, (tt, tt)))))))))) }

  no_first_wait_left : NothingLeft looking no_first_wait (with_status looking (codes "cannot wait|"))
  no_first_wait_left = ended_leaves_nothing piped looking no_first_wait (with_status looking (codes "cannot wait|")) (0, no_first_wait_ends) first_wait_fresh

-- `a | b | c`, where the second start is refused
abbrev three : Node cmd
three = Pipeline (more (Stage (word (codes "a")) 1) (more (Stage (word (codes "b")) 1) none)) (word (codes "c"))

abbrev no_second_start : List Event
no_second_start = event make_pipe (pair 3 4) ∷ starts_a (record { input = Own 0; output = to_file 4; errors = Own 2 }) ∷ event (close 4) done
    ∷ event make_pipe (pair 5 6) ∷ event (start (shell_launch (record { input = to_file 3; output = to_file 6; errors = Own 2 }) (word (codes "b")) looking)) (refused Other)
    ∷ event (close 6) done ∷ event (close 5) done ∷ event (close 3) done ∷ event (wait 1) (ended (Code 0)) ∷ []

no_second_start_ends : EndsBy (codes "|cannot start") three no_second_start
unfolding chars encode digits node_image many_image
no_second_start_ends = refl

second_fresh : IsFresh looking no_second_start
unfolding one put
second_fresh = record { differ = λ k. omega arith; fresh = ((refl, refl, λ e. absurd (omega arith)), (refl, (tt, ((refl, refl, λ e. absurd (omega arith)), (tt, (tt, (tt, (tt, (tt, tt))))))))) }

no_second_start_left : NothingLeft looking no_second_start (with_status looking (codes "|cannot start"))
no_second_start_left = ended_leaves_nothing three looking no_second_start (with_status looking (codes "|cannot start")) (0, no_second_start_ends) second_fresh
