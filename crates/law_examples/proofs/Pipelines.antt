-- Pipelines, and each of their calls refused in turn.
use Rattle.std.proofs.Common.{refl, ◌∷◌, ◌++◌, []}
use Rattle.std.specs.Prelude.{codes}
use Rattle.rc_model.specs.Run.Calls.{to_file, open_file, make_pipe, close, write, start, wait, probe, file, pair, done, child, ended, found, refused}
use Rattle.rc_model.specs.declared.call.Mode.TheVariants.{Write}
use Rattle.rc_model.specs.declared.call.Slot.TheVariants.{Own}
use Rattle.rc_model.specs.declared.call.Kind.TheVariants.{Program}
use Rattle.rc_model.specs.declared.call.Ending.TheVariants.{Code, Signal}
use Rattle.rc_model.specs.declared.call.Fault.TheVariants.{Other}
use Rattle.law_examples.specs.Shown.{fresh, usual, slots, writing_to, reading_from, program, subshell, runs_in, Performs, meant, ran, ◌▸◌}

-- the write end is closed before the last stage begins, and the read end before the wait for the first
a_pipeline :
    Performs (codes "a | b") fresh
    (make_pipe ▸ pair 3 4
    ∷ subshell (codes "rc1;c1,w1:a") usual (writing_to 4) ▸ child 1
    ∷ close 4 ▸ done
    ∷ runs_in (reading_from 3) (codes "b") [] usual 2 0
    ++ close 3 ▸ done
    ∷ wait 1 ▸ ended (Code 0) ∷ [])
    (codes "|")
unfolding meant ran
a_pipeline = (refl, refl)

-- the statuses of three stages
statuses_stand_in_the_order_of_the_stages :
    Performs (codes "a | b | c") fresh
    (make_pipe ▸ pair 3 4
    ∷ subshell (codes "rc1;c1,w1:a") usual (writing_to 4) ▸ child 1
    ∷ close 4 ▸ done
    ∷ make_pipe ▸ pair 5 6
    ∷ subshell (codes "rc1;c1,w1:b") usual (slots (to_file 3) (to_file 6) (Own 2)) ▸ child 2
    ∷ close 6 ▸ done
    ∷ close 3 ▸ done
    ∷ runs_in (reading_from 5) (codes "c") [] usual 3 3
    ++ close 5 ▸ done
    ∷ wait 1 ▸ ended (Code 1)
    ∷ wait 2 ▸ ended Signal ∷ [])
    (codes "1|signal|3")
unfolding meant ran
statuses_stand_in_the_order_of_the_stages = (refl, refl)

-- `|[2]` puts the write end in the place of the errors
errors_through_a_pipe :
    Performs (codes "a |[2] b") fresh
    (make_pipe ▸ pair 3 4
    ∷ subshell (codes "rc1;c1,w1:a") usual (slots (Own 0) (Own 1) (to_file 4)) ▸ child 1
    ∷ close 4 ▸ done
    ∷ runs_in (reading_from 3) (codes "b") [] usual 2 0
    ++ close 3 ▸ done
    ∷ wait 1 ▸ ended (Code 0) ∷ [])
    (codes "|")
unfolding meant ran
errors_through_a_pipe = (refl, refl)

-- the child so far is waited for
a_refused_pipe_ends_the_pipeline :
    Performs (codes "a | b | c") fresh
    (make_pipe ▸ pair 3 4
    ∷ subshell (codes "rc1;c1,w1:a") usual (writing_to 4) ▸ child 1
    ∷ close 4 ▸ done
    ∷ make_pipe ▸ refused Other
    ∷ close 3 ▸ done
    ∷ wait 1 ▸ ended (Code 2) ∷ [])
    (codes "2|cannot pipe")
unfolding meant ran
a_refused_pipe_ends_the_pipeline = (refl, refl)

-- both ends of the new pipe are closed, and that of the one before
a_refused_start_ends_the_pipeline :
    Performs (codes "a | b | c") fresh
    (make_pipe ▸ pair 3 4
    ∷ subshell (codes "rc1;c1,w1:a") usual (writing_to 4) ▸ child 1
    ∷ close 4 ▸ done
    ∷ make_pipe ▸ pair 5 6
    ∷ subshell (codes "rc1;c1,w1:b") usual (slots (to_file 3) (to_file 6) (Own 2)) ▸ refused Other
    ∷ close 6 ▸ done
    ∷ close 5 ▸ done
    ∷ close 3 ▸ done
    ∷ wait 1 ▸ ended (Code 0) ∷ [])
    (codes "|cannot start")
unfolding meant ran
a_refused_start_ends_the_pipeline = (refl, refl)

-- what it assigns stays
the_last_stage_is_run_by_the_shell_itself :
    Performs (codes "a | x=b; exit $x") fresh
    (make_pipe ▸ pair 3 4
    ∷ subshell (codes "rc1;c1,w1:a") usual (writing_to 4) ▸ child 1
    ∷ close 4 ▸ done
    ∷ close 3 ▸ done
    ∷ wait 1 ▸ ended (Code 0) ∷ [])
    (codes "b")
unfolding meant ran
the_last_stage_is_run_by_the_shell_itself = (refl, refl)

-- all files are closed before the child is waited for
exit_in_the_last_stage_closes_then_waits :
    Performs (codes "{a | {exit 3}} >f") fresh
    (open_file (codes "f") Write ▸ file 5
    ∷ make_pipe ▸ pair 3 4
    ∷ subshell (codes "rc1;c1,w1:a") usual (writing_to 4) ▸ child 1
    ∷ close 4 ▸ done
    ∷ close 3 ▸ done
    ∷ close 5 ▸ done
    ∷ wait 1 ▸ ended (Code 0) ∷ [])
    (codes "3")
unfolding meant ran
exit_in_the_last_stage_closes_then_waits = (refl, refl)

-- read ends and files are closed from the innermost, and its child is waited for first
exit_in_an_inner_pipeline :
    Performs (codes "a | {b | exit 4} >h") fresh
    (make_pipe ▸ pair 3 4
    ∷ subshell (codes "rc1;c1,w1:a") usual (writing_to 4) ▸ child 1
    ∷ close 4 ▸ done
    ∷ open_file (codes "h") Write ▸ file 6
    ∷ make_pipe ▸ pair 7 8
    ∷ subshell (codes "rc1;c1,w1:b") usual (slots (to_file 3) (to_file 8) (Own 2)) ▸ child 2
    ∷ close 8 ▸ done
    ∷ close 7 ▸ done
    ∷ close 6 ▸ done
    ∷ close 3 ▸ done
    ∷ wait 2 ▸ ended (Code 0)
    ∷ wait 1 ▸ ended (Code 0) ∷ [])
    (codes "4")
unfolding meant ran
exit_in_an_inner_pipeline = (refl, refl)

-- the status is that of the program
exec_in_the_last_stage :
    Performs (codes "a | exec b; c") fresh
    (make_pipe ▸ pair 3 4
    ∷ subshell (codes "rc1;c1,w1:a") usual (writing_to 4) ▸ child 1
    ∷ close 4 ▸ done
    ∷ runs_in (reading_from 3) (codes "b") [] usual 2 7
    ++ close 3 ▸ done
    ∷ wait 1 ▸ ended (Code 0) ∷ [])
    (codes "7")
unfolding meant ran
exec_in_the_last_stage = (refl, refl)

-- no call is refused
a_pipeline_into_a_file :
    Performs (codes "{a | b} >f") fresh
    (open_file (codes "f") Write ▸ file 3
    ∷ make_pipe ▸ pair 4 5
    ∷ subshell (codes "rc1;c1,w1:a") usual (writing_to 5) ▸ child 1
    ∷ close 5 ▸ done
    ∷ runs_in (slots (to_file 4) (to_file 3) (Own 2)) (codes "b") [] usual 2 0
    ++ close 4 ▸ done
    ∷ wait 1 ▸ ended (Code 0)
    ∷ close 3 ▸ done ∷ [])
    (codes "|")
unfolding meant ran
a_pipeline_into_a_file = (refl, refl)

-- the first call is refused
a_pipeline_whose_file_is_refused :
    Performs (codes "{a | b} >f") fresh
    (open_file (codes "f") Write ▸ refused Other
    ∷ write (Own 2) (codes "rc: cannot open f\n") ▸ done ∷ [])
    (codes "error")
unfolding meant ran
a_pipeline_whose_file_is_refused = (refl, refl)

-- the file is closed
a_pipeline_whose_pipe_is_refused :
    Performs (codes "{a | b} >f") fresh
    (open_file (codes "f") Write ▸ file 3 ∷ make_pipe ▸ refused Other ∷ close 3 ▸ done ∷ [])
    (codes "cannot pipe")
unfolding meant ran
a_pipeline_whose_pipe_is_refused = (refl, refl)

-- both ends of the pipe are closed, and then the file
a_pipeline_whose_first_start_is_refused :
    Performs (codes "{a | b} >f") fresh
    (open_file (codes "f") Write ▸ file 3
    ∷ make_pipe ▸ pair 4 5
    ∷ subshell (codes "rc1;c1,w1:a") usual (writing_to 5) ▸ refused Other
    ∷ close 5 ▸ done
    ∷ close 4 ▸ done
    ∷ close 3 ▸ done ∷ [])
    (codes "cannot start")
unfolding meant ran
a_pipeline_whose_first_start_is_refused = (refl, refl)

-- the child is waited for all the same
a_pipeline_whose_last_program_is_missing :
    Performs (codes "{a | b} >f") fresh
    (open_file (codes "f") Write ▸ file 3
    ∷ make_pipe ▸ pair 4 5
    ∷ subshell (codes "rc1;c1,w1:a") usual (writing_to 5) ▸ child 1
    ∷ close 5 ▸ done
    ∷ probe (codes "/bin/b") ▸ refused Other
    ∷ write (Own 2) (codes "rc: b: not found\n") ▸ done
    ∷ close 4 ▸ done
    ∷ wait 1 ▸ ended (Code 0)
    ∷ close 3 ▸ done ∷ [])
    (codes "|not found")
unfolding meant ran
a_pipeline_whose_last_program_is_missing = (refl, refl)

-- its status says so
a_pipeline_whose_last_wait_is_refused :
    Performs (codes "{a | b} >f") fresh
    (open_file (codes "f") Write ▸ file 3
    ∷ make_pipe ▸ pair 4 5
    ∷ subshell (codes "rc1;c1,w1:a") usual (writing_to 5) ▸ child 1
    ∷ close 5 ▸ done
    ∷ probe (codes "/bin/b") ▸ found Program
    ∷ start (program (codes "/bin/b") [] usual (slots (to_file 4) (to_file 3) (Own 2))) ▸ child 2
    ∷ wait 2 ▸ refused Other
    ∷ close 4 ▸ done
    ∷ wait 1 ▸ ended (Code 0)
    ∷ close 3 ▸ done ∷ [])
    (codes "|cannot wait")
unfolding meant ran
a_pipeline_whose_last_wait_is_refused = (refl, refl)

-- so does that of the first stage
a_pipeline_whose_first_wait_is_refused :
    Performs (codes "{a | b} >f") fresh
    (open_file (codes "f") Write ▸ file 3
    ∷ make_pipe ▸ pair 4 5
    ∷ subshell (codes "rc1;c1,w1:a") usual (writing_to 5) ▸ child 1
    ∷ close 5 ▸ done
    ∷ runs_in (slots (to_file 4) (to_file 3) (Own 2)) (codes "b") [] usual 2 0
    ++ close 4 ▸ done
    ∷ wait 1 ▸ refused Other
    ∷ close 3 ▸ done ∷ [])
    (codes "cannot wait|")
unfolding meant ran
a_pipeline_whose_first_wait_is_refused = (refl, refl)

-- each is called once
refused_closes_change_nothing :
    Performs (codes "{a | b} >f") fresh
    (open_file (codes "f") Write ▸ file 3
    ∷ make_pipe ▸ pair 4 5
    ∷ subshell (codes "rc1;c1,w1:a") usual (writing_to 5) ▸ child 1
    ∷ close 5 ▸ refused Other
    ∷ runs_in (slots (to_file 4) (to_file 3) (Own 2)) (codes "b") [] usual 2 0
    ++ close 4 ▸ refused Other
    ∷ wait 1 ▸ ended (Code 0)
    ∷ close 3 ▸ refused Other ∷ [])
    (codes "|")
unfolding meant ran
refused_closes_change_nothing = (refl, refl)
