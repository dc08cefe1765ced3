-- Programs.
use Rattle.std.proofs.Common.{refl, ◌∷◌, []}
use Rattle.std.specs.Prelude.{codes}
use Rattle.rc_model.specs.Run.Calls.{plain, write, start, wait, probe, file, done, child, ended, found, refused}
use Rattle.rc_model.specs.declared.call.Slot.TheVariants.{Own}
use Rattle.rc_model.specs.declared.call.Kind.TheVariants.{Program, Directory, Other as OtherKind}
use Rattle.rc_model.specs.declared.call.Ending.TheVariants.{Code, Signal}
use Rattle.rc_model.specs.declared.call.Fault.TheVariants.{Other, NoMemory}
use Rattle.law_examples.specs.Shown.{fresh, with_value, usual, program, runs, Performs, meant, ran, ◌▸◌}

-- it is reported in one write
a_program_that_is_not_found :
    Performs (codes "nope") fresh
    (probe (codes "/bin/nope") ▸ refused Other
    ∷ write (Own 2) (codes "rc: nope: not found\n") ▸ done ∷ [])
    (codes "not found")
unfolding meant ran
a_program_that_is_not_found = (refl, refl)

-- a path is started without a probe; a refusal is reported
a_path_is_not_looked_for :
    Performs (codes "/bin/x") fresh
    (start (program (codes "/bin/x") [] usual plain) ▸ refused Other
    ∷ write (Own 2) (codes "rc: /bin/x: cannot start\n") ▸ done ∷ [])
    (codes "cannot start")
unfolding meant ran
a_path_is_not_looked_for = (refl, refl)

-- an empty member and `.` are this directory
the_path_is_searched_in_order :
    Performs (codes "c") (with_value fresh (codes "path") (codes "/a" ∷ [] ∷ codes "." ∷ codes "b" ∷ []))
    (probe (codes "/a/c") ▸ found Directory
    ∷ probe (codes "./c") ▸ refused Other
    ∷ probe (codes "./c") ▸ found OtherKind
    ∷ probe (codes "b/c") ▸ found Program
    ∷ start (program (codes "b/c") [] (codes "path=/a\u{1}\u{1}.\u{1}b" ∷ codes "status=" ∷ []) plain) ▸ child 1
    ∷ wait 1 ▸ ended (Code 0) ∷ [])
    []
unfolding meant ran
the_path_is_searched_in_order = (refl, refl)

-- without a call but its report
the_empty_name_is_not_found :
    Performs (codes "''") fresh
    (write (Own 2) (codes "rc: : not found\n") ▸ done ∷ [])
    (codes "not found")
unfolding meant ran
the_empty_name_is_not_found = (refl, refl)

-- a code is its decimal
codes_are_statuses : Performs (codes "c") fresh (runs (codes "c") [] usual 1 255) (codes "255")
unfolding meant ran
codes_are_statuses = (refl, refl)

-- a child that a signal ended
a_signal_is_a_status :
    Performs (codes "c") fresh
    (probe (codes "/bin/c") ▸ found Program
    ∷ start (program (codes "/bin/c") [] usual plain) ▸ child 1
    ∷ wait 1 ▸ ended Signal ∷ [])
    (codes "signal")
unfolding meant ran
a_signal_is_a_status = (refl, refl)

-- a wait that is refused
a_refused_wait_is_a_status :
    Performs (codes "c") fresh
    (probe (codes "/bin/c") ▸ found Program
    ∷ start (program (codes "/bin/c") [] usual plain) ▸ child 1
    ∷ wait 1 ▸ refused Other ∷ [])
    (codes "cannot wait")
unfolding meant ran
a_refused_wait_is_a_status = (refl, refl)

-- a probe that is answered by a file
an_answer_of_another_kind_is_a_refusal :
    Performs (codes "c") fresh
    (probe (codes "/bin/c") ▸ file 3 ∷ write (Own 2) (codes "rc: c: not found\n") ▸ done ∷ [])
    (codes "not found")
unfolding meant ran
an_answer_of_another_kind_is_a_refusal = (refl, refl)

-- in a list of answers
refused_memory_is_a_refusal :
    Performs (codes "c") fresh
    (probe (codes "/bin/c") ▸ found Program
    ∷ start (program (codes "/bin/c") [] usual plain) ▸ refused NoMemory
    ∷ write (Own 2) (codes "rc: c: cannot start\n") ▸ done ∷ [])
    (codes "cannot start")
unfolding meant ran
refused_memory_is_a_refusal = (refl, refl)
