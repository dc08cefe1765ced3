-- Subshells and the background.
use Rattle.std.proofs.Common.{refl, ◌∷◌, ◌++◌, ◌≡◌, []}
use Rattle.std.specs.Prelude.{codes, Some}
use Rattle.rc_model.specs.Run.Calls.{calls, answers, plain, open_file, close, start, wait, file, done, child, ended, refused}
use Rattle.rc_model.specs.declared.call.Mode.TheVariants.{Read, Write}
use Rattle.rc_model.specs.declared.call.Ending.TheVariants.{Code}
use Rattle.rc_model.specs.declared.call.Fault.TheVariants.{Other}
use Rattle.law_examples.specs.Shown.{fresh, with_value, usual, writing_to, reading_from, shell, subshell, runs, Performs, meant, ran, Leaves, meant_value, ran_value, does_handed, ◌▸◌}

-- bytes 1 and 2 inside of members are escaped
a_subshell_is_handed_arguments_and_variables :
    Performs (codes "@{echo $x}") (with_value (with_value fresh (codes "*") (codes "p" ∷ [])) (codes "x") (codes "A\u{1}B" ∷ [] ∷ codes "\u{2}" ∷ []))
    (start (shell (codes "-S" ∷ codes "rc1;bs1,;c2,w4:echo$w1:x" ∷ codes "p" ∷ []) (usual ++ codes "x=A\u{2}AB\u{1}\u{1}\u{2}B" ∷ []) plain) ▸ child 1
    ∷ wait 1 ▸ ended (Code 5) ∷ [])
    (codes "5")
unfolding meant ran
a_subshell_is_handed_arguments_and_variables = (refl, refl)

-- entries stand in byte order, functions among them
a_subshell_is_handed_functions :
    Performs (codes "fn f {echo hi}; @ f") fresh
    (subshell (codes "rc1;c1,w1:f") (codes "fn#f=rc1;s1,;c2,w4:echow2:hi" ∷ usual) plain ▸ child 1
    ∷ wait 1 ▸ ended (Code 0) ∷ [])
    []
unfolding meant ran
a_subshell_is_handed_functions = (refl, refl)

-- a refused start is not reported
a_refused_subshell :
    Performs (codes "@ c") fresh
    (subshell (codes "rc1;c1,w1:c") usual plain ▸ refused Other ∷ [])
    (codes "cannot start")
unfolding meant ran
a_refused_subshell = (refl, refl)

-- a refused wait
a_subshell_that_is_not_waited_for :
    Performs (codes "@ c") fresh
    (subshell (codes "rc1;c1,w1:c") usual plain ▸ child 1 ∷ wait 1 ▸ refused Other ∷ [])
    (codes "cannot wait")
unfolding meant ran
a_subshell_that_is_not_waited_for = (refl, refl)

-- a redirection before a subshell
a_subshell_takes_the_shells_descriptors :
    Performs (codes ">f @ c") fresh
    (open_file (codes "f") Write ▸ file 3
    ∷ subshell (codes "rc1;c1,w1:c") usual (writing_to 3) ▸ child 1
    ∷ wait 1 ▸ ended (Code 0)
    ∷ close 3 ▸ done ∷ [])
    []
unfolding meant ran
a_subshell_takes_the_shells_descriptors = (refl, refl)

-- its input is empty, and its wait is made once
a_command_in_the_background :
    Performs (codes "a & wait; wait") fresh
    (open_file (codes "/dev/null") Read ▸ file 3
    ∷ subshell (codes "rc1;c1,w1:a") usual (reading_from 3) ▸ child 9
    ∷ close 3 ▸ done
    ∷ wait 9 ▸ ended (Code 4) ∷ [])
    []
unfolding meant ran
a_command_in_the_background = (refl, refl)

-- `$apid` is the number of the child
the_number_of_the_last_child :
    Leaves (codes "a & wait; wait") fresh
    (open_file (codes "/dev/null") Read ▸ file 3
    ∷ subshell (codes "rc1;c1,w1:a") usual (reading_from 3) ▸ child 9
    ∷ close 3 ▸ done
    ∷ wait 9 ▸ ended (Code 4) ∷ [])
    (codes "apid") (codes "9" ∷ [])
unfolding meant_value ran_value
the_number_of_the_last_child = (refl, refl)

-- a child that was started leaves the status
the_background_keeps_the_status :
    Performs (codes "~ a b; a &") fresh
    (open_file (codes "/dev/null") Read ▸ file 3
    ∷ subshell (codes "rc1;c1,w1:a") (codes "path=/bin" ∷ codes "status=no match" ∷ []) (reading_from 3) ▸ child 9
    ∷ close 3 ▸ done ∷ [])
    (codes "no match")
unfolding meant ran
the_background_keeps_the_status = (refl, refl)

-- the empty file is refused
a_refused_background :
    Performs (codes "a &") fresh
    (open_file (codes "/dev/null") Read ▸ refused Other ∷ [])
    (codes "cannot open")
unfolding meant ran
a_refused_background = (refl, refl)

-- the file is closed
a_refused_background_start :
    Performs (codes "a &") fresh
    (open_file (codes "/dev/null") Read ▸ file 3
    ∷ subshell (codes "rc1;c1,w1:a") usual (reading_from 3) ▸ refused Other
    ∷ close 3 ▸ done ∷ [])
    (codes "cannot start")
unfolding meant ran
a_refused_background_start = (refl, refl)

-- the others stay; the status is that of the child
waiting_for_one_child :
    Performs (codes "a & b & wait 9; wait") fresh
    (open_file (codes "/dev/null") Read ▸ file 3
    ∷ subshell (codes "rc1;c1,w1:a") usual (reading_from 3) ▸ child 9
    ∷ close 3 ▸ done
    ∷ open_file (codes "/dev/null") Read ▸ file 3
    ∷ subshell (codes "rc1;c1,w1:b") (codes "apid=9" ∷ usual) (reading_from 3) ▸ child 8
    ∷ close 3 ▸ done
    ∷ wait 9 ▸ ended (Code 4)
    ∷ wait 8 ▸ ended (Code 2) ∷ [])
    (codes "2")
unfolding meant ran
waiting_for_one_child = (refl, refl)

-- no call is made
waiting_for_a_stranger : Performs (codes "wait 7") fresh [] (codes "no such child")
unfolding meant ran
waiting_for_a_stranger = (refl, refl)

-- a refused wait is not made again
a_child_is_forgotten_as_its_wait_is_called :
    Performs (codes "a & wait; wait 9") fresh
    (open_file (codes "/dev/null") Read ▸ file 3
    ∷ subshell (codes "rc1;c1,w1:a") usual (reading_from 3) ▸ child 9
    ∷ close 3 ▸ done
    ∷ wait 9 ▸ refused Other ∷ [])
    (codes "no such child")
unfolding meant ran
a_child_is_forgotten_as_its_wait_is_called = (refl, refl)

-- what a subshell is handed is all that it has: a variable that is not handed over is empty there
an_unset_variable_is_unset_there :
    does_handed (codes "-S" ∷ codes "rc1;c2,w4:echo#w3:ifs" ∷ []) usual (answers (runs (codes "echo") (codes "0" ∷ []) usual 7 0)) ≡
    Some (calls (runs (codes "echo") (codes "0" ∷ []) usual 7 0), [], [])
unfolding does_handed
an_unset_variable_is_unset_there = refl

-- its arguments are `$*`, its functions and the status are those that it is handed
it_has_its_arguments_and_functions :
    does_handed (codes "-S" ∷ codes "rc1;c2,w1:f$w6:status" ∷ codes "p" ∷ []) (codes "fn#f=rc1;c2,w4:exit$w1:1" ∷ codes "status=3" ∷ []) [] ≡
    Some ([], codes "3", [])
unfolding does_handed
it_has_its_arguments_and_functions = refl

-- it is handed over as a whole
a_pipeline_in_the_background :
    Performs (codes "a | b &") fresh
    (open_file (codes "/dev/null") Read ▸ file 3
    ∷ subshell (codes "rc1;p1,1c1,w1:ac1,w1:b") usual (reading_from 3) ▸ child 9
    ∷ close 3 ▸ done ∷ [])
    []
unfolding meant ran
a_pipeline_in_the_background = (refl, refl)

-- so is one in braces
a_pipeline_in_a_subshell :
    Performs (codes "@{b | c}") fresh
    (subshell (codes "rc1;bs1,;p1,1c1,w1:bc1,w1:c") usual plain ▸ child 1 ∷ wait 1 ▸ ended (Code 0) ∷ [])
    []
unfolding meant ran
a_pipeline_in_a_subshell = (refl, refl)

-- a local `$apid` covers the other
the_number_is_the_visible_value :
    Leaves (codes "apid=x {a &}") fresh
    (open_file (codes "/dev/null") Read ▸ file 3
    ∷ subshell (codes "rc1;c1,w1:a") (codes "apid=x" ∷ usual) (reading_from 3) ▸ child 9
    ∷ close 3 ▸ done ∷ [])
    (codes "apid") []
unfolding meant_value ran_value
the_number_is_the_visible_value = (refl, refl)
