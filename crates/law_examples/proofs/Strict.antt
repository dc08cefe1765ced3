-- The strict shell.
use Rattle.std.proofs.Common.{refl, ◌∷◌, ◌++◌, []}
use Rattle.std.specs.Prelude.{codes}
use Rattle.rc_model.specs.Run.Calls.{plain, open_file, make_pipe, close, read, write, wait, probe, file, pair, done, bytes, child, ended, refused}
use Rattle.rc_model.specs.declared.call.Mode.TheVariants.{Read, Write}
use Rattle.rc_model.specs.declared.call.Slot.TheVariants.{Own}
use Rattle.rc_model.specs.declared.call.Ending.TheVariants.{Code}
use Rattle.rc_model.specs.declared.call.Fault.TheVariants.{Other}
use Rattle.law_examples.specs.Shown.{strict, usual, writing_to, reading_from, strict_subshell, runs, runs_in, Performs, meant, ran, ◌▸◌}

-- the next command is not run
a_failed_command_ends_a_strict_shell : Performs (codes "a; b") strict (runs (codes "a") [] usual 1 2) (codes "2")
unfolding meant ran
a_failed_command_ends_a_strict_shell = (refl, refl)

-- both are run
a_true_command_does_not_end_it :
    Performs (codes "a; b") strict
    (runs (codes "a") [] usual 1 0 ++ runs (codes "b") [] usual 2 0)
    []
unfolding meant ran
a_true_command_does_not_end_it = (refl, refl)

-- a failed condition ends nothing
conditions_are_guarded :
    Performs (codes "if(a) b; c") strict
    (runs (codes "a") [] usual 1 1
    ++ runs (codes "c") [] (codes "path=/bin" ∷ codes "status=1" ∷ []) 2 0)
    []
unfolding meant ran
conditions_are_guarded = (refl, refl)

-- the status of `!` is no simple command
the_operand_of_not_is_guarded :
    Performs (codes "! a; c") strict
    (runs (codes "a") [] usual 1 0
    ++ runs (codes "c") [] (codes "path=/bin" ∷ codes "status=false" ∷ []) 2 0)
    []
unfolding meant ran
the_operand_of_not_is_guarded = (refl, refl)

-- all but the last of `&&` and `||` are
the_last_operand_is_not_guarded :
    Performs (codes "a || b") strict
    (runs (codes "a") [] usual 1 1
    ++ runs (codes "b") [] (codes "path=/bin" ∷ codes "status=1" ∷ []) 2 3)
    (codes "3")
unfolding meant ran
the_last_operand_is_not_guarded = (refl, refl)

-- `a && b` with a failed a goes on
a_skipped_operand_ends_nothing :
    Performs (codes "a && b; c") strict
    (runs (codes "a") [] usual 1 1
    ++ runs (codes "c") [] (codes "path=/bin" ∷ codes "status=1" ∷ []) 2 0)
    []
unfolding meant ran
a_skipped_operand_ends_nothing = (refl, refl)

-- also after a skipped one
the_last_operand_ends_the_shell :
    Performs (codes "a && b || c; d") strict
    (runs (codes "a") [] usual 1 1
    ++ runs (codes "c") [] (codes "path=/bin" ∷ codes "status=1" ∷ []) 2 4)
    (codes "4")
unfolding meant ran
the_last_operand_ends_the_shell = (refl, refl)

-- a block inside of a condition
all_inside_a_guarded_place_is_guarded :
    Performs (codes "if({a; b}) c; d") strict
    (runs (codes "a") [] usual 1 1
    ++ runs (codes "b") [] (codes "path=/bin" ∷ codes "status=1" ∷ []) 2 2
    ++ runs (codes "d") [] (codes "path=/bin" ∷ codes "status=2" ∷ []) 3 0)
    []
unfolding meant ran
all_inside_a_guarded_place_is_guarded = (refl, refl)

-- an operand of an operand of `&&`
inside_an_operand_all_is_guarded :
    Performs (codes "{a; b} && c") strict
    (runs (codes "a") [] usual 1 1
    ++ runs (codes "b") [] (codes "path=/bin" ∷ codes "status=1" ∷ []) 2 0
    ++ runs (codes "c") [] usual 3 0)
    []
unfolding meant ran
inside_an_operand_all_is_guarded = (refl, refl)

-- its last operand is guarded, too
an_and_or_inside_a_guarded_place :
    Performs (codes "if(a && b) c; d") strict
    (runs (codes "a") [] usual 1 0
    ++ runs (codes "b") [] usual 2 1
    ++ runs (codes "d") [] (codes "path=/bin" ∷ codes "status=1" ∷ []) 3 0)
    []
unfolding meant ran
an_and_or_inside_a_guarded_place = (refl, refl)

-- after its report
a_program_that_is_not_found_ends_it :
    Performs (codes "nope; c") strict
    (probe (codes "/bin/nope") ▸ refused Other
    ∷ write (Own 2) (codes "rc: nope: not found\n") ▸ done ∷ [])
    (codes "not found")
unfolding meant ran
a_program_that_is_not_found_ends_it = (refl, refl)

-- also where it is called in a condition
a_function_begins_unguarded :
    Performs (codes "fn f {a; b}; if(f) c") strict
    (runs (codes "a") [] (codes "fn#f=rc1;s2,;c1,w1:a;c1,w1:b" ∷ usual) 1 1)
    (codes "1")
unfolding meant ran
a_function_begins_unguarded = (refl, refl)

-- also in a condition
eval_begins_unguarded : Performs (codes "if(eval 'a; b') c") strict (runs (codes "a") [] usual 1 1) (codes "1")
unfolding meant ran
eval_begins_unguarded = (refl, refl)

-- the pipeline is closed and waited for, and its status is that of the stage
the_last_stage_is_a_simple_command :
    Performs (codes "a | b; c") strict
    (make_pipe ▸ pair 3 4
    ∷ strict_subshell (codes "rc1;c1,w1:a") usual (writing_to 4) ▸ child 1
    ∷ close 4 ▸ done
    ∷ runs_in (reading_from 3) (codes "b") [] usual 2 1
    ++ close 3 ▸ done
    ∷ wait 1 ▸ ended (Code 0) ∷ [])
    (codes "1")
unfolding meant ran
the_last_stage_is_a_simple_command = (refl, refl)

-- a failed child of a pipeline ends nothing
a_pipeline_as_a_whole_is_none :
    Performs (codes "a | b; c") strict
    (make_pipe ▸ pair 3 4
    ∷ strict_subshell (codes "rc1;c1,w1:a") usual (writing_to 4) ▸ child 1
    ∷ close 4 ▸ done
    ∷ runs_in (reading_from 3) (codes "b") [] usual 2 0
    ++ close 3 ▸ done
    ∷ wait 1 ▸ ended (Code 1)
    ∷ runs (codes "c") [] (codes "path=/bin" ∷ codes "status=1|" ∷ []) 3 0)
    []
unfolding meant ran
a_pipeline_as_a_whole_is_none = (refl, refl)

-- a failed match ends nothing
a_match_is_no_simple_command :
    Performs (codes "~ a b; c") strict
    (runs (codes "c") [] (codes "path=/bin" ∷ codes "status=no match" ∷ []) 1 0)
    []
unfolding meant ran
a_match_is_no_simple_command = (refl, refl)

-- it is started strict, and its failure ends nothing
a_subshell_is_no_simple_command :
    Performs (codes "@ a; c") strict
    (strict_subshell (codes "rc1;c1,w1:a") usual plain ▸ child 1
    ∷ wait 1 ▸ ended (Code 3)
    ∷ runs (codes "c") [] (codes "path=/bin" ∷ codes "status=3" ∷ []) 2 0)
    []
unfolding meant ran
a_subshell_is_no_simple_command = (refl, refl)

-- its usage ends the shell
a_built_in_is_a_simple_command : Performs (codes "shift a; c") strict [] (codes "usage")
unfolding meant ran
a_built_in_is_a_simple_command = (refl, refl)

-- a function that ends with a failed match
a_call_of_a_function_is_a_simple_command : Performs (codes "fn f {~ a b}; f; c") strict [] (codes "no match")
unfolding meant ran
a_call_of_a_function_is_a_simple_command = (refl, refl)

-- as `exit` does
a_strict_shell_closes_its_files :
    Performs (codes "{a; b} >f") strict
    (open_file (codes "f") Write ▸ file 3
    ∷ runs_in (writing_to 3) (codes "a") [] usual 1 2
    ++ close 3 ▸ done ∷ [])
    (codes "2")
unfolding meant ran
a_strict_shell_closes_its_files = (refl, refl)

-- its failure ends the loop alone
a_while_condition_is_guarded :
    Performs (codes "while(a) b; c") strict
    (runs (codes "a") [] usual 1 1
    ++ runs (codes "c") [] (codes "path=/bin" ∷ codes "status=1" ∷ []) 2 0)
    []
unfolding meant ran
a_while_condition_is_guarded = (refl, refl)

-- its failure ends the shell
a_body_of_a_while_is_not_guarded :
    Performs (codes "while(a) b") strict
    (runs (codes "a") [] usual 1 0 ++ runs (codes "b") [] usual 2 1)
    (codes "1")
unfolding meant ran
a_body_of_a_while_is_not_guarded = (refl, refl)

-- also in an operand of `&&`
a_file_begins_unguarded :
    Performs (codes ". ./lib && c") strict
    (open_file (codes "./lib") Read ▸ file 3
    ∷ read 3 ▸ bytes (codes "a; b")
    ∷ read 3 ▸ bytes []
    ∷ close 3 ▸ done
    ∷ runs (codes "a") [] usual 1 1)
    (codes "1")
unfolding meant ran
a_file_begins_unguarded = (refl, refl)
