-- Limits of instructions, and answers that run out.
use Rattle.std.proofs.Common.{refl, ◌∷◌, ◌≡◌, []}
use Rattle.std.specs.Prelude.{codes, Some}
use Rattle.rc_model.specs.Run.Calls.{calls, answers, plain, open_file, make_pipe, close, start, wait, probe, file, pair, done, child, found, refused}
use Rattle.rc_model.specs.declared.call.Mode.TheVariants.{Write}
use Rattle.rc_model.specs.declared.call.Kind.TheVariants.{Program}
use Rattle.rc_model.specs.declared.call.Fault.TheVariants.{Halt}
use Rattle.law_examples.specs.Shown.{fresh, usual, writing_to, program, subshell, runs, StopsAt, cut_at, ends_by, Awaits, meant_wait, ran_wait, ◌▸◌}

-- eight instructions make all calls of `echo hello`, and the ninth is its end
all_calls_are_made_before_the_end :
    StopsAt 8 (codes "echo hello") fresh
    (runs (codes "echo") (codes "hello" ∷ []) usual 7 0)
unfolding cut_at
all_calls_are_made_before_the_end = refl

-- the seventh makes them all
one_instruction_makes_all_calls :
    StopsAt 7 (codes "echo hello") fresh
    (runs (codes "echo") (codes "hello" ∷ []) usual 7 0)
unfolding cut_at
one_instruction_makes_all_calls = refl

-- six have made none
no_call_is_made_before : StopsAt 6 (codes "echo hello") fresh []
unfolding cut_at
no_call_is_made_before = refl

-- the empty script has one instruction
no_instruction_is_run : StopsAt 0 [] fresh []
unfolding cut_at
no_instruction_is_run = refl

-- the last call is not answered
a_script_waits_where_answers_end :
    Awaits (codes "echo hello; c") fresh
    (probe (codes "/bin/echo") ▸ found Program
    ∷ start (program (codes "/bin/echo") (codes "hello" ∷ []) usual plain) ▸ child 7
    ∷ wait 7 ▸ refused Halt ∷ [])
unfolding meant_wait ran_wait
a_script_waits_where_answers_end = (refl, refl)

-- neither is anything waited for
nothing_is_closed_after_a_halt :
    Awaits (codes "{a | {exit 3}} >f") fresh
    (open_file (codes "f") Write ▸ file 5
    ∷ make_pipe ▸ pair 3 4
    ∷ subshell (codes "rc1;c1,w1:a") usual (writing_to 4) ▸ child 1
    ∷ close 4 ▸ refused Halt ∷ [])
unfolding meant_wait ran_wait
nothing_is_closed_after_a_halt = (refl, refl)

-- the last wait of an ended shell
waits_that_are_owed_may_halt :
    Awaits (codes "a | exit 3") fresh
    (make_pipe ▸ pair 3 4
    ∷ subshell (codes "rc1;c1,w1:a") usual (writing_to 4) ▸ child 1
    ∷ close 4 ▸ done
    ∷ close 3 ▸ done
    ∷ wait 1 ▸ refused Halt ∷ [])
unfolding meant_wait ran_wait
waits_that_are_owed_may_halt = (refl, refl)

-- nine end it
nine_instructions_end_it :
    ends_by 9 (codes "echo hello") fresh (answers (runs (codes "echo") (codes "hello" ∷ []) usual 7 0)) ≡
    Some (calls (runs (codes "echo") (codes "hello" ∷ []) usual 7 0))
unfolding ends_by
nine_instructions_end_it = refl

-- one ends the empty script
one_instruction_ends_it : ends_by 1 [] fresh [] ≡ Some []
unfolding ends_by
one_instruction_ends_it = refl
