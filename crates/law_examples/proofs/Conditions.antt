-- Conditions, matches and cases.
use Rattle.std.proofs.Common.{refl, ◌∷◌, ◌++◌, []}
use Rattle.std.specs.Prelude.{codes}
use Rattle.law_examples.specs.Shown.{fresh, usual, runs, Performs, meant, ran}

-- each looks at the flag that the last condition left
if_not_runs_where_the_condition_failed :
    Performs (codes "if(~ a b) p\nif not if(~ a a) q\nif not r") fresh
    (runs (codes "q") [] usual 7 0)
    []
unfolding meant ran
if_not_runs_where_the_condition_failed = (refl, refl)

-- the flag is set where the function leaves a false status
a_function_may_be_a_condition : Performs (codes "fn f {if(~ a b) c}; if(f) x; if not exit n") fresh [] (codes "n")
unfolding meant ran
a_function_may_be_a_condition = (refl, refl)

-- the flag is cleared after the body
a_flag_set_in_a_true_body_is_cleared : Performs (codes "if(~ a a) {if(~ a b) p}; if not q") fresh [] (codes "no match")
unfolding meant ran
a_flag_set_in_a_true_body_is_cleared = (refl, refl)

-- an `if` without a condition tests the status as it stands
an_empty_condition_tests_the_status : Performs (codes "if() exit t") fresh [] (codes "t")
unfolding meant ran
an_empty_condition_tests_the_status = (refl, refl)

-- and does nothing where it is false
an_empty_condition_with_a_false_status : Performs (codes "~ a b; if() exit t; if not exit u") fresh [] (codes "u")
unfolding meant ran
an_empty_condition_with_a_false_status = (refl, refl)

-- the right side of `&&` is not run where the left failed
and_runs_where_the_left_is_true : Performs (codes "a && b") fresh (runs (codes "a") [] usual 1 1) (codes "1")
unfolding meant ran
and_runs_where_the_left_is_true = (refl, refl)

-- the right side of `||` is run where the left failed
or_runs_where_the_left_is_false :
    Performs (codes "a || b") fresh
    (runs (codes "a") [] usual 1 1
    ++ runs (codes "b") [] (codes "path=/bin" ∷ codes "status=1" ∷ []) 2 0)
    []
unfolding meant ran
or_runs_where_the_left_is_false = (refl, refl)

-- `&&` and `||` are of one rank
and_or_go_from_the_left :
    Performs (codes "a || b && c") fresh
    (runs (codes "a") [] usual 1 0 ++ runs (codes "c") [] usual 2 0)
    []
unfolding meant ran
and_or_go_from_the_left = (refl, refl)

-- a skipped operand does not stop the next one
skipped_operands_leave_the_status :
    Performs (codes "a && b || c") fresh
    (runs (codes "a") [] usual 1 1
    ++ runs (codes "c") [] (codes "path=/bin" ∷ codes "status=1" ∷ []) 2 3)
    (codes "3")
unfolding meant ran
skipped_operands_leave_the_status = (refl, refl)

-- `!` of a true status is `false`
not_turns_the_status : Performs (codes "! a") fresh (runs (codes "a") [] usual 1 0) (codes "false")
unfolding meant ran
not_turns_the_status = (refl, refl)

-- `!` of any other status is null
not_of_a_failure_is_null : Performs (codes "! a") fresh (runs (codes "a") [] usual 1 2) []
unfolding meant ran
not_of_a_failure_is_null = (refl, refl)

-- each character of a true status is 0 or a bar
a_status_of_zeros_and_bars_is_true : Performs (codes "status='0|00'; if() exit t") fresh [] (codes "t")
unfolding meant ran
a_status_of_zeros_and_bars_is_true = (refl, refl)

-- the commands from the first match to the next case line
switch_runs_the_first_match :
    Performs (codes "switch b {case a; p; case b c; q; r; case *; s}") fresh
    (runs (codes "q") [] usual 1 0 ++ runs (codes "r") [] usual 2 0)
    []
unfolding meant ran
switch_runs_the_first_match = (refl, refl)

-- without a match nothing is run
switch_without_a_match_keeps_the_status : Performs (codes "~ a b; switch c {case d; p}") fresh [] (codes "no match")
unfolding meant ran
switch_without_a_match_keeps_the_status = (refl, refl)

-- the subject of a switch is one text, also of an empty list
switch_of_an_empty_list : Performs (codes "switch () {case a; x; case ?; y; case ''; exit z}") fresh [] (codes "z")
unfolding meant ran
switch_of_an_empty_list = (refl, refl)

-- members are joined by spaces
switch_joins_its_subject : Performs (codes "switch (a b) {case a; x; case 'a b'; exit z}") fresh [] (codes "z")
unfolding meant ran
switch_joins_its_subject = (refl, refl)

-- patterns after the match are not evaluated
case_patterns_are_evaluated_when_reached : Performs (codes "switch a {case a; exit q; case $'b c'; p}") fresh [] (codes "q")
unfolding meant ran
case_patterns_are_evaluated_when_reached = (refl, refl)

-- `~` tries each pattern; `/`, `.` and `..` need not be explicit
a_match_sets_the_status : Performs (codes "~ a.c *.[a-c] || exit no; ~ (a b) 'a b'; exit y$status") fresh [] (codes "y")
unfolding meant ran
a_match_sets_the_status = (refl, refl)

-- no pattern matches
a_failed_match : Performs (codes "~ a b c") fresh [] (codes "no match")
unfolding meant ran
a_failed_match = (refl, refl)

-- there is nothing to match
a_match_without_patterns_fails : Performs (codes "~ a") fresh [] (codes "no match")
unfolding meant ran
a_match_without_patterns_fails = (refl, refl)

-- a class, its complement, and a class that is not closed
classes : Performs (codes "~ d [~a-c] && ~ b [a-c] && ! ~ b [c-a] && ! ~ '[' [ && exit y") fresh [] (codes "y")
unfolding meant ran
classes = (refl, refl)

-- what comes from quotes and variables is no pattern
pattern_characters_of_values_are_plain : Performs (codes "x='*'; ~ a $x") fresh [] (codes "no match")
unfolding meant ran
pattern_characters_of_values_are_plain = (refl, refl)

-- `[~]` holds every character
a_complement_of_nothing_holds_all : Performs (codes "~ a [~] && exit y") fresh [] (codes "y")
unfolding meant ran
a_complement_of_nothing_holds_all = (refl, refl)
