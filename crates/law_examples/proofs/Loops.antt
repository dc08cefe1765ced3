-- Loops.
use Rattle.std.proofs.Common.{refl, ◌∷◌, ◌++◌, []}
use Rattle.std.specs.Prelude.{codes}
use Rattle.rc_model.specs.Run.Calls.{write, done}
use Rattle.rc_model.specs.declared.call.Slot.TheVariants.{Own}
use Rattle.law_examples.specs.Shown.{fresh, with_value, usual, runs, Performs, meant, ran, Leaves, meant_value, ran_value, StopsAt, cut_at, ◌▸◌}

-- the name is bound to each member, and unbound at the end
for_binds_each_member :
    Performs (codes "for(x in a b){c $x}; echo $x") fresh
    (runs (codes "c") (codes "a" ∷ []) (usual ++ codes "x=a" ∷ []) 1 0
    ++ runs (codes "c") (codes "b" ∷ []) (usual ++ codes "x=b" ∷ []) 2 0
    ++ runs (codes "echo") [] usual 3 0)
    []
unfolding meant ran
for_binds_each_member = (refl, refl)

-- a `for` without a list goes over `$*` as it is at the start
for_goes_over_the_arguments_of_its_start : Performs (codes "*=(a b c); for(i) shift; exit $#*") fresh [] (codes "0")
unfolding meant ran
for_goes_over_the_arguments_of_its_start = (refl, refl)

-- a fault of the list comes before that of the name
for_evaluates_its_list_before_its_name :
    Performs (codes "for('a b' in ()^c) p") fresh
    (write (Own 2) (codes "rc: empty list in concatenation\n") ▸ done ∷ [])
    (codes "error")
unfolding meant ran
for_evaluates_its_list_before_its_name = (refl, refl)

-- the name is checked where the list is empty, too
for_needs_one_name :
    Performs (codes "for((a b) in ) p") fresh
    (write (Own 2) (codes "rc: bad name\n") ▸ done ∷ [])
    (codes "error")
unfolding meant ran
for_needs_one_name = (refl, refl)

-- no turn is made, and the status stays
for_over_an_empty_list_does_nothing : Performs (codes "~ a b; for(x in ) p; exit $status") fresh [] (codes "no match")
unfolding meant ran
for_over_an_empty_list_does_nothing = (refl, refl)

-- an assignment in the body changes the loop variable alone
the_loop_variable_covers :
    Performs (codes "for(x in a b) {x=$x^c}; exit $x") (with_value fresh (codes "x") (codes "g" ∷ []))
    []
    (codes "g")
unfolding meant ran
the_loop_variable_covers = (refl, refl)

-- `exit` ends the shell inside of a loop, with what it computed there
exit_leaves_a_loop : Performs (codes "fn f {for(i in a b) {x=$i exit $x$1}}; f q") fresh [] (codes "aq")
unfolding meant ran
exit_leaves_a_loop = (refl, refl)

-- the condition is tested before each turn
while_tests_before_each_turn :
    Performs (codes "while(~ $#x 0 1){c; x=($x i)}") fresh
    (runs (codes "c") [] usual 1 0 ++ runs (codes "c") [] (usual ++ codes "x=i" ∷ []) 1 0)
    (codes "no match")
unfolding meant ran
while_tests_before_each_turn = (refl, refl)

-- what the body assigns stays
while_leaves_its_changes : Leaves (codes "while(~ $#x 0 1){x=($x i)}") fresh [] (codes "x") (codes "i" ∷ codes "i" ∷ [])
unfolding meant_value ran_value
while_leaves_its_changes = (refl, refl)

-- the status is that of the condition
while_of_a_false_condition_runs_nothing : Performs (codes "while(a) b") fresh (runs (codes "a") [] usual 1 3) (codes "3")
unfolding meant ran
while_of_a_false_condition_runs_nothing = (refl, refl)

-- `exit` in the body
exit_leaves_a_while :
    Performs (codes "while(a) if(b) exit q") fresh
    (runs (codes "a") [] usual 1 0 ++ runs (codes "b") [] usual 1 0)
    (codes "q")
unfolding meant ran
exit_leaves_a_while = (refl, refl)

-- its status is null at each turn
a_while_without_a_condition_is_true : Performs (codes "~ a b; while() exit q$status") fresh [] (codes "q")
unfolding meant ran
a_while_without_a_condition_is_true = (refl, refl)

-- 1,000 instructions of an endless loop
an_endless_loop_makes_no_call : StopsAt 1000 (codes "while(){ }") fresh []
unfolding cut_at
an_endless_loop_makes_no_call = refl
