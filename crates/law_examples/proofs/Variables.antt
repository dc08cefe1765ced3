-- Variables, locals and the status.
use Rattle.std.proofs.Common.{refl, ◌∷◌, ◌++◌, []}
use Rattle.std.specs.Prelude.{codes}
use Rattle.rc_model.specs.Run.Calls.{plain, open_file, close, write, wait, probe, file, done, child, ended, refused}
use Rattle.rc_model.specs.declared.call.Mode.TheVariants.{Write}
use Rattle.rc_model.specs.declared.call.Slot.TheVariants.{Own}
use Rattle.rc_model.specs.declared.call.Ending.TheVariants.{Code}
use Rattle.rc_model.specs.declared.call.Fault.TheVariants.{Other}
use Rattle.law_examples.specs.Shown.{fresh, with_value, usual, subshell, runs, Performs, meant, ran, Leaves, meant_value, ran_value, ◌▸◌}

-- a command of no words is a runtime error
an_unassigned_variable_is_empty :
    Performs (codes "$y") fresh
    (write (Own 2) (codes "rc: empty argument list\n") ▸ done ∷ [])
    (codes "error")
unfolding meant ran
an_unassigned_variable_is_empty = (refl, refl)

-- an assignment to the status joins its members by spaces
the_status_is_one_member : Performs (codes "status=(a b); exit") fresh [] (codes "a b")
unfolding meant ran
the_status_is_one_member = (refl, refl)

-- the status is one member, also where it is null
the_status_has_always_one_member : Performs (codes "exit $#status") fresh [] (codes "1")
unfolding meant ran
the_status_has_always_one_member = (refl, refl)

-- an assignment to the status before a command stays
the_status_is_never_local : Performs (codes "status=a x=b {}; exit $status^c") fresh [] (codes "ac")
unfolding meant ran
the_status_is_never_local = (refl, refl)

-- a `for` that binds the status sets it, and its end uncovers nothing
for_over_the_status_leaves_it :
    Performs (codes "for(status in a b) x; exit $status") fresh
    (probe (codes "/bin/x") ▸ refused Other
    ∷ write (Own 2) (codes "rc: x: not found\n") ▸ done
    ∷ probe (codes "/bin/x") ▸ refused Other
    ∷ write (Own 2) (codes "rc: x: not found\n") ▸ done ∷ [])
    (codes "not found")
unfolding meant ran
for_over_the_status_leaves_it = (refl, refl)

-- the later of two locals covers the first, and both are undone
assignments_before_a_command_are_local :
    Performs (codes "x=a x=b c $x; exit $x") (with_value fresh (codes "x") (codes "g" ∷ []))
    (runs (codes "c") (codes "b" ∷ []) (usual ++ codes "x=b" ∷ []) 1 0)
    (codes "g")
unfolding meant ran
assignments_before_a_command_are_local = (refl, refl)

-- assignments are done from left to right
a_later_assignment_sees_an_earlier_one : Performs (codes "x=(1 2 3) y=$x(2) exit $y$#x") fresh [] (codes "23")
unfolding meant ran
a_later_assignment_sees_an_earlier_one = (refl, refl)

-- a value is computed before its local is bound
a_local_sees_the_value_that_it_covers : Performs (codes "x=(a b); x=$x^(1 2) exit $x") fresh [] (codes "a1 b2")
unfolding meant ran
a_local_sees_the_value_that_it_covers = (refl, refl)

-- a local around a block with a local
locals_cover_one_another : Performs (codes "a=1 {b=2 {exit $a$b}}") fresh [] (codes "12")
unfolding meant ran
locals_cover_one_another = (refl, refl)

-- an assignment with a redirection and no command after it is local
assignments_around_a_redirection_are_local :
    Performs (codes "x=a >f; exit n$x") (with_value fresh (codes "x") (codes "g" ∷ []))
    (open_file (codes "f") Write ▸ file 3 ∷ close 3 ▸ done ∷ [])
    (codes "ng")
unfolding meant ran
assignments_around_a_redirection_are_local = (refl, refl)

-- `exit` undoes the locals that are open
locals_are_undone_at_exit : Leaves (codes "x=1; fn f {x=2 exit}; f") fresh [] (codes "x") (codes "1" ∷ [])
unfolding meant_value ran_value
locals_are_undone_at_exit = (refl, refl)

-- also that of a loop inside of another local
nested_locals_are_undone_at_exit :
    Leaves (codes "x=2 {for(x in a b) {x=q exit}}") (with_value fresh (codes "x") (codes "g" ∷ []))
    []
    (codes "x") (codes "g" ∷ [])
unfolding meant_value ran_value
nested_locals_are_undone_at_exit = (refl, refl)

-- an assignment changes the visible value
a_local_assignment_changes_the_local :
    Leaves (codes "x=a {x=b}") (with_value fresh (codes "x") (codes "g" ∷ []))
    []
    (codes "x") (codes "g" ∷ [])
unfolding meant_value ran_value
a_local_assignment_changes_the_local = (refl, refl)

-- a local without members covers, and is not in the environment
an_empty_local_covers :
    Performs (codes "ifs=() @{c}") (with_value fresh (codes "ifs") (codes "x" ∷ []))
    (subshell (codes "rc1;bs1,;c1,w1:c") usual plain ▸ child 1 ∷ wait 1 ▸ ended (Code 0) ∷ [])
    []
unfolding meant ran
an_empty_local_covers = (refl, refl)

-- an assignment to a name of digits alone is a runtime error
a_bad_name_is_a_fault : Performs (codes "1=a") fresh (write (Own 2) (codes "rc: bad name\n") ▸ done ∷ []) (codes "error")
unfolding meant ran
a_bad_name_is_a_fault = (refl, refl)

-- assignments before one with a bad name are done
earlier_assignments_stay :
    Performs (codes "x=1 y=2 '!'=3") fresh
    (write (Own 2) (codes "rc: bad name\n") ▸ done ∷ [])
    (codes "error")
unfolding meant ran
earlier_assignments_stay = (refl, refl)

-- and leave their values
earlier_assignments_have_their_value :
    Leaves (codes "x=1 '!'=3") fresh
    (write (Own 2) (codes "rc: bad name\n") ▸ done ∷ [])
    (codes "x") (codes "1" ∷ [])
unfolding meant_value ran_value
earlier_assignments_have_their_value = (refl, refl)

-- `$1` is the first member of `$*`, `$0` and what is past the end are empty
arguments_by_number :
    Performs (codes "exit $2 $1 $0 $3 $02") (with_value fresh (codes "*") (codes "a" ∷ codes "b" ∷ []))
    []
    (codes "b a b")
unfolding meant ran
arguments_by_number = (refl, refl)

-- each of nine locals of one name is undone
nine_nested_locals_are_undone :
    Performs (codes "x=1 x=2 x=3 x=4 x=5 x=6 x=7 x=8 x=9 {y=$x}; exit $y$x") (with_value fresh (codes "x") (codes "0" ∷ []))
    []
    (codes "90")
unfolding meant ran
nine_nested_locals_are_undone = (refl, refl)
