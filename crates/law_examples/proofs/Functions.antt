-- Functions.
use Rattle.std.proofs.Common.{refl, ◌∷◌, ◌++◌, []}
use Rattle.std.specs.Prelude.{codes}
use Rattle.rc_model.specs.Run.Calls.{open_file, close, write, file, done}
use Rattle.rc_model.specs.declared.call.Mode.TheVariants.{Write}
use Rattle.rc_model.specs.declared.call.Slot.TheVariants.{Own}
use Rattle.law_examples.specs.Shown.{fresh, usual, runs, Performs, meant, ran, StopsAt, cut_at, ◌▸◌}

-- `$*` is that of the call, and scope is dynamic
a_function_sees_its_arguments_and_the_locals_around_it :
    Performs (codes "fn f {echo $1 $x}; x=l f q; f r") fresh
    (runs (codes "echo") (codes "q" ∷ codes "l" ∷ []) (codes "fn#f=rc1;s1,;c3,w4:echo$w1:1$w1:x" ∷ usual ++ codes "x=l" ∷ []) 7 0
    ++ runs (codes "echo") (codes "r" ∷ []) (codes "fn#f=rc1;s1,;c3,w4:echo$w1:1$w1:x" ∷ usual) 7 0)
    []
unfolding meant ran
a_function_sees_its_arguments_and_the_locals_around_it = (refl, refl)

-- a definition of two names, of which one is taken away
several_functions_and_one_removed : Performs (codes "fn f g {exit $1}; fn f; g 3") fresh [] (codes "3")
unfolding meant ran
several_functions_and_one_removed = (refl, refl)

-- a function is defined anew
the_last_definition_holds : Performs (codes "fn f {exit a}; fn f {exit b}; f") fresh [] (codes "b")
unfolding meant ran
the_last_definition_holds = (refl, refl)

-- a function may have the name of a built-in
a_function_comes_before_a_built_in : Performs (codes "fn cd {exit f}; cd /t") fresh [] (codes "f")
unfolding meant ran
a_function_comes_before_a_built_in = (refl, refl)

-- an assignment in a body sets the visible variable
a_function_changes_the_global : Performs (codes "x=1; fn f {x=2}; f; exit $x") fresh [] (codes "2")
unfolding meant ran
a_function_changes_the_global = (refl, refl)

-- files are closed and locals undone on the way
exit_in_a_function_ends_the_shell :
    Performs (codes "fn f {for(i in 1 2) {exit $i$x}}; x=y f >g") fresh
    (open_file (codes "g") Write ▸ file 3 ∷ close 3 ▸ done ∷ [])
    (codes "1y")
unfolding meant ran
exit_in_a_function_ends_the_shell = (refl, refl)

-- `$*` is as before
arguments_are_restored_after_a_call : Performs (codes "*=(a b); fn f {x=$#*}; f c; exit $x$#*") fresh [] (codes "12")
unfolding meant ran
arguments_are_restored_after_a_call = (refl, refl)

-- a function that a function defines stays
an_inner_function_is_global : Performs (codes "fn f {fn g {exit $1}}; f; g a") fresh [] (codes "a")
unfolding meant ran
an_inner_function_is_global = (refl, refl)

-- a bad name is a runtime error
a_function_needs_a_name :
    Performs (codes "fn a 'b=c' {p}") fresh
    (write (Own 2) (codes "rc: bad name\n") ▸ done ∷ [])
    (codes "error")
unfolding meant ran
a_function_needs_a_name = (refl, refl)

-- 1,000 instructions of a function that calls itself
an_endless_recursion_makes_no_call : StopsAt 1000 (codes "fn f {f}; f") fresh []
unfolding cut_at
an_endless_recursion_makes_no_call = refl

-- taking away a function that can not be is no fault
a_bad_name_can_be_removed : Performs (codes "fn 'b=c'; exit y") fresh [] (codes "y")
unfolding meant ran
a_bad_name_can_be_removed = (refl, refl)

-- those around the call stay
shift_takes_from_a_calls_arguments : Performs (codes "fn f {shift; x=$#*}; *=p; f a b; exit $x$#*") fresh [] (codes "11")
unfolding meant ran
shift_takes_from_a_calls_arguments = (refl, refl)
