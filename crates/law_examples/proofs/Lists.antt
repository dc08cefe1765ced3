-- Joining, selecting and counting lists.
use Rattle.std.proofs.Common.{refl, ◌∷◌, ◌++◌, []}
use Rattle.std.specs.Prelude.{codes}
use Rattle.rc_model.specs.Run.Calls.{write, done}
use Rattle.rc_model.specs.declared.call.Slot.TheVariants.{Own}
use Rattle.law_examples.specs.Shown.{fresh, with_value, usual, runs, Performs, meant, ran, ◌▸◌}

-- lists of one length are joined member by member
equal_counts_join_pairwise :
    Performs (codes "exit $x^$x") (with_value fresh (codes "x") (codes "a" ∷ codes "b" ∷ []))
    []
    (codes "aa bb")
unfolding meant ran
equal_counts_join_pairwise = (refl, refl)

-- two empty lists give an empty list
empty_lists_join : Performs (codes "x=()^() exit $#x") fresh [] (codes "0")
unfolding meant ran
empty_lists_join = (refl, refl)

-- one empty side is a runtime error, which ends the script
an_empty_list_joins_with_nothing_else :
    Performs (codes "echo $x^y; echo z") fresh
    (write (Own 2) (codes "rc: empty list in concatenation\n") ▸ done ∷ [])
    (codes "error")
unfolding meant ran
an_empty_list_joins_with_nothing_else = (refl, refl)

-- other counts are a runtime error
other_counts_do_not_join :
    Performs (codes "exit $x^(1 2 3)") (with_value fresh (codes "x") (codes "a" ∷ codes "b" ∷ []))
    (write (Own 2) (codes "rc: list lengths differ in concatenation\n") ▸ done ∷ [])
    (codes "error")
unfolding meant ran
other_counts_do_not_join = (refl, refl)

-- three parts are joined from the left: the first two pairwise, then the third to each
joining_goes_from_the_left : Performs (codes "exit (a b)^(c d)^e") fresh [] (codes "ace bde")
unfolding meant ran
joining_goes_from_the_left = (refl, refl)

-- the fault of the first two parts comes before the third is looked at
joining_reports_before_later_parts :
    Performs (codes "exit ()^a^$'b c'") fresh
    (write (Own 2) (codes "rc: empty list in concatenation\n") ▸ done ∷ [])
    (codes "error")
unfolding meant ran
joining_reports_before_later_parts = (refl, refl)

-- subscripts, counts and flattening
subscripts_select_from_one :
    Performs (codes "echo $x(2 1) $#x $\"x $x(2-) $x(3) $x(1-9)") (with_value fresh (codes "x") (codes "a" ∷ codes "b" ∷ []))
    (runs (codes "echo") (codes "b" ∷ codes "a" ∷ codes "2" ∷ codes "a b" ∷ codes "b" ∷ codes "a" ∷ codes "b" ∷ []) (usual ++ codes "x=a\u{1}b" ∷ []) 7 0)
    []
unfolding meant ran
subscripts_select_from_one = (refl, refl)

-- 0, a falling range and any other text select nothing; a range is clipped
subscripts_out_of_range_select_nothing :
    Performs (codes "exit $x(0 1-0 2-9 2- x 1-x 01)") (with_value fresh (codes "x") (codes "a" ∷ codes "b" ∷ codes "c" ∷ []))
    []
    (codes "b c b c a")
unfolding meant ran
subscripts_out_of_range_select_nothing = (refl, refl)

-- `0-2` and `0-` select nothing
a_range_from_zero_selects_nothing :
    Performs (codes "exit n $x(0-2 0-)") (with_value fresh (codes "x") (codes "a" ∷ codes "b" ∷ []))
    []
    (codes "n")
unfolding meant ran
a_range_from_zero_selects_nothing = (refl, refl)

-- the greatest number is 4294967295
subscripts_too_large_select_nothing :
    Performs (codes "y=$x(4294967296 1-4294967296 1-4294967295) exit $#y") (with_value fresh (codes "x") (codes "a" ∷ codes "b" ∷ []))
    []
    (codes "2")
unfolding meant ran
subscripts_too_large_select_nothing = (refl, refl)

-- subscripts are computed
subscripts_are_words :
    Performs (codes "i=2 exit $x($i $#x)") (with_value fresh (codes "x") (codes "a" ∷ codes "b" ∷ []))
    []
    (codes "b b")
unfolding meant ran
subscripts_are_words = (refl, refl)

-- `$$y(1)` selects from the variable that y names
subscripts_of_a_named_name :
    Performs (codes "y=x exit $$y(1)") (with_value fresh (codes "x") (codes "a" ∷ codes "b" ∷ []))
    []
    (codes "a")
unfolding meant ran
subscripts_of_a_named_name = (refl, refl)

-- `$"x` is one word, also of an empty list
flattening_joins_by_spaces :
    Performs (codes "y=($\"x $\"z) exit $#y") (with_value fresh (codes "x") (codes "a" ∷ codes "b" ∷ []))
    []
    (codes "2")
unfolding meant ran
flattening_joins_by_spaces = (refl, refl)

-- a list has no lists in it
lists_in_lists_are_flat : Performs (codes "x=(a (b ()) (c)) exit $#x") fresh [] (codes "3")
unfolding meant ran
lists_in_lists_are_flat = (refl, refl)
