-- Backquotes.
use Rattle.std.proofs.Common.{ℕ, List, refl, ◌∷◌, ◌++◌, []}
use Rattle.std.specs.Prelude.{codes}
use Rattle.rc_model.specs.Run.Calls.{Event, make_pipe, close, read, wait, pair, done, bytes, child, ended, refused}
use Rattle.rc_model.specs.declared.call.Ending.TheVariants.{Code}
use Rattle.rc_model.specs.declared.call.Fault.TheVariants.{Other}
use Rattle.law_examples.specs.Shown.{fresh, with_value, usual, writing_to, subshell, runs, Performs, meant, ran, Leaves, meant_value, ran_value, ◌▸◌}

-- the calls of a backquote whose child writes this in one piece
abbrev backquote_of : (output : List ℕ) → List Event
backquote_of output =
    make_pipe ▸ pair 3 4
    ∷ subshell (codes "rc1;s1,;c1,w1:c") usual (writing_to 4) ▸ child 1
    ∷ close 4 ▸ done
    ∷ read 3 ▸ bytes output
    ∷ read 3 ▸ bytes []
    ∷ close 3 ▸ done
    ∷ wait 1 ▸ ended (Code 0) ∷ []

-- characters may be cut by a read; the status is that of the child
output_is_read_to_its_end :
    Performs (codes "x=`{c} exit $x $#x $status") (with_value fresh (codes "ifs") (codes " \t\n" ∷ []))
    (make_pipe ▸ pair 3 4
    ∷ subshell (codes "rc1;s1,;c1,w1:c") (codes "ifs= \t\n" ∷ usual) (writing_to 4) ▸ child 1
    ∷ close 4 ▸ done
    ∷ read 3 ▸ bytes (codes " aÃ")
    ∷ read 3 ▸ bytes (codes "© b\n")
    ∷ read 3 ▸ bytes []
    ∷ close 3 ▸ done
    ∷ wait 1 ▸ ended (Code 5) ∷ [])
    (codes "aÃ© b 2 5")
unfolding meant ran
output_is_read_to_its_end = (refl, refl)

-- what was read is used
a_refused_read_ends_the_reading :
    Performs (codes "x=`{c}") (with_value fresh (codes "ifs") (codes " \t\n" ∷ []))
    (make_pipe ▸ pair 3 4
    ∷ subshell (codes "rc1;s1,;c1,w1:c") (codes "ifs= \t\n" ∷ usual) (writing_to 4) ▸ child 1
    ∷ close 4 ▸ done
    ∷ read 3 ▸ bytes (codes " aÃ")
    ∷ read 3 ▸ bytes (codes "© b\n")
    ∷ read 3 ▸ refused Other
    ∷ close 3 ▸ done
    ∷ wait 1 ▸ ended (Code 0) ∷ [])
    (codes "cannot read")
unfolding meant ran
a_refused_read_ends_the_reading = (refl, refl)

-- the members of what came before the refusal
what_was_read_is_used :
    Leaves (codes "x=`{c}") (with_value fresh (codes "ifs") (codes " \t\n" ∷ []))
    (make_pipe ▸ pair 3 4
    ∷ subshell (codes "rc1;s1,;c1,w1:c") (codes "ifs= \t\n" ∷ usual) (writing_to 4) ▸ child 1
    ∷ close 4 ▸ done
    ∷ read 3 ▸ bytes (codes " aÃ")
    ∷ read 3 ▸ bytes (codes "© b\n")
    ∷ read 3 ▸ refused Other
    ∷ close 3 ▸ done
    ∷ wait 1 ▸ ended (Code 0) ∷ [])
    (codes "x") (codes "aÃ©" ∷ codes "b" ∷ [])
unfolding meant_value ran_value
what_was_read_is_used = (refl, refl)

-- without `$ifs` the output is one member
no_separators_give_one_member :
    Performs (codes "x=`{c} exit $#x") fresh
    (backquote_of (codes "a b\n"))
    (codes "1")
unfolding meant ran
no_separators_give_one_member = (refl, refl)

-- also without separators
empty_output_has_no_members :
    Performs (codes "x=`{c} exit $#x") fresh
    (make_pipe ▸ pair 3 4
    ∷ subshell (codes "rc1;s1,;c1,w1:c") usual (writing_to 4) ▸ child 1
    ∷ close 4 ▸ done
    ∷ read 3 ▸ bytes []
    ∷ close 3 ▸ done
    ∷ wait 1 ▸ ended (Code 0) ∷ [])
    (codes "0")
unfolding meant ran
empty_output_has_no_members = (refl, refl)

-- and wrong UTF-8 becomes the replacement character
bytes_zero_are_dropped :
    Leaves (codes "x=`{c}") fresh
    (backquote_of (codes "aâ\u{82}b\0"))
    (codes "x") (codes "aï¿½b" ∷ [])
unfolding meant_value ran_value
bytes_zero_are_dropped = (refl, refl)

-- a character around a byte 0 is whole
bytes_zero_are_dropped_first :
    Leaves (codes "x=`{c}") fresh
    (backquote_of (codes "Ã\0©"))
    (codes "x") (codes "Ã©" ∷ [])
unfolding meant_value ran_value
bytes_zero_are_dropped_first = (refl, refl)

-- a backquote without a pipe is the empty list
a_refused_pipe_gives_nothing :
    Performs (codes "x=`{c} exit $#x $status") fresh
    (make_pipe ▸ refused Other ∷ [])
    (codes "0 cannot pipe")
unfolding meant ran
a_refused_pipe_gives_nothing = (refl, refl)

-- both ends are closed
a_refused_start_gives_nothing :
    Performs (codes "x=`{c}") (with_value fresh (codes "x") (codes "q" ∷ []))
    (make_pipe ▸ pair 3 4
    ∷ subshell (codes "rc1;s1,;c1,w1:c") (usual ++ codes "x=q" ∷ []) (writing_to 4) ▸ refused Other
    ∷ close 4 ▸ done
    ∷ close 3 ▸ done ∷ [])
    (codes "cannot start")
unfolding meant ran
a_refused_start_gives_nothing = (refl, refl)

-- what was read is used
a_refused_wait_is_the_status :
    Performs (codes "x=`{c} exit $x $status") fresh
    (make_pipe ▸ pair 3 4
    ∷ subshell (codes "rc1;s1,;c1,w1:c") usual (writing_to 4) ▸ child 1
    ∷ close 4 ▸ done
    ∷ read 3 ▸ bytes (codes "o")
    ∷ read 3 ▸ bytes []
    ∷ close 3 ▸ done
    ∷ wait 1 ▸ refused Other ∷ [])
    (codes "o cannot wait")
unfolding meant ran
a_refused_wait_is_the_status = (refl, refl)

-- words are evaluated from left to right, then the command is run
a_backquote_is_read_before_later_words :
    Performs (codes "echo `{c} $status") fresh
    (make_pipe ▸ pair 3 4
    ∷ subshell (codes "rc1;s1,;c1,w1:c") usual (writing_to 4) ▸ child 1
    ∷ close 4 ▸ done
    ∷ read 3 ▸ bytes (codes "o")
    ∷ read 3 ▸ bytes []
    ∷ close 3 ▸ done
    ∷ wait 1 ▸ ended (Code 3)
    ∷ runs (codes "echo") (codes "o" ∷ codes "3" ∷ []) (codes "path=/bin" ∷ codes "status=3" ∷ []) 2 0)
    []
unfolding meant ran
a_backquote_is_read_before_later_words = (refl, refl)

-- output stands for no file names
pattern_characters_of_output_are_plain :
    Performs (codes "echo `{c}") fresh
    (make_pipe ▸ pair 3 4
    ∷ subshell (codes "rc1;s1,;c1,w1:c") usual (writing_to 4) ▸ child 1
    ∷ close 4 ▸ done
    ∷ read 3 ▸ bytes (codes "*")
    ∷ read 3 ▸ bytes []
    ∷ close 3 ▸ done
    ∷ wait 1 ▸ ended (Code 0)
    ∷ runs (codes "echo") (codes "*" ∷ []) usual 2 0)
    []
unfolding meant ran
pattern_characters_of_output_are_plain = (refl, refl)

-- what was there before is gone
a_refused_start_gives_no_members :
    Leaves (codes "x=`{c}") (with_value fresh (codes "x") (codes "q" ∷ []))
    (make_pipe ▸ pair 3 4
    ∷ subshell (codes "rc1;s1,;c1,w1:c") (usual ++ codes "x=q" ∷ []) (writing_to 4) ▸ refused Other
    ∷ close 4 ▸ done
    ∷ close 3 ▸ done ∷ [])
    (codes "x") []
unfolding meant_value ran_value
a_refused_start_gives_no_members = (refl, refl)
