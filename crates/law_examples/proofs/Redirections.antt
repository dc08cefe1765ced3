-- Redirections, copies and here documents.
use Rattle.std.proofs.Common.{refl, ◌∷◌, ◌++◌, []}
use Rattle.std.specs.Prelude.{codes}
use Rattle.rc_model.specs.Run.Calls.{to_file, open_file, here, close, write, list_names, file, done, names, refused}
use Rattle.rc_model.specs.declared.call.Mode.TheVariants.{Read, Write, Append}
use Rattle.rc_model.specs.declared.call.Slot.TheVariants.{Own}
use Rattle.rc_model.specs.declared.call.Fault.TheVariants.{Other}
use Rattle.law_examples.specs.Shown.{fresh, with_value, usual, slots, writing_to, reading_from, runs_in, Performs, meant, ran, ◌▸◌}

-- redirections are done from left to right
copies_see_what_was_opened_before :
    Performs (codes "c >f >[2=1]") fresh
    (open_file (codes "f") Write ▸ file 4
    ∷ runs_in (slots (Own 0) (to_file 4) (to_file 4)) (codes "c") [] usual 7 0
    ++ close 4 ▸ done ∷ [])
    []
unfolding meant ran
copies_see_what_was_opened_before = (refl, refl)

-- the copy stands for what the descriptor was
copies_do_not_see_what_is_opened_later :
    Performs (codes "c >[2=1] >f") fresh
    (open_file (codes "f") Write ▸ file 4
    ∷ runs_in (slots (Own 0) (to_file 4) (Own 1)) (codes "c") [] usual 7 0
    ++ close 4 ▸ done ∷ [])
    []
unfolding meant ran
copies_do_not_see_what_is_opened_later = (refl, refl)

-- a refused close changes nothing, and is not called again
files_are_closed_at_exit :
    Performs (codes "exit 2 >f") fresh
    (open_file (codes "f") Write ▸ file 5 ∷ close 5 ▸ refused Other ∷ [])
    (codes "2")
unfolding meant ran
files_are_closed_at_exit = (refl, refl)

-- two words are a runtime error
a_redirection_needs_one_word :
    Performs (codes "c >(a b)") fresh
    (write (Own 2) (codes "rc: redirection needs one word\n") ▸ done ∷ [])
    (codes "error")
unfolding meant ran
a_redirection_needs_one_word = (refl, refl)

-- so is none
no_word_is_a_fault_too :
    Performs (codes "c >()") fresh
    (write (Own 2) (codes "rc: redirection needs one word\n") ▸ done ∷ [])
    (codes "error")
unfolding meant ran
no_word_is_a_fault_too = (refl, refl)

-- the report goes to where errors go, and what is open is closed
a_refused_open_ends_the_shell :
    Performs (codes "{c >g} >f >[2=1]") fresh
    (open_file (codes "f") Write ▸ file 4
    ∷ open_file (codes "g") Write ▸ refused Other
    ∷ write (to_file 4) (codes "rc: cannot open g\n") ▸ done
    ∷ close 4 ▸ done ∷ [])
    (codes "error")
unfolding meant ran
a_refused_open_ends_the_shell = (refl, refl)

-- a redirection around another
files_are_closed_from_the_innermost :
    Performs (codes "{c >f} >g") fresh
    (open_file (codes "g") Write ▸ file 3
    ∷ open_file (codes "f") Write ▸ file 4
    ∷ runs_in (writing_to 4) (codes "c") [] usual 1 0
    ++ close 4 ▸ done
    ∷ close 3 ▸ done ∷ [])
    []
unfolding meant ran
files_are_closed_from_the_innermost = (refl, refl)

-- the last that was opened is closed first
several_files_are_closed_in_reverse :
    Performs (codes "c >f <g >>[2] h") fresh
    (open_file (codes "f") Write ▸ file 3
    ∷ open_file (codes "g") Read ▸ file 4
    ∷ open_file (codes "h") Append ▸ file 5
    ∷ runs_in (slots (to_file 4) (to_file 3) (to_file 5)) (codes "c") [] usual 1 0
    ++ close 5 ▸ done
    ∷ close 4 ▸ done
    ∷ close 3 ▸ done ∷ [])
    []
unfolding meant ran
several_files_are_closed_in_reverse = (refl, refl)

-- a file is opened before the words of the command are evaluated
redirections_come_before_the_words :
    Performs (codes "c $'a b' >f") fresh
    (open_file (codes "f") Write ▸ file 3
    ∷ write (Own 2) (codes "rc: bad name\n") ▸ done
    ∷ close 3 ▸ done ∷ [])
    (codes "error")
unfolding meant ran
redirections_come_before_the_words = (refl, refl)

-- there is no command
redirections_alone_open_and_close :
    Performs (codes ">f") fresh
    (open_file (codes "f") Write ▸ file 3 ∷ close 3 ▸ done ∷ [])
    []
unfolding meant ran
redirections_alone_open_and_close = (refl, refl)

-- the status is that of the command
a_redirection_leaves_the_status :
    Performs (codes "{~ a b} >f") fresh
    (open_file (codes "f") Write ▸ file 3 ∷ close 3 ▸ done ∷ [])
    (codes "no match")
unfolding meant ran
a_redirection_leaves_the_status = (refl, refl)

-- a pattern must stand for one file name
file_names_of_a_redirection :
    Performs (codes "c >f*") fresh
    (list_names (codes ".") ▸ names (codes "f1" ∷ codes "f2" ∷ [])
    ∷ write (Own 2) (codes "rc: redirection needs one word\n") ▸ done ∷ [])
    (codes "error")
unfolding meant ran
file_names_of_a_redirection = (refl, refl)

-- a caret after a name is deleted, and `$$` is a dollar
here_documents_replace_names :
    Performs (codes "c <<E\n$x^y $$ $z\nE\n") (with_value fresh (codes "x") (codes "1" ∷ codes "2" ∷ []))
    (here (codes "1 2y $ \n") ▸ file 4
    ∷ runs_in (reading_from 4) (codes "c") [] (usual ++ codes "x=1\u{1}2" ∷ []) 7 0
    ++ close 4 ▸ done ∷ [])
    []
unfolding meant ran
here_documents_replace_names = (refl, refl)

-- nothing is replaced
here_documents_with_a_quoted_mark_are_as_written :
    Performs (codes "c <<'E'\n$x^y $$ $z\nE\n") (with_value fresh (codes "x") (codes "1" ∷ codes "2" ∷ []))
    (here (codes "$x^y $$ $z\n") ▸ file 4
    ∷ runs_in (reading_from 4) (codes "c") [] (usual ++ codes "x=1\u{1}2" ∷ []) 7 0
    ++ close 4 ▸ done ∷ [])
    []
unfolding meant ran
here_documents_with_a_quoted_mark_are_as_written = (refl, refl)

-- the report names no file
a_refused_here_document_ends_the_shell :
    Performs (codes "c <<E\nE\n") fresh
    (here [] ▸ refused Other ∷ write (Own 2) (codes "rc: cannot open here document\n") ▸ done ∷ [])
    (codes "error")
unfolding meant ran
a_refused_here_document_ends_the_shell = (refl, refl)

-- `>[1=2]`
the_output_may_go_to_the_errors :
    Performs (codes "c >[1=2]") fresh
    (runs_in (slots (Own 0) (Own 2) (Own 2)) (codes "c") [] usual 1 0)
    []
unfolding meant ran
the_output_may_go_to_the_errors = (refl, refl)
