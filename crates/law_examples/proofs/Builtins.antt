-- The built-in commands.
use Rattle.std.proofs.Common.{refl, ◌∷◌, []}
use Rattle.std.specs.Prelude.{codes}
use Rattle.rc_model.specs.Run.Calls.{open_file, close, read, write, probe, change_dir, file, done, bytes, found, refused}
use Rattle.rc_model.specs.declared.call.Mode.TheVariants.{Read}
use Rattle.rc_model.specs.declared.call.Slot.TheVariants.{Own}
use Rattle.rc_model.specs.declared.call.Kind.TheVariants.{Program}
use Rattle.rc_model.specs.declared.call.Fault.TheVariants.{Other}
use Rattle.law_examples.specs.Shown.{fresh, with_value, usual, runs, Performs, meant, ran, ◌▸◌}

-- the status says so, and the script goes on
eval_of_a_wrong_text :
    Performs (codes "eval '('; echo z") fresh
    (runs (codes "echo") (codes "z" ∷ []) (codes "path=/bin" ∷ codes "status=syntax error" ∷ []) 7 0)
    []
unfolding meant ran
eval_of_a_wrong_text = (refl, refl)

-- its words are one text
eval_joins_by_spaces : Performs (codes "x='a b'; eval exit '$x^c'") fresh [] (codes "a bc")
unfolding meant ran
eval_joins_by_spaces = (refl, refl)

-- the empty text does nothing
eval_of_nothing : Performs (codes "~ a b; eval") fresh [] (codes "no match")
unfolding meant ran
eval_of_nothing = (refl, refl)

-- it is looked for in the path and read to its end
a_file_is_run_with_its_arguments :
    Performs (codes ". lib q") fresh
    (open_file (codes "/bin/lib") Read ▸ file 3
    ∷ read 3 ▸ bytes (codes "echo $1")
    ∷ read 3 ▸ bytes []
    ∷ close 3 ▸ done
    ∷ runs (codes "echo") (codes "q" ∷ []) usual 7 0)
    []
unfolding meant ran
a_file_is_run_with_its_arguments = (refl, refl)

-- no other is in the path
a_file_that_does_not_open :
    Performs (codes ". lib") fresh
    (open_file (codes "/bin/lib") Read ▸ refused Other ∷ [])
    (codes "cannot open")
unfolding meant ran
a_file_that_does_not_open = (refl, refl)

-- it is closed, and nothing is run
a_file_that_cannot_be_read :
    Performs (codes ". ./lib") fresh
    (open_file (codes "./lib") Read ▸ file 3
    ∷ read 3 ▸ bytes (codes "exit 1")
    ∷ read 3 ▸ refused Other
    ∷ close 3 ▸ done ∷ [])
    (codes "cannot read")
unfolding meant ran
a_file_that_cannot_be_read = (refl, refl)

-- it is closed
a_file_with_a_wrong_text :
    Performs (codes ". ./lib") fresh
    (open_file (codes "./lib") Read ▸ file 3
    ∷ read 3 ▸ bytes (codes "(")
    ∷ read 3 ▸ bytes []
    ∷ close 3 ▸ done ∷ [])
    (codes "syntax error")
unfolding meant ran
a_file_with_a_wrong_text = (refl, refl)

-- it is closed before it is run
exit_in_a_file_ends_the_shell :
    Performs (codes ". ./lib; c") fresh
    (open_file (codes "./lib") Read ▸ file 3
    ∷ read 3 ▸ bytes (codes "exit 1")
    ∷ read 3 ▸ bytes []
    ∷ close 3 ▸ done ∷ [])
    (codes "1")
unfolding meant ran
exit_in_a_file_ends_the_shell = (refl, refl)

-- usage
a_dot_needs_a_file : Performs (codes ".") fresh [] (codes "usage")
unfolding meant ran
a_dot_needs_a_file = (refl, refl)

-- a function of the name is not called
builtin_ignores_functions : Performs (codes "fn cd {c}; builtin cd /t") fresh (change_dir (codes "/t") ▸ done ∷ []) []
unfolding meant ran
builtin_ignores_functions = (refl, refl)

-- a program by its name
builtin_runs_programs_too :
    Performs (codes "fn c {d}; builtin c") fresh
    (runs (codes "c") [] (codes "fn#c=rc1;s1,;c1,w1:d" ∷ usual) 1 0)
    []
unfolding meant ran
builtin_runs_programs_too = (refl, refl)

-- in the order of `$cdpath`
cd_tries_each_directory :
    Performs (codes "cd src") (with_value fresh (codes "cdpath") (codes "/a" ∷ codes "/b" ∷ []))
    (change_dir (codes "/a/src") ▸ refused Other ∷ change_dir (codes "/b/src") ▸ done ∷ [])
    []
unfolding meant ran
cd_tries_each_directory = (refl, refl)

-- where nothing is set it is tried as it is
cd_without_a_path : Performs (codes "cd src") fresh (change_dir (codes "src") ▸ refused Other ∷ []) (codes "cannot cd")
unfolding meant ran
cd_without_a_path = (refl, refl)

-- `./x`, `.` and `..` are tried as they are
cd_of_an_own_path :
    Performs (codes "cd ..") (with_value fresh (codes "cdpath") (codes "/a" ∷ []))
    (change_dir (codes "..") ▸ done ∷ [])
    []
unfolding meant ran
cd_of_an_own_path = (refl, refl)

-- the first member of `$home`
cd_without_words_goes_home :
    Performs (codes "cd") (with_value fresh (codes "home") (codes "/h" ∷ codes "/i" ∷ []))
    (change_dir (codes "/h") ▸ done ∷ [])
    []
unfolding meant ran
cd_without_words_goes_home = (refl, refl)

-- there is none
cd_without_a_home : Performs (codes "cd") fresh [] (codes "cannot cd")
unfolding meant ran
cd_without_a_home = (refl, refl)

-- an empty member and `.` give the directory itself
cd_with_this_directory_in_its_path :
    Performs (codes "cd d") (with_value fresh (codes "cdpath") ([] ∷ codes "/a" ∷ codes "." ∷ []))
    (change_dir (codes "d") ▸ refused Other
    ∷ change_dir (codes "/a/d") ▸ refused Other
    ∷ change_dir (codes "d") ▸ refused Other ∷ [])
    (codes "cannot cd")
unfolding meant ran
cd_with_this_directory_in_its_path = (refl, refl)

-- usage
cd_of_two_words : Performs (codes "cd a b") fresh [] (codes "usage")
unfolding meant ran
cd_of_two_words = (refl, refl)

-- nothing after it is run
exec_ends_the_shell : Performs (codes "exec c; d") fresh (runs (codes "c") [] usual 7 0) []
unfolding meant ran
exec_ends_the_shell = (refl, refl)

-- also where the program is missing
exec_ends_the_shell_where_it_failed :
    Performs (codes "exec nope; d") fresh
    (probe (codes "/bin/nope") ▸ refused Other
    ∷ write (Own 2) (codes "rc: nope: not found\n") ▸ done ∷ [])
    (codes "not found")
unfolding meant ran
exec_ends_the_shell_where_it_failed = (refl, refl)

-- and functions
exec_ignores_built_ins :
    Performs (codes "fn cd {d}; exec cd") fresh
    (probe (codes "/bin/cd") ▸ refused Other ∷ write (Own 2) (codes "rc: cd: not found\n") ▸ done ∷ [])
    (codes "not found")
unfolding meant ran
exec_ignores_built_ins = (refl, refl)

-- without one it goes on
exec_needs_a_word : Performs (codes "exec; exit a$status") fresh [] (codes "ausage")
unfolding meant ran
exec_needs_a_word = (refl, refl)

-- without words
exit_keeps_the_status : Performs (codes "~ a b; exit") fresh [] (codes "no match")
unfolding meant ran
exit_keeps_the_status = (refl, refl)

-- past the end it empties `$*`
shift_takes_from_the_front :
    Performs (codes "*=(a b); shift; echo $*; shift 5; exit $#*") fresh
    (runs (codes "echo") (codes "b" ∷ []) usual 7 0)
    (codes "0")
unfolding meant ran
shift_takes_from_the_front = (refl, refl)

-- two of three are taken
shift_leaves_the_last_members : Performs (codes "*=(a b c); shift 2; exit $*") fresh [] (codes "c")
unfolding meant ran
shift_leaves_the_last_members = (refl, refl)

-- usage, and nothing is taken
shift_needs_a_number : Performs (codes "shift a") fresh [] (codes "usage")
unfolding meant ran
shift_needs_a_number = (refl, refl)

-- usage
shift_of_two_words : Performs (codes "*=(a b); shift 1 1; exit $#* $status") fresh [] (codes "2 usage")
unfolding meant ran
shift_of_two_words = (refl, refl)

-- usage
wait_needs_a_number : Performs (codes "wait a") fresh [] (codes "usage")
unfolding meant ran
wait_needs_a_number = (refl, refl)

-- the status is null
wait_without_children : Performs (codes "~ a b; wait") fresh [] []
unfolding meant ran
wait_without_children = (refl, refl)

-- in one write
whatis_shows_values_and_functions :
    Performs (codes "x=(a 'b c'); fn f {echo hi}; whatis x f cd") fresh
    (write (Own 1) (codes "x=(a 'b c')\nfn f {echo hi}\nbuiltin cd\n") ▸ done ∷ [])
    []
unfolding meant ran
whatis_shows_values_and_functions = (refl, refl)

-- a missing one is the status; names are in order
whatis_shows_programs :
    Performs (codes "fn f g {}; fn f; whatis f g h; exit $status") fresh
    (probe (codes "/bin/f") ▸ refused Other
    ∷ probe (codes "/bin/h") ▸ found Program
    ∷ write (Own 1) (codes "fn g {}\n/bin/h\n") ▸ done ∷ [])
    (codes "not found")
unfolding meant ran
whatis_shows_programs = (refl, refl)

-- the status says so
whatis_of_a_refused_write :
    Performs (codes "fn f {echo hi}; whatis f") fresh
    (write (Own 1) (codes "fn f {echo hi}\n") ▸ refused Other ∷ [])
    (codes "cannot write")
unfolding meant ran
whatis_of_a_refused_write = (refl, refl)

-- a body that can not be printed is left out
whatis_of_a_here_document : Performs (codes "fn f {c <<E\nt\nE\n}; whatis f") fresh [] (codes "here document")
unfolding meant ran
whatis_of_a_here_document = (refl, refl)

-- a name may be both
whatis_shows_a_variable_and_its_function :
    Performs (codes "x=''; fn x {}; whatis x") fresh
    (write (Own 1) (codes "x=''\nfn x {}\n") ▸ done ∷ [])
    []
unfolding meant ran
whatis_shows_a_variable_and_its_function = (refl, refl)

-- keywords and other characters
whatis_quotes_what_needs_it :
    Performs (codes "x=(for 'it''s' a/b.c); whatis x") fresh
    (write (Own 1) (codes "x=('for' 'it''s' a/b.c)\n") ▸ done ∷ [])
    []
unfolding meant ran
whatis_quotes_what_needs_it = (refl, refl)

-- there are no lines
whatis_of_nothing : Performs (codes "~ a b; whatis") fresh [] []
unfolding meant ran
whatis_of_nothing = (refl, refl)

-- the status is a variable
whatis_of_the_status : Performs (codes "whatis status") fresh (write (Own 1) (codes "status=''\n") ▸ done ∷ []) []
unfolding meant ran
whatis_of_the_status = (refl, refl)

-- a path is shown without a probe
whatis_of_a_path : Performs (codes "whatis ./x") fresh (write (Own 1) (codes "./x\n") ▸ done ∷ []) []
unfolding meant ran
whatis_of_a_path = (refl, refl)

-- a home that is no own path is looked for, too
home_goes_by_the_same_rule :
    Performs (codes "cd") (with_value (with_value fresh (codes "cdpath") (codes "/a" ∷ [])) (codes "home") (codes "d" ∷ []))
    (change_dir (codes "/a/d") ▸ done ∷ [])
    []
unfolding meant ran
home_goes_by_the_same_rule = (refl, refl)

-- `$*` is empty while it is run
a_file_without_arguments_has_none :
    Performs (codes "*=a; . ./lib") fresh
    (open_file (codes "./lib") Read ▸ file 3
    ∷ read 3 ▸ bytes (codes "exit $#*")
    ∷ read 3 ▸ bytes []
    ∷ close 3 ▸ done ∷ [])
    (codes "0")
unfolding meant ran
a_file_without_arguments_has_none = (refl, refl)
