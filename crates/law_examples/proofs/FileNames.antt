-- File names.
use Rattle.std.proofs.Common.{refl, ◌∷◌, ◌++◌, []}
use Rattle.std.specs.Prelude.{codes}
use Rattle.rc_model.specs.Run.Calls.{write, list_names, probe, done, names, found, refused}
use Rattle.rc_model.specs.declared.call.Slot.TheVariants.{Own}
use Rattle.rc_model.specs.declared.call.Kind.TheVariants.{Directory, Other as OtherKind}
use Rattle.rc_model.specs.declared.call.Fault.TheVariants.{Other}
use Rattle.law_examples.specs.Shown.{fresh, usual, runs, Performs, meant, ran, ◌▸◌}

-- a quoted star is no pattern; `.h` matches, and what is no name is left out
names_are_sorted_and_hidden_ones_match :
    Performs (codes "x='*'; echo $x *") fresh
    (list_names (codes ".") ▸ names (codes "b" ∷ codes "a" ∷ codes ".h" ∷ codes "x/y" ∷ [])
    ∷ runs (codes "echo") (codes "*" ∷ codes ".h" ∷ codes "a" ∷ codes "b" ∷ []) (usual ++ codes "x=*" ∷ []) 7 0)
    []
unfolding meant ran
names_are_sorted_and_hidden_ones_match = (refl, refl)

-- the word stands for itself
a_refused_listing_leaves_the_word :
    Performs (codes "x='*'; echo $x *") fresh
    (list_names (codes ".") ▸ refused Other
    ∷ runs (codes "echo") (codes "*" ∷ codes "*" ∷ []) (usual ++ codes "x=*" ∷ []) 7 0)
    []
unfolding meant ran
a_refused_listing_leaves_the_word = (refl, refl)

-- each path with all its calls before the next
plain_parts_after_a_pattern_are_probed :
    Performs (codes "echo d*/f") fresh
    (list_names (codes ".") ▸ names (codes "d2" ∷ codes "d1" ∷ codes "e" ∷ [])
    ∷ probe (codes "d1/f") ▸ refused Other
    ∷ probe (codes "d2/f") ▸ found OtherKind
    ∷ runs (codes "echo") (codes "d2/f" ∷ []) usual 7 0)
    []
unfolding meant ran
plain_parts_after_a_pattern_are_probed = (refl, refl)

-- a directory is listed with a slash at its end
plain_parts_between_patterns_are_not_probed :
    Performs (codes "echo a*/b/c* 'd*'") fresh
    (list_names (codes ".") ▸ names (codes "a2" ∷ codes "a1" ∷ codes "b" ∷ [])
    ∷ list_names (codes "a1/b/") ▸ refused Other
    ∷ list_names (codes "a2/b/") ▸ names (codes "c" ∷ codes "x" ∷ codes "cc" ∷ [])
    ∷ runs (codes "echo") (codes "a2/b/c" ∷ codes "a2/b/cc" ∷ codes "d*" ∷ []) usual 1 0)
    []
unfolding meant ran
plain_parts_between_patterns_are_not_probed = (refl, refl)

-- names that are empty, `.`, `..` or hold a byte 0 are ignored, and doubles count once
dots_are_no_names :
    Performs (codes "echo *") fresh
    (list_names (codes ".") ▸ names (codes ".." ∷ [] ∷ codes "." ∷ codes "a" ∷ codes "a\0" ∷ codes "a" ∷ [])
    ∷ runs (codes "echo") (codes "a" ∷ []) usual 1 0)
    []
unfolding meant ran
dots_are_no_names = (refl, refl)

-- what stands before the first pattern is taken as it is
an_absolute_pattern :
    Performs (codes "echo /u/*") fresh
    (list_names (codes "/u/") ▸ names (codes "x" ∷ [])
    ∷ runs (codes "echo") (codes "/u/x" ∷ []) usual 1 0)
    []
unfolding meant ran
an_absolute_pattern = (refl, refl)

-- names are looked for when all words are evaluated
file_names_come_after_all_words :
    Performs (codes "echo * $'a b'") fresh
    (write (Own 2) (codes "rc: bad name\n") ▸ done ∷ [])
    (codes "error")
unfolding meant ran
file_names_come_after_all_words = (refl, refl)

-- a value is expanded
file_names_in_an_assignment :
    Performs (codes "x=* exit $x") fresh
    (list_names (codes ".") ▸ names (codes "b" ∷ codes "a" ∷ []) ∷ [])
    (codes "a b")
unfolding meant ran
file_names_in_an_assignment = (refl, refl)

-- so is the list of a loop
file_names_in_a_for :
    Performs (codes "for(x in *) exit $x") fresh
    (list_names (codes ".") ▸ names (codes "b" ∷ codes "a" ∷ []) ∷ [])
    (codes "a")
unfolding meant ran
file_names_in_a_for = (refl, refl)

-- a pattern of `~` stands for no files
no_file_names_in_a_match : Performs (codes "~ a *") fresh [] []
unfolding meant ran
no_file_names_in_a_match = (refl, refl)

-- a question mark stands for no slash
a_pattern_does_not_match_a_slash : Performs (codes "~ a/b a?b") fresh [] []
unfolding meant ran
a_pattern_does_not_match_a_slash = (refl, refl)

-- a word that ends in a slash names what is there
a_trailing_slash :
    Performs (codes "echo d*/") fresh
    (list_names (codes ".") ▸ names (codes "d" ∷ [])
    ∷ probe (codes "d/") ▸ found Directory
    ∷ runs (codes "echo") (codes "d/" ∷ []) usual 1 0)
    []
unfolding meant ran
a_trailing_slash = (refl, refl)
