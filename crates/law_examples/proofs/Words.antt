-- Words, quotes and comments.
use Rattle.std.proofs.Common.{refl, ◌∷◌, ◌++◌, []}
use Rattle.std.specs.Prelude.{codes}
use Rattle.rc_model.specs.Run.Calls.{write, done}
use Rattle.rc_model.specs.declared.call.Slot.TheVariants.{Own}
use Rattle.law_examples.specs.Shown.{fresh, with_value, usual, runs, Performs, meant, ran, ◌▸◌}

-- a quote is doubled inside of quotes, and a list goes to each side of a free caret
quotes_are_taken_off_and_a_list_distributes :
    Performs (codes "echo 'it''s'$x.c") (with_value fresh (codes "x") (codes "a" ∷ codes "b" ∷ []))
    (runs (codes "echo") (codes "it'sa.c" ∷ codes "it'sb.c" ∷ []) (usual ++ codes "x=a\u{1}b" ∷ []) 7 0)
    []
unfolding meant ran
quotes_are_taken_off_and_a_list_distributes = (refl, refl)

-- the name of a program may be quoted
a_quoted_name_is_run : Performs (codes "'echo' hi") fresh (runs (codes "echo") (codes "hi" ∷ []) usual 7 0) []
unfolding meant ran
a_quoted_name_is_run = (refl, refl)

-- a command of nine words
nine_words_are_handed_over :
    Performs (codes "echo a b c d e f g h") fresh
    (runs (codes "echo") (codes "a" ∷ codes "b" ∷ codes "c" ∷ codes "d" ∷ codes "e" ∷ codes "f" ∷ codes "g" ∷ codes "h" ∷ []) usual 7 0)
    []
unfolding meant ran
nine_words_are_handed_over = (refl, refl)

-- two lists of nine words are joined word by word
nine_words_are_joined :
    Performs (codes "exit (a b c d e f g h i)^(1 2 3 4 5 6 7 8 9)") fresh
    []
    (codes "a1 b2 c3 d4 e5 f6 g7 h8 i9")
unfolding meant ran
nine_words_are_joined = (refl, refl)

-- a quoted text with a blank is no name
quotes_make_no_name :
    Performs (codes "echo $'a b'") fresh
    (write (Own 2) (codes "rc: bad name\n") ▸ done ∷ [])
    (codes "error")
unfolding meant ran
quotes_make_no_name = (refl, refl)

-- `$'x'` is `$x`
a_quoted_name_is_a_name : Performs (codes "exit $'x'") (with_value fresh (codes "x") (codes "v" ∷ [])) [] (codes "v")
unfolding meant ran
a_quoted_name_is_a_name = (refl, refl)

-- a script of comments and blank lines asks nothing
comments_and_blank_lines_do_nothing : Performs (codes "# note\n\n  # more") fresh [] []
unfolding meant ran
comments_and_blank_lines_do_nothing = (refl, refl)

-- the empty script asks nothing
the_empty_script_does_nothing : Performs [] fresh [] []
unfolding meant ran
the_empty_script_does_nothing = (refl, refl)

-- a command goes on after a backslash and a newline
a_backslash_at_the_end_of_a_line_is_a_blank : Performs (codes "exit a\\\nb") fresh [] (codes "a b")
unfolding meant ran
a_backslash_at_the_end_of_a_line_is_a_blank = (refl, refl)

-- an equals sign and a hash, too
quotes_hold_any_character : Performs (codes "exit 'a=b#c'") fresh [] (codes "a=b#c")
unfolding meant ran
quotes_hold_any_character = (refl, refl)

-- newlines inside of parentheses are blanks
newlines_are_blanks_in_parentheses : Performs (codes "x=(a\nb)\nexit $#x") fresh [] (codes "2")
unfolding meant ran
newlines_are_blanks_in_parentheses = (refl, refl)

-- quotes without a text are one member
an_empty_word_is_a_word : Performs (codes "x=('' '') exit $#x") fresh [] (codes "2")
unfolding meant ran
an_empty_word_is_a_word = (refl, refl)

-- words are texts of UTF-8: é is the bytes c3 a9
accented_letters_are_bytes : Performs (codes "exit Ã©") fresh [] (codes "Ã©")
unfolding meant ran
accented_letters_are_bytes = (refl, refl)
