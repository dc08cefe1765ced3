-- Worked words, entries and launches.
use Rattle.std.specs.Prelude.{Option, Some, None, Result, Ok, Err, codes, ℕ, List, [], ◌∷◌, ◌++◌, true}
use Rattle.std.proofs.Common.{◌≡◌, refl, zero, suc, false}
use Rattle.std.specs.Fmt.{digits}
use Rattle.std.specs.Str.{is_utf8, chars}
use lib.Utf8.{encode}
use Rattle.rc_model.specs.Syntax.Tree.{Node, cmd, none, more}
use Rattle.rc_model.specs.Syntax.Tree as t
use Rattle.rc_model.specs.Run.State.{State, new_state, push_local, set_value, define}
use Rattle.rc_model.specs.Handed.Pieces.{pieces, last_cut, words_of}
use Rattle.rc_model.specs.Handed.Image.{node_image, many_image, entries, shell_args}
use Rattle.rc_model.specs.Handed.TreeReading.{cmd_at, arg_at}
use Rattle.rc_model.specs.Handed.WordsReading.{Taken, read_words, read_pieces}
use Rattle.rc_model.specs.Handed.Environment.{fresh_state, read_state}
use Rattle.rc_model.specs.Handed.Arguments.{reads}
use Rattle.rc_model.specs.declared.fault.ImageFault.{ImageFault}
use Rattle.rc_model.specs.declared.fault.ImageFault.TheVariants.{BadLength, BadTag, Version}

-- a command of one word, and its spelling
command : List ℕ → Node cmd
command word = t.Simple (more (t.Lit word false) none)

-- ** words, where they are at most so long

cut : ℕ → List ℕ → Option (List (List ℕ))
unfolding pieces last_cut digits
cut limit text = words_of limit text

taken : ℕ → List (List ℕ) → Taken
unfolding pieces last_cut digits cmd_at arg_at is_utf8 chars encode
taken limit words = read_words limit words

in_one : cut 11 (codes "c1,w1:a") ≡ Some (codes "rc1;c1,w1:a" ∷ [])
unfolding cut
in_one = refl

in_one_piece : cut 10 (codes "c1,w1:a") ≡ Some (codes "rc2;1" ∷ codes "c1,w1:a" ∷ [])
unfolding cut
in_one_piece = refl

in_two_pieces : cut 6 (codes "c1,w1:a") ≡ Some (codes "rc2;2" ∷ codes "c1,w1:" ∷ codes "a" ∷ [])
unfolding cut
in_two_pieces = refl

-- a piece ends between characters
accented : List ℕ
accented = codes "c1,w2:" ++ 195 ∷ 169 ∷ []

between_characters : cut 7 accented ≡ Some (codes "rc2;2" ∷ codes "c1,w2:" ∷ (195 ∷ 169 ∷ []) ∷ [])
unfolding cut accented
between_characters = refl

letters : ℕ → List ℕ
letters zero = []
letters (suc n) = 97 ∷ letters n

each : List ℕ → List (List ℕ)
each [] = []
each (b ∷ bs) = (b ∷ []) ∷ each bs

sixteen : cut 1 (letters 16) ≡ Some (codes "rc2;16" ∷ each (letters 16))
unfolding cut letters each
sixteen = refl

seventeen : cut 1 (letters 17) ≡ None
unfolding cut letters
seventeen = refl

one_back : taken 11 (codes "rc1;c1,w1:a" ∷ codes "x" ∷ []) ≡ Ok (command (codes "a"), 1)
unfolding taken command
one_back = refl

two_back : taken 7 (codes "rc2;2" ∷ codes "c1,w2:" ∷ (195 ∷ 169 ∷ []) ∷ codes "x" ∷ []) ≡ Ok (command (195 ∷ 169 ∷ []), 3)
unfolding taken command
two_back = refl

inside_a_character : taken 7 (codes "rc2;2" ∷ (codes "c1,w2:" ++ 195 ∷ []) ∷ (169 ∷ []) ∷ []) ≡ Err BadLength
unfolding taken
inside_a_character = refl

too_short_a_piece : taken 6 (codes "rc2;2" ∷ codes "c1,w1" ∷ codes ":a" ∷ []) ≡ Err BadLength
unfolding taken
too_short_a_piece = refl

an_empty_piece : taken 7 (codes "rc2;2" ∷ codes "c1,w1:a" ∷ [] ∷ []) ≡ Err BadLength
unfolding taken
an_empty_piece = refl

too_long_a_word : taken 10 (codes "rc1;c1,w1:a" ∷ []) ≡ Err BadLength
unfolding taken
too_long_a_word = refl

bad_tree : taken 6 (codes "rc2;2" ∷ codes "z1,w1:" ∷ codes "a" ∷ []) ≡ Err BadTag
unfolding taken
bad_tree = refl

-- ** words of the true length

read : List (List ℕ) → Taken
unfolding digits cmd_at arg_at is_utf8 chars encode
read words = read_pieces words

no_word : read [] ≡ Err BadTag
unfolding read
no_word = refl

no_semicolon : read (codes "rc2" ∷ []) ≡ Err BadTag
unfolding read
no_semicolon = refl

other_version : read (codes "rc3;1" ∷ []) ≡ Err Version
unfolding read
other_version = refl

no_number : read (codes "rc2;c1,w1:a" ∷ []) ≡ Err BadLength
unfolding read
no_number = refl

no_piece : read (codes "rc2;0" ∷ []) ≡ Err BadLength
unfolding read
no_piece = refl

leading_zero : read (codes "rc2;01" ∷ codes "c1,w1:a" ∷ []) ≡ Err BadLength
unfolding read
leading_zero = refl

too_many : read (codes "rc2;17" ∷ []) ≡ Err BadLength
unfolding read
too_many = refl

after_number : read (codes "rc2;1x" ∷ []) ≡ Err BadLength
unfolding read
after_number = refl

too_few : read (codes "rc2;2" ∷ codes "c1,w1:a" ∷ []) ≡ Err BadLength
unfolding read
too_few = refl

short_enough_for_one : read (codes "rc2;1" ∷ codes "c1,w1:a" ∷ []) ≡ Err BadLength
unfolding read
short_enough_for_one = refl

-- ** entries

state_read : List (List ℕ) → Result State ImageFault
unfolding cmd_at arg_at is_utf8 chars encode
state_read given = read_state true [] given

bad_body : state_read (codes "fn#f=rc1;" ∷ []) ≡ Err BadTag
unfolding state_read
bad_body = refl

first_of_a_name : state_read (codes "fn#f=rc1;c1,w1:a" ∷ codes "fn#f=x" ∷ []) ≡ Ok (fresh_state [] ((codes "f", command (codes "a")) ∷ []) [])
unfolding state_read command
first_of_a_name = refl

ignored : state_read (codes "fn#=x" ∷ codes "a-b=c" ∷ codes "=d" ∷ codes "e" ∷ []) ≡ Ok (fresh_state [] [] [])
unfolding state_read
ignored = refl

stands_for_itself : state_read ((codes "x=" ++ 2 ∷ 67 ∷ []) ∷ []) ≡ Ok (fresh_state ((codes "x", ((2 ∷ 67 ∷ []) ∷ []) ∷ []) ∷ []) [] [])
unfolding state_read
stands_for_itself = refl

two_members : state_read ((codes "x=" ++ 2 ∷ 1 ∷ 2 ∷ []) ∷ []) ≡ Ok (fresh_state ((codes "x", ((2 ∷ []) ∷ (2 ∷ []) ∷ []) ∷ []) ∷ []) [] [])
unfolding state_read
two_members = refl

an_empty_member : state_read (codes "x=" ∷ []) ≡ Ok (fresh_state ((codes "x", ([] ∷ []) ∷ []) ∷ []) [] [])
unfolding state_read
an_empty_member = refl

not_own : read_state false [] (codes "fn#f=x" ∷ codes "status=1" ∷ []) ≡ Ok (fresh_state [] [] [])
not_own = refl

-- a local without members covers what is beneath it
covered : entries (push_local (set_value new_state (codes "x") (codes "1" ∷ [])) (codes "x") []) ≡ codes "status=" ∷ []
covered = refl

in_order : entries (define (set_value new_state (codes "path") (codes "/bin" ∷ [])) (codes "f") t.Empty) ≡ codes "fn#f=rc1;e" ∷ codes "path=/bin" ∷ codes "status=" ∷ []
unfolding node_image
in_order = refl

-- ** launches

args : Node cmd → State → List (List ℕ)
unfolding digits node_image many_image
args c s = shell_args c s

strict_args : args (command (codes "a")) (record (set_value new_state (codes "*") (codes "p" ∷ [])) { strict = true }) ≡ codes "-e" ∷ codes "-S" ∷ codes "rc1;c1,w1:a" ∷ codes "p" ∷ []
unfolding args command
strict_args = refl

both_read : List (List ℕ) → List (List ℕ) → Option (Node cmd × State)
unfolding digits cmd_at arg_at is_utf8 chars encode
both_read words given = reads words given

strict_read : both_read (codes "-e" ∷ codes "-S" ∷ codes "rc1;c1,w1:a" ∷ codes "p" ∷ []) (codes "status=1" ∷ [])
    ≡ Some (command (codes "a"), record (fresh_state ((codes "*", (codes "p" ∷ []) ∷ []) ∷ []) [] (codes "1")) { strict = true })
unfolding both_read command
strict_read = refl

no_image : both_read (codes "-e" ∷ codes "rc1;c1,w1:a" ∷ []) [] ≡ None
unfolding both_read
no_image = refl
