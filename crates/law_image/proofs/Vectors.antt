-- Worked spellings.
use Rattle.std.specs.Prelude.{Result, Ok, Err, codes, ℕ, List, [], ◌∷◌, ◌++◌, map}
use Rattle.std.proofs.Common.{◌≡◌, refl, zero, suc, false}
use Rattle.rc_model.specs.Syntax.Tree.{Node, cmd, none, more}
use Rattle.rc_model.specs.Syntax.Tree as t
use Rattle.std.specs.Str.{is_utf8, chars}
use lib.Utf8.{encode}
use Rattle.rc_model.specs.Handed.TreeReading.{read_tree, cmd_at, arg_at}
use Rattle.rc_model.specs.Handed.Environment.{entry_members}
use Rattle.rc_model.specs.declared.fault.ImageFault.{ImageFault}
use Rattle.rc_model.specs.declared.fault.ImageFault.TheVariants.{BadLength, BadTag, TooDeep, Trailing, Version}

one_word : read_tree (codes "rc1;c1,w1:a") ≡ Ok (t.Simple (more (t.Lit (codes "a") false) none))
unfolding cmd_at arg_at is_utf8 chars encode
one_word = refl

braces : read_tree (codes "rc1;bs1,;c2,w4:echo$w1:x") ≡ Ok (t.Brace (t.Seq (more (t.Item (t.Simple (more (t.Lit (codes "echo") false) (more (t.Var (t.Lit (codes "x") false)) none))) false) none)))
unfolding cmd_at arg_at is_utf8 chars encode
braces = refl

too_few : read_tree (codes "rc1;c1,w2:a") ≡ Err BadLength
unfolding cmd_at arg_at is_utf8 chars encode
too_few = refl

leading_zero : read_tree (codes "rc1;c1,w01:a") ≡ Err BadLength
unfolding cmd_at arg_at is_utf8 chars encode
leading_zero = refl

trailing : read_tree (codes "rc1;c1,w1:ab") ≡ Err Trailing
unfolding cmd_at arg_at is_utf8 chars encode
trailing = refl

version : read_tree (codes "rc2;c1,w1:a") ≡ Err Version
unfolding cmd_at arg_at is_utf8 chars encode
version = refl

nothing : read_tree (codes "rc1;") ≡ Err BadTag
unfolding cmd_at arg_at is_utf8 chars encode
nothing = refl

no_arguments : read_tree (codes "rc1;c0,") ≡ Err BadLength
unfolding cmd_at arg_at is_utf8 chars encode
no_arguments = refl

large : read_tree (codes "rc1;c4294967296,w1:a") ≡ Err BadLength
unfolding cmd_at arg_at is_utf8 chars encode
large = refl

bad_digit : read_tree (codes "rc1;p1,3ee") ≡ Err BadTag
unfolding cmd_at arg_at is_utf8 chars encode
bad_digit = refl

-- the greatest count that is a number, of a list that has no items
more_than_there_are : read_tree (codes "rc1;s4294967295,") ≡ Err BadTag
unfolding cmd_at arg_at is_utf8 chars encode
more_than_there_are = refl

-- a pipeline has at most 63 stages before its last
too_many_stages : read_tree (codes "rc1;p64,") ≡ Err BadLength
unfolding cmd_at arg_at is_utf8 chars encode
too_many_stages = refl

-- the version has no leading zero
version_with_a_zero : read_tree (codes "rc01;c1,w1:a") ≡ Err BadTag
unfolding cmd_at arg_at is_utf8 chars encode
version_with_a_zero = refl

-- a text ends between characters: an accented letter has two bytes
half_a_character : read_tree (codes "rc1;c1,w1:" ++ 195 ∷ 169 ∷ []) ≡ Err BadLength
unfolding cmd_at arg_at is_utf8 chars encode
half_a_character = refl

-- an unquoted word is not empty
an_empty_word : read_tree (codes "rc1;c1,w0:") ≡ Err BadLength
unfolding cmd_at arg_at is_utf8 chars encode
an_empty_word = refl

bangs : ℕ → List ℕ → List ℕ
bangs zero text = text
bangs (suc n) text = 33 ∷ bangs n text

too_deep : read_tree (codes "rc1;" ++ bangs 198 (codes "s1,;c1,w1:a")) ≡ Err TooDeep
unfolding cmd_at arg_at bangs
too_deep = refl

members : entry_members (1 ∷ 2 ∷ 65 ∷ 2 ∷ 66 ∷ 2 ∷ 67 ∷ 2 ∷ []) ≡ [] ∷ (1 ∷ 2 ∷ 2 ∷ 67 ∷ 2 ∷ []) ∷ []
members = refl

-- ** spellings that are cut

-- the proper prefixes of a text, the shortest first
prefixes : List ℕ → List (List ℕ)
prefixes [] = []
prefixes (b ∷ bs) = [] ∷ map (λ front. b ∷ front) (prefixes bs)

-- what is read of each of them
read_prefixes : List ℕ → List (Result (Node cmd) ImageFault)
unfolding cmd_at arg_at is_utf8 chars encode
read_prefixes text = map read_tree (prefixes text)

-- as often the fault
times : ℕ → ImageFault → List (Result (Node cmd) ImageFault)
times zero fault = []
times (suc n) fault = Err fault ∷ times n fault

-- where a tag is wanted, the end is a bad one; where a number, a mark or a text is, a bad length
one_word_cut : read_prefixes (codes "rc1;c1,w1:a") ≡ times 5 BadTag ++ times 2 BadLength ++ times 1 BadTag ++ times 3 BadLength
unfolding prefixes read_prefixes times
one_word_cut = refl

braces_cut : read_prefixes
    (codes "rc1;bs1,;c2,w4:echo$w1:x") ≡ times 6 BadTag ++ times 2 BadLength ++ times 2 BadTag ++ times 2 BadLength ++ times 1 BadTag ++ times 6 BadLength ++ times 2 BadTag ++ times 3 BadLength
unfolding prefixes read_prefixes times
braces_cut = refl
