-- The laws of trees and the words in which they are handed over.
use Rattle.std.specs.Prelude.{◌≡◌, ℕ, ◌≤◌, List, length, take, ◌++◌, Some, Ok, IsTrue, ◌↔◌, IsUtf8}
use Rattle.rc_model.specs.Syntax.Tree.{Node, cmd}
use Rattle.rc_model.specs.Syntax.WellFormed.{well_formed}
use Rattle.rc_model.specs.Handed.Pieces.{longest_word, ArePieces, AreWords, pieces, words_of}
use Rattle.rc_model.specs.Handed.Image.{image_words}
use Rattle.rc_model.specs.Handed.TreeSpelling.{Spells}
use Rattle.rc_model.specs.Handed.WordsReading.{read_pieces}
use Rattle.rc_model.specs.Handed.Proper.{IsProperTree}

-- the pieces of a text are those of the rule, if they are not too many
abbrev pub PiecesByRule : Type 0
PiecesByRule = (most limit : ℕ) (text : List ℕ) (words : List (List ℕ)) → IsUtf8 text →
    (pieces most limit text ≡ Some words) ↔ (ArePieces limit text words × (length words ≤ most))

-- and so are the words
abbrev pub WordsByRule : Type 0
WordsByRule = (limit : ℕ) (text : List ℕ) (words : List (List ℕ)) → IsUtf8 text →
    (words_of limit text ≡ Some words) ↔ AreWords limit text words

-- words that spell a tree
pub record SpellsWords (c : Node cmd) (words : List (List ℕ)) : Type 0 where
  pub text : List ℕ
  pub spelled : Spells c text
  pub cut : AreWords longest_word text words

-- a tree has no words but those of its image
abbrev pub OneListOfWords : Type 0
OneListOfWords = (c : Node cmd) (words : List (List ℕ)) → SpellsWords c words → image_words c ≡ Some words

-- and has those, if there are any
abbrev pub HasWords : Type 0
HasWords = (c : Node cmd) (words : List (List ℕ)) → IsProperTree c → image_words c ≡ Some words → SpellsWords c words

-- words spell at most one tree
abbrev pub OneTreeOfWords : Type 0
OneTreeOfWords = (c d : Node cmd) (words : List (List ℕ)) → SpellsWords c words → SpellsWords d words → c ≡ d

-- the first words are read exactly if they spell a well formed tree
abbrev pub ReadsWords : Type 0
ReadsWords = (words : List (List ℕ)) (c : Node cmd) (n : ℕ) →
    (read_pieces words ≡ Ok (c, n)) ↔ ((n ≤ length words) × SpellsWords c (take n words) × IsTrue (well_formed c))

-- what was written reads back, whatever follows
abbrev pub WordsReadBack : Type 0
WordsReadBack = (c : Node cmd) (words rest : List (List ℕ)) → IsProperTree c → image_words c ≡ Some words →
    read_pieces (words ++ rest) ≡ Ok (c, length words)
