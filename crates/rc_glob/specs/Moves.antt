-- The next move of a match.
use Rattle.std.specs.Prelude.{◌<◌, ℕ, List, length, Option, Some, None}
use Rattle.std.specs.Borrow.{Bor}
use Rattle.std.specs.Str.{chars, IsUtf8}
use Rattle.rc_model.specs.Syntax.Words.{Word}
use Rattle.rc_model.specs.Mirrors.Greedy as greedy
use Rattle.rc_text.specs.declared.words.literal.Ch.{Ch}
use Rattle.rc_text.specs.Literals.{marks}
use Rattle.rc_glob.specs.declared.matching.Move.{Move}
use Rattle.rc_glob.specs.declared.matching.Move.TheVariants.{PastStar, PastOne, AtEnd, Miss}

-- the members of a class and what follows its `]`
abbrev pub parts_of : Option (Bor (List Ch) × Bor (List Ch)) → Option (Word × Word)
parts_of None = None
parts_of (Some p) = Some (marks p.0.now, marks p.1.now)

-- a move with its word and its text as characters
abbrev pub move_of : Move → greedy.Move
move_of (PastStar word) = greedy.PastStar (marks word.now)
move_of (PastOne c word text) = greedy.PastOne c (marks word.now) (chars text.now)
move_of AtEnd = greedy.AtEnd
move_of Miss = greedy.Miss

-- after a move less of the word is left, and after a character less of the text
abbrev pub LeavesLess : Move → List Ch → List ℕ → Type 0
LeavesLess (PastStar rest) word text = length rest.now < length word
LeavesLess (PastOne c rest more) word text =
    (length rest.now < length word) × (length more.now < length text) × IsUtf8 more.now
LeavesLess AtEnd word text = Unit {0}
LeavesLess Miss word text = Unit {0}
