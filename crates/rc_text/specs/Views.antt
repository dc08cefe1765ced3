-- The marks of a text, and the word that they make of it.
use Rattle.std.specs.Prelude.{◌≡◌, ℕ, Bool, true, false, not, List, ◌++◌, ◌⊎◌, length, map}
use Rattle.std.proofs.Common.{inl, inr}
use Rattle.std.specs.Str.{chars, IsUtf8}
use Rattle.rc_model.specs.Syntax.Words.{Word, has_pattern}
use Rattle.rc_text.specs.Literals.{marks}
use Rattle.rc_text.specs.Runs.{marked_runs, AreRuns}
use Rattle.rc_text.specs.declared.words.marks.MarkRoom.{MarkRoom}
use Rattle.rc_text.specs.declared.words.marks.MarkRoom.TheVariants.{Few, Many, Pattern}

-- the runs that stand in this room, or the characters with their marks
abbrev pub marks_in : MarkRoom → (Bool × List ℕ) ⊎ Word
marks_in (Few runs) = inl runs
marks_in (Many runs) = inl runs.value
marks_in (Pattern chars) = inr (marks chars.value.items)

-- there are runs
abbrev pub HasRuns : (Bool × List ℕ) ⊎ Word → Type 0
HasRuns (inl runs) = Unit {0}
HasRuns (inr word) = ⊥

-- there are characters with their marks
abbrev pub HasPattern : (Bool × List ℕ) ⊎ Word → Type 0
HasPattern (inl runs) = ⊥
HasPattern (inr word) = Unit {0}

-- the word of a text with these marks
abbrev pub word_of : (text : List ℕ) → (Bool × List ℕ) ⊎ Word → Word
word_of text (inl runs) = marked_runs runs.0 runs.1 text
word_of text (inr word) = word

-- whether a literal with these marks is quoted
abbrev pub is_quoted_by : (Bool × List ℕ) ⊎ Word → Bool
is_quoted_by (inl runs) = not runs.0
is_quoted_by (inr word) = false

-- The marks fit the text: the runs are parts of it without a pattern character, and the characters with their marks are
-- its own, with a pattern character among them.
abbrev pub AreMarked : (text : List ℕ) → (Bool × List ℕ) ⊎ Word → Type 0
AreMarked text (inl runs) = AreRuns runs.1 text × (has_pattern (marked_runs runs.0 runs.1 text) ≡ false)
AreMarked text (inr word) = (map (λ m. m.0) word ≡ chars text) × (has_pattern word ≡ true)

-- the marks of two texts, of which the first has this many bytes, as those of one
abbrev pub AreMarkedAsOne : (left : (Bool × List ℕ) ⊎ Word) (end : ℕ) (right all : (Bool × List ℕ) ⊎ Word) → Type 0
AreMarkedAsOne left end right all =
    (t v : List ℕ) → length t ≡ end → IsUtf8 t → IsUtf8 v → AreMarked t left → AreMarked v right →
    AreMarked (t ++ v) all × (word_of (t ++ v) all ≡ word_of t left ++ word_of v right)
