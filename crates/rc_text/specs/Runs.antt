-- The marks of a text as runs.
use Rattle.std.specs.Prelude.{◌≡◌, ℕ, Bool, not, List, [], ◌∷◌, ◌++◌, ◌+◌, length, map, take, drop}
use Rattle.std.specs.Str.{chars, IsCharBoundary, IsUtf8}
use Rattle.rc_model.specs.Syntax.Words.{Word}

-- a text whose characters all have this mark
abbrev pub with_mark : Bool → (text : List ℕ) → Word
with_mark mark text = map (λ c. (c, mark)) (chars text)

-- The characters of a text in runs of these lengths, which have this mark and the other one in turn. The last run is
-- the rest of the text.
abbrev pub marked_runs : Bool → (lengths text : List ℕ) → Word
marked_runs mark [] text = with_mark mark text
marked_runs mark (n ∷ ns) text = with_mark mark (take n text) ++ marked_runs (not mark) ns (drop n text)

-- the mark of the last run
abbrev pub last_mark : Bool → (lengths : List ℕ) → Bool
last_mark mark [] = mark
last_mark mark (n ∷ ns) = last_mark (not mark) ns

-- where the last run begins
abbrev pub total : (lengths : List ℕ) → ℕ
total [] = 0
total (n ∷ ns) = n + total ns

-- each run ends between two characters of the text
abbrev pub AreRuns : (lengths text : List ℕ) → Type 0
AreRuns [] text = Unit {0}
AreRuns (n ∷ ns) text = IsCharBoundary text n × AreRuns ns (drop n text)

-- the runs of two texts, of which the first has this many bytes, as those of one
abbrev pub AreJoined : (left : Bool × List ℕ) (end : ℕ) (right joined : Bool × List ℕ) → Type 0
AreJoined left end right joined =
    (t v : List ℕ) → length t ≡ end → IsUtf8 t → IsUtf8 v → AreRuns left.1 t → AreRuns right.1 v →
    AreRuns joined.1 (t ++ v)
    × (marked_runs joined.0 joined.1 (t ++ v) ≡ marked_runs left.0 left.1 t ++ marked_runs right.0 right.1 v)
