-- Texts and lines as a loop over a list writes them, after what is there already.
use Rattle.std.specs.Prelude.{ℕ, List, [], ◌∷◌, ◌++◌, codes}
use Rattle.rc_model.specs.Syntax.Printing.{Line, ended, parting}

-- `between` is before the first text, and `mark` before each further one
abbrev pub led : (between mark : List ℕ) → List (List ℕ) → List ℕ
led between mark [] = []
led between mark (t ∷ ts) = between ++ (t ++ led mark mark ts)

-- each text with a space after it
abbrev pub trailed : List (List ℕ) → List ℕ
trailed [] = []
trailed (t ∷ ts) = t ++ (codes " " ++ trailed ts)

-- `between` is before the first line
abbrev pub lines_after : (between : List ℕ) → List Line → List ℕ
lines_after between [] = []
lines_after between (line ∷ lines) = between ++ (ended line ++ lines_after (parting line) lines)

-- the separator between these lines and the next one
abbrev pub parting_after : (between : List ℕ) → List Line → List ℕ
parting_after between [] = between
parting_after between (line ∷ lines) = parting_after (parting line) lines
