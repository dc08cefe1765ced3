-- The characters of a word without their marks.
use Rattle.std.specs.Prelude.{ℕ, Bool, List, map}
use Rattle.rc_text.specs.declared.words.literal.Ch.{Ch}
use Rattle.rc_text.specs.Literals.{marks}

-- the characters without their marks
abbrev pub characters : List Ch → List ℕ
characters word = map (λ (m : ℕ × Bool). m.0) (marks word)
