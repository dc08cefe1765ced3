-- Several patterns and a subject of several words.
use Rattle.std.specs.Prelude.{Bool, false, List, map}
use Rattle.std.specs.List.{list_any}
use Rattle.rc_model.specs.Syntax.Words.{Word}
use Rattle.rc_model.specs.Run.Patterns.{matches}

-- one of the patterns matches the word
abbrev pub is_met : List Word → Word → Bool
is_met patterns w = list_any (λ p. matches p (map (λ m. m.0) w) false) patterns
