-- The places of warnings, and where commands begin.
use Rattle.std.specs.Prelude.{List, ℕ, ◌≤◌, length, All, codes}
use Rattle.std.specs.Prelude.{Bool, ◌&&◌, ◌||◌, if◌then◌else◌}
use Rattle.std.specs.Str.{bytes_eq}
use Rattle.rc_warnings.specs.declared.warnings.warning.Warning.{Warning}

-- the place of each warning is in the script
abbrev pub AreIn : List ℕ → List Warning → Type 0
AreIn script warnings = All (λ w. w.place ≤ length script) warnings

-- a command begins after a word: after the `not` of an `if not`, and after a `!` or `@` that begins one
abbrev pub precedes_command : (word : List ℕ) → (is_first follows_if : Bool) → Bool
precedes_command word is_first follows_if =
    if bytes_eq word (codes "not") then follows_if
    else (is_first && (bytes_eq word (codes "!") || bytes_eq word (codes "@")))
