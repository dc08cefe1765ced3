-- How keywords begin.
use Rattle.std.specs.Prelude.{ℕ, Bool, false, ◌==◌, ◌||◌, if◌then◌else◌}

-- whether a keyword has this length and begins with this byte: ~, !, @, i, f, n, w or s
abbrev pub begins_keyword : (length first : ℕ) → Bool
begins_keyword n b =
    if (b == 126) || (b == 33) || (b == 64) then n == 1
    else if b == 105 then n == 2
    else if b == 102 then (n == 2) || (n == 3)
    else if b == 110 then n == 3
    else if b == 119 then n == 5
    else if b == 115 then n == 6
    else false
