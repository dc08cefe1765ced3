-- The position of a place in a text: its line, as the definitions of the language have it, and its column in
-- characters.
use Rattle.std.specs.Prelude.{◌≡◌, ℕ, ◌+◌, ◌≤◌, ◌==◌, ◌||◌, if◌then◌else◌, Bool, List, length, take, fold, nat_lt}
use Rattle.rc_model.specs.Syntax.Accepted.{line_of}
use Rattle.rc_check.specs.declared.positions.ReachedPlace.{ReachedPlace}

-- whether a byte begins a character
abbrev pub begins_char : ℕ → Bool
begins_char b = nat_lt b 128 || nat_lt 191 b

-- the line after a byte
abbrev pub next_line : ℕ → ℕ → ℕ
next_line line b = if b == 10 then line + 1 else line

-- the column after a byte: the first one after a newline, and one more after the first byte of any other character
abbrev pub next_column : ℕ → ℕ → ℕ
next_column column b = if b == 10 then 1 else (if begins_char b then column + 1 else column)

-- the column of a place: the one after the bytes before it, starting from 1
abbrev pub column_of : List ℕ → ℕ → ℕ
column_of text place = fold next_column 1 (take place text)

-- The place is in the text, or its end, and is on this line.
pub record IsOnLine (text : List ℕ) (line : ℕ) (place : ℕ) : Type 0 where
  pub within : place ≤ length text
  pub line_is : line_of text place ≡ line

-- The place is in the text, or its end, and has this line and this column, which are bounded by it.
pub record IsReachedPlace (text : List ℕ) (reached : ReachedPlace) : Type 0 where
  pub within : reached.place ≤ length text
  pub line_is : reached.position.line ≡ line_of text reached.place
  pub column_is : reached.position.column ≡ column_of text reached.place
  pub line_bound : reached.position.line ≤ reached.place + 1
  pub column_bound : reached.position.column ≤ reached.place + 1
