-- Here documents: the pieces of a body.
use Rattle.std.specs.Prelude.{ℕ, Bool, true, false, if◌then◌else◌, ◌==◌, List, [], ◌∷◌, ◌++◌}
use Rattle.std.specs.Char.{encode_utf8}
use Rattle.std.specs.Str.{chars}
use Rattle.rc_model.specs.Syntax.Tokens.{is_name_char}
use Rattle.rc_model.specs.Syntax.Tree.{Many, none, snoc}
use Rattle.rc_model.specs.Syntax.Tree as t

-- what has begun: a text, a text followed by a `$`, or a name
pub data PieceSoFar : Type 0 where
  Plain : (text : List ℕ) → PieceSoFar
  Dollar : (text : List ℕ) → PieceSoFar
  Naming : (name : List ℕ) → PieceSoFar

-- the pieces with this text after them, unless it is empty
abbrev pub with_text : Many t.piece → List ℕ → Many t.piece
with_text pieces [] = pieces
with_text pieces (b ∷ bs) = snoc pieces (t.Text (b ∷ bs))

-- what a character begins if nothing has begun
abbrev pub piece_begun_by : ℕ → PieceSoFar
piece_begun_by c = if c == 36 then Dollar [] else Plain (encode_utf8 c)

-- what has begun after one more character: `$$` is `$`, a `$` with no name after it stays, and a `^` after a name is
-- left out
abbrev pub begun_after : PieceSoFar → ℕ → PieceSoFar
begun_after (Plain text) c = if c == 36 then Dollar text else Plain (text ++ encode_utf8 c)
begun_after (Dollar text) c =
    if is_name_char c then Naming (encode_utf8 c) else if c == 36 then Plain (text ++ 36 ∷ [])
    else Plain (text ++ 36 ∷ encode_utf8 c)
begun_after (Naming name) c =
    if is_name_char c then Naming (name ++ encode_utf8 c) else if c == 94 then Plain [] else piece_begun_by c

-- the pieces so far, with the piece that one more character ends
abbrev pub ended_by : PieceSoFar → ℕ → Many t.piece → Many t.piece
ended_by (Plain text) c pieces = pieces
ended_by (Dollar text) c pieces = if is_name_char c then with_text pieces text else pieces
ended_by (Naming name) c pieces = if is_name_char c then pieces else snoc pieces (t.Name name)

-- the pieces so far, with the last one
abbrev pub with_last : PieceSoFar → Many t.piece → Many t.piece
with_last (Plain text) pieces = with_text pieces text
with_last (Dollar text) pieces = with_text pieces (text ++ 36 ∷ [])
with_last (Naming name) pieces = snoc pieces (t.Name name)

-- the pieces so far, with those of the characters that follow
abbrev pub pieces_from : PieceSoFar → Many t.piece → List ℕ → Many t.piece
pieces_from begun pieces [] = with_last begun pieces
pieces_from begun pieces (c ∷ cs) = pieces_from (begun_after begun c) (ended_by begun c pieces) cs

-- The pieces of a body: after a quoted mark the text as it is, else the longest texts between names.
abbrev pub pieces_of : (quoted : Bool) → List ℕ → Many t.piece
pieces_of true body = with_text none body
pieces_of false body = pieces_from (Plain []) none (chars body)
