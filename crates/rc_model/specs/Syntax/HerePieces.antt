-- Which pieces the body of a here document has.
use Rattle.std.specs.Prelude.{◌≡◌, ◌↔◌, ℕ, Bool, true, false, ◌&&◌, ◌==◌, if◌then◌else◌, List, [], ◌∷◌, ◌++◌}
use Rattle.std.specs.List.{list_all}
use Rattle.std.specs.Str.{chars, encode_utf8_all}
use Rattle.rc_model.specs.Syntax.Tokens.{is_name_char}
use Rattle.rc_model.specs.Syntax.Tree.{Many, none, more}
use Rattle.rc_model.specs.Syntax.Tree as t
use Rattle.rc_model.specs.Syntax.HereDocs.{pieces_of}

-- a character of a name comes first
abbrev pub goes_on_name : List ℕ → Bool
goes_on_name [] = false
goes_on_name (c ∷ cs) = is_name_char c

-- a `$` comes first
abbrev pub begins_dollar : List ℕ → Bool
begins_dollar [] = false
begins_dollar (c ∷ cs) = c == 36

-- a text can go no further: nothing is left, or a `$` with a name comes first
abbrev pub ends_text : List ℕ → Bool
ends_text [] = true
ends_text (c ∷ cs) = (c == 36) && goes_on_name cs

-- what is left after a name: a `^` directly after it is left out
abbrev pub past_caret : List ℕ → List ℕ
past_caret [] = []
past_caret (c ∷ cs) = if c == 94 then cs else c ∷ cs

-- The characters before the rest stand for this text: each for itself, `$$` for one `$`, and a `$` for itself if
-- neither a name nor another `$` follows it.
pub data StandFor (rest : List ℕ) : List ℕ → List ℕ → Type 0 where
  ended : StandFor rest rest []
  itself : (c : ℕ) (cs text : List ℕ) → (c == 36) ≡ false → StandFor rest cs text → StandFor rest (c ∷ cs) (c ∷ text)
  doubled : (cs text : List ℕ) → StandFor rest cs text → StandFor rest (36 ∷ 36 ∷ cs) (36 ∷ text)
  alone : (cs text : List ℕ) → goes_on_name cs ≡ false → begins_dollar cs ≡ false → StandFor rest cs text →
      StandFor rest (36 ∷ cs) (36 ∷ text)

-- These characters have these pieces. A text is not empty, and goes on up to the next name or to the end. A name has
-- all characters of a name that come after its `$`, at least one.
pub data HavePieces : List ℕ → Many t.piece → Type 0 where
  end : HavePieces [] none
  a_text : (cs rest : List ℕ) (c : ℕ) (text : List ℕ) (ps : Many t.piece) → StandFor rest cs (c ∷ text) →
      ends_text rest ≡ true → HavePieces rest ps → HavePieces cs (more (t.Text (encode_utf8_all (c ∷ text))) ps)
  a_name : (cs rest : List ℕ) (c : ℕ) (name : List ℕ) (ps : Many t.piece) → cs ≡ 36 ∷ c ∷ name ++ rest →
      list_all is_name_char (c ∷ name) ≡ true → goes_on_name rest ≡ false → HavePieces (past_caret rest) ps →
      HavePieces cs (more (t.Name (encode_utf8_all (c ∷ name))) ps)

-- a body has these pieces: after a quoted mark the text as it is, if it has any
abbrev pub HasPieces : (quoted : Bool) → List ℕ → Many t.piece → Type 0
HasPieces true [] ps = ps ≡ none
HasPieces true (b ∷ bs) ps = ps ≡ more (t.Text (b ∷ bs)) none
HasPieces false body ps = HavePieces (chars body) ps

-- the pieces that are computed are those that the body has
abbrev pub HerePiecesByRule : Type 0
HerePiecesByRule =
    (quoted : Bool) (body : List ℕ) (ps : Many t.piece) → (ps ≡ pieces_of quoted body) ↔ HasPieces quoted body ps
