-- Laws of the machine over bytes.
use Rattle.std.specs.Prelude.{◌≡◌, ℕ, List, ◌++◌}
use Rattle.std.specs.Str.{encode_utf8_all}
use Rattle.rc_model.specs.Syntax.Tokens.{PendingHereDoc}
use Rattle.rc_model.specs.Mirrors.Reading as r
use Rattle.rc_model.specs.Mirrors.Reading.{LexerState, follow}
use Rattle.law_syntax.specs.ByteReading as bytes
use Rattle.law_syntax.specs.ByteReading.{after_bytes, through}
use Rattle.rc_model.specs.declared.syntax.Place.{Place}

-- The bytes of a text are read as its characters are, from each state.
abbrev pub BytesLaw : Type 0
BytesLaw = (s : LexerState) (due : List PendingHereDoc) (p : Place) (cs : List ℕ) →
    bytes.run s due p (encode_utf8_all cs) ≡ r.run s due p cs

-- A text can be read in pieces: the tokens that a first piece ends, and then the reading from the state after it,
-- whatever the rest.
abbrev pub PiecesLaw : Type 0
PiecesLaw = (s : LexerState) (due : List PendingHereDoc) (p : Place) (piece rest : List ℕ) →
    bytes.run s due p (piece ++ rest)
    ≡ follow (through s due p piece) (λ s' due'. bytes.run s' due' (after_bytes p piece) rest)
