-- A text is read in pieces.
use Rattle.std.proofs.Common.{◌≡◌, ℕ, List, [], ◌∷◌, ◌++◌, refl, sym, ap, ◌∙◌}
use Rattle.std.specs.Prelude.{Ok, Err}
use Rattle.rc_model.specs.Syntax.Tokens as t
use Rattle.rc_model.specs.Syntax.Tokens.{Token, PendingHereDoc, Outcome}
use Rattle.rc_model.specs.Mirrors.Reading.{LexerState, AfterCharacter, follow}
use Rattle.law_syntax.proofs.Steps.{join_nil, join_join}
use Rattle.law_syntax.specs.ByteReading as bytes
use Rattle.law_syntax.specs.ByteReading.{after_byte, after_bytes, put, chain, through}
use Rattle.law_syntax.specs.ByteLaws.{PiecesLaw}

-- what follows a step with others before it
pub follow_put : (ts : List Token) (bodies : List (List ℕ)) (x : AfterCharacter) (f : LexerState → List PendingHereDoc → Outcome) →
    follow (put ts bodies x) f ≡ t.join ts bodies (follow x f)
follow_put ts bodies (Ok x) f = join_join ts x.0 bodies x.1 (f x.2 x.3)
follow_put ts bodies (Err e) f = refl

follow_chain : (x : AfterCharacter) (g : LexerState → List PendingHereDoc → AfterCharacter) (f h : LexerState → List PendingHereDoc → Outcome) →
    ((s : LexerState) (due : List PendingHereDoc) → h s due ≡ follow (g s due) f) → follow x h ≡ follow (chain x g) f
follow_chain (Ok x) g f h e = ap (t.join x.0 x.1) (e x.2 x.3) ∙ sym (follow_put x.0 x.1 (g x.2 x.3) f)
follow_chain (Err e) g f h k = refl

pub law : PiecesLaw
law s due p [] rest = sym (join_nil (bytes.run s due p rest))
law s due p (b ∷ bs) rest =
    follow_chain (bytes.step s due p b (t.class_of b)) (λ s' due'. through s' due' (after_byte p b) bs)
    (λ s' due'. bytes.run s' due' (after_bytes (after_byte p b) bs) rest) (λ s' due'. bytes.run s' due' (after_byte p b) (bs ++ rest))
    (λ s' due'. law s' due' (after_byte p b) bs rest)
