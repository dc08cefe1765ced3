-- What is left of spelled lexemes, once newlines and carets are passed over, is spelled.
use Rattle.std.proofs.Common.{◌≡◌, subst, Bool, true, false, List, [], ◌∷◌, Some}
use Rattle.std.proofs.lemmas.Option.{same_Some}
use Rattle.rc_model.specs.Syntax.Tokens.{Lexeme}
use Rattle.rc_model.specs.Syntax.Tokens as k
use Rattle.rc_model.specs.Syntax.Grammar.{past_newlines, past_caret, past_blanks, after_caret}
use Rattle.rc_model.specs.Mirrors.Spelling.{AreSpelled}

pub past_newlines_spelled : (ts : List Lexeme) → AreSpelled ts → AreSpelled (past_newlines ts)
past_newlines_spelled [] w = w
past_newlines_spelled (k.Newline ∷ ts) w = past_newlines_spelled ts w.1
past_newlines_spelled (l ∷ ts) w = w

pub past_blanks_spelled : (inside : Bool) (ts : List Lexeme) → AreSpelled ts → AreSpelled (past_blanks inside ts)
past_blanks_spelled true ts w = past_newlines_spelled ts w
past_blanks_spelled false ts w = w

pub past_caret_spelled : (ts : List Lexeme) → AreSpelled ts → AreSpelled (past_caret ts)
past_caret_spelled [] w = w
past_caret_spelled (k.FreeCaret ∷ ts) w = w.1
past_caret_spelled (l ∷ ts) w = w

pub after_caret_spelled : (ts next : List Lexeme) → after_caret ts ≡ Some next → AreSpelled ts → AreSpelled next
after_caret_spelled [] next e w = cc
after_caret_spelled (k.Caret ∷ ts) next e w = subst AreSpelled (same_Some _ _ e) w.1
after_caret_spelled (k.FreeCaret ∷ ts) next e w = subst AreSpelled (same_Some _ _ e) w.1
after_caret_spelled (l ∷ ts) next e w = cc
