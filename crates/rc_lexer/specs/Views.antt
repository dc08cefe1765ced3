-- This crate's tokens, as the definitions see them. A token's text is the slice of the script at its span.
use Rattle.std.specs.Prelude.{ℕ, List, map, slice_range}
use Rattle.rc_model.specs.Syntax.Tokens as model
use Rattle.rc_model.specs.Syntax.Tokens.{unquoted_text}
use Rattle.rc_lexer.specs.declared.Span.{Span}
use Rattle.rc_lexer.specs.declared.TokenKind.{TokenKind}
use Rattle.rc_lexer.specs.declared.TokenKind.TheVariants.{Word, Quoted, Semicolon, Ampersand, Newline, AndAnd, OrOr}
use Rattle.rc_lexer.specs.declared.TokenKind.TheVariants.{Bar, Caret, FreeCaret, Equals}
use Rattle.rc_lexer.specs.declared.TokenKind.TheVariants.{LeftParen, RightParen}
use Rattle.rc_lexer.specs.declared.TokenKind.TheVariants.{LeftBrace, RightBrace, Backquote, Redirection}
use Rattle.rc_lexer.specs.declared.TokenKind.TheVariants.{CopyTo, HereDoc, Dollar}
use Rattle.rc_lexer.specs.declared.TokenKind.TheVariants.{DollarCount, DollarFlat, Name, Subscript, BareDollar}
use Rattle.rc_lexer.specs.declared.TokenKind.TheVariants.{BareHere}
use Rattle.rc_lexer.specs.declared.Token.{Token}

-- the slice of a script at a span
abbrev pub slice_at : List ℕ → Span → List ℕ
slice_at script span = slice_range script span.start span.stop

-- the lexeme of a token of this kind, with this text at its span
abbrev pub lexeme_of : List ℕ → TokenKind → List ℕ → model.Lexeme
lexeme_of script Word text = model.Word text
lexeme_of script Quoted text = model.Quoted (unquoted_text text)
lexeme_of script Semicolon text = model.Semicolon
lexeme_of script Ampersand text = model.Ampersand
lexeme_of script Newline text = model.Newline
lexeme_of script AndAnd text = model.AndAnd
lexeme_of script OrOr text = model.OrOr
lexeme_of script (Bar slot) text = model.Bar slot
lexeme_of script Caret text = model.Caret
lexeme_of script FreeCaret text = model.FreeCaret
lexeme_of script Equals text = model.Equals
lexeme_of script LeftParen text = model.LeftParen
lexeme_of script RightParen text = model.RightParen
lexeme_of script LeftBrace text = model.LeftBrace
lexeme_of script RightBrace text = model.RightBrace
lexeme_of script Backquote text = model.Backquote
lexeme_of script (Redirection mode slot) text = model.Redirection mode slot
lexeme_of script (CopyTo to from) text = model.CopyTo to from
lexeme_of script (HereDoc is_quoted body) text = model.HereDoc is_quoted (slice_at script body)
lexeme_of script Dollar text = model.Dollar
lexeme_of script DollarCount text = model.DollarCount
lexeme_of script DollarFlat text = model.DollarFlat
lexeme_of script Name text = model.Name text
lexeme_of script Subscript text = model.Subscript
lexeme_of script BareDollar text = model.BareDollar
lexeme_of script BareHere text = model.BareHere

-- the token of a script that a value represents
abbrev pub token_of : List ℕ → Token → model.Token
token_of script t =
    record {
      lexeme = lexeme_of script t.kind (slice_at script t.span);
      start = t.span.start;
      stop = t.span.stop;
      line = t.line;
    }

-- the tokens of a script that values represent
abbrev pub tokens_of : List ℕ → List Token → List model.Token
tokens_of script ts = map (λ t. token_of script t) ts
