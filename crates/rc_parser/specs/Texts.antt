-- The texts of lexemes.
use Rattle.std.specs.Prelude.{Bool, true, List}
use Rattle.std.specs.List.{list_all}
use Rattle.std.specs.Str.{is_utf8}
use Rattle.rc_model.specs.Syntax.Tokens.{Lexeme, Word, Quoted, HereDoc, Name}

-- whether what a lexeme says is text
abbrev pub has_text : Lexeme → Bool
has_text (Word text) = is_utf8 text
has_text (Quoted text) = is_utf8 text
has_text (HereDoc quoted body) = is_utf8 body
has_text (Name text) = is_utf8 text
has_text _ = true

-- whether what all of them say is
abbrev pub have_texts : List Lexeme → Bool
have_texts ls = list_all has_text ls
