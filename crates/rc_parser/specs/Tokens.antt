-- How the definitions see tokens that are still to be read.
use Rattle.std.specs.Prelude.{List, drop}
use Rattle.rc_model.specs.Syntax.Tokens.{Lexeme}
use Rattle.rc_model.specs.Syntax.Accepted.{lexemes}
use Rattle.rc_lexer.specs.Views.{tokens_of}
use Rattle.rc_parser.specs.declared.token_stream.Tokens.{Tokens}

-- the lexemes of these tokens
abbrev pub lexemes_of : Tokens → List Lexeme
lexemes_of t = lexemes (tokens_of t.source.now.script.now (drop t.place t.source.now.tokens.now))
