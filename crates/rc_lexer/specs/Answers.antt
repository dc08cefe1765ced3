-- The results of the lexer.
use Rattle.std.specs.Prelude.{List, ℕ, Vec, Result, Ok, Err}
use Rattle.rc_model.specs.Syntax.Tokens.{IsCut}
use Rattle.rc_model.specs.declared.fault.SyntaxFault.{SyntaxFault}
use Rattle.rc_model.specs.declared.fault.InputError.{InputError}
use Rattle.rc_model.specs.declared.fault.InputError.TheVariants.{Fault, NoMemory}
use Rattle.rc_lexer.specs.declared.Token.{Token}
use Rattle.rc_lexer.specs.Views.{tokens_of}

-- why a script has no tokens, or no tree
abbrev pub ScriptError : Type 0
ScriptError = InputError SyntaxFault

-- the tokens are those of the script, or the fault is its first one, or memory ran out
abbrev pub IsLexed : {Z : Type 0} → List ℕ → Result (Vec Token Z) ScriptError → Type 0
IsLexed script (Ok tokens) = IsCut script (Ok (tokens_of script tokens.items))
IsLexed script (Err (Fault f)) = IsCut script (Err f)
IsLexed script (Err NoMemory) = Unit {0}
