-- What the grammar asks of the lexemes ahead, and how it builds trees.
use Rattle.std.specs.Prelude.{ℕ, Bool, true, false, ◌||◌, if◌then◌else◌, List, [], ◌∷◌, Option, Some, None}
use Rattle.std.specs.Prelude.{bytes_eq, codes}
use Rattle.rc_model.specs.Syntax.Tokens.{Lexeme, Word, Quoted, Semicolon, Newline, AndAnd, OrOr, Bar, Caret}
use Rattle.rc_model.specs.Syntax.Tokens.{FreeCaret, Equals}
use Rattle.rc_model.specs.Syntax.Tokens.{LeftParen, RightParen, LeftBrace, RightBrace, Backquote, Redirection, CopyTo}
use Rattle.rc_model.specs.Syntax.Tokens.{HereDoc}
use Rattle.rc_model.specs.Syntax.Tokens.{Dollar, DollarCount, DollarFlat, Subscript}
use Rattle.rc_model.specs.Syntax.Tree.{Node, Many, none, more}
use Rattle.rc_model.specs.Syntax.Tree as t
pub use Rattle.rc_model.specs.declared.syntax.Keyword.{Keyword}
pub use Rattle.rc_model.specs.declared.syntax.Keyword.TheVariants.{For as ForWord, In as InWord, While as WhileWord}
pub use Rattle.rc_model.specs.declared.syntax.Keyword.TheVariants.{If as IfWord, Not as NotWord, Switch as SwitchWord}
pub use Rattle.rc_model.specs.declared.syntax.Keyword.TheVariants.{Fn as FnWord, Match as MatchWord, Bang as BangWord}
pub use Rattle.rc_model.specs.declared.syntax.Keyword.TheVariants.{At as AtWord, Plain as NoKeyword}

-- which keyword an unquoted word is
abbrev pub keyword : List ℕ → Keyword
keyword text =
    if bytes_eq text (codes "for") then ForWord
    else if bytes_eq text (codes "in") then InWord
    else if bytes_eq text (codes "while") then WhileWord
    else if bytes_eq text (codes "if") then IfWord
    else if bytes_eq text (codes "not") then NotWord
    else if bytes_eq text (codes "switch") then SwitchWord
    else if bytes_eq text (codes "fn") then FnWord
    else if bytes_eq text (codes "~") then MatchWord
    else if bytes_eq text (codes "!") then BangWord
    else if bytes_eq text (codes "@") then AtWord
    else NoKeyword

-- a word that isn't a keyword
abbrev pub is_plain : Keyword → Bool
is_plain NoKeyword = true
is_plain _ = false

-- the word with which a case line begins
abbrev pub is_case : List ℕ → Bool
is_case text = bytes_eq text (codes "case")

-- whether the next token begins an argument
abbrev pub begins_arg : List Lexeme → Bool
begins_arg (Word text ∷ ts) = true
begins_arg (Quoted text ∷ ts) = true
begins_arg (LeftParen ∷ ts) = true
begins_arg (Backquote ∷ ts) = true
begins_arg (Dollar ∷ ts) = true
begins_arg (DollarCount ∷ ts) = true
begins_arg (DollarFlat ∷ ts) = true
begins_arg _ = false

-- whether it begins an argument that isn't a keyword
abbrev pub begins_first : List Lexeme → Bool
begins_first (Word text ∷ ts) = is_plain (keyword text)
begins_first ts = begins_arg ts

-- whether it begins a redirection
abbrev pub begins_redir : List Lexeme → Bool
begins_redir (Redirection mode slot ∷ ts) = true
begins_redir (CopyTo to from ∷ ts) = true
begins_redir (HereDoc quoted body ∷ ts) = true
begins_redir _ = false

-- whether it begins a list in braces
abbrev pub begins_brace : List Lexeme → Bool
begins_brace (LeftBrace ∷ ts) = true
begins_brace _ = false

-- whether it begins a command
abbrev pub begins_command : List Lexeme → Bool
begins_command ts = begins_arg ts || (begins_redir ts || begins_brace ts)

-- whether the next token is `&&` or `||`
abbrev pub begins_link : List Lexeme → Bool
begins_link (AndAnd ∷ ts) = true
begins_link (OrOr ∷ ts) = true
begins_link _ = false

-- whether it is `|`
abbrev pub begins_bar : List Lexeme → Bool
begins_bar (Bar slot ∷ ts) = true
begins_bar _ = false

-- whether it is `=`
abbrev pub begins_value : List Lexeme → Bool
begins_value (Equals ∷ ts) = true
begins_value _ = false

-- whether it is the `(` of a subscript
abbrev pub begins_subscript : List Lexeme → Bool
begins_subscript (Subscript ∷ ts) = true
begins_subscript _ = false

-- whether a list ends here: at `)`, `}` or the end of the text
abbrev pub closes : List Lexeme → Bool
closes [] = true
closes (RightParen ∷ ts) = true
closes (RightBrace ∷ ts) = true
closes _ = false

-- the same, but in a switch a list also ends before a case line
abbrev pub ends : (in_switch : Bool) → List Lexeme → Bool
ends true (Word text ∷ ts) = is_case text
ends _ ts = closes ts

-- whether the words of a case line end here
abbrev pub ends_case : List Lexeme → Bool
ends_case (Semicolon ∷ ts) = true
ends_case (Newline ∷ ts) = true
ends_case (RightBrace ∷ ts) = true
ends_case _ = false

-- skips newlines
abbrev pub past_newlines : List Lexeme → List Lexeme
past_newlines (Newline ∷ ts) = past_newlines ts
past_newlines ts = ts

-- skips newlines inside parentheses, where they are blanks
abbrev pub past_blanks : (inside : Bool) → List Lexeme → List Lexeme
past_blanks true ts = past_newlines ts
past_blanks false ts = ts

-- skips a caret that was inserted after a keyword
abbrev pub past_caret : List Lexeme → List Lexeme
past_caret (FreeCaret ∷ ts) = ts
past_caret ts = ts

-- the lexemes after a caret, written or inserted
abbrev pub after_caret : List Lexeme → Option (List Lexeme)
after_caret (Caret ∷ ts) = Some ts
after_caret (FreeCaret ∷ ts) = Some ts
after_caret _ = None

-- one part by itself, or the concatenation of several
abbrev pub concat_of : Node t.arg → Many t.arg → Node t.arg
concat_of first none = first
concat_of first (more part parts) = t.Concat (more first (more part parts))

-- a command with the redirections after it
abbrev pub redirect : Many t.redir → Node t.cmd → Node t.cmd
redirect none body = body
redirect (more r rs) body = t.Redirect (more r rs) body

-- all stages but the last, each with the bar after it, given a first stage and the following ones, each with the bar
-- before it
abbrev pub stages_of : Node t.cmd → Many t.stage → Many t.stage
stages_of first none = none
stages_of first (more (t.Stage second slot) rest) = more (t.Stage first slot) (stages_of second rest)

-- the last of the stages that follow a first one
abbrev pub last_of : Node t.cmd → Many t.stage → Node t.cmd
last_of first none = first
last_of first (more (t.Stage second slot) rest) = last_of second rest

-- one stage by itself, or a pipeline of several
abbrev pub pipeline : Node t.cmd → Many t.stage → Node t.cmd
pipeline first none = first
pipeline first (more s ss) = t.Pipeline (stages_of first (more s ss)) (last_of first (more s ss))

-- one operand by itself, or several with `&&` and `||`
abbrev pub and_or : Node t.cmd → Many t.link → Node t.cmd
and_or first none = first
and_or first (more l ls) = t.AndOr first (more l ls)

-- an `if` or an `if not`, after which there may be an `if not`
abbrev pub is_if : Node t.cmd → Bool
is_if (t.If condition body) = true
is_if (t.IfNot body) = true
is_if _ = false
