-- Which scripts are accepted, and why the others are refused.
use Rattle.std.specs.Prelude.{◌≡◌, ℕ, suc, ◌≤◌, ◌<◌, ◌⊎◌, true, false, ◌==◌, List, map, length, take, Ok, Err}
use Rattle.std.specs.List.{count_by, list_any}
use Rattle.std.specs.Str.{is_utf8}
use Rattle.std.specs.Str.Lossy.{utf8_valid_len}
use Rattle.rc_model.specs.Syntax.Tokens.{Token, Lexeme, Lexes}
use Rattle.rc_model.specs.Syntax.Faults.{SyntaxFault, fault, TooLong, NotText, Unexpected, IfNot, TooDeep}
use Rattle.rc_model.specs.Syntax.Faults.{TooManyStages}
use Rattle.rc_model.specs.Syntax.Tree.{Node, cmd}
use Rattle.rc_model.specs.Syntax.WellFormed.{depth, most_stages}
use Rattle.rc_model.specs.Syntax.Grammar.{HaveTree}
use Rattle.rc_model.specs.Syntax.Grammar as g
use Rattle.rc_model.specs.declared.limits.TheConstants.{LONGEST_SCRIPT, MOST_LEVELS, MOST_STAGES}

-- the greatest length of a script, in bytes
abbrev pub longest_script : ℕ
longest_script = LONGEST_SCRIPT

-- The script is short enough, it is text, and it is cut into these tokens.
pub record HasTokens (script : List ℕ) (tokens : List Token) : Type 0 where
  pub short : length script ≤ longest_script
  pub text : is_utf8 script ≡ true
  pub cut : Lexes script (Ok tokens)

-- the lexemes of tokens
abbrev pub lexemes : List Token → List Lexeme
lexemes tokens = map (λ t. t.lexeme) tokens

-- The script is accepted, and this is its tree.
pub record IsAccepted (script : List ℕ) (tree : Node cmd) : Type 0 where
  pub tokens : List Token
  pub has : HasTokens script tokens
  pub tree_is : g.HaveAcceptedTree (lexemes tokens) tree

-- the line of the byte at this place
abbrev pub line_of : List ℕ → ℕ → ℕ
line_of script place = suc (count_by (λ b. b == 10) (take place script))

-- the line of a token, or of the end of the script
abbrev pub IsLineOf : List ℕ → List Token → ℕ → Type 0
IsLineOf script tokens line = (list_any (λ t. t.line == line) tokens ≡ true) ⊎ (line ≡ line_of script (length script))

-- Why a script is refused: the first of these that holds. A tree that exceeds both limits may give either fault.
pub data IsRefused (script : List ℕ) : SyntaxFault → Type 0 where
  too_long : longest_script < length script → IsRefused script (fault TooLong 0)
  not_text : length script ≤ longest_script → is_utf8 script ≡ false →
      IsRefused script (fault NotText (line_of script (utf8_valid_len script)))
  no_tokens : (f : SyntaxFault) → length script ≤ longest_script → is_utf8 script ≡ true → Lexes script (Err f) →
      IsRefused script f
  -- there is no tree of any size
  unexpected : (tokens : List Token) (line : ℕ) → HasTokens script tokens → IsLineOf script tokens line →
      ((tree : Node cmd) → HaveTree (lexemes tokens) tree → ⊥) → IsRefused script (fault Unexpected line)
  if_not : (tokens : List Token) (line : ℕ) → HasTokens script tokens → IsLineOf script tokens line →
      ((tree : Node cmd) → HaveTree (lexemes tokens) tree → ⊥) → IsRefused script (fault IfNot line)
  -- each tree is too deep; each has a pipeline of too many stages
  too_deep : (tokens : List Token) → HasTokens script tokens →
      ((tree : Node cmd) → HaveTree (lexemes tokens) tree → MOST_LEVELS < depth tree) →
      IsRefused script (fault TooDeep 0)
  too_many_stages : (tokens : List Token) (line : ℕ) → HasTokens script tokens → IsLineOf script tokens line →
      ((tree : Node cmd) → HaveTree (lexemes tokens) tree → MOST_STAGES < most_stages tree) →
      IsRefused script (fault TooManyStages line)
