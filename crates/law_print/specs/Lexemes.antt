-- The lexemes of a printed tree, and the trees whose texts can be written.
use Rattle.std.specs.Prelude.{◌≡◌, ℕ, Bool, true, false, if◌then◌else◌, List, [], ◌∷◌, ◌++◌, codes}
use Rattle.rc_model.specs.Syntax.Tokens.{Lexeme, Word, Quoted, Semicolon, Ampersand, AndAnd, OrOr, Bar, Caret, Equals}
use Rattle.rc_model.specs.Syntax.Tokens.{LeftParen, RightParen, LeftBrace, RightBrace, Backquote, Redirection, CopyTo}
use Rattle.rc_model.specs.Syntax.Tokens.{Dollar, DollarCount, DollarFlat, Name, Subscript}
use Rattle.rc_model.specs.Syntax.Tree.{Node, Many, none, more}
use Rattle.rc_model.specs.declared.syntax.Logic.{Logic}
use Rattle.rc_model.specs.declared.syntax.Logic.TheVariants.{And, Or}
use Rattle.rc_model.specs.Syntax.Tree as t
use Rattle.rc_model.specs.Syntax.WellFormed.{is_output, opens, copies}
use Rattle.rc_model.specs.Mirrors.Spelling.{IsText, IsWord, IsName}
use Rattle.rc_model.specs.Syntax.Printing.{stands_first}
use Rattle.rc_model.specs.Syntax.Tree.{is_empty}

-- a line of a list: its lexemes, and whether it runs in the background
abbrev pub LexemeLine : Type 0
LexemeLine = List Lexeme × Bool

-- a line with an `&` after it, if it runs in the background
abbrev pub ended : LexemeLine → List Lexeme
ended line = if line.1 then line.0 ++ Ampersand ∷ [] else line.0

-- the separator after a line, unless the `&` of a background line is one
abbrev pub parting : LexemeLine → List Lexeme
parting line = if line.1 then [] else Semicolon ∷ []

-- the lines of a list, with their separators
abbrev pub listed : List LexemeLine → List Lexeme
listed [] = []
listed (line ∷ []) = ended line
listed (line ∷ next ∷ lines) = ended line ++ (parting line ++ listed (next ∷ lines))

-- the lexeme that joins two operands
abbrev pub sign : Logic → Lexeme
sign And = AndAnd
sign Or = OrOr

-- redirections, and the command that they surround
abbrev pub redirected : Node t.cmd → (begins : Bool) → (redirs body : List Lexeme) → List Lexeme
redirected c begins redirs body =
    if is_empty c then redirs else (if stands_first c begins then body ++ redirs else redirs ++ body)

-- the lines of a branch's body: those of a list, else one
abbrev pub body_lines : Node t.cmd → (items : List LexemeLine) → (body : List Lexeme) → List LexemeLine
body_lines (t.Seq _) items body = items
body_lines _ items body = (body, false) ∷ []

-- a word, quoted or not
abbrev pub word : List ℕ → (quoted : Bool) → Lexeme
word text quoted = if quoted then Quoted text else Word text

-- a name after a `$`, quoted or not
abbrev pub name_word : List ℕ → (quoted : Bool) → Lexeme
name_word text quoted = if quoted then Quoted text else Name text

-- The lexemes of each form, as its text has them. `begins` means that an item of a branch begins with the command.
unfoldable mutual
  -- a command
  pub cmd_lexemes : Node t.cmd → (begins : Bool) → List Lexeme
  cmd_lexemes t.Empty begins = []
  cmd_lexemes (t.Seq items) begins = listed (item_lines items begins false)
  cmd_lexemes (t.Simple words) begins = args_lexemes words
  cmd_lexemes (t.Assign pairs body) begins =
      if is_empty body then pairs_lexemes pairs else pairs_lexemes pairs ++ cmd_lexemes body false
  cmd_lexemes (t.Redirect redirs body) begins = redirected body begins (redirs_lexemes redirs) (cmd_lexemes body false)
  cmd_lexemes (t.Pipeline stages last) begins = stages_lexemes stages begins ++ cmd_lexemes last false
  cmd_lexemes (t.AndOr first links) begins = cmd_lexemes first begins ++ links_lexemes links
  cmd_lexemes (t.Not body) begins = Word (codes "!") ∷ cmd_lexemes body false
  cmd_lexemes (t.Subshell body) begins = Word (codes "@") ∷ cmd_lexemes body false
  cmd_lexemes (t.If condition body) begins =
      Word (codes "if") ∷ LeftParen ∷ (cmd_lexemes condition false ++ (RightParen ∷ cmd_lexemes body false))
  cmd_lexemes (t.IfNot body) begins = Word (codes "if") ∷ Word (codes "not") ∷ cmd_lexemes body false
  cmd_lexemes (t.While condition body) begins =
      Word (codes "while") ∷ LeftParen ∷ (cmd_lexemes condition false ++ (RightParen ∷ cmd_lexemes body false))
  cmd_lexemes (t.ForAll name body) begins =
      Word (codes "for") ∷ LeftParen ∷ (arg_lexemes name ++ (RightParen ∷ cmd_lexemes body false))
  cmd_lexemes (t.For name words body) begins =
      Word (codes "for") ∷ LeftParen ∷ (arg_lexemes name ++ (Word (codes "in")
      ∷ (args_lexemes words ++ (RightParen ∷ cmd_lexemes body false))))
  cmd_lexemes (t.Switch subject branches) begins =
      Word (codes "switch") ∷ (arg_lexemes subject ++ (LeftBrace ∷ (listed (branch_lines branches) ++ RightBrace ∷ [])))
  cmd_lexemes (t.Match subject patterns) begins = Word (codes "~") ∷ (arg_lexemes subject ++ args_lexemes patterns)
  cmd_lexemes (t.Define names body) begins =
      Word (codes "fn") ∷ (args_lexemes names ++ (LeftBrace ∷ (cmd_lexemes body false ++ RightBrace ∷ [])))
  cmd_lexemes (t.Undefine names) begins = Word (codes "fn") ∷ args_lexemes names
  cmd_lexemes (t.Brace body) begins = LeftBrace ∷ (cmd_lexemes body false ++ RightBrace ∷ [])

  -- an argument
  pub arg_lexemes : Node t.arg → List Lexeme
  arg_lexemes (t.Lit text quoted) = word text quoted ∷ []
  arg_lexemes (t.Concat parts) = first_part parts
  arg_lexemes (t.Paren words) = LeftParen ∷ (args_lexemes words ++ RightParen ∷ [])
  arg_lexemes (t.Var name) = Dollar ∷ name_lexemes name
  arg_lexemes (t.Count name) = DollarCount ∷ name_lexemes name
  arg_lexemes (t.Flat name) = DollarFlat ∷ name_lexemes name
  arg_lexemes (t.Sub name subscripts) =
      (Dollar ∷ (name_lexemes name ++ Subscript ∷ [])) ++ (args_lexemes subscripts ++ RightParen ∷ [])
  arg_lexemes (t.Back body) = Backquote ∷ LeftBrace ∷ (cmd_lexemes body false ++ RightBrace ∷ [])

  -- a name after a `$`
  pub name_lexemes : Node t.arg → List Lexeme
  name_lexemes (t.Lit text quoted) = name_word text quoted ∷ []
  name_lexemes (t.Var name) = Dollar ∷ name_lexemes name
  name_lexemes _ = []

  -- a redirection
  pub redir_lexemes : Node t.redir → List Lexeme
  redir_lexemes (t.Open mode slot path) = Redirection mode slot ∷ arg_lexemes path
  redir_lexemes (t.Copy to from) = CopyTo to from ∷ []
  redir_lexemes (t.Here pieces) = []

  -- arguments, one after the other
  pub args_lexemes : Many t.arg → List Lexeme
  args_lexemes none = []
  args_lexemes (more word words) = arg_lexemes word ++ args_lexemes words

  -- parts, with carets between them
  pub first_part : Many t.arg → List Lexeme
  first_part none = []
  first_part (more part parts) = arg_lexemes part ++ further_parts parts

  -- the parts after the first, each after a caret
  pub further_parts : Many t.arg → List Lexeme
  further_parts none = []
  further_parts (more part parts) = (Caret ∷ arg_lexemes part) ++ further_parts parts

  -- assignments, one after the other
  pub pairs_lexemes : Many t.pair → List Lexeme
  pairs_lexemes none = []
  pairs_lexemes (more (t.Pair name value) pairs) =
      (arg_lexemes name ++ (Equals ∷ arg_lexemes value)) ++ pairs_lexemes pairs

  -- redirections, one after the other
  pub redirs_lexemes : Many t.redir → List Lexeme
  redirs_lexemes none = []
  redirs_lexemes (more redir redirs) = redir_lexemes redir ++ redirs_lexemes redirs

  -- the stages of a pipeline but the last, each with the bar after it
  pub stages_lexemes : Many t.stage → (begins : Bool) → List Lexeme
  stages_lexemes none begins = []
  stages_lexemes (more (t.Stage body slot) stages) begins =
      cmd_lexemes body begins ++ (Bar slot ∷ stages_lexemes stages false)

  -- the operands after the first, each with its `&&` or `||` before it
  pub links_lexemes : Many t.link → List Lexeme
  links_lexemes none = []
  links_lexemes (more (t.Link logic body) links) = (sign logic ∷ cmd_lexemes body false) ++ links_lexemes links

  -- each item is a line; `begins` is for the first item, `others` for those after it
  pub item_lines : Many t.item → (begins others : Bool) → List LexemeLine
  item_lines none begins others = []
  item_lines (more (t.Item body background) items) begins others =
      (cmd_lexemes body begins, background) ∷ item_lines items others others

  -- each branch is a case line and the lines of its body
  pub branch_lines : Many t.branch → List LexemeLine
  branch_lines none = []
  branch_lines (more (t.Branch patterns body) branches) =
      (Word (codes "case") ∷ args_lexemes patterns, false)
      ∷ (body_lines body (branch_items body) (cmd_lexemes body true) ++ branch_lines branches)

  -- the lines of a branch's body, if that is a list
  pub branch_items : Node t.cmd → List LexemeLine
  branch_items (t.Seq items) = item_lines items true true
  branch_items _ = []

-- a text that can be written as a word, quoted or not
abbrev pub IsLiteral : List ℕ → (quoted : Bool) → Type 0
IsLiteral text true = IsText text
IsLiteral text false = IsWord text

-- a text that can be written as a name after a `$`, quoted or not
abbrev pub IsNameLiteral : List ℕ → (quoted : Bool) → Type 0
IsNameLiteral text true = IsText text
IsNameLiteral text false = IsName text

-- Trees that can be written: words are words, names are names, and descriptors are right. (A here document has no
-- text.)
unfoldable mutual
  -- a node that can be written
  pub IsWritable : {s : t.Sort} → Node s → Type 0
  IsWritable t.Empty = Unit {0}
  IsWritable (t.Seq items) = AreWritable items
  IsWritable (t.Simple words) = AreWritable words
  IsWritable (t.Assign pairs body) = AreWritable pairs × IsWritable body
  IsWritable (t.Redirect redirs body) = AreWritable redirs × IsWritable body
  IsWritable (t.Pipeline stages last) = AreWritable stages × IsWritable last
  IsWritable (t.AndOr first links) = IsWritable first × AreWritable links
  IsWritable (t.Not body) = IsWritable body
  IsWritable (t.Subshell body) = IsWritable body
  IsWritable (t.If condition body) = IsWritable condition × IsWritable body
  IsWritable (t.IfNot body) = IsWritable body
  IsWritable (t.While condition body) = IsWritable condition × IsWritable body
  IsWritable (t.ForAll name body) = IsWritable name × IsWritable body
  IsWritable (t.For name words body) = IsWritable name × (AreWritable words × IsWritable body)
  IsWritable (t.Switch subject branches) = IsWritable subject × AreWritable branches
  IsWritable (t.Match subject patterns) = IsWritable subject × AreWritable patterns
  IsWritable (t.Define names body) = AreWritable names × IsWritable body
  IsWritable (t.Undefine names) = AreWritable names
  IsWritable (t.Brace body) = IsWritable body
  IsWritable (t.Lit text quoted) = IsLiteral text quoted
  IsWritable (t.Concat parts) = AreWritable parts
  IsWritable (t.Paren words) = AreWritable words
  IsWritable (t.Var name) = IsWritableName name
  IsWritable (t.Count name) = IsWritableName name
  IsWritable (t.Flat name) = IsWritableName name
  IsWritable (t.Sub name subscripts) = IsWritableName name × AreWritable subscripts
  IsWritable (t.Back body) = IsWritable body
  IsWritable (t.Item body background) = IsWritable body
  IsWritable (t.Pair name value) = IsWritable name × IsWritable value
  IsWritable (t.Stage body slot) = (is_output slot ≡ true) × IsWritable body
  IsWritable (t.Link logic body) = IsWritable body
  IsWritable (t.Branch patterns body) = AreWritable patterns × IsWritable body
  IsWritable (t.Open mode slot path) = (opens mode slot ≡ true) × IsWritable path
  IsWritable (t.Copy to from) = copies to from ≡ true
  IsWritable (t.Here pieces) = Unit {0}
  IsWritable (t.Text text) = Unit {0}
  IsWritable (t.Name text) = Unit {0}

  -- a name after a `$` that can be written
  pub IsWritableName : Node t.arg → Type 0
  IsWritableName (t.Lit text quoted) = IsNameLiteral text quoted
  IsWritableName (t.Var name) = IsWritableName name
  IsWritableName _ = ⊥

  -- nodes that can all be written
  pub AreWritable : {s : t.Sort} → Many s → Type 0
  AreWritable none = Unit {0}
  AreWritable (more n ns) = IsWritable n × AreWritable ns
