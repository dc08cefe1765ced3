-- The grammar: which tokens are a script, and its tree.
use Rattle.std.specs.Prelude.{◌≡◌, ◌≤◌, ℕ, Bool, true, false, List, [], ◌∷◌, Some, None}
use Rattle.rc_model.specs.Run.Calls.{Mode}
use Rattle.rc_model.specs.Syntax.Tokens.{Lexeme, Word, Quoted, Semicolon, Ampersand, Newline, AndAnd, OrOr, Bar}
use Rattle.rc_model.specs.Syntax.Tokens.{Equals}
use Rattle.rc_model.specs.Syntax.Tokens.{LeftParen, RightParen, LeftBrace, RightBrace, Backquote, Redirection, CopyTo}
use Rattle.rc_model.specs.Syntax.Tokens.{HereDoc}
use Rattle.rc_model.specs.Syntax.Tokens.{Dollar, DollarCount, DollarFlat, Name, Subscript}
use Rattle.rc_model.specs.Syntax.Tree.{Node, Many, none, more}
use Rattle.rc_model.specs.Syntax.Tree as t
use Rattle.rc_model.specs.Syntax.WellFormed.{depth, most_stages}
use Rattle.rc_model.specs.Syntax.HereDocs.{pieces_of}
pub use Rattle.rc_model.specs.declared.syntax.Keyword.{Keyword}
pub use Rattle.rc_model.specs.declared.syntax.Keyword.TheVariants.{For as ForWord, In as InWord, While as WhileWord}
pub use Rattle.rc_model.specs.declared.syntax.Keyword.TheVariants.{If as IfWord, Not as NotWord, Switch as SwitchWord}
pub use Rattle.rc_model.specs.declared.syntax.Keyword.TheVariants.{Fn as FnWord, Match as MatchWord, Bang as BangWord}
pub use Rattle.rc_model.specs.declared.syntax.Keyword.TheVariants.{At as AtWord, Plain as NoKeyword}
pub use Rattle.rc_model.specs.Syntax.Ahead.{keyword, is_plain, is_case, begins_arg, begins_first, begins_redir}
pub use Rattle.rc_model.specs.Syntax.Ahead.{begins_brace, begins_command, begins_link, begins_bar, begins_value}
pub use Rattle.rc_model.specs.Syntax.Ahead.{begins_subscript, closes, ends, ends_case, past_newlines, past_blanks}
pub use Rattle.rc_model.specs.Syntax.Ahead.{past_caret, after_caret, concat_of, redirect, stages_of, last_of}
pub use Rattle.rc_model.specs.Syntax.Ahead.{pipeline, and_or, is_if}
use Rattle.rc_model.specs.declared.limits.TheConstants.{MOST_LEVELS, MOST_STAGES}

-- what a production describes
pub data Level : Type 0 where
  -- a name after a `$`; a part of an argument; an argument, also where newlines are blanks; the parts after carets
  name : Level
  part : (inside : Bool) → Level
  arg : (inside : Bool) → Level
  parts : (inside : Bool) → Level
  -- arguments up to a `)`; arguments
  members : Level
  words : Level
  -- a redirection; several; the words and redirections after the first word of a command
  redir : Level
  redirs : Level
  simple : Level
  -- a list in braces; one in parentheses
  brace : Level
  paren : Level
  -- a stage of a pipeline; the bars and stages after it; a pipeline
  stage : Level
  bars : Level
  pipe : Level
  -- an operand that begins with `!`, `@`, a redirection or a control word; one that begins with an assignment; what
  -- follows an assignment
  leading : (after_if : Bool) → Level
  assigned : Level
  values : Level
  -- an operand of `&&` and `||`; one that may be absent; the operands after the first; a command; the body of a control
  -- form
  operand : (after_if : Bool) → Level
  optional : Level
  links : Level
  command : (after_if : Bool) → Level
  body : Level
  -- the commands of a list; what follows one of them; the case lines of a switch, each with its commands
  items : (in_switch after_if : Bool) → Level
  after : (in_switch after_if : Bool) → Level
  branches : Level

-- the trees of each level
abbrev pub Out : Level → Type 0
Out name = Node t.arg
Out (part inside) = Node t.arg
Out (arg inside) = Node t.arg
Out (parts inside) = Many t.arg
Out members = Many t.arg
Out words = Many t.arg
Out redir = Node t.redir
Out redirs = Many t.redir
Out simple = Many t.arg × Many t.redir
Out brace = Node t.cmd
Out paren = Node t.cmd
Out stage = Node t.cmd
Out bars = Many t.stage
Out pipe = Node t.cmd
Out (leading after_if) = Node t.cmd
Out assigned = Node t.cmd
Out values = Many t.pair × Node t.cmd
Out (operand after_if) = Node t.cmd
Out optional = Node t.cmd
Out links = Many t.link
Out (command after_if) = Node t.cmd
Out body = Node t.cmd
Out (items in_switch after_if) = Many t.item
Out (after in_switch after_if) = Bool × Many t.item
Out branches = Many t.branch

-- The productions: the tokens begin with a phrase that has this tree, and what follows it is the rest. Each repetition
-- is as long as possible.
pub data Phrase : (l : Level) → List Lexeme → Out l → List Lexeme → Type 0 where
  -- name = NAME | quoted | "$" name
  bare_name : {text : List ℕ} {rest : List Lexeme} → Phrase name (Name text ∷ rest) (t.Lit text false) rest
  quoted_name : {text : List ℕ} {rest : List Lexeme} → Phrase name (Quoted text ∷ rest) (t.Lit text true) rest
  named_name : {ts rest : List Lexeme} {n : Node t.arg} → Phrase name ts n rest →
      Phrase name (Dollar ∷ ts) (t.Var n) rest
  -- part = word | quoted | "(" {arg} ")" | "`" brace | "$" name | "$" name SUB {arg} ")" | "$#" name | '$"' name, where
  -- newlines may be blanks
  word_part : {inside : Bool} {text : List ℕ} {rest : List Lexeme} →
      Phrase (part inside) (Word text ∷ rest) (t.Lit text false) rest
  quoted_part : {inside : Bool} {text : List ℕ} {rest : List Lexeme} →
      Phrase (part inside) (Quoted text ∷ rest) (t.Lit text true) rest
  paren_part : {inside : Bool} {ts rest : List Lexeme} {as' : Many t.arg} → Phrase members ts as' rest →
      Phrase (part inside) (LeftParen ∷ ts) (t.Paren as') rest
  back_part : {inside : Bool} {ts rest : List Lexeme} {c : Node t.cmd} → Phrase brace (past_blanks inside ts) c rest →
      Phrase (part inside) (Backquote ∷ ts) (t.Back c) rest
  var_part : {inside : Bool} {ts rest : List Lexeme} {n : Node t.arg} → Phrase name ts n rest → begins_subscript rest
      ≡ false → Phrase (part inside) (Dollar ∷ ts) (t.Var n) rest
  sub_part : {inside : Bool} {ts more' rest : List Lexeme} {n : Node t.arg} {as' : Many t.arg} →
      Phrase name ts n (Subscript ∷ more') → Phrase members more' as' rest →
      Phrase (part inside) (Dollar ∷ ts) (t.Sub n as') rest
  count_part : {inside : Bool} {ts rest : List Lexeme} {n : Node t.arg} → Phrase name ts n rest →
      Phrase (part inside) (DollarCount ∷ ts) (t.Count n) rest
  flat_part : {inside : Bool} {ts rest : List Lexeme} {n : Node t.arg} → Phrase name ts n rest →
      Phrase (part inside) (DollarFlat ∷ ts) (t.Flat n) rest
  -- arg = part { "^" part }
  joined : {inside : Bool} {ts mid rest : List Lexeme} {a : Node t.arg} {as' : Many t.arg} →
      Phrase (part inside) ts a mid → Phrase (parts inside) mid as' rest →
      Phrase (arg inside) ts (concat_of a as') rest
  no_caret : {inside : Bool} {rest : List Lexeme} → after_caret (past_blanks inside rest) ≡ None →
      Phrase (parts inside) rest none rest
  caret : {inside : Bool} {ts next mid rest : List Lexeme} {a : Node t.arg} {as' : Many t.arg} →
      after_caret (past_blanks inside ts) ≡ Some next →
      Phrase (part inside) (past_blanks inside next) a mid → Phrase (parts inside) mid as' rest →
      Phrase (parts inside) ts (more a as') rest
  -- {arg} ")", where newlines are blanks
  no_member : {rest : List Lexeme} → Phrase members (RightParen ∷ rest) none rest
  blank_member : {ts rest : List Lexeme} {as' : Many t.arg} → Phrase members ts as' rest →
      Phrase members (Newline ∷ ts) as' rest
  member : {ts mid rest : List Lexeme} {a : Node t.arg} {as' : Many t.arg} → Phrase (arg true) ts a mid →
      Phrase members mid as' rest → Phrase members ts (more a as') rest
  -- {arg}
  no_word : {rest : List Lexeme} → begins_arg rest ≡ false → Phrase words rest none rest
  word : {ts mid rest : List Lexeme} {a : Node t.arg} {as' : Many t.arg} → Phrase (arg false) ts a mid →
      Phrase words mid as' rest → Phrase words ts (more a as') rest
  -- redir = (">" | ">>" | "<" with descriptor) arg | copy | here
  open_redir : {mode : Mode} {slot : ℕ} {ts rest : List Lexeme} {a : Node t.arg} → Phrase (arg false) ts a rest →
      Phrase redir (Redirection mode slot ∷ ts) (t.Open mode slot a) rest
  copy_redir : {to from : ℕ} {rest : List Lexeme} → Phrase redir (CopyTo to from ∷ rest) (t.Copy to from) rest
  here_redir : {quoted : Bool} {text : List ℕ} {rest : List Lexeme} →
      Phrase redir (HereDoc quoted text ∷ rest) (t.Here (pieces_of quoted text)) rest
  -- {redir}
  no_redir : {rest : List Lexeme} → begins_redir rest ≡ false → Phrase redirs rest none rest
  redir_more : {ts mid rest : List Lexeme} {r : Node t.redir} {rs : Many t.redir} → Phrase redir ts r mid →
      Phrase redirs mid rs rest → Phrase redirs ts (more r rs) rest
  -- {arg | redir}
  simple_end : {rest : List Lexeme} → begins_arg rest ≡ false → begins_redir rest ≡ false →
      Phrase simple rest (none, none) rest
  simple_word : {ts mid rest : List Lexeme} {a : Node t.arg} {x : Many t.arg × Many t.redir} →
      Phrase (arg false) ts a mid → Phrase simple mid x rest →
      Phrase simple ts (more a x.0, x.1) rest
  simple_redir : {ts mid rest : List Lexeme} {r : Node t.redir} {x : Many t.arg × Many t.redir} →
      Phrase redir ts r mid → Phrase simple mid x rest →
      Phrase simple ts (x.0, more r x.1) rest
  -- brace = "{" list "}"      paren = "(" list ")"
  braced : {ts rest : List Lexeme} {is : Many t.item} → Phrase (items false false) ts is (RightBrace ∷ rest) →
      Phrase brace (LeftBrace ∷ ts) (t.Seq is) rest
  parenthesised : {ts rest : List Lexeme} {is : Many t.item} → Phrase (items false false) ts is (RightParen ∷ rest) →
      Phrase paren (LeftParen ∷ ts) (t.Seq is) rest
  -- stage = first { arg | redir } | brace {redir} | "switch" arg {NL} "{" cases "}" {redir} | "~" arg {arg} | "fn" arg
  -- {arg} [brace]
  simple_stage : {ts mid rest : List Lexeme} {a : Node t.arg} {x : Many t.arg × Many t.redir} → begins_first ts ≡ true →
      Phrase (arg false) ts a mid → begins_value mid ≡ false →
      Phrase simple mid x rest → Phrase stage ts (redirect x.1 (t.Simple (more a x.0))) rest
  brace_stage : {ts mid rest : List Lexeme} {c : Node t.cmd} {rs : Many t.redir} → Phrase brace ts c mid →
      Phrase redirs mid rs rest → Phrase stage ts (redirect rs (t.Brace c)) rest
  switch_stage : {text : List ℕ} {ts mid inner next rest : List Lexeme} {a : Node t.arg} {bs : Many t.branch}
      {rs : Many t.redir} → keyword text ≡ SwitchWord →
      Phrase (arg false) (past_caret ts) a mid → past_newlines mid ≡ LeftBrace ∷ inner →
      Phrase branches inner bs (RightBrace ∷ next) → Phrase redirs next rs rest →
      Phrase stage (Word text ∷ ts) (redirect rs (t.Switch a bs)) rest
  match_stage : {text : List ℕ} {ts mid rest : List Lexeme} {a : Node t.arg} {as' : Many t.arg} → keyword text
      ≡ MatchWord → Phrase (arg false) (past_caret ts) a mid →
      Phrase words mid as' rest → Phrase stage (Word text ∷ ts) (t.Match a as') rest
  define_stage : {text : List ℕ} {ts mid next rest : List Lexeme} {a : Node t.arg} {as' : Many t.arg} {c : Node t.cmd} →
      keyword text ≡ FnWord →
      Phrase (arg false) (past_caret ts) a mid → Phrase words mid as' next → Phrase brace next c rest →
      Phrase stage (Word text ∷ ts) (t.Define (more a as') c) rest
  undefine_stage : {text : List ℕ} {ts mid rest : List Lexeme} {a : Node t.arg} {as' : Many t.arg} → keyword text
      ≡ FnWord → Phrase (arg false) (past_caret ts) a mid →
      Phrase words mid as' rest → begins_brace rest ≡ false →
      Phrase stage (Word text ∷ ts) (t.Undefine (more a as')) rest
  -- pipe = stage { bar {NL} stage } [ bar {NL} tail ], where the tail begins with `!`, `@`, a redirection, a control
  -- word or an assignment
  piped : {ts mid rest : List Lexeme} {c : Node t.cmd} {ss : Many t.stage} → Phrase stage ts c mid →
      Phrase bars mid ss rest → Phrase pipe ts (pipeline c ss) rest
  no_bar : {rest : List Lexeme} → begins_bar rest ≡ false → Phrase bars rest none rest
  bar_stage : {slot : ℕ} {ts mid rest : List Lexeme} {c : Node t.cmd} {ss : Many t.stage} →
      Phrase stage (past_newlines ts) c mid → Phrase bars mid ss rest →
      Phrase bars (Bar slot ∷ ts) (more (t.Stage c slot) ss) rest
  bar_leading : {slot : ℕ} {ts rest : List Lexeme} {c : Node t.cmd} → Phrase (leading false) (past_newlines ts) c rest →
      Phrase bars (Bar slot ∷ ts) (more (t.Stage c slot) none) rest
  bar_assigned : {slot : ℕ} {ts rest : List Lexeme} {c : Node t.cmd} → Phrase assigned (past_newlines ts) c rest →
      Phrase bars (Bar slot ∷ ts) (more (t.Stage c slot) none) rest
  -- "!" operand | "@" operand | redir {redir} [operand]
  not_leading : {after_if : Bool} {text : List ℕ} {ts rest : List Lexeme} {c : Node t.cmd} → keyword text ≡ BangWord →
      Phrase (operand false) (past_caret ts) c rest →
      Phrase (leading after_if) (Word text ∷ ts) (t.Not c) rest
  subshell_leading : {after_if : Bool} {text : List ℕ} {ts rest : List Lexeme} {c : Node t.cmd} → keyword text
      ≡ AtWord → Phrase (operand false) (past_caret ts) c rest →
      Phrase (leading after_if) (Word text ∷ ts) (t.Subshell c) rest
  redir_leading : {after_if : Bool} {ts mid next rest : List Lexeme} {r : Node t.redir} {rs : Many t.redir}
      {c : Node t.cmd} → Phrase redir ts r mid → Phrase redirs mid rs next →
      Phrase optional next c rest → Phrase (leading after_if) ts (t.Redirect (more r rs) c) rest
  -- "if" paren {NL} [command] | "while" paren {NL} [command]
  if_leading : {after_if : Bool} {text : List ℕ} {ts mid rest : List Lexeme} {c d : Node t.cmd} → keyword text
      ≡ IfWord → Phrase paren (past_caret ts) c mid → Phrase body mid d rest →
      Phrase (leading after_if) (Word text ∷ ts) (t.If c d) rest
  while_leading : {after_if : Bool} {text : List ℕ} {ts mid rest : List Lexeme} {c d : Node t.cmd} → keyword text
      ≡ WhileWord → Phrase paren (past_caret ts) c mid →
      Phrase body mid d rest → Phrase (leading after_if) (Word text ∷ ts) (t.While c d) rest
  -- "if" "not" {NL} [command], an item of a list after an `if` or `if not` item that isn't in the background
  if_not_leading : {text next_text : List ℕ} {ts next rest : List Lexeme} {d : Node t.cmd} → keyword text ≡ IfWord →
      past_caret ts ≡ Word next_text ∷ next →
      keyword next_text ≡ NotWord → Phrase body (past_caret next) d rest →
      Phrase (leading true) (Word text ∷ ts) (t.IfNot d) rest
  -- "for" "(" arg [ "in" {arg} ] ")" {NL} [command], where newlines are blanks up to the `)`
  for_all_leading : {after_if : Bool} {text : List ℕ} {ts head mid next rest : List Lexeme} {a : Node t.arg}
      {d : Node t.cmd} → keyword text ≡ ForWord →
      past_caret ts ≡ LeftParen ∷ head → Phrase (arg true) (past_newlines head) a mid → past_newlines mid ≡ RightParen
      ∷ next → Phrase body next d rest →
      Phrase (leading after_if) (Word text ∷ ts) (t.ForAll a d) rest
  for_leading : {after_if : Bool} {text next_text : List ℕ} {ts head mid list next rest : List Lexeme} {a : Node t.arg}
      {as' : Many t.arg} {d : Node t.cmd} → keyword text ≡ ForWord →
      past_caret ts ≡ LeftParen ∷ head → Phrase (arg true) (past_newlines head) a mid → past_newlines mid
      ≡ Word next_text ∷ list → keyword next_text ≡ InWord →
      Phrase members (past_caret list) as' next → Phrase body next d rest →
      Phrase (leading after_if) (Word text ∷ ts) (t.For a as' d) rest
  -- first "=" arg {first "=" arg} [operand], where the operand doesn't begin with an assignment
  assignment : {ts next mid rest : List Lexeme} {a v : Node t.arg} {x : Many t.pair × Node t.cmd} → begins_first ts
      ≡ true → Phrase (arg false) ts a (Equals ∷ next) →
      Phrase (arg false) next v mid → Phrase values mid x rest →
      Phrase assigned ts (t.Assign (more (t.Pair a v) x.0) x.1) rest
  another_value : {ts next mid rest : List Lexeme} {a v : Node t.arg} {x : Many t.pair × Node t.cmd} → begins_first ts
      ≡ true → Phrase (arg false) ts a (Equals ∷ next) →
      Phrase (arg false) next v mid → Phrase values mid x rest → Phrase values ts (more (t.Pair a v) x.0, x.1) rest
  values_alone : {rest : List Lexeme} → begins_command rest ≡ false → Phrase values rest (none, t.Empty) rest
  values_leading : {ts rest : List Lexeme} {c : Node t.cmd} → Phrase (leading false) ts c rest →
      Phrase values ts (none, c) rest
  values_pipe : {ts rest : List Lexeme} {c : Node t.cmd} → Phrase pipe ts c rest → Phrase values ts (none, c) rest
  -- operand
  leading_operand : {after_if : Bool} {ts rest : List Lexeme} {c : Node t.cmd} → Phrase (leading after_if) ts c rest →
      Phrase (operand after_if) ts c rest
  assigned_operand : {after_if : Bool} {ts rest : List Lexeme} {c : Node t.cmd} → Phrase assigned ts c rest →
      Phrase (operand after_if) ts c rest
  pipe_operand : {after_if : Bool} {ts rest : List Lexeme} {c : Node t.cmd} → Phrase pipe ts c rest →
      Phrase (operand after_if) ts c rest
  -- [operand]
  no_operand : {rest : List Lexeme} → begins_command rest ≡ false → Phrase optional rest t.Empty rest
  one_operand : {ts rest : List Lexeme} {c : Node t.cmd} → Phrase (operand false) ts c rest → Phrase optional ts c rest
  -- command = operand { ("&&" | "||") {NL} operand }
  linked : {after_if : Bool} {ts mid rest : List Lexeme} {c : Node t.cmd} {ls : Many t.link} →
      Phrase (operand after_if) ts c mid → Phrase links mid ls rest →
      Phrase (command after_if) ts (and_or c ls) rest
  no_link : {rest : List Lexeme} → begins_link rest ≡ false → Phrase links rest none rest
  and_link : {ts mid rest : List Lexeme} {c : Node t.cmd} {ls : Many t.link} →
      Phrase (operand false) (past_newlines ts) c mid → Phrase links mid ls rest →
      Phrase links (AndAnd ∷ ts) (more (t.Link t.And c) ls) rest
  or_link : {ts mid rest : List Lexeme} {c : Node t.cmd} {ls : Many t.link} →
      Phrase (operand false) (past_newlines ts) c mid → Phrase links mid ls rest →
      Phrase links (OrOr ∷ ts) (more (t.Link t.Or c) ls) rest
  -- {NL} [command], with no `&&` or `||` after it: a control form is always the last operand
  no_body : {ts : List Lexeme} → begins_command (past_newlines ts) ≡ false → begins_link (past_newlines ts) ≡ false →
      Phrase body ts t.Empty (past_newlines ts)
  one_body : {ts rest : List Lexeme} {c : Node t.cmd} → Phrase (command false) (past_newlines ts) c rest →
      Phrase body ts c rest
  -- list = [command] { (";" | "&" | NL) [command] }, where "&" needs a command before it
  no_item : {in_switch after_if : Bool} {rest : List Lexeme} → ends in_switch rest ≡ true →
      Phrase (items in_switch after_if) rest none rest
  semicolon_item : {in_switch after_if : Bool} {ts rest : List Lexeme} {is : Many t.item} →
      Phrase (items in_switch after_if) ts is rest →
      Phrase (items in_switch after_if) (Semicolon ∷ ts) is rest
  newline_item : {in_switch after_if : Bool} {ts rest : List Lexeme} {is : Many t.item} →
      Phrase (items in_switch after_if) ts is rest →
      Phrase (items in_switch after_if) (Newline ∷ ts) is rest
  one_item : {in_switch after_if : Bool} {ts mid rest : List Lexeme} {c : Node t.cmd} {x : Bool × Many t.item} →
      ends in_switch ts ≡ false → Phrase (command after_if) ts c mid →
      Phrase (after in_switch (is_if c)) mid x rest →
      Phrase (items in_switch after_if) ts (more (t.Item c x.0) x.1) rest
  after_last : {in_switch after_if : Bool} {rest : List Lexeme} → closes rest ≡ true →
      Phrase (after in_switch after_if) rest (false, none) rest
  after_semicolon : {in_switch after_if : Bool} {ts rest : List Lexeme} {is : Many t.item} →
      Phrase (items in_switch after_if) ts is rest →
      Phrase (after in_switch after_if) (Semicolon ∷ ts) (false, is) rest
  after_newline : {in_switch after_if : Bool} {ts rest : List Lexeme} {is : Many t.item} →
      Phrase (items in_switch after_if) ts is rest →
      Phrase (after in_switch after_if) (Newline ∷ ts) (false, is) rest
  after_background : {in_switch after_if : Bool} {ts rest : List Lexeme} {is : Many t.item} →
      Phrase (items in_switch false) ts is rest →
      Phrase (after in_switch after_if) (Ampersand ∷ ts) (true, is) rest
  -- cases: a list whose items may be case lines, the first item one      case = "case" {arg}, ended by ";", NL or "}"
  no_branch : {rest : List Lexeme} → Phrase branches (RightBrace ∷ rest) none (RightBrace ∷ rest)
  semicolon_branch : {ts rest : List Lexeme} {bs : Many t.branch} → Phrase branches ts bs rest →
      Phrase branches (Semicolon ∷ ts) bs rest
  newline_branch : {ts rest : List Lexeme} {bs : Many t.branch} → Phrase branches ts bs rest →
      Phrase branches (Newline ∷ ts) bs rest
  one_branch : {text : List ℕ} {ts mid next rest : List Lexeme} {as' : Many t.arg} {is : Many t.item}
      {bs : Many t.branch} → is_case text ≡ true → Phrase words (past_caret ts) as' mid →
      ends_case mid ≡ true → Phrase (items true false) mid is next → Phrase branches next bs rest →
      Phrase branches (Word text ∷ ts) (more (t.Branch as' (t.Seq is)) bs) rest

-- The tokens are a script that has this tree.
abbrev pub HaveTree : List Lexeme → Node t.cmd → Type 0
HaveTree ts tree = (is : Many t.item) × Phrase (items false false) ts is [] × (tree ≡ t.Seq is)

-- A script is accepted if it has a tree of at most 200 levels, with at most 64 stages in each pipeline.
pub record HaveAcceptedTree (ts : List Lexeme) (tree : Node t.cmd) : Type 0 where
  pub script : HaveTree ts tree
  pub shallow : depth tree ≤ MOST_LEVELS
  pub narrow : most_stages tree ≤ MOST_STAGES
