-- The text of a tree. A tree with a here document inside has none.
use Rattle.std.specs.Prelude.{ℕ, Bool, true, false, not, ◌&&◌, ◌||◌, ◌==◌, if◌then◌else◌, List, [], ◌∷◌, ◌++◌, codes}
use Rattle.std.specs.List.{flat_map}
use Rattle.rc_model.specs.Run.Calls.{Mode, Read, Write, Append}
use Rattle.rc_model.specs.Syntax.Ahead.{is_case}
use Rattle.rc_model.specs.Syntax.Text.{joined, spaced}
use Rattle.rc_model.specs.Syntax.Tokens.{quoted_text}
use Rattle.rc_model.specs.Syntax.Tree.{Sort, Node, Many, none, more, is_empty, Logic, And, Or}
use Rattle.rc_model.specs.Syntax.Tree as t

-- a line of a list of commands: its text, and whether it runs in the background
abbrev pub Line : Type 0
Line = List ℕ × Bool

-- a background line ends in `&`
abbrev pub ended : Line → List ℕ
ended line = if line.1 then line.0 ++ codes " &" else line.0

-- what separates a line from the next one
abbrev pub parting : Line → List ℕ
parting line = if line.1 then codes " " else codes "; "

-- the lines of a list, one after another
abbrev pub listed : List Line → List ℕ
listed [] = []
listed (line ∷ []) = ended line
listed (line ∷ next ∷ lines) = ended line ++ (parting line ++ listed (next ∷ lines))

-- a word as the script spells it
abbrev pub literal : List ℕ → (quoted : Bool) → List ℕ
literal text quoted = if quoted then quoted_text text else text

-- the bar after a stage, with the descriptor that goes into the pipe if that isn't 1
abbrev pub bar : (slot : ℕ) → List ℕ
bar slot = if slot == 2 then codes " |[2] " else codes " | "

-- how `&&` and `||` are spelled
abbrev pub sign : Logic → List ℕ
sign And = codes " && "
sign Or = codes " || "

-- the operator before the name of a file
abbrev pub opening : Mode → (slot : ℕ) → List ℕ
opening Read slot = codes "< "
opening Write slot = if slot == 2 then codes ">[2] " else codes "> "
opening Append slot = if slot == 2 then codes ">>[2] " else codes ">> "

-- a copy of a descriptor
abbrev pub copying : (to from : ℕ) → List ℕ
copying to from = if to == 2 then codes ">[2=1]" else codes ">[1=2]"

-- whether a text begins with the unquoted word `case`
abbrev mutual
  -- the text of an argument does
  pub begins_with_case : Node t.arg → Bool
  begins_with_case (t.Lit text quoted) = not quoted && is_case text
  begins_with_case (t.Concat parts) = begin_with_case parts
  begins_with_case _ = false

  -- the text of a list of arguments does
  pub begin_with_case : Many t.arg → Bool
  begin_with_case none = false
  begin_with_case (more word words) = begins_with_case word

-- Whether redirections follow this command. They precede every other command, and a simple command that would read as a
-- case line at the start of an item.
abbrev pub stands_first : Node t.cmd → (begins : Bool) → Bool
stands_first (t.Simple words) begins = not (begins && begin_with_case words)
stands_first (t.Brace body) begins = true
stands_first (t.Switch subject branches) begins = true
stands_first _ begins = false

-- redirections, and the text of the command that they surround
abbrev pub redirected : Node t.cmd → (begins : Bool) → (redirs : List (List ℕ)) → (text : List ℕ) → List ℕ
redirected body begins redirs text =
    if is_empty body then spaced redirs
    else (if stands_first body begins then text ++ flat_map (λ r. codes " " ++ r) redirs
    else flat_map (λ r. r ++ codes " ") redirs ++ text)

-- assignments, and the text of the command for which they are made
abbrev pub assigned : Node t.cmd → (pairs : List (List ℕ)) → (text : List ℕ) → List ℕ
assigned body pairs text =
    if is_empty body then spaced pairs else spaced pairs ++ (codes " " ++ text)

-- the lines of a branch's body: those of a list, else one
abbrev pub body_lines : Node t.cmd → (items : List Line) → (text : List ℕ) → List Line
body_lines (t.Seq _) items text = items
body_lines _ items text = (text, false) ∷ []

-- The text of each form. `begins` means that an item of a branch begins with the command.
unfoldable mutual
  -- a command
  pub cmd_text : Node t.cmd → (begins : Bool) → List ℕ
  cmd_text t.Empty begins = []
  cmd_text (t.Seq items) begins = listed (item_lines items begins false)
  cmd_text (t.Simple words) begins = spaced (arg_texts words)
  cmd_text (t.Assign pairs body) begins = assigned body (pair_texts pairs) (cmd_text body false)
  cmd_text (t.Redirect redirs body) begins = redirected body begins (redir_texts redirs) (cmd_text body false)
  cmd_text (t.Pipeline stages last) begins = stages_text stages begins ++ cmd_text last false
  cmd_text (t.AndOr first links) begins = cmd_text first begins ++ links_text links
  cmd_text (t.Not body) begins = codes "! " ++ cmd_text body false
  cmd_text (t.Subshell body) begins = codes "@ " ++ cmd_text body false
  cmd_text (t.If condition body) begins =
      codes "if(" ++ (cmd_text condition false ++ (codes ") " ++ cmd_text body false))
  cmd_text (t.IfNot body) begins = codes "if not " ++ cmd_text body false
  cmd_text (t.While condition body) begins =
      codes "while(" ++ (cmd_text condition false ++ (codes ") " ++ cmd_text body false))
  cmd_text (t.ForAll name body) begins = codes "for(" ++ (arg_text name ++ (codes ") " ++ cmd_text body false))
  cmd_text (t.For name words body) begins =
      codes "for(" ++ (arg_text name ++ (codes " in " ++ (spaced (arg_texts words) ++ (codes ") "
      ++ cmd_text body false))))
  cmd_text (t.Switch subject branches) begins =
      codes "switch " ++ (arg_text subject ++ (codes " {" ++ (listed (branch_lines branches) ++ codes "}")))
  cmd_text (t.Match subject patterns) begins = codes "~ " ++ spaced (arg_text subject ∷ arg_texts patterns)
  cmd_text (t.Define names body) begins =
      codes "fn " ++ (spaced (arg_texts names) ++ (codes " {" ++ (cmd_text body false ++ codes "}")))
  cmd_text (t.Undefine names) begins = codes "fn " ++ spaced (arg_texts names)
  cmd_text (t.Brace body) begins = codes "{" ++ (cmd_text body false ++ codes "}")

  -- an argument
  pub arg_text : Node t.arg → List ℕ
  arg_text (t.Lit text quoted) = literal text quoted
  arg_text (t.Concat parts) = joined (codes "^") (arg_texts parts)
  arg_text (t.Paren words) = codes "(" ++ (spaced (arg_texts words) ++ codes ")")
  arg_text (t.Var name) = codes "$" ++ arg_text name
  arg_text (t.Count name) = codes "$#" ++ arg_text name
  arg_text (t.Flat name) = codes "$\"" ++ arg_text name
  arg_text (t.Sub name subscripts) =
      codes "$" ++ (arg_text name ++ (codes "(" ++ (spaced (arg_texts subscripts) ++ codes ")")))
  arg_text (t.Back body) = codes "`{" ++ (cmd_text body false ++ codes "}")

  -- a redirection
  pub redir_text : Node t.redir → List ℕ
  redir_text (t.Open mode slot path) = opening mode slot ++ arg_text path
  redir_text (t.Copy to from) = copying to from
  -- (no tree with a here document has a text)
  redir_text (t.Here pieces) = []

  -- the text of each argument
  pub arg_texts : Many t.arg → List (List ℕ)
  arg_texts none = []
  arg_texts (more word words) = arg_text word ∷ arg_texts words

  -- the text of each assignment
  pub pair_texts : Many t.pair → List (List ℕ)
  pair_texts none = []
  pair_texts (more (t.Pair name value) pairs) = (arg_text name ++ (codes "=" ++ arg_text value)) ∷ pair_texts pairs

  -- the text of each redirection
  pub redir_texts : Many t.redir → List (List ℕ)
  redir_texts none = []
  redir_texts (more redir redirs) = redir_text redir ∷ redir_texts redirs

  -- all stages of a pipeline but the last, each with the bar after it
  pub stages_text : Many t.stage → (begins : Bool) → List ℕ
  stages_text none begins = []
  stages_text (more (t.Stage body slot) stages) begins = cmd_text body begins ++ (bar slot ++ stages_text stages false)

  -- the operands after the first, each with its `&&` or `||` before it
  pub links_text : Many t.link → List ℕ
  links_text none = []
  links_text (more (t.Link logic body) links) = sign logic ++ (cmd_text body false ++ links_text links)

  -- `begins` is for the first item, `others` for those after it
  pub item_lines : Many t.item → (begins others : Bool) → List Line
  item_lines none begins others = []
  item_lines (more (t.Item body background) items) begins others =
      (cmd_text body begins, background) ∷ item_lines items others others

  -- each branch is a case line and the lines of its body
  pub branch_lines : Many t.branch → List Line
  branch_lines none = []
  branch_lines (more (t.Branch patterns body) branches) =
      (spaced (codes "case" ∷ arg_texts patterns), false)
      ∷ (body_lines body (branch_items body) (cmd_text body true) ++ branch_lines branches)

  -- the lines of a branch's body, if that is a list
  pub branch_items : Node t.cmd → List Line
  branch_items (t.Seq items) = item_lines items true true
  branch_items _ = []

-- a here document is inside
abbrev mutual
  -- one is inside this node
  pub has_here : {s : Sort} → Node s → Bool
  has_here (t.Seq items) = have_here items
  has_here (t.Simple words) = have_here words
  has_here (t.Assign pairs body) = have_here pairs || has_here body
  has_here (t.Redirect redirs body) = have_here redirs || has_here body
  has_here (t.Pipeline stages last) = have_here stages || has_here last
  has_here (t.AndOr first links) = has_here first || have_here links
  has_here (t.Not body) = has_here body
  has_here (t.Subshell body) = has_here body
  has_here (t.If condition body) = has_here condition || has_here body
  has_here (t.IfNot body) = has_here body
  has_here (t.While condition body) = has_here condition || has_here body
  has_here (t.ForAll name body) = has_here name || has_here body
  has_here (t.For name words body) = has_here name || (have_here words || has_here body)
  has_here (t.Switch subject branches) = has_here subject || have_here branches
  has_here (t.Match subject patterns) = has_here subject || have_here patterns
  has_here (t.Define names body) = have_here names || has_here body
  has_here (t.Undefine names) = have_here names
  has_here (t.Brace body) = has_here body
  has_here (t.Concat parts) = have_here parts
  has_here (t.Paren words) = have_here words
  has_here (t.Var name) = has_here name
  has_here (t.Count name) = has_here name
  has_here (t.Flat name) = has_here name
  has_here (t.Sub name subscripts) = has_here name || have_here subscripts
  has_here (t.Back body) = has_here body
  has_here (t.Item body background) = has_here body
  has_here (t.Pair name value) = has_here name || has_here value
  has_here (t.Stage body slot) = has_here body
  has_here (t.Link logic body) = has_here body
  has_here (t.Branch patterns body) = have_here patterns || has_here body
  has_here (t.Open mode slot path) = has_here path
  has_here (t.Here pieces) = true
  has_here _ = false

  -- one is inside one of these nodes
  pub have_here : {s : Sort} → Many s → Bool
  have_here none = false
  have_here (more n ns) = has_here n || have_here ns

-- the text of a whole tree
abbrev pub printed : Node t.cmd → List ℕ
printed c = cmd_text c false
