-- The text of each form, as the program writes it.
use Rattle.std.specs.List.{flat_map}
use Rattle.std.proofs.Common.{◌≡◌, refl, ap, sym, ◌∙◌, ℕ, Bool, true, false, List, [], ◌∷◌, ◌++◌, codes, append_assoc, append-nil, IsUtf8}
use Rattle.std.proofs.lemmas.Grind.{common_steps}
use Rattle.rc_model.specs.declared.call.Mode.{Mode}
use Rattle.rc_model.specs.Syntax.Tree.{Node, Many, none, more}
use Rattle.rc_model.specs.declared.syntax.Logic.{Logic}
use Rattle.rc_model.specs.Syntax.Tree as t
use Rattle.rc_model.specs.Syntax.Text.{joined}
use Rattle.rc_model.specs.Syntax.Printing.{Line, ended, parting, listed, literal, bar, sign, opening, copying, stands_first, body_lines}
use Rattle.rc_model.specs.Syntax.Tree.{is_empty}
use Rattle.rc_model.specs.Syntax.Printing.{cmd_text, arg_text, redir_text, arg_texts, pair_texts, redir_texts, stages_text, links_text}
use Rattle.rc_model.specs.Syntax.Printing.{item_lines, branch_lines, branch_items}
use Rattle.rc_print.specs.Lines.{led, trailed, lines_after, parting_after}
use Rattle.rc_tree.specs.View.{tree_nodes}

-- joined texts, and those after a first one
pub led-each : (mark : List ℕ) (ts : List (List ℕ)) → led mark mark ts ≡ flat_map (λ t. mark ++ t) ts
led-each mark [] = refl
led-each mark (t ∷ ts) = ap (λ l. mark ++ (t ++ l)) (led-each mark ts) ∙ sym (append_assoc mark t (flat_map (λ u. mark ++ u) ts))

pub led-joined : (mark : List ℕ) (ts : List (List ℕ)) → led [] mark ts ≡ joined mark ts
led-joined mark [] = refl
led-joined mark (t ∷ ts) = ap (λ l. t ++ l) (led-each mark ts)

pub trailed-each : (ts : List (List ℕ)) → trailed ts ≡ flat_map (λ t. t ++ codes " ") ts
trailed-each [] = refl
trailed-each (t ∷ ts) = ap (λ l. t ++ (codes " " ++ l)) (trailed-each ts) ∙ sym (append_assoc t (codes " ") (flat_map (λ u. u ++ codes " ") ts))

-- a space is text
pub space_is_text : IsUtf8 (codes " ")
unfolding lib.Utf8.encode
space_is_text = (codes " ", (refl, refl))

-- the lines of a list
pub lines_after-listed : (lines : List Line) → lines_after [] lines ≡ listed lines
lines_after-listed [] = refl
lines_after-listed (line ∷ []) = append-nil (ended line)
lines_after-listed (line ∷ next ∷ lines) = ap (λ l. ended line ++ (parting line ++ l)) (lines_after-listed (next ∷ lines))

pub lines_after-append : (between : List ℕ) (xs ys : List Line) → lines_after between (xs ++ ys) ≡ lines_after between xs ++ lines_after (parting_after between xs) ys
lines_after-append between [] ys = refl
lines_after-append between (x ∷ xs) ys =
    ap (λ l. between ++ (ended x ++ l)) (lines_after-append (parting x) xs ys)
    ∙ ap (λ l. between ++ l) (sym (append_assoc (ended x) (lines_after (parting x) xs) (lines_after (parting_after (parting x) xs) ys)))
    ∙ sym (append_assoc between (ended x ++ lines_after (parting x) xs) (lines_after (parting_after (parting x) xs) ys))

pub parting_after-append : (between : List ℕ) (xs ys : List Line) → parting_after between (xs ++ ys) ≡ parting_after (parting_after between xs) ys
parting_after-append between [] ys = refl
parting_after-append between (x ∷ xs) ys = parting_after-append (parting x) xs ys

pub cmd_text_Empty : (begins : Bool) → cmd_text t.Empty begins ≡ []
unfolding cmd_text
cmd_text_Empty begins = refl

pub cmd_text_Seq : (items : Many t.item) (begins : Bool) → cmd_text (t.Seq items) begins ≡ lines_after [] (item_lines items begins false)
unfolding cmd_text
cmd_text_Seq items begins = sym (lines_after-listed (item_lines items begins false))

pub cmd_text_Simple : (words : Many t.arg) (begins : Bool) → cmd_text (t.Simple words) begins ≡ led [] (codes " ") (arg_texts words)
unfolding cmd_text
cmd_text_Simple words begins = sym (led-joined (codes " ") (arg_texts words))

pub cmd_text_Pipeline : (stages : Many t.stage) (last : Node t.cmd) (begins : Bool) → cmd_text (t.Pipeline stages last) begins ≡
    stages_text stages begins ++ cmd_text last false
unfolding cmd_text
cmd_text_Pipeline stages last begins = refl

pub cmd_text_AndOr : (first : Node t.cmd) (links : Many t.link) (begins : Bool) → cmd_text (t.AndOr first links) begins ≡
    cmd_text first begins ++ links_text links
unfolding cmd_text
cmd_text_AndOr first links begins = refl

pub cmd_text_Not : (body : Node t.cmd) (begins : Bool) → cmd_text (t.Not body) begins ≡ codes "! " ++ cmd_text body false
unfolding cmd_text
cmd_text_Not body begins = refl

pub cmd_text_Subshell : (body : Node t.cmd) (begins : Bool) → cmd_text (t.Subshell body) begins ≡ codes "@ " ++ cmd_text body false
unfolding cmd_text
cmd_text_Subshell body begins = refl

pub cmd_text_If : (condition : Node t.cmd) (body : Node t.cmd) (begins : Bool) → cmd_text (t.If condition body) begins ≡
    codes "if(" ++ (cmd_text condition false ++ (codes ") " ++ cmd_text body false))
unfolding cmd_text
cmd_text_If condition body begins = refl

pub cmd_text_IfNot : (body : Node t.cmd) (begins : Bool) → cmd_text (t.IfNot body) begins ≡ codes "if not " ++ cmd_text body false
unfolding cmd_text
cmd_text_IfNot body begins = refl

pub cmd_text_While : (condition : Node t.cmd) (body : Node t.cmd) (begins : Bool) → cmd_text (t.While condition body) begins ≡
    codes "while(" ++ (cmd_text condition false ++ (codes ") " ++ cmd_text body false))
unfolding cmd_text
cmd_text_While condition body begins = refl

pub cmd_text_ForAll : (name : Node t.arg) (body : Node t.cmd) (begins : Bool) → cmd_text (t.ForAll name body) begins ≡
    codes "for(" ++ (arg_text name ++ (codes ") " ++ cmd_text body false))
unfolding cmd_text
cmd_text_ForAll name body begins = refl

pub cmd_text_For : (name : Node t.arg) (words : Many t.arg) (body : Node t.cmd) (begins : Bool) → cmd_text (t.For name words body) begins ≡
    codes "for(" ++ (arg_text name ++ (codes " in " ++ (led [] (codes " ") (arg_texts words) ++ (codes ") " ++ cmd_text body false))))
unfolding cmd_text
cmd_text_For name words body begins = rw led-joined refl

-- the text of a `for` is the same whether or not an item of a branch begins with it
pub cmd_text_For_begins : (name : Node t.arg) (words : Many t.arg) (body : Node t.cmd) (begins : Bool) →
    cmd_text (t.For name words body) begins ≡ cmd_text (t.For name words body) false
unfolding cmd_text
cmd_text_For_begins name words body begins = refl

pub cmd_text_Switch : (subject : Node t.arg) (branches : Many t.branch) (begins : Bool) → cmd_text (t.Switch subject branches) begins ≡
    codes "switch " ++ (arg_text subject ++ (codes " {" ++ (lines_after [] (branch_lines branches) ++ codes "}")))
unfolding cmd_text
cmd_text_Switch subject branches begins = rw lines_after-listed refl

pub cmd_text_Match : (subject : Node t.arg) (patterns : Many t.arg) (begins : Bool) → cmd_text (t.Match subject patterns) begins ≡
    codes "~ " ++ (arg_text subject ++ led (codes " ") (codes " ") (arg_texts patterns))
unfolding cmd_text
cmd_text_Match subject patterns begins = rw led-each refl

pub cmd_text_Define : (names : Many t.arg) (body : Node t.cmd) (begins : Bool) → cmd_text (t.Define names body) begins ≡
    codes "fn " ++ (led [] (codes " ") (arg_texts names) ++ (codes " {" ++ (cmd_text body false ++ codes "}")))
unfolding cmd_text
cmd_text_Define names body begins = rw led-joined refl

pub cmd_text_Undefine : (names : Many t.arg) (begins : Bool) → cmd_text (t.Undefine names) begins ≡ codes "fn " ++ led [] (codes " ") (arg_texts names)
unfolding cmd_text
cmd_text_Undefine names begins = rw led-joined refl

pub cmd_text_Brace : (body : Node t.cmd) (begins : Bool) → cmd_text (t.Brace body) begins ≡ codes "{" ++ (cmd_text body false ++ codes "}")
unfolding cmd_text
cmd_text_Brace body begins = refl

pub arg_text_Lit : (text : List ℕ) (quoted : Bool) → arg_text (t.Lit text quoted) ≡ literal text quoted
unfolding arg_text
arg_text_Lit text quoted = refl

pub arg_text_Concat : (parts : Many t.arg) → arg_text (t.Concat parts) ≡ led [] (codes "^") (arg_texts parts)
unfolding arg_text
arg_text_Concat parts = sym (led-joined (codes "^") (arg_texts parts))

pub arg_text_Paren : (words : Many t.arg) → arg_text (t.Paren words) ≡ codes "(" ++ (led [] (codes " ") (arg_texts words) ++ codes ")")
unfolding arg_text
arg_text_Paren words = rw led-joined refl

pub arg_text_Var : (name : Node t.arg) → arg_text (t.Var name) ≡ codes "$" ++ arg_text name
unfolding arg_text
arg_text_Var name = refl

pub arg_text_Count : (name : Node t.arg) → arg_text (t.Count name) ≡ codes "$#" ++ arg_text name
unfolding arg_text
arg_text_Count name = refl

pub arg_text_Flat : (name : Node t.arg) → arg_text (t.Flat name) ≡ codes "$\"" ++ arg_text name
unfolding arg_text
arg_text_Flat name = refl

pub arg_text_Sub : (name : Node t.arg) (subscripts : Many t.arg) → arg_text (t.Sub name subscripts) ≡
    codes "$" ++ (arg_text name ++ (codes "(" ++ (led [] (codes " ") (arg_texts subscripts) ++ codes ")")))
unfolding arg_text
arg_text_Sub name subscripts = rw led-joined refl

pub arg_text_Back : (body : Node t.cmd) → arg_text (t.Back body) ≡ codes "`{" ++ (cmd_text body false ++ codes "}")
unfolding arg_text
arg_text_Back body = refl

pub redir_text_Open : (mode : Mode) (slot : ℕ) (path : Node t.arg) → redir_text (t.Open mode slot path) ≡ opening mode slot ++ arg_text path
unfolding redir_text
redir_text_Open mode slot path = refl

pub redir_text_Copy : (to : ℕ) (from : ℕ) → redir_text (t.Copy to from) ≡ copying to from
unfolding redir_text
redir_text_Copy to from = refl

pub redir_text_Here : (pieces : Many t.piece) → redir_text (t.Here pieces) ≡ []
unfolding redir_text
redir_text_Here pieces = refl

pub arg_texts_none : arg_texts none ≡ []
unfolding arg_texts
arg_texts_none = refl

pub arg_texts_more : (word : Node t.arg) (words : Many t.arg) → arg_texts (more word words) ≡ arg_text word ∷ arg_texts words
unfolding arg_texts
arg_texts_more word words = refl

pub pair_texts_none : pair_texts none ≡ []
unfolding pair_texts
pair_texts_none = refl

pub pair_texts_more : (name : Node t.arg) (value : Node t.arg) (pairs : Many t.pair) → pair_texts (more (t.Pair name value) pairs) ≡
    (arg_text name ++ (codes "=" ++ arg_text value)) ∷ pair_texts pairs
unfolding pair_texts
pair_texts_more name value pairs = refl

pub redir_texts_none : redir_texts none ≡ []
unfolding redir_texts
redir_texts_none = refl

pub redir_texts_more : (redir : Node t.redir) (redirs : Many t.redir) → redir_texts (more redir redirs) ≡ redir_text redir ∷ redir_texts redirs
unfolding redir_texts
redir_texts_more redir redirs = refl

pub stages_text_none : (begins : Bool) → stages_text none begins ≡ []
unfolding stages_text
stages_text_none begins = refl

pub stages_text_more : (body : Node t.cmd) (slot : ℕ) (stages : Many t.stage) (begins : Bool) → stages_text (more (t.Stage body slot) stages) begins ≡
    cmd_text body begins ++ (bar slot ++ stages_text stages false)
unfolding stages_text
stages_text_more body slot stages begins = refl

pub links_text_none : links_text none ≡ []
unfolding links_text
links_text_none = refl

pub links_text_more : (logic : Logic) (body : Node t.cmd) (links : Many t.link) → links_text (more (t.Link logic body) links) ≡
    sign logic ++ (cmd_text body false ++ links_text links)
unfolding links_text
links_text_more logic body links = refl

pub item_lines_none : (begins : Bool) (others : Bool) → item_lines none begins others ≡ []
unfolding item_lines
item_lines_none begins others = refl

pub item_lines_more : (body : Node t.cmd) (background : Bool) (items : Many t.item) (begins : Bool) (others : Bool) →
    item_lines (more (t.Item body background) items) begins others ≡
    (cmd_text body begins, background) ∷ item_lines items others others
unfolding item_lines
item_lines_more body background items begins others = refl

pub branch_lines_none : branch_lines none ≡ []
unfolding branch_lines
branch_lines_none = refl

pub branch_lines_more : (patterns : Many t.arg) (body : Node t.cmd) (branches : Many t.branch) → branch_lines (more (t.Branch patterns body) branches) ≡
    (codes "case" ++ led (codes " ") (codes " ") (arg_texts patterns), false)
    ∷ (body_lines body (branch_items body) (cmd_text body true) ++ branch_lines branches)
unfolding branch_lines
branch_lines_more patterns body branches = rw led-each refl

pub branch_items_Seq : (items : Many t.item) → branch_items (t.Seq items) ≡ item_lines items true true
unfolding branch_items
branch_items_Seq items = refl

-- assignments alone, and those before a command
pub assign_alone : (pairs : Many t.pair) (body : Node t.cmd) (begins : Bool) → is_empty body ≡ true →
    cmd_text (t.Assign pairs body) begins ≡ led [] (codes " ") (pair_texts pairs)
unfolding cmd_text
assign_alone pairs body begins e = rw e (sym (led-joined (codes " ") (pair_texts pairs)))

pub assign_before : (pairs : Many t.pair) (body : Node t.cmd) (begins : Bool) → is_empty body ≡ false →
    cmd_text (t.Assign pairs body) begins ≡ led [] (codes " ") (pair_texts pairs) ++ (codes " " ++ cmd_text body false)
unfolding cmd_text
assign_before pairs body begins e = rw (e, led-joined) refl

-- redirections alone, after a command and before one
pub redirect_alone : (redirs : Many t.redir) (body : Node t.cmd) (begins : Bool) → is_empty body ≡ true →
    cmd_text (t.Redirect redirs body) begins ≡ led [] (codes " ") (redir_texts redirs)
unfolding cmd_text
redirect_alone redirs body begins e = rw e (sym (led-joined (codes " ") (redir_texts redirs)))

pub redirect_after : (redirs : Many t.redir) (body : Node t.cmd) (begins : Bool) → is_empty body ≡ false → stands_first body begins ≡ true →
    cmd_text (t.Redirect redirs body) begins ≡ cmd_text body false ++ led (codes " ") (codes " ") (redir_texts redirs)
unfolding cmd_text
redirect_after redirs body begins e f = rw (e, f, led-each) refl

pub redirect_before : (redirs : Many t.redir) (body : Node t.cmd) (begins : Bool) → is_empty body ≡ false → stands_first body begins ≡ false →
    cmd_text (t.Redirect redirs body) begins ≡ trailed (redir_texts redirs) ++ cmd_text body false
unfolding cmd_text
redirect_before redirs body begins e f = rw (e, f, trailed-each) refl

pub ruleset writing = (
  cmd_text_Empty,
  cmd_text_Seq,
  cmd_text_Simple,
  cmd_text_Pipeline,
  cmd_text_AndOr,
  cmd_text_Not,
  cmd_text_Subshell,
  cmd_text_If,
  cmd_text_IfNot,
  cmd_text_While,
  cmd_text_ForAll,
  cmd_text_For,
  cmd_text_Switch,
  cmd_text_Match,
  cmd_text_Define,
  cmd_text_Undefine,
  cmd_text_Brace,
  arg_text_Lit,
  arg_text_Concat,
  arg_text_Paren,
  arg_text_Var,
  arg_text_Count,
  arg_text_Flat,
  arg_text_Sub,
  arg_text_Back,
  redir_text_Open,
  redir_text_Copy,
  redir_text_Here,
  arg_texts_none,
  arg_texts_more,
  pair_texts_none,
  pair_texts_more,
  redir_texts_none,
  redir_texts_more,
  stages_text_none,
  stages_text_more,
  links_text_none,
  links_text_more,
  item_lines_none,
  item_lines_more,
  branch_lines_none,
  branch_lines_more,
  branch_items_Seq,
  assign_alone,
  assign_before,
  redirect_alone,
  redirect_after,
  redirect_before,
  lines_after-append,
  parting_after-append,
  tree_nodes,
  common_steps,
)
