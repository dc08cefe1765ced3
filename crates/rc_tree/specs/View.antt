-- The tree that a command represents: its content, without its layout in memory.
use Rattle.std.specs.Prelude.{◌≡◌, refl, ℕ, Bool, List, [], ◌∷◌, ◌++◌, string_bytes}
use Rattle.std.specs.declared.alloc.Global.{Global}
use Rattle.std.specs.declared.vec.Vec.{Vec}
use Rattle.std.specs.declared.boxed.Box.{Box}
use Rattle.std.specs.declared.option.Option.{Option}
use Rattle.std.specs.declared.option.Option.TheVariants as o
use Rattle.std.specs.declared.rc.Rc.{Rc}
use Rattle.std.proofs.lemmas.Grind.{common_steps}
use Rattle.std.proofs.Common.{ap, sym, ◌∙◌}
use Rattle.rc_model.specs.Syntax.Tree.{Sort, Node, Many, none, more, nodes, snoc}
use Rattle.rc_model.specs.Syntax.Tree as t
use Rattle.rc_model.specs.declared.call.Mode.{Mode}
use Rattle.rc_model.specs.declared.syntax.Logic.{Logic}
use Rattle.rc_tree.specs.LiteralTexts.{literal_bytes}
use Rattle.rc_tree.specs.declared.literal_text.LiteralText.{LiteralText}
use Rattle.rc_tree.specs.declared.types.Piece.{Piece}
use Rattle.rc_tree.specs.declared.types.Piece.TheVariants.{Text, Name}
use Rattle.rc_tree.specs.declared.types.Cmd.{Cmd}
use Rattle.rc_tree.specs.declared.types.Cmd.TheVariants as c
use Rattle.rc_tree.specs.declared.types.Arg.{Arg}
use Rattle.rc_tree.specs.declared.types.Arg.TheVariants as a
use Rattle.rc_tree.specs.declared.types.Redir.{Redir}
use Rattle.rc_tree.specs.declared.types.Redir.TheVariants as r
use Rattle.rc_tree.specs.declared.types.Item.{Item}
use Rattle.rc_tree.specs.declared.types.Stage.{Stage}
use Rattle.rc_tree.specs.declared.types.Branch.{Branch}
use Rattle.rc_tree.specs.declared.types.Cmd.{Row_of-Arg, end_of-Arg, more_of-Arg, Row_of-Item, end_of-Item}
use Rattle.rc_tree.specs.declared.types.Cmd.{more_of-Item, Row_of-Redir, end_of-Redir, more_of-Redir}
use Rattle.rc_tree.specs.declared.types.Cmd.{Row_of-Cmd-Assign-0-2, end_of-Cmd-Assign-0-2, more_of-Cmd-Assign-0-2}
use Rattle.rc_tree.specs.declared.types.Cmd.{Row_of-Stage, end_of-Stage, more_of-Stage, Row_of-Branch, end_of-Branch}
use Rattle.rc_tree.specs.declared.types.Cmd.{more_of-Branch, Row_of-Cmd-AndOr-1-2, end_of-Cmd-AndOr-1-2}
use Rattle.rc_tree.specs.declared.types.Cmd.{more_of-Cmd-AndOr-1-2, Held-Cmd-Assign-1, None', Some'}
use Rattle.rc_tree.specs.declared.types.Arg.TheBlock as rows

-- a piece of a here document
abbrev pub piece_tree : Piece → Node t.piece
piece_tree (Text x) = t.Text (string_bytes x)
piece_tree (Name x) = t.Name (string_bytes x)

-- the pieces of a here document
abbrev pub pieces_tree : List Piece → Many t.piece
pieces_tree = nodes piece_tree

-- the tree of each form
unfoldable mutual
  -- a command
  pub cmd_tree : Cmd → Node t.cmd
  cmd_tree c.Empty = t.Empty
  cmd_tree (c.Seq' s k) = t.Seq (item_row k)
  cmd_tree (c.Simple' s k) = t.Simple (arg_row k)
  cmd_tree (c.Assign' s k x) = t.Assign (pair_row k) (held_tree x)
  cmd_tree (c.Redirect' s k p x) = t.Redirect (redir_row k) (cmd_tree x)
  cmd_tree (c.Pipeline' q s k p x) = t.Pipeline (stage_row k) (cmd_tree x)
  cmd_tree (c.AndOr' p x s k) = t.AndOr (cmd_tree x) (link_row k)
  cmd_tree (c.Not' p x) = t.Not (cmd_tree x)
  cmd_tree (c.Subshell' p x) = t.Subshell (cmd_tree x)
  cmd_tree (c.If' p x q y) = t.If (cmd_tree x) (cmd_tree y)
  cmd_tree (c.IfNot' p x) = t.IfNot (cmd_tree x)
  cmd_tree (c.While' p x q y) = t.While (cmd_tree x) (cmd_tree y)
  cmd_tree (c.ForAll' n p x) = t.ForAll (arg_tree n) (cmd_tree x)
  cmd_tree (c.For' n s k p x) = t.For (arg_tree n) (arg_row k) (cmd_tree x)
  cmd_tree (c.Switch' n s k) = t.Switch (arg_tree n) (branch_row k)
  cmd_tree (c.Match' n s k) = t.Match (arg_tree n) (arg_row k)
  cmd_tree (c.Define' s k p x) = t.Define (arg_row k) (cmd_tree x)
  cmd_tree (c.Undefine' s k) = t.Undefine (arg_row k)
  cmd_tree (c.Brace' p x) = t.Brace (cmd_tree x)

  -- what stands under assignments: no command is the empty one
  pub held_tree : Held-Cmd-Assign-1 → Node t.cmd
  held_tree None' = t.Empty
  held_tree (Some' p x) = cmd_tree x

  -- an argument
  pub arg_tree : Arg → Node t.arg
  arg_tree (a.Lit q x) = t.Lit (literal_bytes x) q
  arg_tree (a.Concat' s k) = t.Concat (arg_row k)
  arg_tree (a.Paren' s k) = t.Paren (arg_row k)
  arg_tree (a.Var' p x) = t.Var (arg_tree x)
  arg_tree (a.Count' p x) = t.Count (arg_tree x)
  arg_tree (a.Flat' p x) = t.Flat (arg_tree x)
  arg_tree (a.Sub' p x s k) = t.Sub (arg_tree x) (arg_row k)
  arg_tree (a.Back' p x) = t.Back (cmd_tree x)

  -- a redirection
  pub redir_tree : Redir → Node t.redir
  redir_tree (r.Open m s x) = t.Open m s (arg_tree x)
  redir_tree (r.Copy x y) = t.Copy x y
  redir_tree (r.Here ps) = t.Here (pieces_tree ps.items)

  -- arguments, in the order in which they are in memory
  pub arg_row : {m : _} → Row_of-Arg m → Many t.arg
  arg_row end_of-Arg = none
  arg_row (more_of-Arg x k) = more (arg_tree x) (arg_row k)

  -- items of a sequence
  pub item_row : {m : _} → Row_of-Item m → Many t.item
  item_row end_of-Item = none
  item_row (more_of-Item x b k) = more (t.Item (cmd_tree x) b) (item_row k)

  -- assignments
  pub pair_row : {m : _} → Row_of-Cmd-Assign-0-2 m → Many t.pair
  pair_row end_of-Cmd-Assign-0-2 = none
  pair_row (more_of-Cmd-Assign-0-2 x y k) = more (t.Pair (arg_tree x) (arg_tree y)) (pair_row k)

  -- redirections
  pub redir_row : {m : _} → Row_of-Redir m → Many t.redir
  redir_row end_of-Redir = none
  redir_row (more_of-Redir x k) = more (redir_tree x) (redir_row k)

  -- stages of a pipeline
  pub stage_row : {m : _} → Row_of-Stage m → Many t.stage
  stage_row end_of-Stage = none
  stage_row (more_of-Stage x n k) = more (t.Stage (cmd_tree x) n) (stage_row k)

  -- operands after the first
  pub link_row : {m : _} → Row_of-Cmd-AndOr-1-2 m → Many t.link
  link_row end_of-Cmd-AndOr-1-2 = none
  link_row (more_of-Cmd-AndOr-1-2 l x k) = more (t.Link l (cmd_tree x)) (link_row k)

  -- branches of a switch
  pub branch_row : {m : _} → Row_of-Branch m → Many t.branch
  branch_row end_of-Branch = none
  branch_row (more_of-Branch s j p x k) = more (t.Branch (arg_row j) (cmd_tree x)) (branch_row k)

-- what stands under assignments, where it is read
abbrev pub body_tree : Option (Box Cmd Global) → Node t.cmd
body_tree o.None = t.Empty
body_tree (o.Some x) = cmd_tree x.value

-- a list of arguments, as loops see it; so are the lists below
abbrev pub args_tree : List Arg → Many t.arg
args_tree = nodes arg_tree

-- an item of a sequence
abbrev pub item_tree : Item → Node t.item
item_tree i = t.Item (cmd_tree i.cmd) i.background

-- a list of items
abbrev pub items_tree : List Item → Many t.item
items_tree = nodes item_tree

-- an assignment
abbrev pub pair_tree : Arg × Arg → Node t.pair
pair_tree x = t.Pair (arg_tree x.0) (arg_tree x.1)

-- a list of assignments
abbrev pub pairs_tree : List (Arg × Arg) → Many t.pair
pairs_tree = nodes pair_tree

-- a list of redirections
abbrev pub redirs_tree : List Redir → Many t.redir
redirs_tree = nodes redir_tree

-- a stage of a pipeline
abbrev pub stage_tree : Stage → Node t.stage
stage_tree x = t.Stage (cmd_tree x.cmd) x.slot

-- a list of stages
abbrev pub stages_tree : List Stage → Many t.stage
stages_tree = nodes stage_tree

-- an operand after the first
abbrev pub link_tree : Logic × Cmd → Node t.link
link_tree x = t.Link x.0 (cmd_tree x.1)

-- a list of operands after the first
abbrev pub links_tree : List (Logic × Cmd) → Many t.link
links_tree = nodes link_tree

-- a branch of a switch
abbrev pub branch_tree : Branch → Node t.branch
branch_tree x = t.Branch (args_tree x.patterns.items) (cmd_tree x.body.value)

-- a list of branches
abbrev pub branches_tree : List Branch → Many t.branch
branches_tree = nodes branch_tree

-- a list's nodes are those of its elements
args_listed : {m : _} (k : Row_of-Arg m) → arg_row k ≡ args_tree (rows.items-the_row-Arg m k)
unfolding arg_row
args_listed end_of-Arg = refl
args_listed (more_of-Arg x k) = ap (more (arg_tree x)) (args_listed k)

items_listed : {m : _} (k : Row_of-Item m) → item_row k ≡ items_tree (rows.items-the_row-Item m k)
unfolding item_row
items_listed end_of-Item = refl
items_listed (more_of-Item x b k) = ap (more (t.Item (cmd_tree x) b)) (items_listed k)

pairs_listed : {m : _} (k : Row_of-Cmd-Assign-0-2 m) → pair_row k ≡ pairs_tree (rows.items-the_row-Cmd-Assign-0-2 m k)
unfolding pair_row
pairs_listed end_of-Cmd-Assign-0-2 = refl
pairs_listed (more_of-Cmd-Assign-0-2 x y k) = ap (more (t.Pair (arg_tree x) (arg_tree y))) (pairs_listed k)

redirs_listed : {m : _} (k : Row_of-Redir m) → redir_row k ≡ redirs_tree (rows.items-the_row-Redir m k)
unfolding redir_row
redirs_listed end_of-Redir = refl
redirs_listed (more_of-Redir x k) = ap (more (redir_tree x)) (redirs_listed k)

stages_listed : {m : _} (k : Row_of-Stage m) → stage_row k ≡ stages_tree (rows.items-the_row-Stage m k)
unfolding stage_row
stages_listed end_of-Stage = refl
stages_listed (more_of-Stage x n k) = ap (more (t.Stage (cmd_tree x) n)) (stages_listed k)

links_listed : {m : _} (k : Row_of-Cmd-AndOr-1-2 m) → link_row k ≡ links_tree (rows.items-the_row-Cmd-AndOr-1-2 m k)
unfolding link_row
links_listed end_of-Cmd-AndOr-1-2 = refl
links_listed (more_of-Cmd-AndOr-1-2 l x k) = ap (more (t.Link l (cmd_tree x))) (links_listed k)

branches_listed : {m : _} (k : Row_of-Branch m) → branch_row k ≡ branches_tree (rows.items-the_row-Branch m k)
unfolding branch_row
branches_listed end_of-Branch = refl
branches_listed (more_of-Branch s j p x k) =
    ap (λ ps. more (t.Branch ps (cmd_tree x)) (branch_row k)) (args_listed j
    ∙ ap args_tree (sym (rows.items_shown-the_row-Arg-0 s j)))
    ∙ ap (more (t.Branch (args_tree (rows.shown-the_row-Arg-0 s j).items) (cmd_tree x))) (branches_listed k)

args_shown : (v : Vec Arg Global) → arg_row (rows.hidden-the_row-Arg-0 v) ≡ args_tree v.items
args_shown v = args_listed (rows.hidden-the_row-Arg-0 v) ∙ ap args_tree (rows.items_hidden-the_row-Arg-0 v)

items_shown : (v : Vec Item Global) → item_row (rows.hidden-the_row-Item-1 v) ≡ items_tree v.items
items_shown v = items_listed (rows.hidden-the_row-Item-1 v) ∙ ap items_tree (rows.items_hidden-the_row-Item-1 v)

pairs_shown : (v : Vec (Arg × Arg) Global) → pair_row (rows.hidden-the_row-Cmd-Assign-0-2-2 v) ≡ pairs_tree v.items
pairs_shown v =
    pairs_listed (rows.hidden-the_row-Cmd-Assign-0-2-2 v) ∙ ap pairs_tree (rows.items_hidden-the_row-Cmd-Assign-0-2-2 v)

redirs_shown : (v : Vec Redir Global) → redir_row (rows.hidden-the_row-Redir-3 v) ≡ redirs_tree v.items
redirs_shown v = redirs_listed (rows.hidden-the_row-Redir-3 v) ∙ ap redirs_tree (rows.items_hidden-the_row-Redir-3 v)

stages_shown : (v : Vec Stage Global) → stage_row (rows.hidden-the_row-Stage-4 v) ≡ stages_tree v.items
stages_shown v = stages_listed (rows.hidden-the_row-Stage-4 v) ∙ ap stages_tree (rows.items_hidden-the_row-Stage-4 v)

links_shown : (v : Vec (Logic × Cmd) Global) → link_row (rows.hidden-the_row-Cmd-AndOr-1-2-5 v) ≡ links_tree v.items
links_shown v =
    links_listed (rows.hidden-the_row-Cmd-AndOr-1-2-5 v) ∙ ap links_tree (rows.items_hidden-the_row-Cmd-AndOr-1-2-5 v)

branches_shown : (v : Vec Branch Global) → branch_row (rows.hidden-the_row-Branch-6 v) ≡ branches_tree v.items
branches_shown v =
    branches_listed (rows.hidden-the_row-Branch-6 v) ∙ ap branches_tree (rows.items_hidden-the_row-Branch-6 v)

-- the tree of each kind of node
pub tree_Empty : cmd_tree c.Empty ≡ t.Empty
unfolding cmd_tree
tree_Empty = refl

pub tree_Seq : (v : Vec Item Global) → cmd_tree (c.Seq v) ≡ t.Seq (items_tree v.items)
unfolding cmd_tree
tree_Seq v = ap t.Seq (items_shown v)

pub tree_Simple : (v : Vec Arg Global) → cmd_tree (c.Simple v) ≡ t.Simple (args_tree v.items)
unfolding cmd_tree
tree_Simple v = ap t.Simple (args_shown v)

pub tree_Assign : (v : Vec (Arg × Arg) Global) (x : Option (Box Cmd Global)) → cmd_tree (c.Assign v x)
    ≡ t.Assign (pairs_tree v.items) (body_tree x)
unfolding cmd_tree held_tree
tree_Assign v o.None = ap (λ ns. t.Assign ns t.Empty) (pairs_shown v)
tree_Assign v (o.Some x) = ap (λ ns. t.Assign ns (cmd_tree x.value)) (pairs_shown v)

pub tree_Redirect : (v : Vec Redir Global) (x : Box Cmd Global) → cmd_tree (c.Redirect v x)
    ≡ t.Redirect (redirs_tree v.items) (cmd_tree x.value)
unfolding cmd_tree
tree_Redirect v x = ap (λ ns. t.Redirect ns (cmd_tree x.value)) (redirs_shown v)

pub tree_Pipeline : (v : Rc (Vec Stage Global) Global) (x : Box Cmd Global) → cmd_tree (c.Pipeline v x)
    ≡ t.Pipeline (stages_tree v.value.items) (cmd_tree x.value)
unfolding cmd_tree
tree_Pipeline v x = ap (λ ns. t.Pipeline ns (cmd_tree x.value)) (stages_shown v.value)

pub tree_AndOr : (x : Box Cmd Global) (v : Vec (Logic × Cmd) Global) → cmd_tree (c.AndOr x v)
    ≡ t.AndOr (cmd_tree x.value) (links_tree v.items)
unfolding cmd_tree
tree_AndOr x v = ap (t.AndOr (cmd_tree x.value)) (links_shown v)

pub tree_Not : (x : Box Cmd Global) → cmd_tree (c.Not x) ≡ t.Not (cmd_tree x.value)
unfolding cmd_tree
tree_Not x = refl

pub tree_Subshell : (x : Rc Cmd Global) → cmd_tree (c.Subshell x) ≡ t.Subshell (cmd_tree x.value)
unfolding cmd_tree
tree_Subshell x = refl

pub tree_If : (x y : Box Cmd Global) → cmd_tree (c.If x y) ≡ t.If (cmd_tree x.value) (cmd_tree y.value)
unfolding cmd_tree
tree_If x y = refl

pub tree_IfNot : (x : Box Cmd Global) → cmd_tree (c.IfNot x) ≡ t.IfNot (cmd_tree x.value)
unfolding cmd_tree
tree_IfNot x = refl

pub tree_While : (x y : Box Cmd Global) → cmd_tree (c.While x y) ≡ t.While (cmd_tree x.value) (cmd_tree y.value)
unfolding cmd_tree
tree_While x y = refl

pub tree_ForAll : (n : Arg) (x : Box Cmd Global) → cmd_tree (c.ForAll n x) ≡ t.ForAll (arg_tree n) (cmd_tree x.value)
unfolding cmd_tree
tree_ForAll n x = refl

pub tree_For : (n : Arg) (v : Vec Arg Global) (x : Box Cmd Global) → cmd_tree (c.For n v x)
    ≡ t.For (arg_tree n) (args_tree v.items) (cmd_tree x.value)
unfolding cmd_tree
tree_For n v x = ap (λ ns. t.For (arg_tree n) ns (cmd_tree x.value)) (args_shown v)

pub tree_Switch : (n : Arg) (v : Vec Branch Global) → cmd_tree (c.Switch n v)
    ≡ t.Switch (arg_tree n) (branches_tree v.items)
unfolding cmd_tree
tree_Switch n v = ap (t.Switch (arg_tree n)) (branches_shown v)

pub tree_Match : (n : Arg) (v : Vec Arg Global) → cmd_tree (c.Match n v) ≡ t.Match (arg_tree n) (args_tree v.items)
unfolding cmd_tree
tree_Match n v = ap (t.Match (arg_tree n)) (args_shown v)

pub tree_Define : (v : Vec Arg Global) (x : Rc Cmd Global) → cmd_tree (c.Define v x)
    ≡ t.Define (args_tree v.items) (cmd_tree x.value)
unfolding cmd_tree
tree_Define v x = ap (λ ns. t.Define ns (cmd_tree x.value)) (args_shown v)

pub tree_Undefine : (v : Vec Arg Global) → cmd_tree (c.Undefine v) ≡ t.Undefine (args_tree v.items)
unfolding cmd_tree
tree_Undefine v = ap t.Undefine (args_shown v)

pub tree_Brace : (x : Box Cmd Global) → cmd_tree (c.Brace x) ≡ t.Brace (cmd_tree x.value)
unfolding cmd_tree
tree_Brace x = refl

pub tree_Lit : (q : Bool) (x : LiteralText) → arg_tree (a.Lit q x) ≡ t.Lit (literal_bytes x) q
unfolding arg_tree
tree_Lit q x = refl

pub tree_Concat : (v : Vec Arg Global) → arg_tree (a.Concat v) ≡ t.Concat (args_tree v.items)
unfolding arg_tree
tree_Concat v = ap t.Concat (args_shown v)

pub tree_Paren : (v : Vec Arg Global) → arg_tree (a.Paren v) ≡ t.Paren (args_tree v.items)
unfolding arg_tree
tree_Paren v = ap t.Paren (args_shown v)

pub tree_Var : (x : Box Arg Global) → arg_tree (a.Var x) ≡ t.Var (arg_tree x.value)
unfolding arg_tree
tree_Var x = refl

pub tree_Count : (x : Box Arg Global) → arg_tree (a.Count x) ≡ t.Count (arg_tree x.value)
unfolding arg_tree
tree_Count x = refl

pub tree_Flat : (x : Box Arg Global) → arg_tree (a.Flat x) ≡ t.Flat (arg_tree x.value)
unfolding arg_tree
tree_Flat x = refl

pub tree_Sub : (x : Box Arg Global) (v : Vec Arg Global) → arg_tree (a.Sub x v)
    ≡ t.Sub (arg_tree x.value) (args_tree v.items)
unfolding arg_tree
tree_Sub x v = ap (t.Sub (arg_tree x.value)) (args_shown v)

pub tree_Back : (x : Rc Cmd Global) → arg_tree (a.Back x) ≡ t.Back (cmd_tree x.value)
unfolding arg_tree
tree_Back x = refl

pub tree_Open : (m : Mode) (s : ℕ) (x : Arg) → redir_tree (r.Open m s x) ≡ t.Open m s (arg_tree x)
unfolding redir_tree
tree_Open m s x = refl

pub tree_Copy : (x y : ℕ) → redir_tree (r.Copy x y) ≡ t.Copy x y
unfolding redir_tree
tree_Copy x y = refl

pub tree_Here : (v : Vec Piece Global) → redir_tree (r.Here v) ≡ t.Here (pieces_tree v.items)
unfolding redir_tree
tree_Here v = refl

pub ruleset tree_nodes = (
  tree_Empty,
  tree_Seq,
  tree_Simple,
  tree_Assign,
  tree_Redirect,
  tree_Pipeline,
  tree_AndOr,
  tree_Not,
  tree_Subshell,
  tree_If,
  tree_IfNot,
  tree_While,
  tree_ForAll,
  tree_For,
  tree_Switch,
  tree_Match,
  tree_Define,
  tree_Undefine,
  tree_Brace,
  tree_Lit,
  tree_Concat,
  tree_Paren,
  tree_Var,
  tree_Count,
  tree_Flat,
  tree_Sub,
  tree_Back,
  tree_Open,
  tree_Copy,
  tree_Here,
)

-- one more element of a list is one more node
pub nodes_push : {X : Type 0} {s : Sort} (f : X → Node s) (xs : List X) (x : X) → nodes f (xs ++ x ∷ [])
    ≡ snoc (nodes f xs) (f x)
nodes_push f [] x = refl
nodes_push f (y ∷ ys) x = ap (more (f y)) (nodes_push f ys x)

-- the rules for a loop over a list that makes another
pub ruleset tree_lists = (nodes_push, common_steps)

-- the rules for a walk over the tree
pub ruleset tree_walks = (tree_nodes, common_steps)
