-- The abstract syntax tree of a script. Nodes are indexed by their sort, so that one type of list serves all.
use Rattle.std.specs.Prelude.{ℕ, suc, Bool, true, false, List, [], ◌∷◌}
use Rattle.rc_model.specs.Run.Calls.{Mode}
pub use Rattle.rc_model.specs.declared.syntax.Logic.{Logic}
pub use Rattle.rc_model.specs.declared.syntax.Logic.TheVariants.{And, Or}

-- the sorts of nodes
pub data Sort : Type 0 where
  cmd : Sort
  arg : Sort
  item : Sort
  pair : Sort
  redir : Sort
  stage : Sort
  link : Sort
  branch : Sort
  piece : Sort

-- trees, and the lists of trees inside them
mutual
  -- a node of a sort, with all that is below it
  pub data Node : Sort → Type 0 where
    -- commands
    Empty : Node cmd
    Seq : Many item → Node cmd
    Simple : Many arg → Node cmd
    Assign : Many pair → Node cmd → Node cmd
    Redirect : Many redir → Node cmd → Node cmd
    Pipeline : Many stage → Node cmd → Node cmd
    AndOr : Node cmd → Many link → Node cmd
    Not : Node cmd → Node cmd
    Subshell : Node cmd → Node cmd
    If : Node cmd → Node cmd → Node cmd
    IfNot : Node cmd → Node cmd
    While : Node cmd → Node cmd → Node cmd
    ForAll : Node arg → Node cmd → Node cmd
    For : Node arg → Many arg → Node cmd → Node cmd
    Switch : Node arg → Many branch → Node cmd
    Match : Node arg → Many arg → Node cmd
    Define : Many arg → Node cmd → Node cmd
    Undefine : Many arg → Node cmd
    Brace : Node cmd → Node cmd
    -- arguments
    Lit : (text : List ℕ) (quoted : Bool) → Node arg
    Concat : Many arg → Node arg
    Paren : Many arg → Node arg
    Var : Node arg → Node arg
    Count : Node arg → Node arg
    Flat : Node arg → Node arg
    Sub : Node arg → Many arg → Node arg
    Back : Node cmd → Node arg
    -- an item of a sequence, which may run in the background
    Item : Node cmd → (background : Bool) → Node item
    -- an assignment of a value to a name
    Pair : (name value : Node arg) → Node pair
    -- a stage of a pipeline, with the descriptor that goes into the pipe
    Stage : Node cmd → (slot : ℕ) → Node stage
    Link : Logic → Node cmd → Node link
    -- a case line with what follows it
    Branch : (patterns : Many arg) → Node cmd → Node branch
    -- redirections
    Open : Mode → (slot : ℕ) → (path : Node arg) → Node redir
    Copy : (to from : ℕ) → Node redir
    Here : Many piece → Node redir
    -- pieces of a here document
    Text : List ℕ → Node piece
    Name : List ℕ → Node piece

  -- a list of nodes of one sort
  pub data Many : Sort → Type 0 where
    none : {s : Sort} → Many s
    more : {s : Sort} → Node s → Many s → Many s

-- how many nodes there are
abbrev pub count : {s : Sort} → Many s → ℕ
count none = 0
count (more n ns) = suc (count ns)

-- one more node at the end
abbrev pub snoc : {s : Sort} → Many s → Node s → Many s
snoc none x = more x none
snoc (more n ns) x = more n (snoc ns x)

-- the nodes that the values of a list represent
abbrev pub nodes : {X : Type 0} {s : Sort} → (X → Node s) → List X → Many s
nodes f [] = none
nodes f (x ∷ xs) = more (f x) (nodes f xs)

-- the empty command
abbrev pub is_empty : Node cmd → Bool
is_empty Empty = true
is_empty _ = false

-- a sequence with no items
abbrev pub has_no_items : Node cmd → Bool
has_no_items (Seq none) = true
has_no_items _ = false

-- Whether an operand of `&&` and `||` is guarded, given the links after it: all operands but the last are.
abbrev pub guards : Many link → (guarded : Bool) → Bool
guards none guarded = guarded
guards (more l ls) guarded = true
