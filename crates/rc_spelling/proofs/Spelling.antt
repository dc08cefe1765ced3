-- How each node is spelled, as the program writes it.
use Rattle.std.proofs.Common.{◌≡◌, refl, ℕ, Bool, List, [], ◌++◌, codes}
use Rattle.std.proofs.lemmas.Grind.{common_steps}
use Rattle.std.specs.Fmt.{decimal}
use Rattle.rc_model.specs.declared.call.Mode.{Mode}
use Rattle.rc_model.specs.declared.syntax.Logic.{Logic}
use Rattle.rc_model.specs.Syntax.Tree.{Sort, Node, Many, none, more, count}
use Rattle.rc_model.specs.Syntax.Tree as t
use Rattle.rc_model.specs.Handed.Image.{node_image, many_image, list_image, text_image, literal_mark, item_mark, logic_mark, opening_mark}
use Rattle.rc_tree.specs.View.{tree_nodes}
use Rattle.rc_tree.proofs.Numbers.{count_nodes}

pub image_Empty : node_image t.Empty ≡ codes "e"
unfolding node_image
image_Empty = refl

pub image_Seq : (items : Many t.item) → node_image (t.Seq items) ≡ codes "s" ++ list_image (count items) (many_image items)
unfolding node_image
image_Seq items = refl

pub image_Simple : (words : Many t.arg) → node_image (t.Simple words) ≡ codes "c" ++ list_image (count words) (many_image words)
unfolding node_image
image_Simple words = refl

pub image_Assign : (pairs : Many t.pair) (body : Node t.cmd) → node_image (t.Assign pairs body) ≡ codes "=" ++ (list_image (count pairs) (many_image pairs) ++ node_image body)
unfolding node_image
image_Assign pairs body = refl

pub image_Redirect : (redirs : Many t.redir) (body : Node t.cmd) → node_image (t.Redirect redirs body) ≡ codes "r" ++ (list_image (count redirs) (many_image redirs) ++ node_image body)
unfolding node_image
image_Redirect redirs body = refl

pub image_Pipeline : (stages : Many t.stage) (last : Node t.cmd) → node_image (t.Pipeline stages last) ≡ codes "p" ++ (list_image (count stages) (many_image stages) ++ node_image last)
unfolding node_image
image_Pipeline stages last = refl

pub image_AndOr : (first : Node t.cmd) (links : Many t.link) → node_image (t.AndOr first links) ≡ codes "a" ++ (node_image first ++ list_image (count links) (many_image links))
unfolding node_image
image_AndOr first links = refl

pub image_Not : (body : Node t.cmd) → node_image (t.Not body) ≡ codes "!" ++ node_image body
unfolding node_image
image_Not body = refl

pub image_Subshell : (body : Node t.cmd) → node_image (t.Subshell body) ≡ codes "@" ++ node_image body
unfolding node_image
image_Subshell body = refl

pub image_If : (condition body : Node t.cmd) → node_image (t.If condition body) ≡ codes "i" ++ (node_image condition ++ node_image body)
unfolding node_image
image_If condition body = refl

pub image_IfNot : (body : Node t.cmd) → node_image (t.IfNot body) ≡ codes "n" ++ node_image body
unfolding node_image
image_IfNot body = refl

pub image_While : (condition body : Node t.cmd) → node_image (t.While condition body) ≡ codes "w" ++ (node_image condition ++ node_image body)
unfolding node_image
image_While condition body = refl

pub image_ForAll : (name : Node t.arg) (body : Node t.cmd) → node_image (t.ForAll name body) ≡ codes "f" ++ (node_image name ++ node_image body)
unfolding node_image
image_ForAll name body = refl

pub image_For : (name : Node t.arg) (words : Many t.arg) (body : Node t.cmd) → node_image (t.For name words body) ≡ codes "F" ++ (node_image name ++ (list_image (count words) (many_image words) ++ node_image body))
unfolding node_image
image_For name words body = refl

pub image_Switch : (subject : Node t.arg) (branches : Many t.branch) → node_image (t.Switch subject branches) ≡ codes "S" ++ (node_image subject ++ list_image (count branches) (many_image branches))
unfolding node_image
image_Switch subject branches = refl

pub image_Match : (subject : Node t.arg) (patterns : Many t.arg) → node_image (t.Match subject patterns) ≡ codes "~" ++ (node_image subject ++ list_image (count patterns) (many_image patterns))
unfolding node_image
image_Match subject patterns = refl

pub image_Define : (names : Many t.arg) (body : Node t.cmd) → node_image (t.Define names body) ≡ codes "d" ++ (list_image (count names) (many_image names) ++ node_image body)
unfolding node_image
image_Define names body = refl

pub image_Undefine : (names : Many t.arg) → node_image (t.Undefine names) ≡ codes "u" ++ list_image (count names) (many_image names)
unfolding node_image
image_Undefine names = refl

pub image_Brace : (body : Node t.cmd) → node_image (t.Brace body) ≡ codes "b" ++ node_image body
unfolding node_image
image_Brace body = refl

pub image_Lit : (text : List ℕ) (quoted : Bool) → node_image (t.Lit text quoted) ≡ literal_mark quoted ++ text_image text
unfolding node_image
image_Lit text quoted = refl

pub image_Concat : (parts : Many t.arg) → node_image (t.Concat parts) ≡ codes "^" ++ list_image (count parts) (many_image parts)
unfolding node_image
image_Concat parts = refl

pub image_Paren : (words : Many t.arg) → node_image (t.Paren words) ≡ codes "(" ++ list_image (count words) (many_image words)
unfolding node_image
image_Paren words = refl

pub image_Var : (name : Node t.arg) → node_image (t.Var name) ≡ codes "$" ++ node_image name
unfolding node_image
image_Var name = refl

pub image_Count : (name : Node t.arg) → node_image (t.Count name) ≡ codes "#" ++ node_image name
unfolding node_image
image_Count name = refl

pub image_Flat : (name : Node t.arg) → node_image (t.Flat name) ≡ codes "\"" ++ node_image name
unfolding node_image
image_Flat name = refl

pub image_Sub : (name : Node t.arg) (subscripts : Many t.arg) → node_image (t.Sub name subscripts) ≡ codes "[" ++ (node_image name ++ list_image (count subscripts) (many_image subscripts))
unfolding node_image
image_Sub name subscripts = refl

pub image_Back : (body : Node t.cmd) → node_image (t.Back body) ≡ codes "`" ++ node_image body
unfolding node_image
image_Back body = refl

pub image_Item : (body : Node t.cmd) (background : Bool) → node_image (t.Item body background) ≡ item_mark background ++ node_image body
unfolding node_image
image_Item body background = refl

pub image_Pair : (name value : Node t.arg) → node_image (t.Pair name value) ≡ node_image name ++ node_image value
unfolding node_image
image_Pair name value = refl

pub image_Stage : (body : Node t.cmd) (slot : ℕ) → node_image (t.Stage body slot) ≡ decimal slot ++ node_image body
unfolding node_image
image_Stage body slot = refl

pub image_Link : (logic : Logic) (body : Node t.cmd) → node_image (t.Link logic body) ≡ logic_mark logic ++ node_image body
unfolding node_image
image_Link logic body = refl

pub image_Branch : (patterns : Many t.arg) (body : Node t.cmd) → node_image (t.Branch patterns body) ≡ list_image (count patterns) (many_image patterns) ++ node_image body
unfolding node_image
image_Branch patterns body = refl

pub image_Open : (mode : Mode) (slot : ℕ) (path : Node t.arg) → node_image (t.Open mode slot path) ≡ opening_mark mode slot ++ node_image path
unfolding node_image
image_Open mode slot path = refl

pub image_Copy : (to from : ℕ) → node_image (t.Copy to from) ≡ codes "=" ++ (decimal to ++ decimal from)
unfolding node_image
image_Copy to from = refl

pub image_Here : (pieces : Many t.piece) → node_image (t.Here pieces) ≡ codes "h" ++ list_image (count pieces) (many_image pieces)
unfolding node_image
image_Here pieces = refl

pub image_Text : (text : List ℕ) → node_image (t.Text text) ≡ codes "t" ++ text_image text
unfolding node_image
image_Text text = refl

pub image_Name : (name : List ℕ) → node_image (t.Name name) ≡ codes "v" ++ text_image name
unfolding node_image
image_Name name = refl

pub image_none : (s : Sort) → many_image {s = s} none ≡ []
unfolding many_image
image_none s = refl

pub image_more : {s : Sort} (n : Node s) (ns : Many s) → many_image (more n ns) ≡ node_image n ++ many_image ns
unfolding many_image
image_more n ns = refl

pub ruleset spelling = (
  image_Empty,
  image_Seq,
  image_Simple,
  image_Assign,
  image_Redirect,
  image_Pipeline,
  image_AndOr,
  image_Not,
  image_Subshell,
  image_If,
  image_IfNot,
  image_While,
  image_ForAll,
  image_For,
  image_Switch,
  image_Match,
  image_Define,
  image_Undefine,
  image_Brace,
  image_Lit,
  image_Concat,
  image_Paren,
  image_Var,
  image_Count,
  image_Flat,
  image_Sub,
  image_Back,
  image_Item,
  image_Pair,
  image_Stage,
  image_Link,
  image_Branch,
  image_Open,
  image_Copy,
  image_Here,
  image_Text,
  image_Name,
  image_none,
  image_more,
  count_nodes,
  tree_nodes,
  common_steps,
)
