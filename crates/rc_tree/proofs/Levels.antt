-- How the levels of a node are those of its parts.
use Rattle.std.proofs.Common.{◌≡◌, refl, ap, ◌∙◌, ℕ, ◌-◌, max, Bool, true, false, ◌&&◌, nat_lt, nat_le, List, arith}
use Rattle.std.proofs.Math.Dec.{leb-zero}
use Rattle.std.proofs.lemmas.Bool.Decides.{nat_tests}
use Rattle.std.proofs.lemmas.Grind.{common_steps}
use Rattle.rc_model.specs.declared.call.Mode.{Mode}
use Rattle.rc_model.specs.declared.syntax.Logic.{Logic}
use Rattle.rc_model.specs.Syntax.Tree.{Sort, Node, Many, none, more}
use Rattle.rc_model.specs.Syntax.Tree as t
use Rattle.rc_model.specs.Syntax.WellFormed.{depth, depths}
use Rattle.rc_tree.specs.View.{tree_nodes}
use Rattle.rc_tree.proofs.Numbers.{le_suc, le_max}
use Rattle.rc_tree.specs.Levels.{within, within_all}

le_one : (d : ℕ) → nat_le 1 d ≡ nat_lt 0 d
le_one d = grind (arith, nat_tests)

-- the levels of each node
pub within_Empty : (d : ℕ) → within t.Empty d ≡ nat_lt 0 d
unfolding within within_all
within_Empty d = le_one d

pub within_Seq : (xs : Many t.item) (d : ℕ) → within (t.Seq xs) d ≡ nat_lt 0 d && within_all xs (d - 1)
unfolding within within_all
within_Seq xs d = le_suc (depths xs) d

pub within_Simple : (xs : Many t.arg) (d : ℕ) → within (t.Simple xs) d ≡ nat_lt 0 d && within_all xs (d - 1)
unfolding within within_all
within_Simple xs d = le_suc (depths xs) d

pub within_Assign : (xs : Many t.pair) (x : Node t.cmd) (d : ℕ) → within (t.Assign xs x) d ≡ nat_lt 0 d && (within_all xs (d - 1) && within x (d - 1))
unfolding within within_all
within_Assign xs x d = le_suc (max (depths xs) (depth x)) d
    ∙ ap (λ v. nat_lt 0 d && v) (le_max (depths xs) (depth x) (d - 1))

pub within_Redirect : (xs : Many t.redir) (x : Node t.cmd) (d : ℕ) → within (t.Redirect xs x) d ≡ nat_lt 0 d && (within_all xs (d - 1) && within x (d - 1))
unfolding within within_all
within_Redirect xs x d = le_suc (max (depths xs) (depth x)) d
    ∙ ap (λ v. nat_lt 0 d && v) (le_max (depths xs) (depth x) (d - 1))

pub within_Pipeline : (xs : Many t.stage) (x : Node t.cmd) (d : ℕ) → within (t.Pipeline xs x) d ≡ nat_lt 0 d && (within_all xs (d - 1) && within x (d - 1))
unfolding within within_all
within_Pipeline xs x d = le_suc (max (depths xs) (depth x)) d
    ∙ ap (λ v. nat_lt 0 d && v) (le_max (depths xs) (depth x) (d - 1))

pub within_AndOr : (x : Node t.cmd) (xs : Many t.link) (d : ℕ) → within (t.AndOr x xs) d ≡ nat_lt 0 d && (within x (d - 1) && within_all xs (d - 1))
unfolding within within_all
within_AndOr x xs d = le_suc (max (depth x) (depths xs)) d
    ∙ ap (λ v. nat_lt 0 d && v) (le_max (depth x) (depths xs) (d - 1))

pub within_Not : (x : Node t.cmd) (d : ℕ) → within (t.Not x) d ≡ nat_lt 0 d && within x (d - 1)
unfolding within within_all
within_Not x d = le_suc (depth x) d

pub within_Subshell : (x : Node t.cmd) (d : ℕ) → within (t.Subshell x) d ≡ nat_lt 0 d && within x (d - 1)
unfolding within within_all
within_Subshell x d = le_suc (depth x) d

pub within_If : (x : Node t.cmd) (y : Node t.cmd) (d : ℕ) → within (t.If x y) d ≡ nat_lt 0 d && (within x (d - 1) && within y (d - 1))
unfolding within within_all
within_If x y d = le_suc (max (depth x) (depth y)) d
    ∙ ap (λ v. nat_lt 0 d && v) (le_max (depth x) (depth y) (d - 1))

pub within_IfNot : (x : Node t.cmd) (d : ℕ) → within (t.IfNot x) d ≡ nat_lt 0 d && within x (d - 1)
unfolding within within_all
within_IfNot x d = le_suc (depth x) d

pub within_While : (x : Node t.cmd) (y : Node t.cmd) (d : ℕ) → within (t.While x y) d ≡ nat_lt 0 d && (within x (d - 1) && within y (d - 1))
unfolding within within_all
within_While x y d = le_suc (max (depth x) (depth y)) d
    ∙ ap (λ v. nat_lt 0 d && v) (le_max (depth x) (depth y) (d - 1))

pub within_ForAll : (n : Node t.arg) (x : Node t.cmd) (d : ℕ) → within (t.ForAll n x) d ≡ nat_lt 0 d && (within n (d - 1) && within x (d - 1))
unfolding within within_all
within_ForAll n x d = le_suc (max (depth n) (depth x)) d
    ∙ ap (λ v. nat_lt 0 d && v) (le_max (depth n) (depth x) (d - 1))

pub within_For : (n : Node t.arg) (xs : Many t.arg) (x : Node t.cmd) (d : ℕ) → within (t.For n xs x) d ≡ nat_lt 0 d && (within n (d - 1) && (within_all xs (d - 1) && within x (d - 1)))
unfolding within within_all
within_For n xs x d = le_suc (max (depth n) (max (depths xs) (depth x))) d
    ∙ ap (λ v. nat_lt 0 d && v) (le_max (depth n) (max (depths xs) (depth x)) (d - 1))
    ∙ ap (λ v. nat_lt 0 d && (within n (d - 1) && v)) (le_max (depths xs) (depth x) (d - 1))

pub within_Switch : (n : Node t.arg) (xs : Many t.branch) (d : ℕ) → within (t.Switch n xs) d ≡ nat_lt 0 d && (within n (d - 1) && within_all xs (d - 1))
unfolding within within_all
within_Switch n xs d = le_suc (max (depth n) (depths xs)) d
    ∙ ap (λ v. nat_lt 0 d && v) (le_max (depth n) (depths xs) (d - 1))

pub within_Match : (n : Node t.arg) (xs : Many t.arg) (d : ℕ) → within (t.Match n xs) d ≡ nat_lt 0 d && (within n (d - 1) && within_all xs (d - 1))
unfolding within within_all
within_Match n xs d = le_suc (max (depth n) (depths xs)) d
    ∙ ap (λ v. nat_lt 0 d && v) (le_max (depth n) (depths xs) (d - 1))

pub within_Define : (xs : Many t.arg) (x : Node t.cmd) (d : ℕ) → within (t.Define xs x) d ≡ nat_lt 0 d && (within_all xs (d - 1) && within x (d - 1))
unfolding within within_all
within_Define xs x d = le_suc (max (depths xs) (depth x)) d
    ∙ ap (λ v. nat_lt 0 d && v) (le_max (depths xs) (depth x) (d - 1))

pub within_Undefine : (xs : Many t.arg) (d : ℕ) → within (t.Undefine xs) d ≡ nat_lt 0 d && within_all xs (d - 1)
unfolding within within_all
within_Undefine xs d = le_suc (depths xs) d

pub within_Brace : (x : Node t.cmd) (d : ℕ) → within (t.Brace x) d ≡ nat_lt 0 d && within x (d - 1)
unfolding within within_all
within_Brace x d = le_suc (depth x) d

pub within_Lit : (text : List ℕ) (quoted : Bool) (d : ℕ) → within (t.Lit text quoted) d ≡ nat_lt 0 d
unfolding within within_all
within_Lit text quoted d = le_one d

pub within_Concat : (xs : Many t.arg) (d : ℕ) → within (t.Concat xs) d ≡ nat_lt 0 d && within_all xs (d - 1)
unfolding within within_all
within_Concat xs d = le_suc (depths xs) d

pub within_Paren : (xs : Many t.arg) (d : ℕ) → within (t.Paren xs) d ≡ nat_lt 0 d && within_all xs (d - 1)
unfolding within within_all
within_Paren xs d = le_suc (depths xs) d

pub within_Var : (x : Node t.arg) (d : ℕ) → within (t.Var x) d ≡ nat_lt 0 d && within x (d - 1)
unfolding within within_all
within_Var x d = le_suc (depth x) d

pub within_Count : (x : Node t.arg) (d : ℕ) → within (t.Count x) d ≡ nat_lt 0 d && within x (d - 1)
unfolding within within_all
within_Count x d = le_suc (depth x) d

pub within_Flat : (x : Node t.arg) (d : ℕ) → within (t.Flat x) d ≡ nat_lt 0 d && within x (d - 1)
unfolding within within_all
within_Flat x d = le_suc (depth x) d

pub within_Sub : (x : Node t.arg) (xs : Many t.arg) (d : ℕ) → within (t.Sub x xs) d ≡ nat_lt 0 d && (within x (d - 1) && within_all xs (d - 1))
unfolding within within_all
within_Sub x xs d = le_suc (max (depth x) (depths xs)) d
    ∙ ap (λ v. nat_lt 0 d && v) (le_max (depth x) (depths xs) (d - 1))

pub within_Back : (x : Node t.cmd) (d : ℕ) → within (t.Back x) d ≡ nat_lt 0 d && within x (d - 1)
unfolding within within_all
within_Back x d = le_suc (depth x) d

pub within_Item : (x : Node t.cmd) (background : Bool) (d : ℕ) → within (t.Item x background) d ≡ within x d
unfolding within within_all
within_Item x background d = refl

pub within_Pair : (x : Node t.arg) (y : Node t.arg) (d : ℕ) → within (t.Pair x y) d ≡ (within x d && within y d)
unfolding within within_all
within_Pair x y d = le_max (depth x) (depth y) d

pub within_Stage : (x : Node t.cmd) (slot : ℕ) (d : ℕ) → within (t.Stage x slot) d ≡ within x d
unfolding within within_all
within_Stage x slot d = refl

pub within_Link : (logic : Logic) (x : Node t.cmd) (d : ℕ) → within (t.Link logic x) d ≡ within x d
unfolding within within_all
within_Link logic x d = refl

pub within_Branch : (xs : Many t.arg) (x : Node t.cmd) (d : ℕ) → within (t.Branch xs x) d ≡ (within_all xs d && within x d)
unfolding within within_all
within_Branch xs x d = le_max (depths xs) (depth x) d

pub within_Open : (mode : Mode) (slot : ℕ) (x : Node t.arg) (d : ℕ) → within (t.Open mode slot x) d ≡ within x d
unfolding within within_all
within_Open mode slot x d = refl

pub within_Copy : (to : ℕ) (from : ℕ) (d : ℕ) → within (t.Copy to from) d ≡ true
unfolding within within_all
within_Copy to from d = leb-zero d

pub within_Here : (xs : Many t.piece) (d : ℕ) → within (t.Here xs) d ≡ true
unfolding within within_all
within_Here xs d = leb-zero d

pub within_none : (s : Sort) (d : ℕ) → within_all (none {s = s}) d ≡ true
unfolding within_all
within_none s d = leb-zero d

pub within_more : {s : Sort} (n : Node s) (ns : Many s) (d : ℕ) → within_all (more n ns) d ≡ (within n d && within_all ns d)
unfolding within within_all
within_more n ns d = le_max (depth n) (depths ns) d

-- no command and no argument has 0 levels
pub no_levels_cmd : (n : Node t.cmd) → within n 0 ≡ false
unfolding within
no_levels_cmd t.Empty = within_Empty 0
no_levels_cmd (t.Seq x) = within_Seq x 0
no_levels_cmd (t.Simple x) = within_Simple x 0
no_levels_cmd (t.Assign x y) = within_Assign x y 0
no_levels_cmd (t.Redirect x y) = within_Redirect x y 0
no_levels_cmd (t.Pipeline x y) = within_Pipeline x y 0
no_levels_cmd (t.AndOr x y) = within_AndOr x y 0
no_levels_cmd (t.Not x) = within_Not x 0
no_levels_cmd (t.Subshell x) = within_Subshell x 0
no_levels_cmd (t.If x y) = within_If x y 0
no_levels_cmd (t.IfNot x) = within_IfNot x 0
no_levels_cmd (t.While x y) = within_While x y 0
no_levels_cmd (t.ForAll x y) = within_ForAll x y 0
no_levels_cmd (t.For x y z) = within_For x y z 0
no_levels_cmd (t.Switch x y) = within_Switch x y 0
no_levels_cmd (t.Match x y) = within_Match x y 0
no_levels_cmd (t.Define x y) = within_Define x y 0
no_levels_cmd (t.Undefine x) = within_Undefine x 0
no_levels_cmd (t.Brace x) = within_Brace x 0

pub no_levels_arg : (n : Node t.arg) → within n 0 ≡ false
unfolding within
no_levels_arg (t.Lit x y) = within_Lit x y 0
no_levels_arg (t.Concat x) = within_Concat x 0
no_levels_arg (t.Paren x) = within_Paren x 0
no_levels_arg (t.Var x) = within_Var x 0
no_levels_arg (t.Count x) = within_Count x 0
no_levels_arg (t.Flat x) = within_Flat x 0
no_levels_arg (t.Sub x y) = within_Sub x y 0
no_levels_arg (t.Back x) = within_Back x 0

pub ruleset levels = (
  within_Empty,
  within_Seq,
  within_Simple,
  within_Assign,
  within_Redirect,
  within_Pipeline,
  within_AndOr,
  within_Not,
  within_Subshell,
  within_If,
  within_IfNot,
  within_While,
  within_ForAll,
  within_For,
  within_Switch,
  within_Match,
  within_Define,
  within_Undefine,
  within_Brace,
  within_Lit,
  within_Concat,
  within_Paren,
  within_Var,
  within_Count,
  within_Flat,
  within_Sub,
  within_Back,
  within_Item,
  within_Pair,
  within_Stage,
  within_Link,
  within_Branch,
  within_Open,
  within_Copy,
  within_Here,
  within_none,
  within_more,
  no_levels_cmd,
  no_levels_arg,
  tree_nodes,
  common_steps,
)
