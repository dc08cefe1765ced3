-- What a walk asks of each node, so that the tree is well formed within a number of levels.
use Rattle.std.specs.List.{list_any}
use Rattle.std.proofs.Common.{◌≡◌, refl, ap, ◌∙◌, ℕ, suc, ◌-◌, max, Bool, true, false, ◌&&◌, ◌||◌, not, nat_lt, nat_le, ◌==◌, List, [], ◌∷◌, length, arith}
use Rattle.std.proofs.Math.Dec.{leb-zero}
use Rattle.std.proofs.lemmas.Bool.Decides.{nat_tests}
use Rattle.std.proofs.lemmas.Grind.{common_steps}
use Rattle.rc_model.specs.declared.call.Mode.{Mode}
use Rattle.rc_model.specs.declared.syntax.Logic.{Logic}
use Rattle.rc_model.specs.Syntax.Text.{without_zero}
use Rattle.rc_model.specs.Syntax.Tree.{Sort, Node, Many, none, more}
use Rattle.rc_model.specs.Syntax.Tree as t
use Rattle.rc_model.specs.Syntax.WellFormed.{depth, depths, is_sound, are_sound, has_some, has_several, has_stages}
use Rattle.rc_model.specs.Syntax.WellFormed.{is_output, opens, copies, has_text}
use Rattle.rc_tree.specs.View.{tree_nodes}
use Rattle.rc_tree.proofs.Numbers.{count_nodes, le_suc, le_max}
use Rattle.rc_tree.specs.Fits.{fits, all_fit}

-- a level below, with a condition of the node itself; without one
deeper : (h s : Bool) (a d : ℕ) → ((h && s) && nat_le (suc a) d) ≡ (nat_lt 0 d && (h && (s && nat_le a (d - 1))))
deeper h s a d = ap (λ v. (h && s) && v) (le_suc a d) ∙ turned h s (nat_lt 0 d) (nat_le a (d - 1))
  where
    turned : (h s p q : Bool) → ((h && s) && (p && q)) ≡ (p && (h && (s && q)))
    turned false s false q = refl
    turned false s true q = refl
    turned true false false q = refl
    turned true false true q = refl
    turned true true p q = refl

below : (s : Bool) (a d : ℕ) → (s && nat_le (suc a) d) ≡ (nat_lt 0 d && (s && nat_le a (d - 1)))
below s a d = deeper true s a d

-- two children side by side
beside : (p q : Bool) (a b d : ℕ) → ((p && q) && nat_le (max a b) d) ≡ ((p && nat_le a d) && (q && nat_le b d))
beside p q a b d = ap (λ v. (p && q) && v) (le_max a b d) ∙ turned p q (nat_le a d) (nat_le b d)
  where
    turned : (p q x y : Bool) → ((p && q) && (x && y)) ≡ ((p && x) && (q && y))
    turned false q x y = refl
    turned true false false y = refl
    turned true false true y = refl
    turned true true x y = refl

and_true : (b : Bool) → (b && true) ≡ b
and_true false = refl
and_true true = refl

and_zero : (b : Bool) (d : ℕ) → (b && nat_le 0 d) ≡ b
and_zero b d = ap (λ v. b && v) (leb-zero d) ∙ and_true b

and_assoc : (p q r : Bool) → ((p && q) && r) ≡ (p && (q && r))
and_assoc false q r = refl
and_assoc true q r = refl

-- what each node asks of its parts
pub fits_Empty : (d : ℕ) → fits t.Empty d ≡ nat_lt 0 d
unfolding fits all_fit
fits_Empty d = below true 0 d ∙ and_zero (nat_lt 0 d) (d - 1)

pub fits_Seq : (xs : Many t.item) (d : ℕ) → fits (t.Seq xs) d ≡ nat_lt 0 d && all_fit xs (d - 1)
unfolding fits all_fit
fits_Seq xs d = below (are_sound xs) (depths xs) d

pub fits_Simple : (xs : Many t.arg) (d : ℕ) → fits (t.Simple xs) d ≡ nat_lt 0 d && (has_some xs && all_fit xs (d - 1))
unfolding fits all_fit
fits_Simple xs d = deeper (has_some xs) (are_sound xs) (depths xs) d

pub fits_Assign : (xs : Many t.pair) (x : Node t.cmd) (d : ℕ) → fits (t.Assign xs x) d ≡ nat_lt 0 d && (has_some xs && (all_fit xs (d - 1) && fits x (d - 1)))
unfolding fits all_fit
fits_Assign xs x d = deeper (has_some xs) (are_sound xs && is_sound x) (max (depths xs) (depth x)) d
    ∙ ap (λ v. nat_lt 0 d && (has_some xs && v)) (beside (are_sound xs) (is_sound x) (depths xs) (depth x) (d - 1))

pub fits_Redirect : (xs : Many t.redir) (x : Node t.cmd) (d : ℕ) → fits (t.Redirect xs x) d
    ≡ nat_lt 0 d && (has_some xs && (all_fit xs (d - 1) && fits x (d - 1)))
unfolding fits all_fit
fits_Redirect xs x d = deeper (has_some xs) (are_sound xs && is_sound x) (max (depths xs) (depth x)) d
    ∙ ap (λ v. nat_lt 0 d && (has_some xs && v)) (beside (are_sound xs) (is_sound x) (depths xs) (depth x) (d - 1))

pub fits_Pipeline : (xs : Many t.stage) (x : Node t.cmd) (d : ℕ) → fits (t.Pipeline xs x) d
    ≡ nat_lt 0 d && (has_stages xs && (all_fit xs (d - 1) && fits x (d - 1)))
unfolding fits all_fit
fits_Pipeline xs x d = deeper (has_stages xs) (are_sound xs && is_sound x) (max (depths xs) (depth x)) d
    ∙ ap (λ v. nat_lt 0 d && (has_stages xs && v)) (beside (are_sound xs) (is_sound x) (depths xs) (depth x) (d - 1))

pub fits_AndOr : (x : Node t.cmd) (xs : Many t.link) (d : ℕ) → fits (t.AndOr x xs) d ≡ nat_lt 0 d && (has_some xs && (fits x (d - 1) && all_fit xs (d - 1)))
unfolding fits all_fit
fits_AndOr x xs d = deeper (has_some xs) (is_sound x && are_sound xs) (max (depth x) (depths xs)) d
    ∙ ap (λ v. nat_lt 0 d && (has_some xs && v)) (beside (is_sound x) (are_sound xs) (depth x) (depths xs) (d - 1))

pub fits_Not : (x : Node t.cmd) (d : ℕ) → fits (t.Not x) d ≡ nat_lt 0 d && fits x (d - 1)
unfolding fits all_fit
fits_Not x d = below (is_sound x) (depth x) d

pub fits_Subshell : (x : Node t.cmd) (d : ℕ) → fits (t.Subshell x) d ≡ nat_lt 0 d && fits x (d - 1)
unfolding fits all_fit
fits_Subshell x d = below (is_sound x) (depth x) d

pub fits_If : (x : Node t.cmd) (y : Node t.cmd) (d : ℕ) → fits (t.If x y) d ≡ nat_lt 0 d && (fits x (d - 1) && fits y (d - 1))
unfolding fits all_fit
fits_If x y d = below (is_sound x && is_sound y) (max (depth x) (depth y)) d
    ∙ ap (λ v. nat_lt 0 d && v) (beside (is_sound x) (is_sound y) (depth x) (depth y) (d - 1))

pub fits_IfNot : (x : Node t.cmd) (d : ℕ) → fits (t.IfNot x) d ≡ nat_lt 0 d && fits x (d - 1)
unfolding fits all_fit
fits_IfNot x d = below (is_sound x) (depth x) d

pub fits_While : (x : Node t.cmd) (y : Node t.cmd) (d : ℕ) → fits (t.While x y) d ≡ nat_lt 0 d && (fits x (d - 1) && fits y (d - 1))
unfolding fits all_fit
fits_While x y d = below (is_sound x && is_sound y) (max (depth x) (depth y)) d
    ∙ ap (λ v. nat_lt 0 d && v) (beside (is_sound x) (is_sound y) (depth x) (depth y) (d - 1))

pub fits_ForAll : (n : Node t.arg) (x : Node t.cmd) (d : ℕ) → fits (t.ForAll n x) d ≡ nat_lt 0 d && (fits n (d - 1) && fits x (d - 1))
unfolding fits all_fit
fits_ForAll n x d = below (is_sound n && is_sound x) (max (depth n) (depth x)) d
    ∙ ap (λ v. nat_lt 0 d && v) (beside (is_sound n) (is_sound x) (depth n) (depth x) (d - 1))

pub fits_For : (n : Node t.arg) (xs : Many t.arg) (x : Node t.cmd) (d : ℕ) → fits (t.For n xs x) d
    ≡ nat_lt 0 d && (fits n (d - 1) && (all_fit xs (d - 1) && fits x (d - 1)))
unfolding fits all_fit
fits_For n xs x d = below (is_sound n && (are_sound xs && is_sound x)) (max (depth n) (max (depths xs) (depth x))) d
    ∙ ap (λ v. nat_lt 0 d && v) (beside (is_sound n) (are_sound xs && is_sound x) (depth n) (max (depths xs) (depth x)) (d - 1))
    ∙ ap (λ v. nat_lt 0 d && (fits n (d - 1) && v)) (beside (are_sound xs) (is_sound x) (depths xs) (depth x) (d - 1))

pub fits_Switch : (n : Node t.arg) (xs : Many t.branch) (d : ℕ) → fits (t.Switch n xs) d ≡ nat_lt 0 d && (fits n (d - 1) && all_fit xs (d - 1))
unfolding fits all_fit
fits_Switch n xs d = below (is_sound n && are_sound xs) (max (depth n) (depths xs)) d
    ∙ ap (λ v. nat_lt 0 d && v) (beside (is_sound n) (are_sound xs) (depth n) (depths xs) (d - 1))

pub fits_Match : (n : Node t.arg) (xs : Many t.arg) (d : ℕ) → fits (t.Match n xs) d ≡ nat_lt 0 d && (fits n (d - 1) && all_fit xs (d - 1))
unfolding fits all_fit
fits_Match n xs d = below (is_sound n && are_sound xs) (max (depth n) (depths xs)) d
    ∙ ap (λ v. nat_lt 0 d && v) (beside (is_sound n) (are_sound xs) (depth n) (depths xs) (d - 1))

pub fits_Define : (xs : Many t.arg) (x : Node t.cmd) (d : ℕ) → fits (t.Define xs x) d ≡ nat_lt 0 d && (has_some xs && (all_fit xs (d - 1) && fits x (d - 1)))
unfolding fits all_fit
fits_Define xs x d = deeper (has_some xs) (are_sound xs && is_sound x) (max (depths xs) (depth x)) d
    ∙ ap (λ v. nat_lt 0 d && (has_some xs && v)) (beside (are_sound xs) (is_sound x) (depths xs) (depth x) (d - 1))

pub fits_Undefine : (xs : Many t.arg) (d : ℕ) → fits (t.Undefine xs) d ≡ nat_lt 0 d && (has_some xs && all_fit xs (d - 1))
unfolding fits all_fit
fits_Undefine xs d = deeper (has_some xs) (are_sound xs) (depths xs) d

pub fits_Brace : (x : Node t.cmd) (d : ℕ) → fits (t.Brace x) d ≡ nat_lt 0 d && fits x (d - 1)
unfolding fits all_fit
fits_Brace x d = below (is_sound x) (depth x) d

pub fits_Lit : (text : List ℕ) (quoted : Bool) (d : ℕ) → fits (t.Lit text quoted) d ≡ nat_lt 0 d && ((quoted || has_text text) && without_zero text)
unfolding fits all_fit
fits_Lit text quoted d = below ((quoted || has_text text) && without_zero text) 0 d
    ∙ ap (λ v. nat_lt 0 d && v) (and_zero ((quoted || has_text text) && without_zero text) (d - 1))

pub fits_Concat : (xs : Many t.arg) (d : ℕ) → fits (t.Concat xs) d ≡ nat_lt 0 d && (has_several xs && all_fit xs (d - 1))
unfolding fits all_fit
fits_Concat xs d = deeper (has_several xs) (are_sound xs) (depths xs) d

pub fits_Paren : (xs : Many t.arg) (d : ℕ) → fits (t.Paren xs) d ≡ nat_lt 0 d && all_fit xs (d - 1)
unfolding fits all_fit
fits_Paren xs d = below (are_sound xs) (depths xs) d

pub fits_Var : (x : Node t.arg) (d : ℕ) → fits (t.Var x) d ≡ nat_lt 0 d && fits x (d - 1)
unfolding fits all_fit
fits_Var x d = below (is_sound x) (depth x) d

pub fits_Count : (x : Node t.arg) (d : ℕ) → fits (t.Count x) d ≡ nat_lt 0 d && fits x (d - 1)
unfolding fits all_fit
fits_Count x d = below (is_sound x) (depth x) d

pub fits_Flat : (x : Node t.arg) (d : ℕ) → fits (t.Flat x) d ≡ nat_lt 0 d && fits x (d - 1)
unfolding fits all_fit
fits_Flat x d = below (is_sound x) (depth x) d

pub fits_Sub : (x : Node t.arg) (xs : Many t.arg) (d : ℕ) → fits (t.Sub x xs) d ≡ nat_lt 0 d && (fits x (d - 1) && all_fit xs (d - 1))
unfolding fits all_fit
fits_Sub x xs d = below (is_sound x && are_sound xs) (max (depth x) (depths xs)) d
    ∙ ap (λ v. nat_lt 0 d && v) (beside (is_sound x) (are_sound xs) (depth x) (depths xs) (d - 1))

pub fits_Back : (x : Node t.cmd) (d : ℕ) → fits (t.Back x) d ≡ nat_lt 0 d && fits x (d - 1)
unfolding fits all_fit
fits_Back x d = below (is_sound x) (depth x) d

pub fits_Item : (x : Node t.cmd) (background : Bool) (d : ℕ) → fits (t.Item x background) d ≡ fits x d
unfolding fits all_fit
fits_Item x background d = refl

pub fits_Pair : (x : Node t.arg) (y : Node t.arg) (d : ℕ) → fits (t.Pair x y) d ≡ (fits x d && fits y d)
unfolding fits all_fit
fits_Pair x y d = beside (is_sound x) (is_sound y) (depth x) (depth y) d

pub fits_Stage : (x : Node t.cmd) (slot : ℕ) (d : ℕ) → fits (t.Stage x slot) d ≡ (is_output slot && fits x d)
unfolding fits all_fit
fits_Stage x slot d = and_assoc (is_output slot) (is_sound x) (nat_le (depth x) d)

pub fits_Link : (logic : Logic) (x : Node t.cmd) (d : ℕ) → fits (t.Link logic x) d ≡ fits x d
unfolding fits all_fit
fits_Link logic x d = refl

pub fits_Branch : (xs : Many t.arg) (x : Node t.cmd) (d : ℕ) → fits (t.Branch xs x) d ≡ (all_fit xs d && fits x d)
unfolding fits all_fit
fits_Branch xs x d = beside (are_sound xs) (is_sound x) (depths xs) (depth x) d

pub fits_Open : (mode : Mode) (slot : ℕ) (x : Node t.arg) (d : ℕ) → fits (t.Open mode slot x) d ≡ (opens mode slot && fits x d)
unfolding fits all_fit
fits_Open mode slot x d = and_assoc (opens mode slot) (is_sound x) (nat_le (depth x) d)

pub fits_Copy : (to from : ℕ) (d : ℕ) → fits (t.Copy to from) d ≡ copies to from
unfolding fits all_fit
fits_Copy to from d = and_zero (copies to from) d

pub fits_Here : (xs : Many t.piece) (d : ℕ) → fits (t.Here xs) d ≡ are_sound xs
unfolding fits all_fit
fits_Here xs d = and_zero (are_sound xs) d

pub fits_none : (s : Sort) (d : ℕ) → all_fit (none {s = s}) d ≡ true
unfolding fits all_fit
fits_none s d = leb-zero d

pub fits_more : {s : Sort} (n : Node s) (ns : Many s) (d : ℕ) → all_fit (more n ns) d ≡ (fits n d && all_fit ns d)
unfolding fits all_fit
fits_more n ns d = beside (is_sound n) (are_sound ns) (depth n) (depths ns) d

-- no command and no argument has 0 levels
pub no_levels_cmd : (n : Node t.cmd) → fits n 0 ≡ false
unfolding fits
no_levels_cmd t.Empty = fits_Empty 0
no_levels_cmd (t.Seq x) = fits_Seq x 0
no_levels_cmd (t.Simple x) = fits_Simple x 0
no_levels_cmd (t.Assign x y) = fits_Assign x y 0
no_levels_cmd (t.Redirect x y) = fits_Redirect x y 0
no_levels_cmd (t.Pipeline x y) = fits_Pipeline x y 0
no_levels_cmd (t.AndOr x y) = fits_AndOr x y 0
no_levels_cmd (t.Not x) = fits_Not x 0
no_levels_cmd (t.Subshell x) = fits_Subshell x 0
no_levels_cmd (t.If x y) = fits_If x y 0
no_levels_cmd (t.IfNot x) = fits_IfNot x 0
no_levels_cmd (t.While x y) = fits_While x y 0
no_levels_cmd (t.ForAll x y) = fits_ForAll x y 0
no_levels_cmd (t.For x y z) = fits_For x y z 0
no_levels_cmd (t.Switch x y) = fits_Switch x y 0
no_levels_cmd (t.Match x y) = fits_Match x y 0
no_levels_cmd (t.Define x y) = fits_Define x y 0
no_levels_cmd (t.Undefine x) = fits_Undefine x 0
no_levels_cmd (t.Brace x) = fits_Brace x 0

pub no_levels_arg : (n : Node t.arg) → fits n 0 ≡ false
unfolding fits
no_levels_arg (t.Lit x y) = fits_Lit x y 0
no_levels_arg (t.Concat x) = fits_Concat x 0
no_levels_arg (t.Paren x) = fits_Paren x 0
no_levels_arg (t.Var x) = fits_Var x 0
no_levels_arg (t.Count x) = fits_Count x 0
no_levels_arg (t.Flat x) = fits_Flat x 0
no_levels_arg (t.Sub x y) = fits_Sub x y 0
no_levels_arg (t.Back x) = fits_Back x 0

-- the tests that the program makes of lists and texts
pub has_text_counted : (text : List ℕ) → has_text text ≡ not (length text == 0)
has_text_counted [] = refl
has_text_counted (b ∷ bs) = grind (arith, nat_tests)

pub zero_sought : (text : List ℕ) → without_zero text ≡ not (list_any (λ b. b == 0) text)
zero_sought [] = refl
zero_sought (b ∷ bs) = ap (λ v. not (b == 0) && v) (zero_sought bs) ∙ both_not (b == 0) (list_any (λ c. c == 0) bs)
  where
    both_not : (p q : Bool) → (not p && not q) ≡ not (p || q)
    both_not false q = refl
    both_not true q = refl

pub ruleset fitting = (
  fits_Empty,
  fits_Seq,
  fits_Simple,
  fits_Assign,
  fits_Redirect,
  fits_Pipeline,
  fits_AndOr,
  fits_Not,
  fits_Subshell,
  fits_If,
  fits_IfNot,
  fits_While,
  fits_ForAll,
  fits_For,
  fits_Switch,
  fits_Match,
  fits_Define,
  fits_Undefine,
  fits_Brace,
  fits_Lit,
  fits_Concat,
  fits_Paren,
  fits_Var,
  fits_Count,
  fits_Flat,
  fits_Sub,
  fits_Back,
  fits_Item,
  fits_Pair,
  fits_Stage,
  fits_Link,
  fits_Branch,
  fits_Open,
  fits_Copy,
  fits_Here,
  fits_none,
  fits_more,
  no_levels_cmd,
  no_levels_arg,
  count_nodes,
  has_text_counted,
  zero_sought,
  tree_nodes,
  common_steps,
)
