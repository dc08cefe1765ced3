-- The tree of a script, and what the laws say of it.
use Rattle.std.proofs.Common.{◌≡◌, ℕ, ◌<◌, true, false, List, [], ◌∷◌, length, Result, Ok, Err, IfOk, ◌⊎◌, inl, inr, refl, ap, subst, ◌∙◌, arith, nat_le}
use Rattle.std.proofs.lemmas.Grind.{common_steps}
use Rattle.rc_model.specs.Syntax.Tokens as model
use Rattle.rc_model.specs.Syntax.Tree.{Node, Many}
use Rattle.rc_model.specs.Syntax.Tree as t
use Rattle.rc_model.specs.Syntax.WellFormed.{depth, most_stages}
use Rattle.rc_model.specs.Syntax.Grammar.{HaveTree, HaveAcceptedTree}
use Rattle.rc_model.specs.Mirrors.Descent as d
use Rattle.law_syntax.proofs.Laws as laws
use Rattle.rc_tree.specs.View.{cmd_tree}
use Rattle.rc_tree.specs.declared.types.Cmd.{Cmd}
use Rattle.rc_model.specs.declared.fault.DescentFault.{DescentFault}
use Rattle.rc_model.specs.declared.fault.DescentFault.TheVariants as descent
use Rattle.rc_parser.specs.Results.{Gives, HasFault, TokenError}

-- the list is the whole script, and its tree has few levels or too many
pub script_fits : (levels : ℕ) (ts : List model.Lexeme) (is : Many t.item) (rest : List model.Lexeme) → d.read levels (d.a_list false) ts ≡ Ok (is, rest) → length rest ≡ 0 →
    nat_le (depth (t.Seq is)) 200 ≡ true → d.script_tree levels ts ≡ Ok (t.Seq is)
unfolding d.script_tree
script_fits levels ts is [] h e k = ap (λ o. d.whole o) h ∙ whole_fits is k
  where
    whole_fits : (is : Many t.item) → nat_le (depth (t.Seq is)) 200 ≡ true → d.whole (Ok (is, [])) ≡ Ok (t.Seq is)
    whole_fits is k = rw k refl
script_fits levels ts is (x ∷ xs) h e k = absurd (omega arith)

pub script_unfit : (levels : ℕ) (ts : List model.Lexeme) (is : Many t.item) (rest : List model.Lexeme) → d.read levels (d.a_list false) ts ≡ Ok (is, rest) → length rest ≡ 0 →
    nat_le (depth (t.Seq is)) 200 ≡ false → d.script_tree levels ts ≡ Err (descent.TooDeep, length rest)
unfolding d.script_tree
script_unfit levels ts is [] h e k = ap (λ o. d.whole o) h ∙ whole_unfit is k
  where
    whole_unfit : (is : Many t.item) → nat_le (depth (t.Seq is)) 200 ≡ false → d.whole (Ok (is, [])) ≡ Err (descent.TooDeep, 0)
    whole_unfit is k = rw k refl
script_unfit levels ts is (x ∷ xs) h e k = absurd (omega arith)

-- tokens are left
pub script_goes_on : (levels : ℕ) (ts : List model.Lexeme) (is : Many t.item) (rest : List model.Lexeme) → d.read levels (d.a_list false) ts ≡ Ok (is, rest) → (length rest ≡ 0 → ⊥) →
    d.script_tree levels ts ≡ Err (descent.Unexpected, length rest)
unfolding d.script_tree
script_goes_on levels ts is [] h e = absurd (e refl)
script_goes_on levels ts is (x ∷ xs) h e = ap (λ o. d.whole o) h

-- there is a fault before
pub script_fails : (levels : ℕ) (ts : List model.Lexeme) (e : d.Stop) → d.read levels (d.a_list false) ts ≡ Err e → d.script_tree levels ts ≡ Err e
unfolding d.script_tree
script_fails levels ts e h = ap (λ o. d.whole o) h

pub ruleset scripts = (script_fits, script_unfit, script_fails, script_goes_on, common_steps)

-- what the laws say of an answer
pub found_by : (o : Result Cmd TokenError) (ts : List model.Lexeme) → Gives (λ c. cmd_tree c) o (d.script_tree 200 ts) → IfOk o (λ c. HaveAcceptedTree ts (cmd_tree c))
found_by (Ok x) ts h = laws.finds_only_trees 200 ts (cmd_tree x) h
found_by (Err e) ts h = tt

pub only_by : (o : Result Cmd TokenError) (ts : List model.Lexeme) → Gives (λ c. cmd_tree c) o (d.script_tree 200 ts) →
    IfOk o (λ c. (other : Node t.cmd) → HaveTree ts other → other ≡ cmd_tree c)
only_by (Ok x) ts h = λ other p. laws.has_one_tree ts (cmd_tree x) other (laws.finds_only_trees 200 ts (cmd_tree x) h) p
only_by (Err e) ts h = tt

fault_by : (o : Result Cmd TokenError) (fault : DescentFault) (ts : List model.Lexeme) → Gives (λ c. cmd_tree c) o (d.script_tree 200 ts) → (f : HasFault o fault) → d.script_tree 200 ts ≡ Err (fault, f.0)
fault_by o fault ts h f = subst (λ z. Gives (λ c. cmd_tree c) z (d.script_tree 200 ts)) f.1 h

pub none_by : (o : Result Cmd TokenError) (ts : List model.Lexeme) → Gives (λ c. cmd_tree c) o (d.script_tree 200 ts) → HasFault o descent.Unexpected ⊎ HasFault o descent.IfNot →
    (tree : Node t.cmd) → HaveTree ts tree → ⊥
none_by o ts h (inl e) tree p = laws.has_no_tree 200 e.0 ts tree (inl (fault_by o descent.Unexpected ts h e)) p
none_by o ts h (inr e) tree p = laws.has_no_tree 200 e.0 ts tree (inr (fault_by o descent.IfNot ts h e)) p

pub stages_by : (o : Result Cmd TokenError) (ts : List model.Lexeme) → Gives (λ c. cmd_tree c) o (d.script_tree 200 ts) → HasFault o descent.TooManyStages → (tree : Node t.cmd) → HaveTree ts tree →
    64 < most_stages tree
stages_by o ts h e tree p = laws.has_too_many_stages 200 e.0 ts tree (fault_by o descent.TooManyStages ts h e) p

pub levels_by : (o : Result Cmd TokenError) (ts : List model.Lexeme) → Gives (λ c. cmd_tree c) o (d.script_tree 200 ts) → HasFault o descent.TooDeep → (tree : Node t.cmd) → HaveTree ts tree →
    200 < depth tree
levels_by o ts h e tree p = laws.is_too_deep 200 e.0 ts tree (omega arith) (fault_by o descent.TooDeep ts h e) p
