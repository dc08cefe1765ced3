-- One step of the descent.
use Rattle.std.proofs.Common.{◌≡◌, ℕ, suc, ◌-◌, ◌<◌, Bool, false, List, length, Err, ap, arith}
use Rattle.std.proofs.lemmas.Grind.{common_steps}
use Rattle.rc_model.specs.Syntax.Tokens.{Lexeme}
use Rattle.rc_model.specs.Mirrors.Descent as d
use Rattle.rc_model.specs.Mirrors.Descent.{Nested}
use Rattle.rc_model.specs.declared.fault.DescentFault.TheVariants as descent
use Rattle.rc_tree.specs.View.{tree_lists, tree_walks, tree_Var}

pub read_none : (left : ℕ) (n : Nested) (ts : List Lexeme) → left ≡ 0 → d.read left n ts ≡ Err (descent.TooDeep, length ts)
unfolding d.read
read_none left n ts h = ap (λ k. d.read k n ts) h

left_is : (left : ℕ) → 0 < left → left ≡ suc (left - 1)
left_is left h = omega arith

pub read_name : (left : ℕ) (ts : List Lexeme) → 0 < left → d.read left d.a_name ts ≡ d.name_by (d.read (left - 1)) ts
unfolding d.read d.read_by
read_name left ts h = ap (λ k. d.read k d.a_name ts) (left_is left h)

pub read_part : (left : ℕ) (inside : Bool) (ts : List Lexeme) → 0 < left → d.read left (d.a_part inside) ts ≡ d.part_by (d.read (left - 1)) inside ts
unfolding d.read d.read_by
read_part left inside ts h = ap (λ k. d.read k (d.a_part inside) ts) (left_is left h)

pub read_operand : (left : ℕ) (ts : List Lexeme) → 0 < left → d.read left d.an_operand ts ≡ d.operand_by (d.read (left - 1)) false ts
unfolding d.read d.read_by
read_operand left ts h = ap (λ k. d.read k d.an_operand ts) (left_is left h)

pub read_piped : (left : ℕ) (ts : List Lexeme) → 0 < left → d.read left d.a_piped ts ≡ d.piped_by (d.read (left - 1)) ts
unfolding d.read d.read_by
read_piped left ts h = ap (λ k. d.read k d.a_piped ts) (left_is left h)

pub read_command : (left : ℕ) (f : Bool) (ts : List Lexeme) → 0 < left → d.read left (d.a_command f) ts ≡ d.command_by (d.read (left - 1)) f ts
unfolding d.read d.read_by
read_command left f ts h = ap (λ k. d.read k (d.a_command f) ts) (left_is left h)

pub read_list : (left : ℕ) (s : Bool) (ts : List Lexeme) → 0 < left → d.read left (d.a_list s) ts ≡ d.items_by (d.read (left - 1)) s ts
unfolding d.read d.read_by
read_list left s ts h = ap (λ k. d.read k (d.a_list s) ts) (left_is left h)

pub ruleset levels = (read_none, read_name, read_part, read_operand, read_piped, read_command, read_list, tree_Var, common_steps)

-- a step of a function whose lists are made by others
pub ruleset steps = (tree_walks)

-- a step at which a list grows
pub ruleset lists = (tree_lists)
