-- One part stands alone, and several are joined; likewise of redirections, stages and links.
use Rattle.std.proofs.Common.{◌≡◌, List, [], ◌∷◌, length, refl, arith}
use Rattle.rc_model.specs.Syntax.Tree.{Node, more, nodes}
use Rattle.rc_model.specs.Syntax.Tree as t
use Rattle.rc_model.specs.Syntax.Grammar.{concat_of, redirect, and_or}
use Rattle.rc_model.specs.Mirrors.Descent as d
use Rattle.std.proofs.lemmas.Grind.{common_steps}
use Rattle.rc_tree.specs.View.{tree_AndOr, tree_Concat, tree_Pipeline, tree_Redirect}

pub concat_one : {X : Type 0} (f : X → Node t.arg) (a : Node t.arg) (xs : List X) → length xs ≡ 0 → concat_of a (nodes f xs) ≡ a
concat_one f a [] h = refl
concat_one f a (x ∷ xs) h = absurd (omega arith)

pub concat_several : {X : Type 0} (f : X → Node t.arg) (a : Node t.arg) (xs : List X) → (length xs ≡ 0 → ⊥) → concat_of a (nodes f xs) ≡ t.Concat (more a (nodes f xs))
concat_several f a [] h = absurd (h refl)
concat_several f a (x ∷ xs) h = refl

pub ruleset concats = (concat_one, concat_several, tree_Concat, common_steps)

pub redirect_none : {X : Type 0} (f : X → Node t.redir) (xs : List X) (c : Node t.cmd) → length xs ≡ 0 → redirect (nodes f xs) c ≡ c
redirect_none f [] c h = refl
redirect_none f (x ∷ xs) c h = absurd (omega arith)

pub redirect_some : {X : Type 0} (f : X → Node t.redir) (xs : List X) (c : Node t.cmd) → (length xs ≡ 0 → ⊥) → redirect (nodes f xs) c ≡ t.Redirect (nodes f xs) c
redirect_some f [] c h = absurd (h refl)
redirect_some f (x ∷ xs) c h = refl

pub ruleset redirects = (redirect_none, redirect_some, tree_Redirect, common_steps)

pub pipeline_none : {X : Type 0} (f : X → Node t.stage) (xs : List X) (c : Node t.cmd) → length xs ≡ 0 → d.pipeline_of (nodes f xs) c ≡ c
pipeline_none f [] c h = refl
pipeline_none f (x ∷ xs) c h = absurd (omega arith)

pub pipeline_some : {X : Type 0} (f : X → Node t.stage) (xs : List X) (c : Node t.cmd) → (length xs ≡ 0 → ⊥) → d.pipeline_of (nodes f xs) c ≡ t.Pipeline (nodes f xs) c
pipeline_some f [] c h = absurd (h refl)
pipeline_some f (x ∷ xs) c h = refl

pub ruleset pipelines = (pipeline_none, pipeline_some, tree_Pipeline, common_steps)

pub and_or_none : {X : Type 0} (f : X → Node t.link) (c : Node t.cmd) (xs : List X) → length xs ≡ 0 → and_or c (nodes f xs) ≡ c
and_or_none f c [] h = refl
and_or_none f c (x ∷ xs) h = absurd (omega arith)

pub and_or_some : {X : Type 0} (f : X → Node t.link) (c : Node t.cmd) (xs : List X) → (length xs ≡ 0 → ⊥) → and_or c (nodes f xs) ≡ t.AndOr c (nodes f xs)
and_or_some f c [] h = absurd (h refl)
and_or_some f c (x ∷ xs) h = refl

pub ruleset conditionals = (and_or_none, and_or_some, tree_AndOr, common_steps)
