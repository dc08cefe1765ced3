use Rattle.std.proofs.Common.{◌≡◌, ◌≤◌, ◌∙◌, length, subst, sym}
use Rattle.rc_model.specs.Handed.Image.{node_image}
use Rattle.rc_model.specs.Run.Numbers.{greatest_number}
use Rattle.rc_tree.specs.View.{cmd_tree}
use Rattle.rc_layout.proofs.Trees.{same_trees}
use Rattle.rc_layout.proofs.same_tree.are_same.Goals as goal

pub returns : goal.returns
returns c =
    let first : c.as_str.result.now ≡ node_image (cmd_tree c.args.first.now) = c.as_str.ensures.value ∙ c.in_ok-first_text.ensures in
    let second : c.as_str-2.result.now ≡ node_image (cmd_tree c.args.second.now) = c.as_str-2.ensures.value ∙ c.in_ok-second_text.ensures in
    λ same. same_trees _ _ c.requires.first c.requires.second
    (subst (λ text. length text ≤ greatest_number) first (c.agree.ensures.short same))
    (sym first ∙ (c.agree.ensures.same same ∙ second))
