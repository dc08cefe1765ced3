use Rattle.std.proofs.Common.{◌≡◌, nat_le, true, false, ap, sym, subst, ◌∙◌}
use Rattle.rc_model.specs.Syntax.WellFormed.{depth}
use Rattle.rc_tree.specs.View.{cmd_tree, items_tree, tree_Seq}
use Rattle.rc_parser.specs.Tokens.{lexemes_of}
use Rattle.rc_parser.proofs.Scripts.{script_fits, script_unfit}
use Rattle.rc_parser.proofs.trees.parse_script.Goals as goal

pub returns-then-not-is_within : goal.returns-then-not-is_within
returns-then-not-is_within c =
    let e = ap cmd_tree c.in_ok-tree.ensures.ok ∙ tree_Seq c.in_ok-items.items in
    let d = ap (λ z. nat_le (depth (cmd_tree z)) 200) c.deref.ensures in
    rw c.fault_at-then-not-is_within.ensures (script_unfit _ _ (items_tree c.in_ok-items.items.items) (lexemes_of c.in_ok-items.rest) c.in_ok-items.ensures
    (sym c.len.ensures ∙ c.if-len-ne0.false) (subst (λ z. nat_le (depth z) 200 ≡ false) e (sym d ∙ sym c.is_within.ensures ∙ c.if-not-is_within.true)))

pub returns : goal.returns
returns c =
    let e = ap cmd_tree c.in_ok-tree.ensures.ok ∙ tree_Seq c.in_ok-items.items in
    let d = ap (λ z. nat_le (depth (cmd_tree z)) 200) c.deref.ensures in
    rw (c.into_inner.ensures, e) (script_fits _ _ (items_tree c.in_ok-items.items.items) (lexemes_of c.in_ok-items.rest) c.in_ok-items.ensures
    (sym c.len.ensures ∙ c.if-len-ne0.false) (subst (λ z. nat_le (depth z) 200 ≡ true) e (sym d ∙ sym c.is_within.ensures ∙ c.if-not-is_within.false)))
