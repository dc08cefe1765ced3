-- Items that are compiled one after the other.
use Rattle.std.proofs.Common.{◌≡◌, Bool, true, false, Option, Some, None, if◌then◌else◌, [], sym, ap, ◌∙◌}
use Rattle.std.proofs.lemmas.Grind.{common_steps}
use Rattle.std.proofs.lemmas.Option.{none-some, same_Some}
use Rattle.rc_model.specs.Code.Layout.{Code, Do, Return, ◌⨾◌, cmd_code, code, items_code}
use Rattle.rc_model.specs.Syntax.Tree.{Node, Many, Item, Seq, item, none, more, snoc}
use Rattle.rc_tree.specs.View.{tree_lists}
use Rattle.rc_code.specs.Writing.{with_part}
use Rattle.rc_code.proofs.Parts.{with_part-Nothing, with_part-alone, with_part-then}

-- one more item is written after those before
pub items_then : (items : Many item) (last : Node item) (g : Bool) (c : Code)
    → with_part c (items_code (snoc items last) g) ≡ with_part (with_part c (items_code items g)) (items_code (more last none) g)
items_then none last g c = ap (λ d. with_part d (items_code (more last none) g)) (sym (with_part-Nothing c))
items_then (more (Item c true) rest) last g d = simp (with_part-then, items_then rest)
items_then (more (Item c false) rest) last g d = simp (with_part-then, items_then rest)

-- all items, whose end is the end of their code
pub whole_items : (items : Many item) (a c : Code) → a ≡ with_part (record { ops = []; kept = [] }) (items_code items false)
    → c ≡ with_part a (Do Return) → c ≡ code (Seq items)
whole_items items a c has written =
    written ∙ ap (λ d. with_part d (Do Return)) has
    ∙ (sym (with_part-then (record { ops = []; kept = [] }) (items_code items false) (Do Return)) ∙ with_part-alone (cmd_code (Seq items) false ⨾ Do Return))

-- what is written, if memory was not refused
pub written_so_far : (is_spent : Bool) (a x : Code) → (if is_spent then None else Some a) ≡ Some x → a ≡ x
written_so_far true a x has = absurd (none-some x has)
written_so_far false a x has = same_Some a x has

pub ruleset compiling = (items_then, with_part-Nothing, tree_lists, common_steps)
