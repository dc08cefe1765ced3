-- The list of children without the newest.
use Rattle.std.proofs.Common.{◌≡◌, ◌-◌, List, length, take, ap, sym, ◌∙◌}
use Rattle.std.proofs.lemmas.List.{take-map, length-map}
use Rattle.rc_model.specs.declared.call.ChildNo.{ChildNo}
use Rattle.rc_scope.specs.Children.{child_numbers}

pub without_newest : (children : List ChildNo) →
    child_numbers (take (length children - 1) children)
    ≡ take (length (child_numbers children) - 1) (child_numbers children)
without_newest children =
    sym (take-map (λ child. child.0) (length children - 1) children)
    ∙ ap (λ n. take (n - 1) (child_numbers children)) (sym (length-map children (λ child. child.0)))
