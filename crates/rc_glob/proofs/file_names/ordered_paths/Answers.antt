use Rattle.std.proofs.Common.{rules, ap, ◌∙◌, map}
use Rattle.rc_text.specs.Texts.{text_bytes}
use Rattle.rc_model.specs.Syntax.Text.{text_cmp}
use Rattle.std.specs.List.Sorted.{IsStrictlySortedBy}
use Rattle.rc_glob.proofs.Sorting.{already_ordered, left_in_order}
use Rattle.rc_glob.proofs.file_names.ordered_paths.Goals as goal

pub returns-then-not-are_rising : goal.returns-then-not-are_rising
returns-then-not-are_rising c =
    ap (map text_bytes) c.dedup_paths.ensures
    ∙ left_in_order text_bytes c.args.paths.items c.sort_paths.new.paths.items c.sort_paths.ensures.permutation c.sort_paths.ensures.sorted

pub returns-else-not-are_rising : goal.returns-else-not-are_rising
returns-else-not-are_rising c =
    let rising : IsStrictlySortedBy text_cmp (map text_bytes c.args.paths.items) = search rules in
    already_ordered text_bytes (map text_bytes c.args.paths.items) rising
