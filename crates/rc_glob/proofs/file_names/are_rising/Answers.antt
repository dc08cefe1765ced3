use Rattle.std.proofs.Common.{rules}
use Rattle.std.specs.Ordering.{is_lt}
use Rattle.std.proofs.lemmas.Fn.{always_returns_same}
use Rattle.rc_text.specs.Texts.{text_bytes}
use Rattle.rc_glob.proofs.Sorting.{all_less, cmp_by, rising}
use Rattle.rc_glob.proofs.file_names.are_rising.Goals as goal

pub returns : goal.returns
returns c holds =
    let answer = c.is_sorted_by.ensures.cases (λ p q. is_lt (cmp_by text_bytes p q)) (always_returns_same _ _ _ (λ a r f k. search rules)) in
    rising text_bytes c.args.paths.now (all_less text_bytes c.args.paths.now c.is_sorted_by.result holds answer)
