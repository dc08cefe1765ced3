use Rattle.std.proofs.Common.{rules}
use Rattle.std.specs.Cmp.Lexicographic.{on_texts}
use Rattle.std.specs.Ordering.{is_lt}
use Rattle.std.proofs.lemmas.Fn.{always_returns_same}
use Rattle.std.proofs.lemmas.List.MinMax.{ranks_by}
use Rattle.rc_text.specs.Texts.{text_bytes}
use Rattle.rc_glob.proofs.Sorting.{cmp_by}
use Rattle.rc_glob.proofs.file_names.sort_paths.Goals as goal

pub returns-clause-sorted : goal.returns-clause-sorted
returns-clause-sorted c = c.sort_unstable_by.ensures.sorted (λ p q. is_lt (cmp_by text_bytes p q)) (ranks_by (on_texts text_bytes) (λ p. p)) (always_returns_same _ _ _ (λ a r f k. search rules))
