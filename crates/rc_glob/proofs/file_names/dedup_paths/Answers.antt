use Rattle.std.proofs.Common.{rules}
use Rattle.std.proofs.lemmas.Fn.{dedup_same}
use Rattle.rc_text.specs.Texts.{text_bytes}
use Rattle.rc_glob.proofs.Sorting.{eq_by}
use Rattle.rc_glob.proofs.file_names.dedup_paths.Goals as goal

pub returns : goal.returns
returns c = dedup_same _ (eq_by text_bytes) _ (λ x y b f p q k. search rules) _ _ c.dedup_by.ensures.filtered
