use Rattle.std.proofs.Common.{rules, map, string_bytes, ap, ◌∙◌, ◌&&◌, not, true, List, ℕ}
use Rattle.std.specs.Str.{chars}
use Rattle.std.proofs.lemmas.Fn.{filter_same}
use Rattle.rc_model.specs.Run.FileNames.{is_no_name, ordered}
use Rattle.rc_model.specs.Run.Patterns.{matches}
use Rattle.rc_text.specs.Literals.{marks}
use Rattle.rc_glob.proofs.Sorting.{kept_texts}
use Rattle.rc_glob.proofs.file_names.fitting_names.Goals as goal

pub returns : goal.returns
returns c =
    let test = λ (n : List ℕ). not (is_no_name n) && matches (marks c.args.component.now) (chars n) true in
    c.ordered.ensures
    ∙ ap ordered (ap (map string_bytes) (filter_same _ (λ x. test (string_bytes x)) _ (λ x b q k. search rules) _ _ c.retain.ensures.filtered) ∙ kept_texts test c.args.names.items)
