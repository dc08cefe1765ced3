use Rattle.std.proofs.Common.{rules, ◌≡◌, true, false, not, ◌&&◌, ap, sym, ◌∙◌}
use Rattle.std.specs.Str.{chars}
use Rattle.rc_model.specs.Run.FileNames.{is_no_name}
use Rattle.rc_model.specs.Run.Patterns.{matches}
use Rattle.rc_text.specs.Literals.{marks}
use Rattle.rc_glob.proofs.Slashes.{name_matches}
use Rattle.rc_glob.proofs.file_names.is_fitting.Goals as goal

pub returns-then-not-is_no_name : goal.returns-then-not-is_no_name
returns-then-not-is_no_name c =
    let is_name : is_no_name c.args.name.now ≡ false = search rules in
    c.is_match.ensures ∙ name_matches (marks c.args.component.now) c.args.name.now c.utf8.name is_name
    ∙ sym (ap (λ b. not b && matches (marks c.args.component.now) (chars c.args.name.now) true) is_name)
