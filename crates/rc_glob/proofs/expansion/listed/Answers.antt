use Rattle.std.proofs.Common.{map, string_bytes, option_map, sym, ap, ◌∙◌}
use Rattle.rc_model.specs.Run.FileNames.{fitting_names}
use Rattle.rc_text.specs.Literals.{marks}
use Rattle.rc_world.proofs.Joins.{passed_up}
use Rattle.rc_glob.proofs.Walks.{left_listing, ran_listing}
use Rattle.rc_glob.proofs.expansion.listed.Goals as goal

pub returns-in_err-given : goal.returns-in_err-given
returns-in_err-given g c =
    passed_up _ _ _ _ c.from_residual.result c.in_err-given.field-0.0 c.from_residual.ensures.1
    (left_listing (marks c.args.component.now) c.args.path.now _ _ _ _ c.directory.ensures c.in_err-given.ensures)

pub returns-in-Some : goal.returns-in-Some
returns-in-Some g c =
    ran_listing (marks c.args.component.now) c.args.path.now _ _ _ _ _ c.directory.ensures c.in_ok-given.ensures
    (c.fitting_names.ensures ∙ ap (λ o. fitting_names (marks c.args.component.now) (option_map (λ names. map string_bytes names.items) o)) (sym c.in-Some.is))

pub returns-in-None : goal.returns-in-None
returns-in-None g c =
    ran_listing (marks c.args.component.now) c.args.path.now _ _ _ _ _ c.directory.ensures c.in_ok-given.ensures
    (ap (map string_bytes) c.new.ensures.items ∙ ap (λ o. fitting_names (marks c.args.component.now) (option_map (λ names. map string_bytes names.items) o)) (sym c.in-None.is))
