use Rattle.std.proofs.Common.{◌∷◌, [], map, string_bytes, sym, ap, ◌∙◌, is_some}
use Rattle.std.specs.Prelude.{if◌then◌else◌}
use Rattle.rc_text.specs.Texts.{text_bytes}
use Rattle.rc_world.specs.declared.starts.Stop.TheVariants.{NoMemory}
use Rattle.rc_world.proofs.Joins.{passed_up}
use Rattle.rc_glob.proofs.Walks.{left_probe, left_probed, ran_probed}
use Rattle.rc_glob.proofs.expansion.if_there.Goals as goal

pub returns-in_err-found : goal.returns-in_err-found
returns-in_err-found g c = λ s.
    passed_up _ _ _ _ c.from_residual.result c.in_err-found.field-0.0 c.from_residual.ensures.1 (left_probe (string_bytes c.args.path) s _ _ _ _ c.deref.ensures c.in_err-found.ensures)

pub returns-in_err-only-in-Some : goal.returns-in_err-only-in-Some
returns-in_err-only-in-Some g c = λ s.
    passed_up _ _ _ _ c.from_residual-in_err-only-in-Some.result NoMemory c.from_residual-in_err-only-in-Some.ensures.1
    (left_probed (string_bytes c.args.path) s _ _ _ _ c.deref.ensures c.in_ok-found.ensures)

pub returns-in_ok-only-in-Some : goal.returns-in_ok-only-in-Some
returns-in_ok-only-in-Some g c = λ s.
    ran_probed (string_bytes c.args.path) s _ _ _ _ _ c.deref.ensures c.in_ok-found.ensures
    (c.in_ok-only-in-Some.ensures ∙ ap (λ o. if is_some o then string_bytes c.args.path ∷ [] else []) (sym c.in-Some.is))

pub returns-in-None : goal.returns-in-None
returns-in-None g c = λ s.
    ran_probed (string_bytes c.args.path) s _ _ _ _ _ c.deref.ensures c.in_ok-found.ensures
    (ap (map text_bytes) c.new.ensures.items ∙ ap (λ o. if is_some o then string_bytes c.args.path ∷ [] else []) (sym c.in-None.is))
