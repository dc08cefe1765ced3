use Rattle.std.proofs.Common.{rules, ◌≡◌, ◌∷◌, drop, refl, ap}
use Rattle.rc_machine.specs.Configurations.{config_of, scopes_of}
use Rattle.rc_machine.specs.declared.configuration.parts.Scope.TheVariants as scope
use Rattle.rc_machine.proofs.Redirected.{left_end, left_one, ran_end}
use Rattle.rc_machine.proofs.descriptors.open_redirections.end_redirection.Goals as goal

pub returns-in_err-pop : goal.returns-in_err-pop
returns-in_err-pop g c =
    let m = c.args.machine.now in
    let is : m.scopes ≡ scope.Redirection ∷ drop 1 m.scopes = search rules in
    left_one _ _ (config_of m) _ c.from_residual.result c.in_err-pop.field-0.0 c.from_residual.ensures.1
    (left_end _ _ (config_of m) (drop 1 m.scopes) m.redirs (ap (λ ss. scopes_of ss m.redirs) is) c.in_err-pop.field-0.0 c.in_err-pop.ensures.closed)

pub returns : goal.returns
returns g c =
    let m = c.args.machine.now in
    let is : m.scopes ≡ scope.Redirection ∷ c.pop-2.new.self = search rules in
    (rw c.in_ok-pop.ensures.ok (ran_end _ _ (config_of m) c.pop-2.new.self m.redirs (ap (λ ss. scopes_of ss m.redirs) is) c.in_ok-pop.ensures.closed), refl)
