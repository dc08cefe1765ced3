use Rattle.std.proofs.Common.{rules, ◌≡◌, ◌∷◌, ap, sym, subst}
use Rattle.rc_model.specs.Code.Machine.{On, act, next}
use Rattle.rc_model.specs.Run.Plans.{RanBetween, done_with}
use Rattle.rc_model.specs.Code.Layout.{EndPipe}
use Rattle.std.specs.Prelude.{Some}
use Rattle.rc_scope.specs.Children.{child_numbers}
use Rattle.rc_scope.specs.States.{state_of}
use Rattle.rc_redir.specs.Redirections.{Redirections, newest_file, without_newest}
use Rattle.rc_machine.specs.Configurations.{config_of, scopes_of}
use Rattle.rc_machine.specs.declared.configuration.parts.Scope.TheVariants as scope
use Rattle.rc_machine.proofs.Shells.{ended_pipe, left_close, left_waits}
use Rattle.rc_machine.proofs.Left.{step_left}
use Rattle.rc_machine.proofs.descriptors.shells.end_pipeline.Goals as goal

pub returns-in_err-pop : goal.returns-in_err-pop
returns-in_err-pop g c place counted =
    let m = c.args.machine.now in
    let start = record (config_of m) { counter = place } in
    let outer = without_newest m.redirs in
    let children = c.in-Some-Pipeline.children in
    let is : m.scopes ≡ scope.Pipeline children ∷ c.pop.new.self = search rules in
    step_left _ _ _ _ c.from_residual.result c.in_err-pop.field-0.0 c.from_residual.ensures.1
    (left_close _ _ start (newest_file m.redirs.scopes) (child_numbers children.items) outer.slots (scopes_of c.pop.new.self outer) (ap (λ ss. scopes_of ss m.redirs) is)
    c.in_err-pop.field-0.0 c.in_err-pop.ensures.closed)

pub returns-in_err-end_stages : goal.returns-in_err-end_stages
returns-in_err-end_stages g c place counted =
    let m = c.args.machine.now in
    let start = record (config_of m) { counter = place } in
    let outer = without_newest m.redirs in
    let children = c.in-Some-Pipeline.children in
    let is : m.scopes ≡ scope.Pipeline children ∷ c.pop.new.self = search rules in
    let all : c.deref.result.now ≡ children.items = c.deref.ensures.value in
    step_left _ _ _ _ c.from_residual-in_err-end_stages.result c.in_err-end_stages.field-0.0 c.from_residual-in_err-end_stages.ensures.1
    (left_waits _ _ start (newest_file m.redirs.scopes) (child_numbers children.items) outer.slots (scopes_of c.pop.new.self outer) (ap (λ ss. scopes_of ss m.redirs) is)
    _ c.in_ok-pop.ensures.closed c.in_err-end_stages.field-0.0 (rw all at c.in_err-end_stages.ensures.does))

pub returns : goal.returns
returns g c place counted =
    let m = c.args.machine.now in
    let start = record (config_of m) { counter = place } in
    let outer = without_newest m.redirs in
    let children = c.in-Some-Pipeline.children in
    let is : m.scopes ≡ scope.Pipeline children ∷ c.pop.new.self = search rules in
    let all : c.deref.result.now ≡ children.items = c.deref.ensures.value in
    let t = state_of c.end_stages.new.state in
    let now = λ (r : Redirections). record (next start start.words t) { scopes = scopes_of c.pop.new.self r; slots = r.slots } in
    rw counted (subst (λ (r : Redirections). RanBetween (g.W.World.events c.args.world.now) (g.W.World.events c.end_stages.new.world) (act (Some EndPipe) start) (done_with (On (now r)))) (sym c.in_ok-pop.ensures.ok)
    (ended_pipe _ _ start (newest_file m.redirs.scopes) (child_numbers children.items) outer.slots (scopes_of c.pop.new.self outer) (ap (λ ss. scopes_of ss m.redirs) is)
    _ c.in_ok-pop.ensures.closed t (rw all at c.in_ok-end_stages.ensures.does)))
