use Rattle.std.proofs.Common.{rules, ◌≡◌, ◌∷◌, []}
use Rattle.rc_scope.specs.States.{state_of}
use Rattle.rc_machine.specs.Configurations.{config_of}
use Rattle.rc_machine.proofs.Left.{step_left}
use Rattle.rc_machine.proofs.ScopeEnds.{unwound_left, unwound_to}
use Rattle.rc_machine.proofs.configuration.Configuration.unwind.Goals as goal

pub loop-scope-preserved : goal.loop-scope-preserved
loop-scope-preserved g c =
    let m = c.loop-scope.self in
    unwound_to _ _ _ _ m.scopes m.redirs (state_of m.state) c.loop-scope.owed.items c.loop-scope.invariant
    (c.in-Some.scope ∷ c.pop.new.self) _ c.in-Some.ensures c.in_ok-end_scope.ensures.ended

pub returns-in_err-end_scope : goal.returns-in_err-end_scope
returns-in_err-end_scope g c =
    let m = c.loop-scope.self in
    step_left _ _ _ (config_of c.end_scope.new.self) c.from_residual.result c.in_err-end_scope.field-0.0 c.from_residual.ensures.1
    (unwound_left _ _ _ _ m.scopes m.redirs (state_of m.state) c.loop-scope.owed.items c.loop-scope.invariant
    (c.in-Some.scope ∷ c.pop.new.self) c.in_err-end_scope.field-0.0 c.in-Some.ensures c.in_err-end_scope.ensures.ended)

pub returns-in_err-wait_owed : goal.returns-in_err-wait_owed
returns-in_err-wait_owed g c =
    let m = c.loop-scope.self in
    let none : m.scopes ≡ [] = search rules in
    let all : c.deref.result.now ≡ c.loop-scope.owed.items = c.deref.ensures.value in
    step_left _ _ _ (config_of (record m { scopes = c.pop.new.self })) c.from_residual-in_err-wait_owed.result c.in_err-wait_owed.field-0.0 c.from_residual-in_err-wait_owed.ensures.1
    (unwound_left _ _ _ _ m.scopes m.redirs (state_of m.state) c.loop-scope.owed.items c.loop-scope.invariant
    [] c.in_err-wait_owed.field-0.0 none (rw all at (c.in_err-wait_owed.ensures (state_of m.state))))

pub returns : goal.returns
returns g c =
    let m = c.loop-scope.self in
    let none : m.scopes ≡ [] = search rules in
    let all : c.deref.result.now ≡ c.loop-scope.owed.items = c.deref.ensures.value in
    unwound_to _ _ _ _ m.scopes m.redirs (state_of m.state) c.loop-scope.owed.items c.loop-scope.invariant
    [] _ none (rw all at (c.in_ok-wait_owed.ensures (state_of m.state)))
