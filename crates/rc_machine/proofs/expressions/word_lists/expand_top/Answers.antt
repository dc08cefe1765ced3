use Rattle.std.proofs.Common.{rules, ◌≡◌, ◌∷◌, Some, drop, subst, sym}
use Rattle.law_plans.proofs.Runs.{ran_next, ran_none}
use Rattle.rc_model.specs.Code.Layout as op
use Rattle.rc_model.specs.Code.Machine.{On, act, goes, next, unwind}
use Rattle.rc_model.specs.Run.FileNames.{expanded}
use Rattle.rc_model.specs.Run.Plans.{RanBetween, done_with}
use Rattle.rc_scope.specs.States.{state_of}
use Rattle.rc_machine.specs.Lists.{top_of}
use Rattle.rc_world.specs.Comes.{for_memory}
use Rattle.rc_world.specs.declared.starts.Stop.TheVariants.{NoMemory}
use Rattle.rc_world.proofs.Joins.{left_as, ran_as}
use Rattle.rc_world.proofs.Shells.{left_under}
use Rattle.rc_machine.specs.Configurations.{config_of}
use Rattle.rc_machine.proofs.ExpressionActs.{globs_on}
use Rattle.rc_machine.proofs.Left.{step_left}
use Rattle.rc_machine.proofs.Stacks.{taken, topped}
use Rattle.rc_machine.proofs.expressions.word_lists.expand_top.Goals as goal

pub returns-in_err-names : goal.returns-in_err-names
returns-in_err-names g c place counted =
    let m = c.args.machine.now in
    let start = record (config_of m) { counter = place } in
    let v = c.in-Some.words.now in
    let s = state_of m.state in
    let top : top_of m.words ≡ Some v = search rules in
    step_left _ _ _ _ c.from_residual.result c.in_err-names.field-0.0 c.from_residual.ensures.1
    (left_as _ _ _ _ _ (globs_on start v (drop 1 m.words) (topped m.words v top))
    (left_under _ _ _ (expanded v s) (λ u t. goes (next start (u ∷ drop 1 m.words) t)) (unwind start.scopes) (c.in_err-names.ensures s)))

pub returns-in_err-into_words : goal.returns-in_err-into_words
returns-in_err-into_words g c place counted =
    let m = c.args.machine.now in
    let start = record (config_of m) { counter = place } in
    let v = c.in-Some.words.now in
    let s = state_of m.state in
    let rest = c.drop_top.new.self in
    let top : top_of m.words ≡ Some v = search rules in
    step_left _ _ _ _ c.from_residual-in_err-into_words.result NoMemory c.from_residual-in_err-into_words.ensures.1
    (for_memory _ (ran_as _ _ _ _ _ (globs_on start v rest (taken m.words rest v _ top c.drop_top.ensures))
    (ran_next _ _ _ (expanded v s) c.in_ok-names.names s (λ u t. goes (next start (u ∷ rest) t)) (unwind start.scopes) _
    (c.in_ok-names.ensures s) (ran_none _ _))))

pub returns-in_err-put : goal.returns-in_err-put
returns-in_err-put g c place counted =
    let m = c.args.machine.now in
    let start = record (config_of m) { counter = place } in
    let v = c.in-Some.words.now in
    let s = state_of m.state in
    let rest = c.drop_top.new.self in
    let top : top_of m.words ≡ Some v = search rules in
    step_left _ _ _ _ c.from_residual-in_err-put.result NoMemory c.from_residual-in_err-put.ensures.1
    (for_memory _ (ran_as _ _ _ _ _ (globs_on start v rest (taken m.words rest v _ top c.drop_top.ensures))
    (ran_next _ _ _ (expanded v s) c.in_ok-names.names s (λ u t. goes (next start (u ∷ rest) t)) (unwind start.scopes) _
    (c.in_ok-names.ensures s) (ran_none _ _))))

pub returns : goal.returns
returns g c place counted =
    let m = c.args.machine.now in
    let start = record (config_of m) { counter = place } in
    let v = c.in-Some.words.now in
    let s = state_of m.state in
    let rest = c.drop_top.new.self in
    let before = g.W.World.events c.args.world.now in
    let after = g.W.World.events c.expand_all.new.world in
    let top : top_of m.words ≡ Some v = search rules in
    let put : c.put.new.self ≡ c.in_ok-names.names ∷ rest = search rules in
    rw counted
    (subst (λ ws. RanBetween before after (act (Some op.Glob) start) (done_with (On (next start ws s)))) (sym put)
    (ran_as _ _ _ _ _ (globs_on start v rest (taken m.words rest v _ top c.drop_top.ensures))
    (ran_next _ _ _ (expanded v s) c.in_ok-names.names s (λ u t. goes (next start (u ∷ rest) t)) (unwind start.scopes) _
    (c.in_ok-names.ensures s) (ran_none _ _))))
