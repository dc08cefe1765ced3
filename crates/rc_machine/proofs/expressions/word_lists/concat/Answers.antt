use Rattle.std.proofs.Common.{rules, ◌≡◌, ◌+◌, ◌∷◌, ◌∙◌, sym, Ok, Err, Some, ap}
use Rattle.rc_model.specs.Code.Layout as op
use Rattle.rc_model.specs.Code.Machine.{Config, act, goes, next}
use Rattle.rc_model.specs.Run.Lists.{concatenated}
use Rattle.rc_machine.specs.Lists.{two_of, below_two}
use Rattle.law_plans.proofs.Runs.{ran_none}
use Rattle.rc_world.proofs.Joins.{left_memory, ran_as}
use Rattle.rc_machine.specs.Configurations.{config_of}
use Rattle.rc_machine.specs.Steps.{failed}
use Rattle.rc_machine.proofs.ExpressionActs.{concats, concats_not}
use Rattle.rc_machine.proofs.Left.{stepped, steps_as}
use Rattle.rc_machine.proofs.Stacks.{two_topped}
use Rattle.rc_scope.specs.States.{state_of}
use Rattle.rc_machine.proofs.expressions.word_lists.concat.Goals as goal

pub returns-in-Some : goal.returns-in-Some
returns-in-Some g c place counted = stepped _ _ _ _ ((rw c.in-Some.is at c.in_ok-moved.ensures) place counted)

pub returns-in_ok-put-in-Ok : goal.returns-in_ok-put-in-Ok
returns-in_ok-put-in-Ok g c place counted =
    let m = c.concat_pair.new.machine in
    let start = record (config_of m) { counter = place } in
    let same : config_of m ≡ config_of c.args.machine.now = search rules in
    let after : m.counter ≡ place + 1 = ap (λ (d : Config). d.counter) same ∙ counted in
    let a = c.in-Some-top_two.first.now in
    let b = c.in-Some-top_two.second.now in
    let two : two_of m.words ≡ Some (a, b) = search rules in
    let joined : concatenated a b ≡ Ok c.in-Ok.joined = search rules in
    let put : c.in-Ok.joined ∷ below_two m.words ≡ c.put.new.self = search rules in
    rw after (ran_as _ _ _ _ _
    (ap (λ (d : Config). act (Some op.Concat) (record d { counter = place })) (sym same)
    ∙ concats start a b (below_two m.words) (two_topped m.words a b two) c.in-Ok.joined joined ∙ ap (λ ws. goes (next start ws (state_of m.state))) put)
    (ran_none _ _))

pub returns-in-Err-Fault : goal.returns-in-Err-Fault
returns-in-Err-Fault g c place counted =
    let m = c.concat_pair.new.machine in
    let start = record (config_of m) { counter = place } in
    let same : config_of m ≡ config_of c.args.machine.now = search rules in
    let a = c.in-Some-top_two.first.now in
    let b = c.in-Some-top_two.second.now in
    let two : two_of m.words ≡ Some (a, b) = search rules in
    let refused : concatenated a b ≡ Err c.in-Err-Fault.fault = search rules in
    steps_as _ _ _ _ _ _
    (ap (λ (d : Config). act (Some op.Concat) (record d { counter = place })) (sym same)
    ∙ concats_not start a b (below_two m.words) (two_topped m.words a b two) c.in-Err-Fault.fault refused ∙ ap (failed start) (sym c.words.ensures)) c.fail.ensures

pub returns-in-Err-NoMemory : goal.returns-in-Err-NoMemory
returns-in-Err-NoMemory g c place counted = left_memory _ _
