use Rattle.std.proofs.Common.{rules, ◌≡◌, ◌∙◌, ◌∷◌, [], Some, None, false, ap, sym}
use Rattle.std.specs.Prelude.{if◌then◌else◌}
use Rattle.rc_model.specs.Code.Layout as op
use Rattle.rc_model.specs.Code.Machine.{act}
use Rattle.rc_model.specs.Run.State.{is_name}
use Rattle.rc_model.specs.Run.Values.{bad_name}
use Rattle.rc_model.specs.Syntax.Words.{word_text, word_texts}
use Rattle.rc_world.proofs.Joins.{left_memory}
use Rattle.rc_machine.specs.Configurations.{config_of}
use Rattle.rc_machine.specs.Names.{the_name}
use Rattle.rc_machine.specs.Steps.{failed}
use Rattle.rc_machine.proofs.ExpressionActs.{assigns_no_name}
use Rattle.rc_machine.proofs.Left.{steps_as}
use Rattle.rc_scope.specs.States.{state_of}
use Rattle.rc_machine.proofs.expressions.assignments.assign.Goals as goal

pub returns-in_default : goal.returns-in_default
returns-in_default g c place counted =
    let m = c.args.machine.now in
    let same : c.take_pair.new.self ≡ m.words = search rules in
    steps_as _ _ _ _ _ _ (ap (λ ws. act (Some op.Assign) (record (config_of m) { counter = place; words = ws })) (sym same))
    (c.assign_list.ensures place counted)

pub returns-in-Err-Fault-BadName : goal.returns-in-Err-Fault-BadName
returns-in-Err-Fault-BadName g c place counted =
    let m = c.args.machine.now in
    let start = record (config_of m) { counter = place } in
    let a = c.in-Some.name in
    let b = c.in-Some.word in
    let rest = c.take_pair.new.self in
    let words : m.words ≡ (b ∷ []) ∷ (a ∷ []) ∷ rest = search rules in
    let text : c.text.result.now ≡ word_text a = search rules in
    let bad : is_name c.text.result.now ≡ false = search (rules, c.set_one.ensures.bad_name.0) in
    let none : the_name is_name (word_texts (a ∷ [])) ≡ None = ap (λ t. if t then Some (word_text a) else None) (rw text at bad) in
    let same : state_of c.set_one.new.self ≡ state_of m.state = search rules in
    steps_as _ _ _ _ _ _ (assigns_no_name start (a ∷ []) (b ∷ []) rest words none ∙ ap (λ s. failed (record start { words = rest; state = s }) bad_name) (sym same))
    c.fail_bad_name.ensures

pub returns : goal.returns
returns g c place counted = left_memory _ _
