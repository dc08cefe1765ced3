use Rattle.std.proofs.Common.{rules, ◌≡◌, Some, drop, map, string_bytes, refl}
use Rattle.rc_model.specs.Code.Machine.{redirect}
use Rattle.rc_model.specs.Run.Acts.{open_one}
use Rattle.rc_model.specs.Syntax.Words.{word_texts}
use Rattle.rc_machine.specs.Lists.{top_of}
use Rattle.rc_world.specs.declared.starts.Stop.TheVariants.{NoMemory}
use Rattle.rc_world.proofs.Joins.{left_as, ran_as}
use Rattle.rc_machine.specs.Configurations.{config_of}
use Rattle.rc_machine.proofs.DescriptorActs.{opens_top}
use Rattle.rc_machine.proofs.Left.{step_left, steps_as}
use Rattle.rc_machine.proofs.Opened.{opened, opened_left, opens_refused}
use Rattle.rc_machine.proofs.Stacks.{taken, topped}
use Rattle.rc_machine.proofs.descriptors.open_redirections.open.Goals as goal

pub returns-in-Err : goal.returns-in-Err
returns-in-Err g c place counted =
    let m = c.args.machine.now in
    let start = record (config_of m) { counter = place } in
    let v = c.in-Some.words.now in
    let top : top_of m.words ≡ Some v = search rules in
    let names = map string_bytes c.deref.result.now in
    let texts : map string_bytes c.deref.result.now ≡ word_texts v = search rules in
    steps_as _ _ _ _ _ c.refuse.result (opens_top start c.args.mode c.args.slot v (drop 1 m.words) names (topped m.words v top) texts)
    (opens_refused _ _ m c.push_open.new.self c.args.slot (open_one m.redirs.slots c.args.mode names) _
    (λ h s. redirect start (drop 1 m.words) c.args.slot h s) (config_of c.refuse.new.machine) c.refuse.result c.in-Err.error
    c.in-Err.ensures.opened (rw c.in-Err.ensures.err at c.refuse.ensures))

pub returns-in_err-push : goal.returns-in_err-push
returns-in_err-push g c place counted =
    let m = c.args.machine.now in
    let start = record (config_of m) { counter = place } in
    let v = c.in-Some.words.now in
    let top : top_of m.words ≡ Some v = search rules in
    let names = map string_bytes c.deref.result.now in
    let texts : map string_bytes c.deref.result.now ≡ word_texts v = search rules in
    let words = drop 1 m.words in
    step_left _ _ _ _ c.from_residual-in_err-push.result NoMemory c.from_residual-in_err-push.ensures.1
    (left_as _ _ _ _ NoMemory (opens_top start c.args.mode c.args.slot v words names (topped m.words v top) texts)
    (opened_left _ _ m c.push_open.new.self c.args.slot (open_one m.redirs.slots c.args.mode names) (λ h s. redirect start words c.args.slot h s)
    c.in_default-push_open.ensures.opened))

pub returns : goal.returns
returns g c place counted =
    let m = c.args.machine.now in
    let start = record (config_of m) { counter = place } in
    let v = c.in-Some.words.now in
    let rest = c.drop_top.new.self in
    let top : top_of m.words ≡ Some v = search rules in
    let names = map string_bytes c.deref.result.now in
    let texts : map string_bytes c.deref.result.now ≡ word_texts v = search rules in
    rw (counted, c.in_ok-push.ensures) (ran_as _ _ _ _ _ (opens_top start c.args.mode c.args.slot v rest names (taken m.words rest v _ top c.drop_top.ensures) texts)
    (opened _ _ m c.push_open.new.self c.args.slot (open_one m.redirs.slots c.args.mode names) place rest _
    c.in_default-push_open.ensures.opened refl))
