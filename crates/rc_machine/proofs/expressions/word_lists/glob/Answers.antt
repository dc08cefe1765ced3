use Rattle.std.proofs.Common.{rules, ◌≡◌, Some, false, refl}
use Rattle.std.specs.List.{list_any}
use Rattle.law_plans.proofs.Runs.{ran_none}
use Rattle.rc_model.specs.Syntax.Words.{has_pattern}
use Rattle.rc_machine.specs.Lists.{top_of}
use Rattle.rc_world.proofs.Joins.{ran_as}
use Rattle.rc_machine.specs.Configurations.{config_of}
use Rattle.rc_machine.proofs.ExpressionActs.{globs_plain}
use Rattle.rc_machine.proofs.expressions.word_lists.glob.Goals as goal

pub returns-then-not-have_pattern : goal.returns-then-not-have_pattern
returns-then-not-have_pattern g c place counted =
    let m = c.args.machine.now in
    let start = record (config_of m) { counter = place } in
    let v = c.in-Some.words.now in
    let top : top_of m.words ≡ Some v = search rules in
    let plain : list_any has_pattern v ≡ false = search rules in
    rw counted (ran_as _ _ _ _ _ (globs_plain start m.words v refl top plain) (ran_none _ _))
