use Rattle.std.proofs.Common.{rules, ◌≡◌, ◌+◌, [], Some, false, map, refl, ap, sym, subst, ◌∙◌}
use Rattle.rc_text.specs.Texts.{text_bytes}
use Rattle.rc_model.specs.Code.Layout as op
use Rattle.rc_model.specs.Code.Machine.{On, act, enter, unwind}
use Rattle.rc_model.specs.Code.Layout.{code}
use Rattle.rc_model.specs.Run.Plans.{RanBetween, done_with}
use Rattle.rc_code.specs.Views.{code_of}
use Rattle.rc_machine.specs.Calls.{called, entered}
use Rattle.rc_world.specs.Comes.{for_memory}
use Rattle.rc_model.specs.Run.Builtins.{Body, BodyWith, Finished, run_words}
use Rattle.rc_model.specs.Syntax.Words.{word_texts}
use Rattle.law_plans.proofs.Runs.{ran_next, ran_exit, ran_none}
use Rattle.rc_machine.specs.Lists.{top_of}
use Rattle.rc_world.specs.declared.starts.Stop.TheVariants.{NoMemory}
use Rattle.rc_world.proofs.Joins.{left_as, left_memory, ran_as}
use Rattle.rc_world.proofs.Shells.{left_under}
use Rattle.rc_machine.specs.Configurations.{config_of}
use Rattle.std.specs.Option.{is_none}
use Rattle.rc_machine.specs.Tops.{uppermost}
use Rattle.rc_machine.proofs.ControlActs.{runs_top, top_is}
use Rattle.rc_machine.proofs.Left.{step_left}
use Rattle.rc_machine.proofs.Left.{steps_after}
use Rattle.rc_scope.specs.States.{state_of}
use Rattle.rc_machine.proofs.control.simple_commands.run_command.Goals as goal

pub returns-in_err-texts : goal.returns-in_err-texts
returns-in_err-texts g c place counted = step_left _ _ _ _ c.from_residual.result NoMemory c.from_residual.ensures.1 (left_memory _ _)

pub returns-in_err-run_words : goal.returns-in_err-run_words
returns-in_err-run_words g c place counted =
    let m = c.args.machine.now in
    let start = record (config_of m) { counter = place } in
    let v = uppermost m.words in
    let rest = c.take_texts.new.words in
    let there : is_none c.top.result ≡ false = search rules in
    let top : top_of m.words ≡ Some v = top_is m.words c.top.result c.top.ensures there in
    let texts : map text_bytes c.in_ok-texts.texts.items ≡ word_texts v = search rules in
    let own : c.slots.result ≡ m.redirs.slots = search rules in
    step_left _ _ _ _ c.from_residual-in_err-run_words.result c.in_err-run_words.field-0.0 c.from_residual-in_err-run_words.ensures.1
    (left_as _ _ _ _ _ (runs_top start m.words refl top rest c.in_ok-texts.ensures.below)
    (left_under _ _ _ (run_words m.redirs.slots (word_texts v) (state_of m.state)) (λ d s. enter start rest d s) (unwind start.scopes)
    (rw (texts, own) at c.in_err-run_words.ensures.runs)))

pub returns-in-Finished : goal.returns-in-Finished
returns-in-Finished g c place counted =
    let m = c.args.machine.now in
    let start = record (config_of m) { counter = place } in
    let v = uppermost m.words in
    let rest = c.take_texts.new.words in
    let there : is_none c.top.result ≡ false = search rules in
    let top : top_of m.words ≡ Some v = top_is m.words c.top.result c.top.ensures there in
    let texts : map text_bytes c.in_ok-texts.texts.items ≡ word_texts v = search rules in
    let own : c.slots.result ≡ m.redirs.slots = search rules in
    rw counted (ran_as _ _ _ _ _ (runs_top start m.words refl top rest c.in_ok-texts.ensures.below)
    (ran_next _ _ _ (run_words m.redirs.slots (word_texts v) (state_of m.state)) Finished (state_of c.run_words.new.state) (λ d s. enter start rest d s) (unwind start.scopes) _
    (rw (c.in-Finished.is, texts, own) at c.in_ok-run_words.ensures.runs) (ran_none _ _)))

pub returns-in-Exit : goal.returns-in-Exit
returns-in-Exit g c place counted =
    let m = c.args.machine.now in
    let start = record (config_of m) { counter = place } in
    let v = uppermost m.words in
    let rest = c.take_texts.new.words in
    let there : is_none c.top.result ≡ false = search rules in
    let top : top_of m.words ≡ Some v = top_is m.words c.top.result c.top.ensures there in
    let texts : map text_bytes c.in_ok-texts.texts.items ≡ word_texts v = search rules in
    let own : c.slots.result ≡ m.redirs.slots = search rules in
    let t = state_of c.run_words.new.state in
    let before = g.W.World.events c.args.world.now in
    let after = g.W.World.events c.run_words.new.world in
    let left = unwind start.scopes t [] in
    steps_after before after (g.W.World.events c.unwind.new.world) (act (Some op.Run) start) left (config_of c.unwind.new.self) c.unwind.result
    (ran_as before after _ _ _ (runs_top start m.words refl top rest c.in_ok-texts.ensures.below)
    (ran_exit before after after (run_words m.redirs.slots (word_texts v) (state_of m.state)) t [] (λ d s. enter start rest d s) (unwind start.scopes) (unwind start.scopes t [])
    (rw (c.in-Exit.is, texts, own) at c.in_ok-run_words.ensures.runs) (ran_none after left)))
    c.unwind.ensures

pub returns-in_ok-enter-in-Body : goal.returns-in_ok-enter-in-Body
returns-in_ok-enter-in-Body g c place counted =
    let m = c.args.machine.now in
    let start = record (config_of m) { counter = place } in
    let v = uppermost m.words in
    let rest = c.take_texts.new.words in
    let there : is_none c.top.result ≡ false = search rules in
    let top : top_of m.words ≡ Some v = top_is m.words c.top.result c.top.ensures there in
    let texts : map text_bytes c.in_ok-texts.texts.items ≡ word_texts v = search rules in
    let own : c.slots.result ≡ m.redirs.slots = search rules in
    let f = rw (c.in-Body.is, texts, own) at c.in_ok-run_words.ensures.runs in
    let t = state_of c.run_words.new.state in
    let d = record (config_of m) { counter = place + 1; words = rest; state = t } in
    let left : config_of c.enter.new.machine ≡ entered (record d { counter = m.counter }) false (code_of c.in-Body.body) = search rules in
    let now : config_of c.enter.new.machine ≡ entered d false (code_of c.in-Body.body) =
    left ∙ ap (λ n. entered (record d { counter = n }) false (code_of c.in-Body.body)) counted in
    let to : done_with (On (entered d false (code f.0))) ≡ done_with (On (config_of c.enter.new.machine)) =
    ap (λ x. done_with (On (entered d false x))) (sym f.1) ∙ ap (λ x. done_with (On x)) (sym now) in
    subst (λ p. RanBetween (g.W.World.events c.args.world.now) (g.W.World.events c.run_words.new.world) (act (Some op.Run) start) p) to
    (ran_as _ _ _ _ _ (runs_top start m.words refl top rest c.in_ok-texts.ensures.below)
    (ran_next _ _ _ (run_words m.redirs.slots (word_texts v) (state_of m.state)) (Body f.0) t (λ x s. enter start rest x s) (unwind start.scopes) _
    f.2 (ran_none _ _)))

pub returns-in_err-enter-in-Body : goal.returns-in_err-enter-in-Body
returns-in_err-enter-in-Body g c place counted =
    let m = c.args.machine.now in
    let start = record (config_of m) { counter = place } in
    let v = uppermost m.words in
    let rest = c.take_texts.new.words in
    let there : is_none c.top.result ≡ false = search rules in
    let top : top_of m.words ≡ Some v = top_is m.words c.top.result c.top.ensures there in
    let texts : map text_bytes c.in_ok-texts.texts.items ≡ word_texts v = search rules in
    let own : c.slots.result ≡ m.redirs.slots = search rules in
    let f = rw (c.in-Body.is, texts, own) at c.in_ok-run_words.ensures.runs in
    step_left _ _ _ _ c.from_residual-in_err-enter-in-Body.result NoMemory c.from_residual-in_err-enter-in-Body.ensures.1
    (for_memory _ (ran_as _ _ _ _ _ (runs_top start m.words refl top rest c.in_ok-texts.ensures.below)
    (ran_next _ _ _ (run_words m.redirs.slots (word_texts v) (state_of m.state)) (Body f.0) (state_of c.run_words.new.state) (λ x s. enter start rest x s)
    (unwind start.scopes) _ f.2 (ran_none _ _))))

pub returns-in_ok-call-in-Call : goal.returns-in_ok-call-in-Call
returns-in_ok-call-in-Call g c place counted =
    let m = c.args.machine.now in
    let start = record (config_of m) { counter = place } in
    let v = uppermost m.words in
    let rest = c.take_texts.new.words in
    let there : is_none c.top.result ≡ false = search rules in
    let top : top_of m.words ≡ Some v = top_is m.words c.top.result c.top.ensures there in
    let texts : map text_bytes c.in_ok-texts.texts.items ≡ word_texts v = search rules in
    let own : c.slots.result ≡ m.redirs.slots = search rules in
    let f = rw (c.in-Call.is, texts, own) at c.in_ok-run_words.ensures.runs in
    let t = state_of c.run_words.new.state in
    let args = map text_bytes c.in-Call.args.items in
    let d = record (config_of m) { counter = place + 1; words = rest; state = t } in
    let left : config_of c.call.new.machine ≡ called (record d { counter = m.counter }) args (code_of c.in-Call.body) = search rules in
    let now : config_of c.call.new.machine ≡ called d args (code_of c.in-Call.body) =
    left ∙ ap (λ n. called (record d { counter = n }) args (code_of c.in-Call.body)) counted in
    let to : done_with (On (called d args (code f.0))) ≡ done_with (On (config_of c.call.new.machine)) =
    ap (λ x. done_with (On (called d args x))) (sym f.1) ∙ ap (λ x. done_with (On x)) (sym now) in
    subst (λ p. RanBetween (g.W.World.events c.args.world.now) (g.W.World.events c.run_words.new.world) (act (Some op.Run) start) p) to
    (ran_as _ _ _ _ _ (runs_top start m.words refl top rest c.in_ok-texts.ensures.below)
    (ran_next _ _ _ (run_words m.redirs.slots (word_texts v) (state_of m.state)) (BodyWith args f.0) t (λ x s. enter start rest x s) (unwind start.scopes) _
    f.2 (ran_none _ _)))

pub returns-in_err-call-in-Call : goal.returns-in_err-call-in-Call
returns-in_err-call-in-Call g c place counted =
    let m = c.args.machine.now in
    let start = record (config_of m) { counter = place } in
    let v = uppermost m.words in
    let rest = c.take_texts.new.words in
    let there : is_none c.top.result ≡ false = search rules in
    let top : top_of m.words ≡ Some v = top_is m.words c.top.result c.top.ensures there in
    let texts : map text_bytes c.in_ok-texts.texts.items ≡ word_texts v = search rules in
    let own : c.slots.result ≡ m.redirs.slots = search rules in
    let f = rw (c.in-Call.is, texts, own) at c.in_ok-run_words.ensures.runs in
    let args = map text_bytes c.in-Call.args.items in
    step_left _ _ _ _ c.from_residual-in_err-call-in-Call.result NoMemory c.from_residual-in_err-call-in-Call.ensures.1
    (for_memory _ (ran_as _ _ _ _ _ (runs_top start m.words refl top rest c.in_ok-texts.ensures.below)
    (ran_next _ _ _ (run_words m.redirs.slots (word_texts v) (state_of m.state)) (BodyWith args f.0) (state_of c.run_words.new.state) (λ x s. enter start rest x s)
    (unwind start.scopes) _ f.2 (ran_none _ _))))
