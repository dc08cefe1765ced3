use Rattle.std.proofs.Common.{map}
use Rattle.std.proofs.lemmas.Result.{err_from_is_err_and}
use Rattle.rc_world.specs.Views.{answer_of}
use Rattle.rc_shell.specs.Families.{held}
use Rattle.rc_shell.proofs.Advances.{answers_call, answers_none, changes, child_refused, next_refused, process_proper}
use Rattle.rc_shell.proofs.family.changes.change_of.Goals as goal

pub returns-in_err-call-clause-err : goal.returns-in_err-call-clause-err
returns-in_err-call-clause-err c =
    let h = held c.args.limit c.args.processes.now c.args.steps.now in
    let e = err_from_is_err_and c.from_residual.result c.from_residual.ensures.1 in
    rw (e.1, e.2) (answers_none h c.requires c.args.k (answer_of c.args.answer.now) c.in_err-call.field-0.0 c.in_err-call.ensures.err)

pub next_call-requires : goal.next_call-requires
next_call-requires c =
    let h = held c.args.limit c.args.processes.now c.args.steps.now in
    process_proper h c.requires c.args.k c.in_ok-call.call.now (answer_of c.args.answer.now) c.index-processes-k.result c.index-processes-k.is c.in_ok-call.ensures.ok
    (map answer_of c.in_ok-answers.answers.items) c.in_ok-answers.ensures

pub returns-in_err-answers-clause-err : goal.returns-in_err-answers-clause-err
returns-in_err-answers-clause-err c =
    let h = held c.args.limit c.args.processes.now c.args.steps.now in
    let e = err_from_is_err_and c.from_residual-in_err-answers.result c.from_residual-in_err-answers.ensures.1 in
    rw (e.1, e.2) (answers_call h c.requires c.args.k c.in_ok-call.call.now (answer_of c.args.answer.now) c.in_ok-call.ensures.ok)

pub returns-in_err-clone-clause-err : goal.returns-in_err-clone-clause-err
returns-in_err-clone-clause-err c =
    let h = held c.args.limit c.args.processes.now c.args.steps.now in
    let e = err_from_is_err_and c.from_residual-in_err-clone.result c.from_residual-in_err-clone.ensures.1 in
    rw (e.1, e.2) (answers_call h c.requires c.args.k c.in_ok-call.call.now (answer_of c.args.answer.now) c.in_ok-call.ensures.ok)

pub returns-in_err-clone-2-clause-err : goal.returns-in_err-clone-2-clause-err
returns-in_err-clone-2-clause-err c =
    let h = held c.args.limit c.args.processes.now c.args.steps.now in
    let e = err_from_is_err_and c.from_residual-in_err-clone-2.result c.from_residual-in_err-clone-2.ensures.1 in
    rw (e.1, e.2) (answers_call h c.requires c.args.k c.in_ok-call.call.now (answer_of c.args.answer.now) c.in_ok-call.ensures.ok)

pub returns-in_err-pending-clause-err : goal.returns-in_err-pending-clause-err
returns-in_err-pending-clause-err c =
    let h = held c.args.limit c.args.processes.now c.args.steps.now in
    let e = err_from_is_err_and c.from_residual-in_err-pending.result c.from_residual-in_err-pending.ensures.1 in
    rw (e.1, e.2)
    (next_refused h c.requires c.args.k c.in_ok-call.call.now (answer_of c.args.answer.now) c.index-processes-k.result c.index-processes-k.is c.in_ok-call.ensures.ok
    (map answer_of c.in_ok-answers.answers.items) c.in_ok-answers.ensures c.in_err-pending.field-0.0 c.in_err-pending.ensures.err)

pub returns-in_err-child-clause-err : goal.returns-in_err-child-clause-err
returns-in_err-child-clause-err c =
    let h = held c.args.limit c.args.processes.now c.args.steps.now in
    let e = err_from_is_err_and c.from_residual-in_err-child.result c.from_residual-in_err-child.ensures.1 in
    rw (e.1, e.2)
    (child_refused h c.requires c.args.k c.in_ok-call.call.now (answer_of c.args.answer.now) c.index-processes-k.result c.index-processes-k.is c.in_ok-call.ensures.ok
    (map answer_of c.in_ok-answers.answers.items) c.in_ok-answers.ensures c.in_err-child.field-0.0 c.in_err-child.ensures.err)

pub returns-clause-ok : goal.returns-clause-ok
returns-clause-ok c =
    let h = held c.args.limit c.args.processes.now c.args.steps.now in
    changes h c.requires c.args.k c.in_ok-call.call.now (answer_of c.args.answer.now) c.index-processes-k.result c.index-processes-k.is c.in_ok-call.ensures.ok
    (map answer_of c.in_ok-answers.answers.items) c.in_ok-answers.ensures _ c.in_ok-clone.ensures.cases c.in_ok-clone-2.ensures.cases c.in_ok-pending.ensures.ok c.in_ok-child.ensures.ok
