use Rattle.std.proofs.Common.{◌∷◌, ◌++◌, [], ap, subst, ◌∙◌}
use Rattle.rc_world.specs.Views.{answer_of, call_of}
use Rattle.rc_shell.specs.Changes.{Changes, IsChanged}
use Rattle.rc_shell.specs.Families.{held, made_of}
use Rattle.rc_shell.specs.Made.{Steps}
use Rattle.rc_shell.proofs.Promises.{keeps_promise}
use Rattle.rc_shell.proofs.Stands.{holds_on, steps_so}
use Rattle.rc_shell.proofs.family.Family.step.Goals as goal

pub invariant_of-self-2 : goal.invariant_of-self-2
invariant_of-self-2 c =
    let h = held c.self.inside.limit c.self.inside.processes.items c.self.inside.steps.items in
    let changes : Changes (held c.self.inside.limit c.self.inside.processes.items c.self.inside.steps.items) c.args.k (answer_of c.args.answer) c.in_ok-change.change =
    subst (λ ps. Changes (held c.self.inside.limit ps c.self.inside.steps.items) c.args.k (answer_of c.args.answer) c.in_ok-change.change) c.as_slice.ensures.value
    (subst (λ es. Changes (held c.self.inside.limit c.as_slice.result.now es) c.args.k (answer_of c.args.answer) c.in_ok-change.change) c.as_slice-2.ensures.value c.in_ok-change.ensures.ok) in
    let changed : IsChanged c.self.inside.processes.items c.args.k c.in_ok-change.change.pending c.in_ok-change.change.child c.change_processes.new.processes.items =
    subst (λ ps. IsChanged ps c.args.k c.in_ok-change.change.pending c.in_ok-change.change.child c.change_processes.new.processes.items) c.make_room.ensures.processes c.change_processes.ensures in
    let more = c.push_reserved.ensures.items ∙ ap (λ es. es ++ record { process = c.args.k; call = c.in_ok-change.change.kept; answer = c.args.answer } ∷ []) c.make_room.ensures.steps in
    holds_on h c.self.invariant c.args.k c.args.answer c.in_ok-change.change changes c.change_processes.new.processes.items c.push_reserved.new.self.items changed more

pub returns-clause-ok : goal.returns-clause-ok
returns-clause-ok c =
    let h = held c.self.inside.limit c.self.inside.processes.items c.self.inside.steps.items in
    let changes : Changes (held c.self.inside.limit c.self.inside.processes.items c.self.inside.steps.items) c.args.k (answer_of c.args.answer) c.in_ok-change.change =
    subst (λ ps. Changes (held c.self.inside.limit ps c.self.inside.steps.items) c.args.k (answer_of c.args.answer) c.in_ok-change.change) c.as_slice.ensures.value
    (subst (λ es. Changes (held c.self.inside.limit c.as_slice.result.now es) c.args.k (answer_of c.args.answer) c.in_ok-change.change) c.as_slice-2.ensures.value c.in_ok-change.ensures.ok) in
    let changed : IsChanged c.self.inside.processes.items c.args.k c.in_ok-change.change.pending c.in_ok-change.change.child c.change_processes.new.processes.items =
    subst (λ ps. IsChanged ps c.args.k c.in_ok-change.change.pending c.in_ok-change.change.child c.change_processes.new.processes.items) c.make_room.ensures.processes c.change_processes.ensures in
    let more = c.push_reserved.ensures.items ∙ ap (λ es. es ++ record { process = c.args.k; call = c.in_ok-change.change.kept; answer = c.args.answer } ∷ []) c.make_room.ensures.steps in
    let made = steps_so h c.self.invariant c.args.k c.args.answer c.in_ok-change.change changes c.change_processes.new.processes.items c.push_reserved.new.self.items changed more in
    subst (λ v. Steps (made_of v) (made_of (held c.self.inside.limit c.change_processes.new.processes.items c.push_reserved.new.self.items)) c.args.k (answer_of c.args.answer) (call_of c.in_ok-change.change.answered)) c.self.view_is made

pub returns-clause-promised : goal.returns-clause-promised
returns-clause-promised c =
    let h = held c.self.inside.limit c.self.inside.processes.items c.self.inside.steps.items in
    let changes : Changes (held c.self.inside.limit c.self.inside.processes.items c.self.inside.steps.items) c.args.k (answer_of c.args.answer) c.in_ok-change.change =
    subst (λ ps. Changes (held c.self.inside.limit ps c.self.inside.steps.items) c.args.k (answer_of c.args.answer) c.in_ok-change.change) c.as_slice.ensures.value
    (subst (λ es. Changes (held c.self.inside.limit c.as_slice.result.now es) c.args.k (answer_of c.args.answer) c.in_ok-change.change) c.as_slice-2.ensures.value c.in_ok-change.ensures.ok) in
    let changed : IsChanged c.self.inside.processes.items c.args.k c.in_ok-change.change.pending c.in_ok-change.change.child c.change_processes.new.processes.items =
    subst (λ ps. IsChanged ps c.args.k c.in_ok-change.change.pending c.in_ok-change.change.child c.change_processes.new.processes.items) c.make_room.ensures.processes c.change_processes.ensures in
    let more = c.push_reserved.ensures.items ∙ ap (λ es. es ++ record { process = c.args.k; call = c.in_ok-change.change.kept; answer = c.args.answer } ∷ []) c.make_room.ensures.steps in
    keeps_promise (held c.self.inside.limit c.change_processes.new.processes.items c.push_reserved.new.self.items) (holds_on h c.self.invariant c.args.k c.args.answer c.in_ok-change.change changes c.change_processes.new.processes.items c.push_reserved.new.self.items changed more)
