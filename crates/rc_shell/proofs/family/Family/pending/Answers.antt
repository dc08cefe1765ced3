use Rattle.std.proofs.Common.{◌<◌, ◌≤◌, length, get_or, None, option_map, option_copied, sym, ap, subst, ◌∙◌}
use Rattle.rc_world.specs.Views.{call_of}
use Rattle.rc_shell.specs.Families.{held, made_of}
use Rattle.rc_shell.specs.Made.{PendingAt}
use Rattle.rc_shell.proofs.Advances.{pending_at, pending_past}
use Rattle.rc_shell.proofs.family.Family.pending.Goals as goal

pub returns-in-Some : goal.returns-in-Some
returns-in-Some c =
    let h = held c.self.inside.limit c.self.inside.processes.items c.self.inside.steps.items in
    let found = c.in-Some.ensures.lookup in
    let waits = pending_at h c.self.invariant c.args.k c.in-Some.process.now (subst (λ ps. c.args.k < length ps) c.deref.ensures.value found.3.0)
    (found.1 ∙ ap (λ ps. get_or ps c.args.k c.in-Some.process.now) c.deref.ensures.value) in
    subst (λ v. PendingAt (made_of v) c.args.k (option_map call_of (option_copied c.as_ref.result))) c.self.view_is
    (subst (λ o. PendingAt (made_of (held c.self.inside.limit c.self.inside.processes.items c.self.inside.steps.items)) c.args.k (option_map call_of o)) (sym c.as_ref.ensures.value) waits)

pub returns-in-None : goal.returns-in-None
returns-in-None c =
    let h = held c.self.inside.limit c.self.inside.processes.items c.self.inside.steps.items in
    let past = pending_past h c.self.invariant c.args.k (subst (λ ps. length ps ≤ c.args.k) c.deref.ensures.value c.in-None.ensures.lookup.3) in
    subst (λ v. PendingAt (made_of v) c.args.k None) c.self.view_is past
