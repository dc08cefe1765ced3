use Rattle.std.proofs.Common.{refl, Some}
use Rattle.rc_model.specs.Run.Calls.{here, to_file, with_slot}
use Rattle.rc_redir.specs.Opening.{open_text}
use Rattle.rc_redir.proofs.Openings.{at_first, at_call, at_name, held_by_none, refused_by, opened_by}
use Rattle.rc_redir.proofs.Stacks.{entered}
use Rattle.rc_redir.proofs.RedirStack.push_here.Goals as goal
use Rattle.rc_world.proofs.Answered.{file_comes}
use Rattle.rc_model.specs.Run.Acts.{here_name}

pub returns-in_err-try_reserve-clause-opened : goal.returns-in_err-try_reserve-clause-opened
returns-in_err-try_reserve-clause-opened g c =
    at_first (g.W.World.events c.args.world.now) c.args.self.now _ 0 (open_text c.args.self.now.slots c.args.text.now) _ c.from_residual.ensures.1

pub returns-in_err-file-clause-opened : goal.returns-in_err-file-clause-opened
returns-in_err-file-clause-opened g c =
    at_call _ _ c.args.self.now _ 0 (here c.args.text.now) here_name _ _
    c.from_residual-in_err-file.ensures.1 (file_comes _ _ (here c.args.text.now) c.here.result _ refl c.here.ensures c.in_err-file.ensures)

pub returns-in_err-name-clause-opened : goal.returns-in_err-name-clause-opened
returns-in_err-name-clause-opened g c =
    at_name _ _ c.args.self.now _ 0 (here c.args.text.now) here_name _ _
    c.from_residual-in_err-name.ensures.1 (file_comes _ _ (here c.args.text.now) c.here.result _ refl c.here.ensures c.in_ok-file.ensures)

pub returns-in_err-name-clause-held : goal.returns-in_err-name-clause-held
returns-in_err-name-clause-held g c =
    held_by_none _ _ c.args.self.now c.args.self.now 0 (here c.args.text.now) here_name _ c.from_residual-in_err-name.ensures.1
    (file_comes _ _ (here c.args.text.now) c.here.result _ refl c.here.ensures (rw c.in_default.is at c.in_ok-file.ensures))

pub returns-in_default-clause-opened : goal.returns-in_default-clause-opened
returns-in_default-clause-opened g c =
    refused_by _ _ c.args.self.now c.args.self.now 0 (here c.args.text.now) here_name c.in_ok-name.name
    c.in_ok-name.ensures.ok (file_comes _ _ (here c.args.text.now) c.here.result _ refl c.here.ensures (rw c.in_default.is at c.in_ok-file.ensures))

pub returns-clause-opened : goal.returns-clause-opened
returns-clause-opened g c =
    let file = c.in-Some.file in
    opened_by _ _ c.args.self.now _ 0 (here c.args.text.now) here_name file.0
    (entered c.self.inside.slots _ c.self.inside.redirections.items _ _ (Some file) c.args.self.now
    (λ slots. with_slot slots 0 (to_file file.0))
    c.self.view_is c.try_reserve.ensures.items c.push_within.ensures c.with_slot-self-inside.ensures)
    (file_comes _ _ (here c.args.text.now) c.here.result _ refl c.here.ensures (rw c.in-Some.is at c.in_ok-file.ensures))
