use Rattle.rc_model.specs.Run.Acts.{read_all, longest_file}
use Rattle.rc_model.specs.Run.Builtins.{whole_file}
use Rattle.rc_model.specs.Run.Calls.{close, as_done}
use Rattle.rc_model.specs.Run.Shell.{◌>>◌, say}
use Rattle.rc_world.proofs.Shells.{left_do, left_done, ran_do}
use Rattle.law_plans.proofs.Runs.{ran_none}
use Rattle.rc_world.proofs.Joins.{given_up}
use Rattle.rc_builtin.specs.Files.{got_of}
use Rattle.rc_pipes.proofs.Steps.{ran_said, left_saying}
use Rattle.rc_builtin.proofs.dot.read_and_close.Goals as goal

pub returns-in_err-read : goal.returns-in_err-read
unfolding longest_file
returns-in_err-read g c = λ args s.
    let h = c.args.file.0 in
    given_up _ _ _ _ c.from_residual.result c.in_err-read.field-0.0 c.from_residual.ensures.1
    (left_do {s = s} (read_all longest_file h) (λ out. say (close h) >> whole_file args out.text out.why)
    (c.in_err-read.ensures s))

pub returns-in_err-close : goal.returns-in_err-close
unfolding longest_file
returns-in_err-close g c = λ args s.
    let h = c.args.file.0 in
    let out = got_of c.in_ok-read.read in
    given_up _ _ _ _ c.from_residual-in_err-close.result c.in_err-close.field-0.0 c.from_residual-in_err-close.ensures.1
    (left_done {s = s} {t = s} (read_all longest_file h) (λ out. say (close h) >> whole_file args out.text out.why)
    (c.in_ok-read.ensures s)
    (left_saying _ _ (g.W.World.events c.close.new.world) s (close h) as_done (whole_file args out.text out.why) _ c.in_err-close.ensures))

pub returns : goal.returns
unfolding longest_file
returns g c = λ args s.
    let h = c.args.file.0 in
    let out = got_of c.in_ok-read.read in
    ran_do {s = s} {t = s} (read_all longest_file h) (λ out. say (close h) >> whole_file args out.text out.why)
    (c.in_ok-read.ensures s)
    (ran_said _ _ _ s (close h) as_done (whole_file args out.text out.why) _ _ c.in_ok-close.ensures (ran_none _ _))
