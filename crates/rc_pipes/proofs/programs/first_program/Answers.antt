use Rattle.std.proofs.Common.{rules, ◌≡◌, ◌+◌, string_bytes, drop}
use Rattle.rc_text.specs.Texts.{text_bytes}
use Rattle.rc_model.specs.Run.Acts.{candidate}
use Rattle.rc_world.specs.declared.starts.Stop.TheVariants.{NoMemory}
use Rattle.rc_pipes.specs.Starts.{paths_in}
use Rattle.rc_pipes.proofs.Search.{dirs_left, ran_found, ran_further, left_at_probe}
use Rattle.rc_world.proofs.Joins.{left_here, left_join, passed_up}
use Rattle.law_plans.proofs.Runs.{ran_join}
use Rattle.rc_pipes.proofs.programs.first_program.Goals as goal

pub returns-in_err-path : goal.returns-in_err-path
returns-in_err-path g c = λ s. passed_up _ _ _ _ c.from_residual.result NoMemory c.from_residual.ensures.1 (left_here _ _ _ _ (c.loop-dir.invariant s))

pub returns-in_err-probe : goal.returns-in_err-probe
returns-in_err-probe g c = λ s.
    let left = dirs_left c.args.name.now c.args.dirs.now c.loop-dir.dir-index c.dir-item.result c.loop-dir-test.true c.dir-item.is in
    let path : c.deref.result.now ≡ candidate (text_bytes c.dir-item.result) c.args.name.now = search rules in
    let rest = paths_in c.args.name.now (drop (c.loop-dir.dir-index + 1) c.args.dirs.now) in
    passed_up _ _ _ _ c.from_residual-in_err-probe.result c.in_err-probe.field-0.0 c.from_residual-in_err-probe.ensures.1
    (left_join _ _ _ _ _ _ (rw left at (c.loop-dir.invariant s))
    (left_at_probe c.args.name.now (text_bytes c.dir-item.result) rest s _ _ _ (rw path at c.in_err-probe.ensures)))

pub returns-then-is_program : goal.returns-then-is_program
returns-then-is_program g c = λ s.
    let left = dirs_left c.args.name.now c.args.dirs.now c.loop-dir.dir-index c.dir-item.result c.loop-dir-test.true c.dir-item.is in
    let path : c.deref.result.now ≡ candidate (text_bytes c.dir-item.result) c.args.name.now = search rules in
    let found : string_bytes c.in_ok-path.path ≡ candidate (text_bytes c.dir-item.result) c.args.name.now = search rules in
    let rest = paths_in c.args.name.now (drop (c.loop-dir.dir-index + 1) c.args.dirs.now) in
    rw found (ran_join _ _ _ _ _ _ (rw left at (c.loop-dir.invariant s))
    (ran_found c.args.name.now (text_bytes c.dir-item.result) rest s _ _ _ (rw path at c.in_ok-probe.ensures) (search rules)))

pub loop-dir-preserved : goal.loop-dir-preserved
loop-dir-preserved g c = λ s.
    let left = dirs_left c.args.name.now c.args.dirs.now c.loop-dir.dir-index c.dir-item.result c.loop-dir-test.true c.dir-item.is in
    let path : c.deref.result.now ≡ candidate (text_bytes c.dir-item.result) c.args.name.now = search rules in
    let rest = paths_in c.args.name.now (drop (c.loop-dir.dir-index + 1) c.args.dirs.now) in
    ran_join _ _ _ _ _ _ (rw left at (c.loop-dir.invariant s))
    (ran_further c.args.name.now (text_bytes c.dir-item.result) rest s _ _ _ (rw path at c.in_ok-probe.ensures) (search rules))
