use Rattle.std.proofs.Common.{rules, ◌≡◌, ◌+◌, drop, map, string_bytes}
use Rattle.rc_pipes.proofs.Changes.{texts_left}
use Rattle.rc_world.proofs.Joins.{left_join, passed_up}
use Rattle.law_plans.proofs.Runs.{ran_join}
use Rattle.rc_pipes.proofs.Opening.{ran_opened, ran_unopened, left_opening}
use Rattle.rc_pipes.proofs.command_files.open_first.Goals as goal

pub returns-in_err-file : goal.returns-in_err-file
returns-in_err-file g c =
    let left = texts_left string_bytes c.args.paths.now c.loop-path.path-index c.path-item.result c.loop-path-test.true c.path-item.is in
    let path : c.deref.result.now ≡ string_bytes c.path-item.result = search rules in
    let rest = map string_bytes (drop (c.loop-path.path-index + 1) c.args.paths.now) in
    λ s. passed_up _ _ _ _ c.from_residual.result c.in_err-file.field-0.0 c.from_residual.ensures.1
    (left_join _ _ _ _ _ _ (rw left at (c.loop-path.invariant s))
    (left_opening (string_bytes c.path-item.result) rest s _ _ _ (rw path at c.in_err-file.ensures)))

pub returns-in-Some : goal.returns-in-Some
returns-in-Some g c =
    let left = texts_left string_bytes c.args.paths.now c.loop-path.path-index c.path-item.result c.loop-path-test.true c.path-item.is in
    let path : c.deref.result.now ≡ string_bytes c.path-item.result = search rules in
    let rest = map string_bytes (drop (c.loop-path.path-index + 1) c.args.paths.now) in
    λ s. ran_join _ _ _ _ _ _ (rw left at (c.loop-path.invariant s))
    (ran_opened (string_bytes c.path-item.result) rest s _ _ c.in-Some.file.0 (rw (path, c.in-Some.is) at c.in_ok-file.ensures))

pub loop-path-preserved : goal.loop-path-preserved
loop-path-preserved g c =
    let left = texts_left string_bytes c.args.paths.now c.loop-path.path-index c.path-item.result c.loop-path-test.true c.path-item.is in
    let path : c.deref.result.now ≡ string_bytes c.path-item.result = search rules in
    let rest = map string_bytes (drop (c.loop-path.path-index + 1) c.args.paths.now) in
    λ s. ran_join _ _ _ _ _ _ (rw left at (c.loop-path.invariant s))
    (ran_unopened (string_bytes c.path-item.result) rest s _ _ (rw (path, c.in_default.is) at c.in_ok-file.ensures))
