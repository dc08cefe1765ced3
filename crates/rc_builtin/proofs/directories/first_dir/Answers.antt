use Rattle.std.proofs.Common.{rules, ◌≡◌, ◌+◌, true, false, drop, map, string_bytes}
use Rattle.rc_world.specs.declared.starts.Stop.TheVariants.{NoMemory}
use Rattle.rc_scope.specs.States.{state_of}
use Rattle.rc_pipes.proofs.Changes.{texts_left, ran_changed, ran_refused, left_at_change}
use Rattle.rc_world.proofs.Joins.{left_here, left_join, passed_up}
use Rattle.law_plans.proofs.Runs.{ran_join}
use Rattle.rc_builtin.proofs.directories.first_dir.Goals as goal

pub returns-in_err-chdir-clause-does : goal.returns-in_err-chdir-clause-does
returns-in_err-chdir-clause-does g c =
    let left = texts_left string_bytes c.args.dirs.now c.loop-dir.dir-index c.dir-item.result c.loop-dir-test.true c.dir-item.is in
    let path : c.deref.result.now ≡ string_bytes c.dir-item.result = search rules in
    let rest = map string_bytes (drop (c.loop-dir.dir-index + 1) c.args.dirs.now) in
    passed_up _ _ _ _ c.from_residual.result c.in_err-chdir.field-0.0 c.from_residual.ensures.1
    (left_join _ _ _ _ _ _ (rw left at c.loop-dir.invariant.0)
    (left_at_change (string_bytes c.dir-item.result) rest (state_of c.args.state.now) _ _ _ (rw path at c.in_err-chdir.ensures)))

pub returns-then-branch-clause-does : goal.returns-then-branch-clause-does
returns-then-branch-clause-does g c =
    let left = texts_left string_bytes c.args.dirs.now c.loop-dir.dir-index c.dir-item.result c.loop-dir-test.true c.dir-item.is in
    let path : c.deref.result.now ≡ string_bytes c.dir-item.result = search rules in
    let changed : c.in_ok-chdir.field-0 ≡ true = search rules in
    let rest = map string_bytes (drop (c.loop-dir.dir-index + 1) c.args.dirs.now) in
    rw (c.clear_status.ensures, c.loop-dir.invariant.1) (ran_join _ _ _ _ _ _ (rw left at c.loop-dir.invariant.0)
    (ran_changed (string_bytes c.dir-item.result) rest (state_of c.args.state.now) _ _ (rw (path, changed) at c.in_ok-chdir.ensures)))

pub loop-dir-preserved : goal.loop-dir-preserved
loop-dir-preserved g c =
    let left = texts_left string_bytes c.args.dirs.now c.loop-dir.dir-index c.dir-item.result c.loop-dir-test.true c.dir-item.is in
    let path : c.deref.result.now ≡ string_bytes c.dir-item.result = search rules in
    let refused : c.in_ok-chdir.field-0 ≡ false = search rules in
    let rest = map string_bytes (drop (c.loop-dir.dir-index + 1) c.args.dirs.now) in (
      ran_join _ _ _ _ _ _ (rw left at c.loop-dir.invariant.0)
          (ran_refused (string_bytes c.dir-item.result) rest (state_of c.args.state.now) _ _ (rw (path, refused) at c.in_ok-chdir.ensures)),
      c.loop-dir.invariant.1,
    )

pub returns-in_err-set_status-clause-does : goal.returns-in_err-set_status-clause-does
returns-in_err-set_status-clause-does g c =
    passed_up _ _ _ _ c.from_residual-in_err-set_status.result NoMemory c.from_residual-in_err-set_status.ensures.1 (left_here _ _ _ _ c.loop-dir.invariant.0)
