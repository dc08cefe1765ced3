use Rattle.std.proofs.Common.{refl}
use Rattle.rc_world.proofs.Joins.{passed_up}
use Rattle.rc_glob.proofs.Walks.{left_names, no_paths, ran_names, ran_plain, some_paths}
use Rattle.rc_glob.proofs.expansion.find_files.Goals as goal

pub returns-in_default : goal.returns-in_default
returns-in_default g c = λ s. ran_plain _ s c.args.word.now c.in_default.ensures

pub returns-in_err-paths : goal.returns-in_err-paths
returns-in_err-paths g c = λ s.
    passed_up _ _ _ _ c.from_residual.result c.in_err-paths.field-0.0 c.from_residual.ensures.1
    (left_names s c.args.word.now _ _ c.in-Some.ensures.1 c.in-Some.ensures.0 c.new.ensures.bytes _ _ _ (c.in_err-paths.ensures s))

pub returns-then-is_empty : goal.returns-then-is_empty
returns-then-is_empty g c = λ s.
    ran_names s c.args.word.now _ _ c.in-Some.ensures.1 c.in-Some.ensures.0 c.new.ensures.bytes _ _ _ _ (c.in_ok-paths.ensures s)
    (no_paths c.args.word.now c.in_ok-paths.paths.items c.as_slice.result.now c.is_empty.result c.is_empty.ensures c.as_slice.ensures.value c.if-is_empty.true)

pub returns : goal.returns
returns g c = λ s.
    ran_names s c.args.word.now _ _ c.in-Some.ensures.1 c.in-Some.ensures.0 c.new.ensures.bytes _ _ _ _ (c.in_ok-paths.ensures s)
    (some_paths c.args.word.now c.in_ok-paths.paths.items c.as_slice.result.now c.ordered_paths.result.items _
    c.is_empty.result c.is_empty.ensures c.as_slice.ensures.value c.if-is_empty.false c.ordered_paths.ensures refl)
