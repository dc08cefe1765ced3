use Rattle.std.proofs.Common.{rules, ◌≡◌, map, string_bytes, subst, sym}
use Rattle.rc_model.specs.Handed.Proper.{IsProperTree}
use Rattle.law_image.proofs.ReadProper.{reads_scripts}
use Rattle.rc_scope.specs.States.{state_of}
use Rattle.rc_tree.specs.View.{cmd_tree}
use Rattle.test_tapes.proofs.runs.image_of.Goals as goal

pub returns : goal.returns
returns c =
    let read = c.in_ok-read_image.field-0 in
    let same : c.in_ok-new.field-0.value ≡ read = search rules in
    let proper = reads_scripts c.args.handed.now.is_strict (map string_bytes c.deref.result.now) (map string_bytes c.deref-2.result.now)
    (cmd_tree read.0, state_of read.1) c.in_ok-read_image.ensures in
    subst (λ image. IsProperTree (cmd_tree image.0)) (sym same) proper.0
