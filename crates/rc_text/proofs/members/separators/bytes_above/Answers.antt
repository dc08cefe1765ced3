use Rattle.std.proofs.Common.{◌<◌, slice_index, arith}
use Rattle.std.proofs.lemmas.List.Elements.{All-more}
use Rattle.rc_text.proofs.members.separators.bytes_above.Goals as goal

pub loop-place-preserved : goal.loop-place-preserved
loop-place-preserved c =
    let above : c.args.limit < slice_index c.args.bytes.now c.loop-place.place = omega (arith, c.if-bytes-place.false) in
    All-more (λ b. c.args.limit < b) _ _ _ c.loop-place-test.true c.loop-place.invariant above
