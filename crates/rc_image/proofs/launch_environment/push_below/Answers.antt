use Rattle.std.proofs.Common.{arith, refl, sym, ap, drop, length}
use Rattle.std.proofs.lemmas.List.{drop_all}
use Rattle.rc_image.specs.Additions.{handed}
use Rattle.rc_image.proofs.Handing.{ends_all, ends_at, ends_before, keeps_on, left_off, left_on}
use Rattle.rc_image.proofs.launch_environment.push_below.Goals as goal

pub loop-place-init : goal.loop-place-init
loop-place-init c = λ text others after. refl

pub loop-place-preserved-then-not-is_handed : goal.loop-place-preserved-then-not-is_handed
loop-place-preserved-then-not-is_handed c =
    let same = left_off c.args.variables.now c.loop-place.place c.index-variables-place.result c.loop-place-test.true c.index-variables-place.is (sym c.if-not-is_handed.ensures) in
    rw same at c.loop-place.invariant

pub returns-in-Less : goal.returns-in-Less
returns-in-Less c =
    let next = left_on c.args.variables.now c.loop-place.place c.index-variables-place.result c.loop-place-test.true c.index-variables-place.is (sym c.if-not-is_handed.ensures) in
    ends_before _ _ _ _ _ _ _ (sym c.in-Less.ensures) next c.loop-place.invariant

pub returns-in-Equal : goal.returns-in-Equal
returns-in-Equal c =
    let next = left_on c.args.variables.now c.loop-place.place c.index-variables-place.result c.loop-place-test.true c.index-variables-place.is (sym c.if-not-is_handed.ensures) in
    ends_at _ _ _ _ _ _ _ (sym c.in-Equal.ensures) next c.loop-place.invariant

pub loop-place-preserved : goal.loop-place-preserved
loop-place-preserved c =
    let v = c.index-variables-place.result in
    let next = left_on c.args.variables.now c.loop-place.place v c.loop-place-test.true c.index-variables-place.is (sym c.if-not-is_handed.ensures) in
    rw c.in_ok-push_entry-in-Greater.ensures (keeps_on _ _ _ _ _ _ _ _ (sym c.in-Greater.ensures) refl next c.loop-place.invariant)

pub returns : goal.returns
returns c =
    let vs = c.args.variables.now in
    ends_all _ _ _ (handed (drop (length vs) vs)) _ _ (ap handed (drop_all c.loop-place.place vs c.loop-place-test.false)) (ap handed (drop_all (length vs) vs (omega arith))) c.loop-place.invariant
