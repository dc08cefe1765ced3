use Rattle.std.proofs.Common.{ap, sym, length, arith, ◌∙◌}
use Rattle.rc_glob.proofs.Widths.{no_more, width_end, width_next, width_none}
use Rattle.rc_glob.proofs.stars.width.Goals as goal

pub parts-init : goal.parts-init
parts-init c = record { same = no_more _; within = omega arith }

pub returns-then-is_marked : goal.returns-then-is_marked
returns-then-is_marked c =
    width_none c.args.word.now c.parts.rest.now c.in-Some.others.now c.in-Some.first.now c.parts.count c.is_marked.result
    c.in-Some.ensures.cases.0 c.is_marked.ensures c.if-is_marked.true c.parts.invariant.same

pub after_part-rest-requires : goal.after_part-rest-requires
after_part-rest-requires c = sym c.is_marked.ensures ∙ c.if-is_marked.false

pub overflow_add-count : goal.overflow_add-count
overflow_add-count c = omega (arith, ap length c.in-Some.ensures.cases.0, c.parts.invariant.within)

pub parts-smaller : goal.parts-smaller
parts-smaller c = omega (arith, ap length c.in-Some.ensures.cases.0, c.after_part-rest.ensures.shorter)

pub parts-preserved : goal.parts-preserved
parts-preserved c = record {
  same =
      width_next c.args.word.now c.parts.rest.now c.in-Some.others.now c.after_part-rest.result.now c.in-Some.first.now c.parts.count
      c.in-Some.ensures.cases.0 c.after_part-rest.ensures.width c.parts.invariant.same;
  within = omega (arith, ap length c.in-Some.ensures.cases.0, c.after_part-rest.ensures.shorter, c.parts.invariant.within);
}

pub returns : goal.returns
returns c = width_end c.args.word.now c.parts.rest.now c.parts.count c.in_default.ensures.cases c.parts.invariant.same
