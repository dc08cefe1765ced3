use Rattle.std.proofs.Common.{refl, ap, sym, ◌∙◌, arith}
use Rattle.rc_lexer.proofs.PlainOn.{operator_goes_on}
use Rattle.rc_lexer.proofs.plain.operator_end.Goals as goal

pub loop-place-preserved : goal.loop-place-preserved
loop-place-preserved c = record {
  read = operator_goes_on c.args.text.now c.args.reading.now c.args.start c.loop-place.op c.in-Some.next c.loop-place.place c.after_byte-place.result _ c.loop-place-test.true refl
      (sym c.next.ensures ∙ c.in-Some.is) c.after_byte-place.ensures c.loop-place.invariant.read;
  on = omega (arith, c.loop-place.invariant.on, ap (λ z. z.byte) c.after_byte-place.ensures);
}
