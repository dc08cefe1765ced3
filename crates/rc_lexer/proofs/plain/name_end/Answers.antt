use Rattle.std.proofs.Common.{refl, ap, arith}
use Rattle.rc_lexer.proofs.PlainOn.{name_goes_on}
use Rattle.rc_lexer.proofs.plain.name_end.Goals as goal

pub loop-place-preserved : goal.loop-place-preserved
loop-place-preserved c = record {
  read = name_goes_on c.args.text.now c.args.reading.now c.args.start c.loop-place.place c.after_byte-place.result _ c.is_name_byte.result c.loop-place-test.true refl c.is_name_byte.ensures
      c.if-not-is_name_byte.false c.after_byte-place.ensures c.loop-place.invariant.read;
  on = omega (arith, c.loop-place.invariant.on, ap (λ z. z.byte) c.after_byte-place.ensures);
}
