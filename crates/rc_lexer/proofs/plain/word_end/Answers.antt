use Rattle.std.proofs.Common.{refl, ap, arith}
use Rattle.rc_lexer.proofs.PlainOn.{ends_by, word_goes_on}
use Rattle.rc_lexer.proofs.plain.word_end.Goals as goal

pub loop-place-preserved : goal.loop-place-preserved
loop-place-preserved c = record {
  read = word_goes_on c.args.text.now c.args.reading.now c.args.start c.loop-place.place c.after_byte-place.result _ c.class_of.result c.loop-place-test.true refl c.class_of.ensures c.in-Ordinary.is
      c.after_byte-place.ensures c.loop-place.invariant.read;
  on = omega (arith, c.loop-place.invariant.on, ap (λ z. z.byte) c.after_byte-place.ensures);
}

pub returns-in_default-clause-ends : goal.returns-in_default-clause-ends
returns-in_default-clause-ends c h = ends_by c.class_of.result _ c.class_of.ensures c.in_default.not-Ordinary c.in_default.not-Backslash
