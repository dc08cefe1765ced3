use Rattle.std.proofs.Common.{refl, ap, arith}
use Rattle.rc_lexer.proofs.PlainOn.{comment_ends_on, comment_goes_on}
use Rattle.rc_lexer.proofs.plain.read_comment.Goals as goal

pub returns-in-LineEnd-clause-read : goal.returns-in-LineEnd-clause-read
returns-in-LineEnd-clause-read c =
    comment_ends_on c.args.text.now c.args.reading.now c.loop-place.place _ c.class_of.result c.loop-place-test.true refl c.class_of.ensures c.in-LineEnd.is c.loop-place.invariant.read

pub loop-place-preserved : goal.loop-place-preserved
loop-place-preserved c = record {
  read = comment_goes_on c.args.text.now c.args.reading.now c.loop-place.place c.after_byte-place.result _ c.class_of.result c.loop-place-test.true refl c.class_of.ensures c.in_default.not-LineEnd
      c.after_byte-place.ensures c.loop-place.invariant.read;
  on = omega (arith, c.loop-place.invariant.on, ap (λ z. z.byte) c.after_byte-place.ensures);
}
