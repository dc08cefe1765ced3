use Rattle.std.proofs.Common.{refl, ap, arith}
use Rattle.rc_lexer.proofs.PlainOn.{quote_on, quoted_goes_on}
use Rattle.rc_lexer.proofs.plain.quoted_end.Goals as goal
use Rattle.rc_lexer.proofs.plain.quoted_end.Goals.{in-Quote, in_default+else-is_closed}

pub loop-place-preserved : goal.loop-place-preserved
loop-place-preserved c = record {
  read = elim c.match-class_of.branch [
    | in-Quote w ↦ quote_on c.args.text.now c.args.reading.now c.args.start c.loop-place.is_closed c.match-class_of.is_closed c.loop-place.place c.after_byte-place.result _ c.class_of.result
        c.loop-place-test.true refl c.class_of.ensures w.in-Quote.is w.is_closed-is c.after_byte-place.ensures c.loop-place.invariant.read
    | in_default+else-is_closed w ↦ quoted_goes_on c.args.text.now c.args.reading.now c.args.start c.loop-place.is_closed c.match-class_of.is_closed c.loop-place.place c.after_byte-place.result _ c.class_of.result
        c.loop-place-test.true refl c.class_of.ensures w.in_default.not-Quote w.if-is_closed.false w.is_closed-is c.after_byte-place.ensures c.loop-place.invariant.read
  ];
  on = omega (arith, c.loop-place.invariant.on, ap (λ z. z.byte) c.after_byte-place.ensures);
}
