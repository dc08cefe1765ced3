use Rattle.std.proofs.Common.{refl, ap, arith, rules}
use Rattle.rc_lexer.specs.Machine.{pending_of}
use Rattle.rc_lexer.proofs.PlainOn.{body_goes_on, still_some}
use Rattle.rc_lexer.proofs.plain.line_end.Goals as goal

pub loop-place-preserved : goal.loop-place-preserved
loop-place-preserved c = record {
  read = body_goes_on c.args.text.now c.args.reading.now c.args.body c.args.line c.loop-place.place c.after_byte-place.result _ c.class_of.result (still_some pending_of c.args.reading.now.pending.items c.is_empty.result (search (rules, c.is_empty.ensures)) c.if-is_empty.false) c.loop-place-test.true refl c.class_of.ensures c.in_default.not-LineEnd
      c.after_byte-place.ensures c.loop-place.invariant.read;
  on = omega (arith, c.loop-place.invariant.on, ap (λ z. z.byte) c.after_byte-place.ensures);
}
