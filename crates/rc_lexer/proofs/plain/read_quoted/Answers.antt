use Rattle.std.proofs.Common.{refl}
use Rattle.rc_lexer.proofs.PlainOn.{quoted_ends_on}
use Rattle.rc_lexer.proofs.plain.read_quoted.Goals as goal

pub returns-then-end-text : goal.returns-then-end-text
returns-then-end-text c = (
  quoted_ends_on c.args.text.now c.args.reading.now c.push_word.new.self c.args.start c.in_ok-after.after c.quoted_end-is_closed.result.0 c.quoted_end-is_closed.result.1 _ c.if-end-text.true refl
      (c.quoted_end-is_closed.ensures.ends c.if-end-text.true) c.in_ok-after.ensures c.quoted_end-is_closed.ensures.read,
  c.quoted_end-is_closed.ensures.on,
)
