use Rattle.std.proofs.Common.{refl}
use Rattle.rc_lexer.proofs.PlainOn.{word_ends_on}
use Rattle.rc_lexer.proofs.plain.read_word.Goals as goal

pub returns : goal.returns
returns c = (
  word_ends_on c.args.text.now c.args.reading.now c.push_word.new.self c.args.start c.in_ok-after.after c.word_end-is_ended.result.0 _ (c.word_end-is_ended.ensures.within c.if-not-is_ended.false) refl
      (c.word_end-is_ended.ensures.ends c.if-not-is_ended.false) c.in_ok-after.ensures c.word_end-is_ended.ensures.read,
  c.word_end-is_ended.ensures.on,
)
