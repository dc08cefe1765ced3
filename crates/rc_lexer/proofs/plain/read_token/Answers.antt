use Rattle.std.proofs.Common.{refl, ap, arith}
use Rattle.rc_lexer.proofs.PlainOn.{blank_on, alone_on, line_end_on, backslash_begins_on, comment_begins_on, name_begins_on, quoted_begins_on, word_begins_on, operator_begins_on}
use Rattle.rc_lexer.proofs.plain.read_token.Goals as goal

pub read_operator-requires-clause-read : goal.read_operator-requires-clause-read
read_operator-requires-clause-read c =
    operator_begins_on c.args.text.now c.args.reading.now c.begin_operator.new.self c.args.previous c.in_ok-start-in-Begins.start c.first_op.result c.args.place c.after_byte-next.result _ c.class_of.result
    c.requires.within refl c.class_of.ensures c.in-Begins.is c.after_byte-next.ensures c.in_ok-start-in-Begins.ensures.value c.first_op.ensures
    c.in_ok-start-in-Begins.ensures.tokens c.in_ok-start-in-Begins.ensures.bodies c.in_ok-start-in-Begins.ensures.pending c.in_ok-start-in-Begins.ensures.dollars c.requires.read

pub read_name-requires-clause-read : goal.read_name-requires-clause-read
read_name-requires-clause-read c =
    name_begins_on c.args.text.now c.args.reading.now c.args.previous c.args.place c.after_byte-next.result _ c.class_of.result c.begins_name.result c.requires.within refl c.class_of.ensures c.in-Ordinary.is
    c.begins_name.ensures c.if-begins_name.true c.after_byte-next.ensures c.requires.read

pub read_word-requires-clause-read : goal.read_word-requires-clause-read
read_word-requires-clause-read c =
    word_begins_on c.args.text.now c.args.reading.now c.args.previous c.args.place c.after_byte-next.result _ c.class_of.result c.begins_name.result c.requires.within refl c.class_of.ensures c.in-Ordinary.is
    c.begins_name.ensures c.if-begins_name.false c.after_byte-next.ensures c.requires.read

pub returns-in-Blank : goal.returns-in-Blank
returns-in-Blank c = (
  blank_on c.args.text.now c.args.reading.now c.args.previous c.after_blank.result c.args.place c.after_byte-next.result _ c.class_of.result c.requires.within refl c.class_of.ensures c.in-Blank.is
      c.after_blank.ensures c.after_byte-next.ensures c.requires.read,
  omega (arith, ap (λ z. z.byte) c.after_byte-next.ensures),
)

pub returns-in_ok-after-in-Alone : goal.returns-in_ok-after-in-Alone
returns-in_ok-after-in-Alone c = (
  alone_on c.args.text.now c.args.reading.now c.push_one.new.self c.args.previous c.in_ok-after-in-Alone.after c.args.place c.after_byte-next.result _ c.class_of.result c.requires.within refl c.class_of.ensures c.in-Alone.is
      c.after_byte-next.ensures c.requires.read c.in_ok-after-in-Alone.ensures,
  omega (arith, ap (λ z. z.byte) c.after_byte-next.ensures),
)

pub returns-in_ok-state-in-LineEnd : goal.returns-in_ok-state-in-LineEnd
returns-in_ok-state-in-LineEnd c = (
  line_end_on c.args.text.now c.args.reading.now c.push_newline.new.self c.args.previous c.in_ok-state-in-LineEnd.state c.args.place c.after_byte-next.result _ c.class_of.result c.requires.within refl c.class_of.ensures c.in-LineEnd.is
      c.after_byte-next.ensures c.requires.read c.in_ok-state-in-LineEnd.ensures,
  omega (arith, ap (λ z. z.byte) c.after_byte-next.ensures),
)

pub read_quoted-requires-clause-read : goal.read_quoted-requires-clause-read
read_quoted-requires-clause-read c =
    quoted_begins_on c.args.text.now c.args.reading.now c.args.previous c.args.place c.after_byte-next.result _ c.class_of.result c.requires.within refl c.class_of.ensures c.in-Quote.is
    c.after_byte-next.ensures c.requires.read

pub read_comment-requires-clause-read : goal.read_comment-requires-clause-read
read_comment-requires-clause-read c =
    comment_begins_on c.args.text.now c.args.reading.now c.push_bare_here.new.self c.args.previous c.args.place c.after_byte-next.result _ c.class_of.result c.requires.within refl c.class_of.ensures c.in-Hash.is
    c.after_byte-next.ensures c.in_ok-push_bare_here-in-Hash.ensures c.requires.read

pub returns-in-Backslash : goal.returns-in-Backslash
returns-in-Backslash c = (
  backslash_begins_on c.args.text.now c.args.reading.now c.args.previous c.args.place c.after_byte-next.result _ c.class_of.result c.requires.within refl c.class_of.ensures c.in-Backslash.is
      c.after_byte-next.ensures c.requires.read,
  omega (arith, ap (λ z. z.byte) c.after_byte-next.ensures),
)
