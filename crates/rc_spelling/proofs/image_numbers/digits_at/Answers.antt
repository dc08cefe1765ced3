use Rattle.std.proofs.Common.{sym, ◌∙◌}
use Rattle.rc_spelling.proofs.Digits.{count_same}
use Rattle.rc_spelling.proofs.image_numbers.digits_at.Goals as goal

pub returns : goal.returns
returns c =
    count_same c.args.mark c.in-Some-split_first.byte.now c.in-Some.number c.args.bytes.now c.in-Some.rest.now c.in-Some-split_first.rest.now
    (sym c.begins_number.ensures ∙ c.if-not-begins_number.false) c.in-Some.ensures.0 c.in-Some.ensures.2 c.in-Some.ensures.1
    c.in-Some-split_first.ensures.cases.0 c.if-byte-mark.false
