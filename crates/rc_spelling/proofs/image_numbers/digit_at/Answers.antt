use Rattle.std.proofs.Common.{rules}
use Rattle.rc_spelling.proofs.Plain.{digit_found}
use Rattle.rc_spelling.proofs.image_numbers.digit_at.Goals as goal

pub returns-then-not-is_ascii_digit : goal.returns-then-not-is_ascii_digit
returns-then-not-is_ascii_digit c =
    digit_found c.args.mark c.in_ok-digit.digit.now c.in_ok-byte.byte.now c.args.bytes.now c.in_ok-digit.after.now c.in_ok-byte.rest.now
    (search rules) (search rules) (cc) (cc) (cc)
