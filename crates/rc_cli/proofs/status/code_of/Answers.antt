use Rattle.std.proofs.Common.{refl}
use Rattle.std.proofs.lemmas.Bool.{false≢true}
use Rattle.rc_cli.proofs.Decimals.{decimal_first, decimal_of_read, no_decimal_of_read}
use Rattle.rc_cli.proofs.status.code_of.Goals as goal

pub returns-then-has_leading_digit-clause-found : goal.returns-then-has_leading_digit-clause-found
returns-then-has_leading_digit-clause-found c =
    rw c.ok.ensures.value (decimal_of_read c.args.status.now c.parse.result c.parse.ensures.value.0 (c.if-has_leading_digit.ensures.0 refl))

pub returns-then-has_leading_digit-clause-none : goal.returns-then-has_leading_digit-clause-none
returns-then-has_leading_digit-clause-none c =
    rw c.ok.ensures.value (no_decimal_of_read c.args.status.now c.parse.result c.parse.ensures.value.0)

pub returns-else-has_leading_digit-clause-none : goal.returns-else-has_leading_digit-clause-none
returns-else-has_leading_digit-clause-none c n above below same =
    false≢true (c.if-has_leading_digit.ensures.1 (decimal_first c.args.status.now n above below same))
