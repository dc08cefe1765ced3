use Rattle.std.proofs.Common.{refl, ap, arith, ◌∙◌}
use Rattle.std.proofs.lemmas.Result.{err_from_is_err_and}
use Rattle.rc_lexer.specs.Reads.{left_at}
use Rattle.rc_lexer.proofs.ReadsOn.{class_reads_on, class_err_on}
use Rattle.rc_lexer.proofs.pieces.read_last.Goals as goal

pub returns-in_err-step_lightly : goal.returns-in_err-step_lightly
returns-in_err-step_lightly c =
    let e = err_from_is_err_and c.from_residual.result c.from_residual.ensures.1 in
    class_err_on c.args.text.now c.args.reading.now c.step_lightly.new.self c.args.state.now c.args.place.now _ 0 c.class_of.result
    (left_at c.step_lightly.new.state c.args.place.now c.from_residual.result) c.in_err-step_lightly.field-0.0 e.0 (omega (arith, c.requires.last)) refl
    c.class_of.ensures c.requires.read (ap (left_at c.step_lightly.new.state c.args.place.now) e.1) e.2 c.in_err-step_lightly.ensures

pub returns : goal.returns
returns c = (
  class_reads_on c.args.text.now c.args.reading.now c.step_lightly.new.self c.args.state.now c.step_lightly.new.state c.args.place.now c.after_byte.result _ 0 c.class_of.result
      (omega (arith, c.requires.last)) refl c.class_of.ensures c.after_byte.ensures c.requires.read c.in_ok-step_lightly.ensures,
  ap (λ z. z.byte) c.after_byte.ensures ∙ c.requires.last,
)
