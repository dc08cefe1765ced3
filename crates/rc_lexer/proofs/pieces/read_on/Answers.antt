use Rattle.std.proofs.Common.{refl, subst}
use Rattle.rc_lexer.specs.Reads.{HasRead}
use Rattle.std.proofs.lemmas.Result.{err_from_is_err_and}
use Rattle.rc_lexer.proofs.ReadsOn.{class_reads_on, class_err_on}
use Rattle.rc_lexer.proofs.pieces.read_on.Goals as goal

pub returns-in_err-state : goal.returns-in_err-state
returns-in_err-state c =
    let e = err_from_is_err_and c.from_residual.result c.from_residual.ensures.1 in
    class_err_on c.args.text.now c.loop-place.reading c.step.new.self c.loop-place.state c.loop-place.place _ 0 c.class_of.result c.from_residual.result c.in_err-state.field-0.0 e.0 c.loop-place-test.true refl
    c.class_of.ensures c.loop-place.invariant e.1 e.2 c.in_err-state.ensures

pub read_plain-requires-clause-read : goal.read_plain-requires-clause-read
read_plain-requires-clause-read c =
    subst (λ s. HasRead c.args.text.now c.step.new.self s c.after_byte-place.result) c.in-Between.is
    (class_reads_on c.args.text.now c.loop-place.reading c.step.new.self c.loop-place.state c.in_ok-state.state c.loop-place.place c.after_byte-place.result _ 0 c.class_of.result c.loop-place-test.true refl
    c.class_of.ensures c.after_byte-place.ensures c.loop-place.invariant c.in_ok-state.ensures)

pub line_end-place-requires-clause-read : goal.line_end-place-requires-clause-read
line_end-place-requires-clause-read c =
    subst (λ s. HasRead c.args.text.now c.step.new.self s c.after_byte-place.result) c.in-Body.is
    (class_reads_on c.args.text.now c.loop-place.reading c.step.new.self c.loop-place.state c.in_ok-state.state c.loop-place.place c.after_byte-place.result _ 0 c.class_of.result c.loop-place-test.true refl
    c.class_of.ensures c.after_byte-place.ensures c.loop-place.invariant c.in_ok-state.ensures)

pub loop-place-preserved : goal.loop-place-preserved
loop-place-preserved c =
    class_reads_on c.args.text.now c.loop-place.reading c.step.new.self c.loop-place.state c.in_ok-state.state c.loop-place.place c.after_byte-place.result _ 0 c.class_of.result c.loop-place-test.true refl
    c.class_of.ensures c.after_byte-place.ensures c.loop-place.invariant c.in_ok-state.ensures
