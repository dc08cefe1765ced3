use Rattle.std.proofs.Common.{Global}
use Rattle.std.proofs.lemmas.Result.{err_from_is_err_and}
use Rattle.rc_lexer.proofs.Finished.{finished, finish_fails, read_fails}
use Rattle.rc_lexer.proofs.pieces.finish_reading.Goals as goal

pub returns-in_err-state : goal.returns-in_err-state
returns-in_err-state c =
    let e = err_from_is_err_and c.from_residual.result c.from_residual.ensures.1 in
    read_fails {Z = Global} c.args.text.now c.from_residual.result c.in_err-state.field-0.0 e.0 c.read_on.new.reading e.1 e.2 c.in_err-state.ensures

pub returns-in_err-finish : goal.returns-in_err-finish
returns-in_err-finish c =
    let e = err_from_is_err_and c.from_residual-in_err-finish.result c.from_residual-in_err-finish.ensures.1 in
    finish_fails {Z = Global} c.args.text.now c.read_on.new.reading c.finish.new.self c.in_ok-state.state c.in_ok-state.place c.from_residual-in_err-finish.result c.in_err-finish.field-0.0 e.0
    c.in_ok-state.ensures.0 c.in_ok-state.ensures.1 e.1 e.2 c.in_err-finish.ensures

pub returns : goal.returns
returns c =
    finished {Z = Global} c.args.text.now c.read_on.new.reading c.finish.new.self c.in_ok-state.state c.in_ok-state.place c.into_tokens.result
    c.in_ok-state.ensures.0 c.in_ok-state.ensures.1 c.in_ok-finish.ensures c.into_tokens.ensures
