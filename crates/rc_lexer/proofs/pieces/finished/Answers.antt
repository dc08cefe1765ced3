use Rattle.std.proofs.Common.{refl, Global}
use Rattle.rc_lexer.proofs.Finished.{zero_finish, fault_finish, comes_finish}
use Rattle.rc_lexer.proofs.pieces.finished.Goals as goal

pub returns-in-Some : goal.returns-in-Some
returns-in-Some c =
    zero_finish Global c.args.text.now c.args.text.now c.args.text.now c.in-Some.line c.fault.result refl refl c.in-Some.ensures c.fault.ensures

pub returns-in-Some-found : goal.returns-in-Some-found
returns-in-Some-found c =
    fault_finish c.args.text.now c.args.text.now c.args.text.now c.args.reading c.args.state c.args.place c.in-Some-found.found c.args.found
    refl refl c.in_default.ensures c.requires.read c.in-Some-found.is

pub returns : goal.returns
returns c =
    comes_finish {Z = Global} c.args.text.now c.args.text.now c.args.text.now c.args.text.now c.finish_reading.result refl refl refl c.in_default.ensures c.finish_reading.ensures
