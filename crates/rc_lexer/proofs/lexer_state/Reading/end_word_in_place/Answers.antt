use Rattle.std.specs.Prelude.{Ok, false}
use Rattle.rc_lexer.proofs.Does.{word_does}
use Rattle.rc_lexer.proofs.lexer_state.Reading.end_word_in_place.Goals as goal

pub returns : goal.returns
returns c =
    word_does c.args.script.now false c.args.start _ c.args.place c.args.b c.args.class c.args.self.now c.push_word.new.self c.begin_in_place.new.self
    (Ok c.begin_in_place.new.state) c.in_ok-after.ensures c.in_ok-begin_in_place.ensures
