use Rattle.rc_lexer.proofs.Does.{word_does}
use Rattle.rc_lexer.proofs.lexer_state.Reading.end_word.Goals as goal

pub returns : goal.returns
returns c = word_does c.args.script.now c.args.quoted c.args.start _ c.args.place c.args.b c.args.class c.args.self.now c.push_word.new.self c.begin_token.new.self _ c.in_ok-after.ensures c.begin_token.ensures
