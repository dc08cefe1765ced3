use Rattle.std.proofs.Common.{sym, ◌∙◌}
use Rattle.rc_lexer.proofs.Does.{named_does}
use Rattle.rc_lexer.proofs.lexer_state.Reading.continue_dollars.Goals as goal

pub returns-then-begins_dollar_name : goal.returns-then-begins_dollar_name
returns-then-begins_dollar_name c =
    named_does c.args.place c.args.b c.args.class c.args.self.now c.push_named_dollars.new.self c.begin_token.new.self _
    (sym c.begins_dollar_name.ensures ∙ c.if-begins_dollar_name.true) c.in_ok-push_named_dollars.ensures c.begin_token.ensures
