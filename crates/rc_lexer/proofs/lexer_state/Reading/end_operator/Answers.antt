use Rattle.std.proofs.Common.{refl, ap, ◌∙◌}
use Rattle.std.specs.Prelude.{Some}
use Rattle.rc_lexer.specs.Spans as spans
use Rattle.rc_lexer.proofs.Does.{dollar_does, sigils_do, plain_does}
use Rattle.rc_lexer.proofs.lexer_state.Reading.end_operator.Goals as goal
use Rattle.std.proofs.Common.{◌++◌, ◌∷◌, []}

pub returns-in_ok-push-in-Dollar : goal.returns-in_ok-push-in-Dollar
returns-in_ok-push-in-Dollar c =
    dollar_does c.args.start c.args.kind c.args.place c.args.b c.args.class c.args.self.now c.push_caret.new.self (record c.push_caret.new.self { dollars = c.push.new.self })
    c.continue_dollars.new.self _ (c.in-Some.is ∙ ap (λ z. Some z) c.in-Dollar.is) c.in_ok-push_caret-in-Dollar.ensures refl refl refl
    (c.in_ok-push-in-Dollar.ensures.items ∙ ap (λ z. c.push_caret.new.self.dollars.items ++ z ∷ []) (c.in_ok-token_between-in-Dollar.ensures
    ∙ ap (λ z. spans.token z c.args.start.place c.args.place) c.in-Dollar.is)) c.continue_dollars.ensures

pub returns-in_ok-push-in-DollarCount : goal.returns-in_ok-push-in-DollarCount
returns-in_ok-push-in-DollarCount c =
    sigils_do c.args.start c.args.kind c.in-Some.kind c.args.place c.args.b c.args.class c.args.self.now c.push_caret-in-DollarCount.new.self c.push_bare_dollars.new.self
    (record c.push_bare_dollars.new.self { dollars = c.push-in-DollarCount.new.self })
    c.continue_dollars-in-DollarCount.new.self _ c.in-Some.is c.in-DollarCount.is c.in_ok-push_caret-in-DollarCount.ensures c.in_ok-push_bare_dollars-in-DollarCount.ensures refl refl refl
    (c.in_ok-push-in-DollarCount.ensures.items ∙ ap (λ z. c.push_bare_dollars.new.self.dollars.items ++ z ∷ []) c.in_ok-token_between-in-DollarCount.ensures)
    c.continue_dollars-in-DollarCount.ensures

pub returns-in_ok-push_token-in_default-kind : goal.returns-in_ok-push_token-in_default-kind
returns-in_ok-push_token-in_default-kind c =
    plain_does c.args.start c.args.kind c.in-Some.kind _ _ c.args.place c.args.b c.args.class c.args.self.now c.push_token.new.self c.begin_token-in_default-kind.new.self _ c.in-Some.is
    c.in_default-kind.not-BareHere c.in_default-kind.not-Dollar c.in_default-kind.not-DollarCount c.in_default-kind.not-DollarFlat
    c.meaning_after-meaning.ensures c.after_token.ensures c.in_ok-push_token-in_default-kind.ensures c.begin_token-in_default-kind.ensures
