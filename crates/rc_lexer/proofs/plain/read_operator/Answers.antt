use Rattle.std.proofs.Common.{refl, sym, ap, ◌∙◌, ◌++◌, ◌∷◌, [], arith}
use Rattle.std.specs.Prelude.{Some}
use Rattle.rc_lexer.proofs.PlainOn.{dollar_ends_on, whole_ends_on}
use Rattle.rc_lexer.proofs.plain.read_operator.Goals as goal

pub returns-in_ok-push_token-in-Dollar : goal.returns-in_ok-push_token-in-Dollar
returns-in_ok-push_token-in-Dollar c = (
  dollar_ends_on c.args.text.now c.args.reading.now c.push_token.new.self c.args.start c.operator_end-op.result.0 c.operator_end-op.result.1 _ c.begins_dollar_name.result (omega (arith, c.if-end-text.false)) refl
      (c.operator_end-op.ensures.ends (omega (arith, c.if-end-text.false))) (sym c.kind.ensures ∙ c.in-Some.is ∙ ap (λ z. Some z) c.in-Dollar.is)
      c.begins_dollar_name.ensures c.if-begins_dollar_name.true c.requires.dollars c.in_ok-push_token-in-Dollar.ensures c.operator_end-op.ensures.read,
  c.operator_end-op.ensures.on,
)

pub returns-in_ok-push-in_default-kind : goal.returns-in_ok-push-in_default-kind
returns-in_ok-push-in_default-kind c = (
  whole_ends_on c.args.text.now c.args.reading.now (record c.args.reading.now { tokens = c.push.new.self }) c.args.start c.operator_end-op.result.0 c.in-Some.kind c.operator_end-op.result.1 _
      (omega (arith, c.if-end-text.false)) refl
      (c.operator_end-op.ensures.ends (omega (arith, c.if-end-text.false))) (sym c.kind.ensures ∙ c.in-Some.is) (c.is_whole.ensures c.if-is_whole.true)
      (c.in_ok-push-in_default-kind.ensures.items ∙ ap (λ z. c.args.reading.now.tokens.items ++ z ∷ []) c.in_ok-token_between-in_default-kind.ensures) refl refl c.operator_end-op.ensures.read,
  c.operator_end-op.ensures.on,
)
