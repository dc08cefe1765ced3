use Rattle.std.proofs.Common.{refl, ap, ◌∙◌, ◌++◌, ◌∷◌, [], arith}
use Rattle.rc_lexer.proofs.PlainOn.{name_ends_on}
use Rattle.rc_lexer.proofs.plain.read_name.Goals as goal

pub returns : goal.returns
returns c = (
  name_ends_on c.args.text.now c.args.reading.now (record c.args.reading.now { tokens = c.push.new.self }) c.args.start c.name_end-end.result _ (omega (arith, c.if-end-text.false)) refl
      (c.name_end-end.ensures.ends (omega (arith, c.if-end-text.false)))
      (c.in_ok-push.ensures.items ∙ ap (λ z. c.args.reading.now.tokens.items ++ z ∷ []) c.in_ok-token_between.ensures) refl refl c.name_end-end.ensures.read,
  c.name_end-end.ensures.on,
)
