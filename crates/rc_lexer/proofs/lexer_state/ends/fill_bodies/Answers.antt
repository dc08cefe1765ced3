use Rattle.std.proofs.Common.{map, arith, sym, ap, ◌∙◌}
use Rattle.rc_model.specs.Syntax.Tokens as model
use Rattle.rc_lexer.specs.Views.{token_of, slice_at}
use Rattle.rc_lexer.proofs.Filled.{filled_nil, filled_step, is_none}
use Rattle.rc_lexer.proofs.lexer_state.ends.fill_bodies.Goals as goal

pub loop-token-preserved : goal.loop-token-preserved
loop-token-preserved c =
    λ script. filled_step (token_of script) c.loop-token.tokens c.loop-token.token-index _ c.with_body.result.0
    (map (slice_at script) c.loop-token.left.now) _ _
    (omega arith) (λ ts. c.with_body.ensures script ts) (c.loop-token.invariant script)

pub returns-then-is_empty : goal.returns-then-is_empty
returns-then-is_empty c = λ script.
    sym (ap (model.filled _) (ap (map (slice_at script)) (is_none c.args.bodies.now _ c.is_empty.ensures c.if-is_empty.true)) ∙ filled_nil _)
