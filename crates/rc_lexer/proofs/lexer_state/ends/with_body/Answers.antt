use Rattle.rc_lexer.specs.Views.{token_of, slice_at}
use Rattle.rc_lexer.proofs.Filled.{no_here, no_bodies, other_kind, none_left}
use Rattle.rc_lexer.proofs.lexer_state.ends.with_body.Goals as goal

pub returns-in_default : goal.returns-in_default
returns-in_default c = λ script ts. no_here (token_of script c.args.token) ts _
    (other_kind c.args.token.kind c.in_default.not-HereDoc script (slice_at script c.args.token.span))

pub returns-in_default-split_first : goal.returns-in_default-split_first
returns-in_default-split_first c = λ script ts. no_bodies (token_of script c.args.token) ts _
    (none_left (slice_at script) c.args.bodies.now c.in_default-split_first.ensures.cases)
