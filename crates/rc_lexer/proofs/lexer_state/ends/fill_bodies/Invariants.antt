use Rattle.std.proofs.Common.{◌≡◌, ℕ, List, ◌++◌, take, drop, map}
use Rattle.rc_model.specs.Syntax.Tokens as model
use Rattle.rc_lexer.specs.Views.{slice_at, tokens_of}
use Rattle.rc_lexer.proofs.lexer_state.ends.fill_bodies.Given as goal

abbrev pub invariant-loop-token : goal.invariant-loop-token
invariant-loop-token l =
    (script : List ℕ) → tokens_of script (take l.token-index l.tokens)
    ++ model.filled (tokens_of script (drop l.token-index l.tokens)) (map (slice_at script) l.left)
    ≡ model.filled (tokens_of script l.fn.tokens) (map (slice_at script) l.bodies)
