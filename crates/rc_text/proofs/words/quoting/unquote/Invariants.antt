use Rattle.std.proofs.Common.{◌≡◌, ◌++◌, false, drop}
use Rattle.rc_model.specs.Syntax.Tokens.{without_quotes}
use Rattle.rc_text.proofs.words.quoting.unquote.Given as goal

abbrev pub invariant-loop-b : goal.invariant-loop-b
invariant-loop-b l = l.said.items ++ without_quotes l.after_quote (drop l.b-index l.rest) ≡ without_quotes false l.rest
