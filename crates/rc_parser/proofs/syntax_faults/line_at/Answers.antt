use Rattle.rc_parser.proofs.Lines.{line_of_token_left}
use Rattle.rc_parser.proofs.syntax_faults.line_at.Goals as goal

pub returns-in-Some : goal.returns-in-Some
returns-in-Some c = let at = c.in-Some.ensures.lookup.3 in line_of_token_left _ _ _ _ _ c.saturating_sub.ensures at.0 at.1
