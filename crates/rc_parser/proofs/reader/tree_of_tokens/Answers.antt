use Rattle.std.proofs.Common.{Err, ◌∙◌, ap}
use Rattle.rc_parser.proofs.Parsing.{is_found, is_not_found}
use Rattle.law_syntax.proofs.Decided.{are_spelled}
use Rattle.rc_parser.proofs.reader.tree_of_tokens.Goals as goal

pub new-requires : goal.new-requires
new-requires c = are_spelled c.requires

pub returns-in-Ok : goal.returns-in-Ok
returns-in-Ok c = is_found _ _ _ _ c.requires c.new.ensures c.in-Ok.ensures.found c.in-Ok.ensures.only

pub returns-in-Err-Fault : goal.returns-in-Err-Fault
returns-in-Err-Fault c =
    is_not_found _ _ _ _ _ _ c.requires c.new.ensures (c.in-Err-Fault.is ∙ ap (λ r. Err r) c.in-Err-Fault.field-0-is)
    c.script.ensures.descent c.syntax_fault.ensures
