use Rattle.std.proofs.Common.{subst}
use Rattle.rc_lexer.specs.Views.{tokens_of}
use Rattle.rc_model.specs.Mirrors.Descent.{script_tree}
use Rattle.rc_model.specs.Syntax.Accepted.{lexemes}
use Rattle.rc_parser.specs.Results.{Fails}
use Rattle.rc_parser.proofs.ReadItems.{refused_by}
use Rattle.rc_parser.proofs.items.Items.refusal.Goals as goal

pub returns-in-Fault : goal.returns-in-Fault
returns-in-Fault c = λ has fails.
    let script = c.args.self.now.source.now.script.now in
    let tokens = tokens_of script c.args.self.now.source.now.tokens.now in
    refused_by script tokens c.in-Fault.found c.syntax_fault.result has (subst (λ e. Fails e (script_tree 200 (lexemes tokens))) c.in-Fault.is fails) c.syntax_fault.ensures
