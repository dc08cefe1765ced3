use Rattle.std.proofs.Common.{Global, subst}
use Rattle.std.specs.Str.{IsUtf8}
use Rattle.rc_lexer.specs.Answers.{IsLexed}
use Rattle.rc_parser.proofs.Parsing.{handed_on, is_cut, is_not_cut}
use Rattle.rc_parser.proofs.lexed_script.LexedScript.new.Goals as goal

pub returns-in_err-tokens-clause-refused : goal.returns-in_err-tokens-clause-refused
returns-in_err-tokens-clause-refused c =
    let text = c.args.text.items in
    let utf8 = subst IsUtf8 c.in_ok-checked.ensures.text c.in_ok-checked.ensures.utf8 in
    handed_on text _ c.in_err-tokens.field-0.0 c.from_residual-in_err-tokens.ensures.1
    (is_not_cut Global text c.in_err-tokens.field-0.0 c.requires.short (subst IsUtf8 c.deref.ensures.value utf8) (subst (IsLexed text) c.in_err-tokens.was (c.requires.tokens (subst IsUtf8 c.deref.ensures.value utf8))))

pub invariant_of-result : goal.invariant_of-result
invariant_of-result c =
    let text = c.args.text.items in
    let utf8 = subst IsUtf8 c.deref.ensures.value (subst IsUtf8 c.in_ok-checked.ensures.text c.in_ok-checked.ensures.utf8) in
    is_cut text c.in_ok-tokens.tokens c.requires.short utf8 (subst (IsLexed text) c.in_ok-tokens.was (c.requires.tokens utf8))
