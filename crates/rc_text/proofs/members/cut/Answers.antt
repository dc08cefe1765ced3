use Rattle.std.proofs.Common.{rules, sym, subst, ◌∙◌}
use borrow.Author.Tests.{tests}
use Rattle.std.proofs.lemmas.Fn.{always_returns_same}
use Rattle.std.specs.Prelude.{MatchOption}
use Rattle.std.specs.Str.{NoCharPasses}
use Rattle.rc_text.specs.Members.{among, IsCut}
use Rattle.rc_text.proofs.Cuts.{cut_boundary, cut_front, is_cut, none_after}
use Rattle.rc_text.proofs.members.cut.Goals as goal

pub returns-in_err-front : goal.returns-in_err-front
returns-in_err-front c =
    let none = c.in_err-front.ensures.cases (among c.args.separators.now) (always_returns_same _ _ _ (λ a r f q. search (rules, tests))) in
    subst (λ r. MatchOption r (NoCharPasses (among c.args.separators.now) c.args.text.now) (λ parts. IsCut c.args.separators.now c.args.text.now parts.0.now parts.1.now))
    (sym c.from_residual.ensures)
    (none_after (among c.args.separators.now) c.skipped-skipped.result c.args.text.now c.range_from.result.now c.skipped-skipped.ensures.none c.range_from.ensures.value none)

pub range-requires-clause-end_boundary : goal.range-requires-clause-end_boundary
range-requires-clause-end_boundary c =
    cut_boundary c.args.separators.now c.args.text.now c.in_ok-front.front.now c.in_ok-front.back.now c.skipped-skipped.result c.utf8.text c.skipped-skipped.ensures.bound
    (is_cut _ c.args.separators.now c.args.text.now _ _ _ c.skipped-skipped.result c.skipped-skipped.ensures.none c.range_from.ensures.value
    (always_returns_same _ _ _ (λ a r f q. search (rules, tests))) c.in_ok-front.ensures.cases)

pub returns : goal.returns
returns c =
    let cut = is_cut _ c.args.separators.now c.args.text.now _ _ _ c.skipped-skipped.result c.skipped-skipped.ensures.none c.range_from.ensures.value
    (always_returns_same _ _ _ (λ a r f q. search (rules, tests))) c.in_ok-front.ensures.cases in
    subst (λ t. IsCut c.args.separators.now c.args.text.now t c.in_ok-front.back.now)
    (cut_front c.args.separators.now c.args.text.now c.in_ok-front.front.now c.in_ok-front.back.now c.skipped-skipped.result c.skipped-skipped.ensures.bound cut ∙ sym c.range.ensures.value)
    cut
