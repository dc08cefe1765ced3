use Rattle.std.proofs.Common.{rules, sym, tests, ◌∙◌}
use Rattle.std.proofs.lemmas.Iterator.{YieldsList-from_slice}
use Rattle.std.proofs.lemmas.Iterator.Search.{any_from_yields_List}
use Rattle.rc_glob.specs.Subjects.{is_met}
use Rattle.rc_glob.proofs.Subjects.{by_words}
use Rattle.rc_glob.proofs.matching.matched.Goals as goal

pub returns : goal.returns
returns c =
    any_from_yields_List (is_met c.args.patterns.now) _ _ c.any.result c.any.ensures.ran (YieldsList-from_slice c.args.subject.now cc) (λ x b q k. search (rules, tests))
    ∙ sym (by_words c.args.subject.now c.args.patterns.now)
