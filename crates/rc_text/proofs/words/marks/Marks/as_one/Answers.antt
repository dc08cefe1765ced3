use Rattle.std.proofs.Common.{subst, sym}
use Rattle.rc_text.specs.Views.{AreMarkedAsOne}
use Rattle.rc_text.proofs.words.marks.Marks.as_one.Goals as goal

pub returns-in-Some-few_as_one : goal.returns-in-Some-few_as_one
returns-in-Some-few_as_one c =
    let all = c.in-Some-few_as_one.all in
    subst (λ m. AreMarkedAsOne c.args.self.now c.args.end m all) (sym c.in-Some.ensures) c.in-Some-few_as_one.ensures
