use Rattle.std.proofs.Common.{[], inl, subst, sym}
use Rattle.rc_text.specs.Views.{AreMarkedAsOne}
use Rattle.rc_text.proofs.Marks.{same_mark}
use Rattle.rc_text.proofs.words.marks.Marks.go_on.Goals as goal

pub returns : goal.returns
returns c e end =
    let self = c.args.self.now in
    subst (λ m. AreMarkedAsOne self end m self) (sym c.in-Some-only_mark.ensures)
    (subst (λ b. AreMarkedAsOne self end (inl (b, [])) self) (same_mark _ _ e) (c.in-Some.ensures end))
