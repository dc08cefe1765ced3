use Rattle.std.proofs.Common.{◌≡◌, ◌-◌, ◌∷◌, [], ◌++◌, ℕ, Bool, List, not, ap, subst, sym, ◌∙◌}
use Rattle.rc_text.specs.Runs.{last_mark, total, AreJoined}
use Rattle.rc_text.proofs.LiteralMarks.{if_some}
use Rattle.rc_text.proofs.Marks.{other_mark, same_mark}
use Rattle.rc_text.proofs.MarkedRuns.{begins, goes_on}
use Rattle.rc_text.proofs.words.few_runs.FewRuns.followed.Goals as goal

pub returns-then-last-mark : goal.returns-then-last-mark
returns-then-last-mark c =
    let self = c.args.self.now in
    let last : last_mark self.0 self.1 ≡ c.last_run-length.result.1 =
    ap (λ (r : Bool × List ℕ). last_mark r.0 self.1) (sym c.self.view_is)
    ∙ ap (last_mark c.self.inside.first) (sym c.lengths.ensures) ∙ sym c.last_run-length.ensures.mark in
    subst (λ (r : Bool × List ℕ). AreJoined self c.args.end (c.args.mark, []) r) (sym c.copied.ensures)
    (goes_on self c.args.end c.args.mark (last ∙ same_mark _ _ c.if-last-mark.true))

pub returns : goal.returns
returns c =
    let self = c.args.self.now in
    let last : last_mark self.0 self.1 ≡ c.last_run-length.result.1 =
    ap (λ (r : Bool × List ℕ). last_mark r.0 self.1) (sym c.self.view_is)
    ∙ ap (last_mark c.self.inside.first) (sym c.lengths.ensures) ∙ sym c.last_run-length.ensures.mark in
    let length : c.last_run-length.result.0 ≡ c.args.end - total self.1 =
    c.last_run-length.ensures.length ∙ ap (λ ns. c.args.end - total ns) c.lengths.ensures in
    if_some c.pushed.result
    (λ runs e. subst (λ (r : Bool × List ℕ). AreJoined self c.args.end (c.args.mark, []) r)
    (sym (e ∙ ap (λ n. (self.0, self.1 ++ n ∷ [])) length))
    (begins self c.args.end c.args.mark (ap not last ∙ other_mark _ _ c.if-last-mark.false)))
    c.pushed.ensures
