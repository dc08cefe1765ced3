use Rattle.std.proofs.Common.{◌≡◌, ◌-◌, ◌∷◌, [], ◌++◌, ℕ, Bool, List, not, ap, subst, sym, ◌∙◌}
use Rattle.rc_text.specs.Runs.{last_mark, total, AreJoined}
use Rattle.rc_text.proofs.LiteralMarks.{if_ok}
use Rattle.rc_text.proofs.Marks.{other_mark, same_mark}
use Rattle.rc_text.proofs.MarkedRuns.{begins, goes_on}
use Rattle.rc_text.proofs.words.runs.Runs.followed.Goals as goal

pub returns-then-self-mark : goal.returns-then-self-mark
returns-then-self-mark c =
    let last : last_mark c.args.self.0 c.args.self.1 ≡ c.self.inside.last =
    ap (λ (r : Bool × List ℕ). last_mark r.0 r.1) (sym c.self.view_is) ∙ sym c.self.invariant.1 in
    goes_on c.args.self c.args.end c.args.mark (last ∙ same_mark _ _ c.if-self-mark.true)

pub returns : goal.returns
returns c =
    let self = c.args.self in
    let last : last_mark self.0 self.1 ≡ c.self.inside.last =
    ap (λ (r : Bool × List ℕ). last_mark r.0 r.1) (sym c.self.view_is) ∙ sym c.self.invariant.1 in
    let length : c.saturating_sub-length.result ≡ c.args.end - total self.1 =
    c.saturating_sub-length.ensures ∙ ap (λ n. c.args.end - n) (c.self.invariant.0 ∙ ap (λ (r : Bool × List ℕ). total r.1) c.self.view_is) in
    if_ok c.pushed.result
    (λ runs e. subst (λ (r : Bool × List ℕ). AreJoined self c.args.end (c.args.mark, []) r)
    (sym (e ∙ ap (λ n. (self.0, self.1 ++ n ∷ [])) length))
    (begins self c.args.end c.args.mark (ap not last ∙ other_mark _ _ c.if-self-mark.false)))
    c.pushed.ensures
