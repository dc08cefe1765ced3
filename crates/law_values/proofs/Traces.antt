-- What the calls of expansion give by their trace.
use Rattle.std.proofs.Common.{◌≡◌, true, List, [], ◌∷◌, Some, sym, ap, ◌∙◌}
use Rattle.rc_model.specs.Syntax.Words.{Word, has_pattern}
use Rattle.rc_model.specs.Run.Calls.{Call, Answer, Event}
use Rattle.rc_model.specs.Run.Plans.{Plan, done_with, ask, cut, Goes}
use Rattle.rc_model.specs.Run.State.{State}
use Rattle.rc_model.specs.Run.Shell.{ShellResult, Next}
use Rattle.rc_model.specs.Run.FileNames.{components, or_itself, names_of}
use Rattle.rc_model.specs.Run.PathNames.{answered_by, Agreeing, Expands}
use Rattle.law_values.proofs.Walking.{found_of}
use Rattle.law_values.proofs.Found.{expansion-is}

follow_goes : {X : Type 0} (answers : Call → Answer) (p : Plan X) (trace : List Event) (q : Plan X) → Goes p trace q → Agreeing answers trace → answered_by answers p ≡ answered_by answers q
follow_goes answers (done_with x) [] q g h = ap (answered_by answers) g
follow_goes answers (ask c go) [] q g h = ap (answered_by answers) g
follow_goes answers cut [] q g h = ap (answered_by answers) g
follow_goes answers (done_with x) (e ∷ es) q g h = absurd g
follow_goes answers (ask c go) (e ∷ es) q g h = ap (λ a. answered_by answers (go a)) (ap answers (sym g.0) ∙ h.0) ∙ follow_goes answers (go e.answer) es q g.2 h.1
follow_goes answers cut (e ∷ es) q g h = absurd g

pub expansion_by_trace : (w : Word) (s : State) (trace : List Event) (r : ShellResult (List Word)) (answers : Call → Answer) → has_pattern w ≡ true
    → Goes (names_of w s) trace (done_with r) → Agreeing answers trace →
    (ws : List Word) × (r ≡ Next ws s) × Expands answers w ws
expansion_by_trace w s trace r answers h g a =
    let x = expansion-is answers w h in
    let e : Some (Next (or_itself w (found_of answers (components w))) s) ≡ Some r = sym (x.0.by s) ∙ follow_goes answers (names_of w s) trace (done_with r) g a in
    (or_itself w (found_of answers (components w)), cc, x.1)
