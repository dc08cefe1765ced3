-- Events that a plan goes on by: how they join.
use Rattle.std.proofs.Common.{List, [], ◌∷◌, ◌++◌, ℕ, ap, subst, sym}
use Rattle.rc_model.specs.Run.Calls.{Event}
use Rattle.rc_model.specs.Run.Plans.{Plan, done_with, ask, cut, and_then, Goes}
use Rattle.rc_model.specs.Run.State.{State}
use Rattle.rc_model.specs.Run.Shell.{ShellResult, under}

-- one run after another
pub goes_append : {X : Type 0} (p : Plan X) (before : List Event) (q : Plan X) (next : List Event) (r : Plan X)
    → Goes p before q → Goes q next r → Goes p (before ++ next) r
goes_append p [] q next r g h = subst (λ x. Goes x next r) (sym g) h
goes_append (ask c go) (e ∷ es) q next r g h = (g.0, g.1, goes_append (go e.answer) es q next r g.2 h)
goes_append (done_with x) (e ∷ es) q next r g h = absurd g
goes_append cut (e ∷ es) q next r g h = absurd g

-- a run of the first of two plans is one of both
pub goes_then : {X Y : Type 0} (p : Plan X) (trace : List Event) (q : Plan X) (next : X → Plan Y)
    → Goes p trace q → Goes (and_then p next) trace (and_then q next)
goes_then p [] q next g = ap (λ x. and_then x next) g
goes_then (ask c go) (e ∷ es) q next g = (g.0, g.1, goes_then (go e.answer) es q next g.2)
goes_then (done_with x) (e ∷ es) q next g = absurd g
goes_then cut (e ∷ es) q next g = absurd g

-- a run of a piece of the shell is one of the piece with what follows it
pub goes_under : {A X : Type 0} (p : Plan (ShellResult A)) (trace : List Event) (q : Plan (ShellResult A)) (go : A → State → Plan X) (leave : State → List ℕ → Plan X)
    → Goes p trace q → Goes (under p go leave) trace (under q go leave)
goes_under p [] q go leave g = ap (λ p. under p go leave) g
goes_under (ask c more) (e ∷ es) q go leave g = (g.0, g.1, goes_under (more e.answer) es q go leave g.2)
goes_under (done_with x) (e ∷ es) q go leave g = absurd g
goes_under cut (e ∷ es) q go leave g = absurd g
