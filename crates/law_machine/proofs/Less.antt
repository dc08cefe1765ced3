-- A plan that is another one, cut short.
use Rattle.std.proofs.Common.{◌≡◌, ℕ, zero, suc, ◌≤◌, List, [], ◌∷◌, refl, sym, ap, subst, arith}
use Rattle.std.specs.Prelude.{Bool, true, false, if◌then◌else◌}
use Rattle.rc_model.specs.Run.Calls.{Call, Answer, fitting, is_halt}
use Rattle.rc_model.specs.Run.Plans.{Plan, done_with, ask, cut, and_then, Played, Ends, Waits, Cut, after_call, play, calls_made}
use Rattle.rc_model.specs.Code.Machine.{Config, Step, On, Over, step, after, exec}
use Rattle.rc_model.specs.Run.Script.{Within}

abbrev pub Less : {X : Type 0} → Plan X → Plan X → Type 0
Less cut q = Unit {0}
Less (done_with x) (done_with y) = x ≡ y
Less (done_with x) _ = ⊥
Less (ask c go) (ask d go') = (c ≡ d) × ((a : Answer) → Less (go a) (go' a))
Less (ask c go) _ = ⊥

within_call : {X : Type 0} (c : Call) (p q : Played X) → Within p q → Within (after_call c p) (after_call c q)
within_call c (Ends made x left) q h = ap (after_call c) h
within_call c (Waits made) q h = ap (after_call c) h
within_call c (Cut made) (Ends all x left) h = record { rest = h.rest; is = ap (λ l. c ∷ l) h.is }
within_call c (Cut made) (Waits all) h = record { rest = h.rest; is = ap (λ l. c ∷ l) h.is }
within_call c (Cut made) (Cut all) h = record { rest = h.rest; is = ap (λ l. c ∷ l) h.is }

-- a first call is made, and the next answer halts or is given
within_answered : {X : Type 0} (c : Call) (halted : Bool) (p q : Played X) → Within p q
    → Within (if halted then Waits (c ∷ []) else after_call c p) (if halted then Waits (c ∷ []) else after_call c q)
within_answered c true p q h = refl
within_answered c false p q h = within_call c p q h

pub less_plays : {X : Type 0} (p q : Plan X) (answers : List Answer) → Less p q → Within (play p answers) (play q answers)
less_plays cut q answers h = record { rest = calls_made (play q answers); is = refl }
less_plays (done_with x) (done_with y) answers h = ap (λ z. Ends [] z answers) (sym h)
less_plays (done_with x) (ask d go') answers h = absurd h
less_plays (done_with x) cut answers h = absurd h
less_plays (ask c go) (done_with y) answers h = absurd h
less_plays (ask c go) cut answers h = absurd h
less_plays (ask c go) (ask d go') [] h = ap (λ e. Waits (e ∷ [])) (sym h.0)
less_plays (ask c go) (ask d go') (a ∷ rest) h =
    subst (λ e. Within (play (ask c go) (a ∷ rest)) (play (ask e go') (a ∷ rest))) h.0 (
    within_answered c (is_halt a) _ _ (less_plays (go (fitting c a)) (go' (fitting c a)) rest (h.1 (fitting c a))))

less_then : {X Y : Type 0} (p : Plan X) (f g : X → Plan Y) → ((x : X) → Less (f x) (g x)) → Less (and_then p f) (and_then p g)
less_then (done_with x) f g h = h x
less_then (ask c go) f g h = (refl, λ a. less_then (go a) f g h)
less_then cut f g h = tt

-- more instructions
pub less_exec : (m n : ℕ) (c : Config) → m ≤ n → Less (exec m c) (exec n c)
less_exec zero n c le = tt
less_exec (suc m) zero c le = absurd (omega arith)
less_exec (suc m) (suc n) c le = less_then (step c) (after (exec m)) (after (exec n)) (λ st. less_after st (λ d. less_exec m n d (omega arith)))
  where
    less_after : (st : Step) → ((d : Config) → Less (exec m d) (exec n d)) → Less (after (exec m) st) (after (exec n) st)
    less_after (On d) h = h d
    less_after (Over f) h = refl
