-- How pieces of the shell join: what follows goes on from the next state, or from the end of the shell.
use Rattle.std.proofs.Common.{List, Option, ℕ, Ok, Err}
use Rattle.std.specs.Prelude.{Result as Outcome}
use Rattle.rc_model.specs.Run.Calls.{Event}
use Rattle.rc_model.specs.Run.Plans.{Plan, done_with, RanBetween}
use Rattle.rc_model.specs.Run.State.{State}
use Rattle.rc_model.specs.Run.Shell.{ShellResult, Next, Exit, Shell, under, leaves, ◌>>=◌}
use Rattle.law_plans.proofs.Runs.{ran_under, halted_under, ran_next}
use Rattle.rc_world.specs.Comes.{Left, for_memory, by_halt, Comes}
use Rattle.rc_world.specs.declared.starts.Stop.{Stop}
use Rattle.rc_world.specs.declared.starts.Stop.TheVariants.{NoMemory, Halt}
use Rattle.rc_world.proofs.Joins.{left_join}

-- the piece was left
pub left_under : {A X : Type 0} (a b : Option (List Event)) (stop : Stop) (p : Plan (ShellResult A)) (go : A → State → Plan X) (leave : State → List ℕ → Plan X) →
    Left a b p stop → Left a b (under p go leave) stop
left_under a b NoMemory p go leave (for_memory q f) = for_memory (under q go leave) (ran_under a b p q go leave f)
left_under a b Halt p go leave (by_halt f) = by_halt (halted_under a b p go leave f)

-- the piece came to a next state, and what follows was left
pub left_next : {A X : Type 0} (a b c : Option (List Event)) (stop : Stop) (p : Plan (ShellResult A)) (x : A) (s : State)
    (go : A → State → Plan X) (leave : State → List ℕ → Plan X) →
    RanBetween a b p (done_with (Next x s)) → Left b c (go x s) stop → Left a c (under p go leave) stop
left_next a b c stop p x s go leave f g = left_join a b c stop (under p go leave) (go x s) (ran_under a b p (done_with (Next x s)) go leave f) g

-- the piece ended the shell, and what follows its end was left
pub left_exit : {A X : Type 0} (a b c : Option (List Event)) (stop : Stop) (p : Plan (ShellResult A)) (s : State) (owed : List ℕ)
    (go : A → State → Plan X) (leave : State → List ℕ → Plan X) →
    RanBetween a b p (done_with (Exit s owed)) → Left b c (leave s owed) stop → Left a c (under p go leave) stop
left_exit a b c stop p s owed go leave f g = left_join a b c stop (under p go leave) (leave s owed) (ran_under a b p (done_with (Exit s owed)) go leave f) g

-- the piece came to a next state, and what follows came to its value or was left
pub comes_next : {A X T : Type 0} (a b c : Option (List Event)) (p : Plan (ShellResult A)) (x : A) (s : State)
    (go : A → State → Plan X) (leave : State → List ℕ → Plan X) (view : T → X) (result : Outcome T Stop) →
    RanBetween a b p (done_with (Next x s)) → Comes b c (go x s) view result → Comes a c (under p go leave) view result
comes_next a b c p x s go leave view (Ok v) f g = ran_next a b c p x s go leave (done_with (view v)) f g
comes_next a b c p x s go leave view (Err stop) f g = left_next a b c stop p x s go leave f g

-- ** the same for `m >>= f`, where both are written out and the rest is known

pub ran_do : {A B : Type 0} {a b c : Option (List Event)} {s t : State} {x : A} {q : Plan (ShellResult B)} (m : Shell A) (f : A → Shell B) →
    RanBetween a b (m s) (done_with (Next x t)) → RanBetween b c (f x t) q → RanBetween a c ((m >>= f) s) q
ran_do {a = a} {b} {c} {s} {t} {x} {q} m f g h = ran_next a b c (m s) x t f leaves q g h

-- the first ended the shell
pub ran_do_exit : {A B : Type 0} {a b : Option (List Event)} {s t : State} {owed : List ℕ} (m : Shell A) (f : A → Shell B) →
    RanBetween a b (m s) (done_with (Exit t owed)) → RanBetween a b ((m >>= f) s) (done_with (Exit t owed))
ran_do_exit {a = a} {b} {s} {t} {owed} m f g = ran_under a b (m s) (done_with (Exit t owed)) f leaves g

pub left_do : {A B : Type 0} {a b : Option (List Event)} {stop : Stop} {s : State} (m : Shell A) (f : A → Shell B) →
    Left a b (m s) stop → Left a b ((m >>= f) s) stop
left_do {a = a} {b} {stop} {s} m f g = left_under a b stop (m s) f leaves g

pub left_done : {A B : Type 0} {a b c : Option (List Event)} {stop : Stop} {s t : State} {x : A} (m : Shell A) (f : A → Shell B) →
    RanBetween a b (m s) (done_with (Next x t)) → Left b c (f x t) stop → Left a c ((m >>= f) s) stop
left_done {a = a} {b} {c} {stop} {s} {t} {x} m f g h = left_next a b c stop (m s) x t f leaves g h

pub comes_do : {A B T : Type 0} {a b : Option (List Event)} {s t : State} {x : A} (m : Shell A) (f : A → Shell B)
    (c : Option (List Event)) (view : T → ShellResult B) (result : Outcome T Stop) →
    RanBetween a b (m s) (done_with (Next x t)) → Comes b c (f x t) view result → Comes a c ((m >>= f) s) view result
comes_do {a = a} {b} {s} {t} {x} m f c view result g h = comes_next a b c (m s) x t f leaves view result g h
