-- How the machine comes from one point of its run to another.
use Rattle.std.proofs.Common.{◌≡◌, ℕ, suc, pred, ◌<◌, ◌≤◌, List, Some, refl, ap, ◌∙◌, arith}
use Rattle.std.specs.Prelude.{slice_get}
use Rattle.rc_model.specs.Run.Calls.{Answer, Call}
use Rattle.rc_model.specs.Run.Plans.{Plan, done_with, ask, cut, and_then}
use Rattle.rc_model.specs.Run.State.{State}
use Rattle.rc_model.specs.Run.Shell.{ShellResult, Next, Exit, Shell, under, leaves}
use Rattle.rc_model.specs.Code.Layout.{Op}
use Rattle.rc_model.specs.Code.Machine.{Scope, Config, Step, unwind, act, after, exec}

-- a point of a run: how it goes on for k more instructions
abbrev pub Point : Type 0
Point = ℕ → Plan State

-- before an instruction
abbrev pub at : Config → Point
at c k = exec k c

-- within an instruction, with this still to do
abbrev pub mid : Plan Step → Point
mid p k = and_then p (after (exec k))

-- a call, and then a point for each answer
abbrev pub asking : Call → (Answer → Point) → Point
asking c go k = ask c (λ a. go a k)

-- in one instruction or more
pub record Leads (f g : Point) : Type 0 where
  pub by : (k : ℕ) → (j : ℕ) × (k < j) × (f j ≡ g k)

-- the same, or in none
pub record Comes (f g : Point) : Type 0 where
  pub by : (k : ℕ) → (j : ℕ) × (k ≤ j) × (f j ≡ g k)

abbrev RunsBy : {A : Type 0} → ℕ → Point → (A → State → Point) → List Scope → Plan (ShellResult A) → Type 0
RunsBy n f k scopes (done_with (Next a s)) = Comes f (k a s)
RunsBy n f k scopes (done_with (Exit s owed)) = Comes f (mid (unwind scopes s owed))
RunsBy n f k scopes (ask c go) = (g : Answer → Point) × Comes f (asking c g) × ((a : Answer) → RunsBy n (g a) k scopes (go a))
RunsBy n f k scopes cut = (j : ℕ) × (n ≤ j) × (f j ≡ cut)

-- from f the machine does what the plan says, and comes to k where there is a next state
pub record Runs {A : Type 0} (n : ℕ) (f : Point) (k : A → State → Point) (scopes : List Scope) (p : Plan (ShellResult A)) : Type 0 where
  pub by : RunsBy n f k scopes p

pub comes_same : (f : Point) → Comes f f
comes_same f = record { by = λ k. (k, omega arith, refl) }

pub comes_comes : {f g h : Point} → Comes f g → Comes g h → Comes f h
comes_comes l m = record { by = λ k. let b = m.by k in let a = l.by b.0 in (a.0, omega (arith, a.1, b.1), a.2 ∙ b.2) }

pub leads_comes : {f g : Point} → Leads f g → Comes f g
leads_comes l = record { by = λ k. let a = l.by k in (a.0, omega (arith, a.1), a.2) }

pub does : (c : Config) (op : Op) → slice_get c.code.ops c.counter ≡ Some op → Leads (at c) (mid (act (Some op) c))
does c op h = record { by = λ k. (suc k, omega arith, ap (λ o. and_then (act o c) (after (exec k))) h) }

-- from before
pub after_comes : {A : Type 0} {n : ℕ} {f g : Point} {k : A → State → Point} {scopes : List Scope} (p : Plan (ShellResult A))
    → Comes f g → Runs n g k scopes p → Runs n f k scopes p
after_comes (done_with (Next a s)) l r = record { by = comes_comes l r.by }
after_comes (done_with (Exit s owed)) l r = record { by = comes_comes l r.by }
after_comes (ask c go) l r = record { by = (r.by.0, comes_comes l r.by.1, r.by.2) }
after_comes cut l r = record { by = let a = l.by r.by.0 in (a.0, omega (arith, a.1, r.by.1), a.2 ∙ r.by.2) }

-- an instruction counts where it stands before a call, too
abbrev later : Point → Point
later f k = f (pred k)

leads_later : (f : Point) → Leads (later f) f
leads_later f = record { by = λ k. (suc k, omega arith, refl) }

comes_later : {f g : Point} (c : Call) (h : Answer → Point) → Leads f g → Comes g (asking c h) → Comes f (asking c (λ a. later (h a)))
comes_later c h l m = record { by = λ k. let b = m.by (pred k) in let a = l.by b.0 in (a.0, omega (arith, a.1, b.1), a.2 ∙ b.2) }

pub after_leads : {A : Type 0} {n : ℕ} {k : A → State → Point} {scopes : List Scope} (p : Plan (ShellResult A)) {f g : Point}
    → Leads f g → Runs n g k scopes p → Runs (suc n) f k scopes p
after_leads (done_with (Next a s)) l r = record { by = comes_comes (leads_comes l) r.by }
after_leads (done_with (Exit s owed)) l r = record { by = comes_comes (leads_comes l) r.by }
after_leads (ask c go) l r =
    record { by = (λ a. later (r.by.0 a), comes_later c r.by.0 l r.by.1, λ a. (after_leads (go a) (leads_later (r.by.0 a)) (record { by = r.by.2 a })).by) }
after_leads cut l r = record { by = let a = l.by r.by.0 in (a.0, omega (arith, a.1, r.by.1), a.2 ∙ r.by.2) }

pub then_runs : {A : Type 0} {n : ℕ} {f g : Point} {k : A → State → Point} {scopes : List Scope} (p : Plan (ShellResult A))
    → Leads f g → Runs n g k scopes p → Runs n f k scopes p
then_runs p l r = after_comes p (leads_comes l) r

-- the ends of a stretch
pub runs_at : {A : Type 0} {n : ℕ} {k : A → State → Point} {scopes : List Scope} (a : A) (s : State) → Runs n (k a s) k scopes (done_with (Next a s))
runs_at {k = k} a s = record { by = comes_same (k a s) }

pub runs_exit : {A : Type 0} {n : ℕ} {k : A → State → Point} {scopes : List Scope} (s : State) (owed : List ℕ)
    → Runs {A = A} n (mid (unwind scopes s owed)) k scopes (done_with (Exit s owed))
runs_exit {scopes = scopes} s owed = record { by = comes_same (mid (unwind scopes s owed)) }

pub runs_ask : {A : Type 0} {n : ℕ} {k : A → State → Point} {scopes : List Scope} (c : Call) (more : Answer → Plan Step) (go : Answer → Plan (ShellResult A))
    → ((a : Answer) → Runs n (mid (more a)) k scopes (go a)) → Runs n (mid (ask c more)) k scopes (ask c go)
runs_ask c more go r = record { by = (λ a. mid (more a), comes_same _, λ a. (r a).by) }

-- one plan within another, whose scopes may be fewer
pub runs_under : {A B : Type 0} {n : ℕ} {f : Point} {k : A → State → Point} {k' : B → State → Point} {inner : List Scope} (outer : List Scope)
    (p : Plan (ShellResult A)) (go : A → Shell B) (leave : State → List ℕ → Plan (ShellResult B)) → Runs n f k inner p
    → ((a : A) (s : State) → Runs n (k a s) k' outer (go a s))
    → ((s : State) (owed : List ℕ) → Runs n (mid (unwind inner s owed)) k' outer (leave s owed))
    → Runs n f k' outer (under p go leave)
runs_under outer (done_with (Next a s)) go leave r rg rl = after_comes (go a s) r.by (rg a s)
runs_under outer (done_with (Exit s owed)) go leave r rg rl = after_comes (leave s owed) r.by (rl s owed)
runs_under outer (ask c more) go leave r rg rl =
    record { by = (r.by.0, r.by.1, λ a. (runs_under outer (more a) go leave (record { by = r.by.2 a }) rg rl).by) }
runs_under outer cut go leave r rg rl = record { by = r.by }

pub runs_bind : {A B : Type 0} {n : ℕ} {f : Point} {k : A → State → Point} {k' : B → State → Point} {scopes : List Scope}
    (p : Plan (ShellResult A)) (go : A → Shell B) → Runs n f k scopes p
    → ((a : A) (s : State) → Runs n (k a s) k' scopes (go a s)) → Runs n f k' scopes (under p go leaves)
runs_bind {scopes = scopes} p go r rg = runs_under scopes p go leaves r rg (λ s owed. runs_exit s owed)

-- an act within an instruction
pub settle_runs : {A : Type 0} {n : ℕ} {k : A → State → Point} {scopes : List Scope} (p : Plan (ShellResult A)) (go : A → State → Plan Step)
    → ((a : A) (s : State) → Runs n (mid (go a s)) k scopes (done_with (Next a s))) → Runs n (mid (under p go (unwind scopes))) k scopes p
settle_runs (done_with (Next a s)) go r = r a s
settle_runs (done_with (Exit s owed)) go r = runs_exit s owed
settle_runs {n = n} {scopes = scopes} (ask c more) go r =
    record { by = (λ a. mid (under (more a) go (unwind scopes)), comes_same _, λ a. (settle_runs {n = n} (more a) go r).by) }
settle_runs {n = n} cut go r = record { by = (n, omega arith, refl) }

-- an act within an instruction, and what follows both
pub settle_then : {A B : Type 0} {n : ℕ} {k : B → State → Point} {scopes : List Scope} (p : Plan (ShellResult A)) (go : A → State → Plan Step) (f : A → Shell B)
    → ((a : A) (s : State) → Runs n (mid (go a s)) k scopes (f a s)) → Runs n (mid (under p go (unwind scopes))) k scopes (under p f leaves)
settle_then (done_with (Next a s)) go f r = r a s
settle_then (done_with (Exit s owed)) go f r = runs_exit s owed
settle_then {n = n} {scopes = scopes} (ask c more) go f r =
    record { by = (λ a. mid (under (more a) go (unwind scopes)), comes_same _, λ a. (settle_then {n = n} (more a) go f r).by) }
settle_then {n = n} cut go f r = record { by = (n, omega arith, refl) }

-- fewer turns
pub fewer : {A : Type 0} (m n : ℕ) {f : Point} {k : A → State → Point} {scopes : List Scope} (p : Plan (ShellResult A)) → m ≤ n → Runs n f k scopes p → Runs m f k scopes p
fewer m n (done_with (Next a s)) le r = record { by = r.by }
fewer m n (done_with (Exit s owed)) le r = record { by = r.by }
fewer m n (ask c go) le r = record { by = (r.by.0, r.by.1, λ a. (fewer m n (go a) le (record { by = r.by.2 a })).by) }
fewer m n cut le r = record { by = (r.by.0, omega (arith, r.by.1), r.by.2) }

-- and further, where there is a next state
pub further : {A : Type 0} {n : ℕ} {k k' : A → State → Point} {scopes : List Scope} (p : Plan (ShellResult A)) {f : Point} → Runs n f k scopes p
    → ((a : A) (s : State) → Comes (k a s) (k' a s)) → Runs n f k' scopes p
further (done_with (Next a s)) r l = record { by = comes_comes r.by (l a s) }
further (done_with (Exit s owed)) r l = record { by = r.by }
further (ask c go) r l = record { by = (r.by.0, r.by.1, λ a. (further (go a) (record { by = r.by.2 a }) l).by) }
further cut r l = record { by = r.by }
