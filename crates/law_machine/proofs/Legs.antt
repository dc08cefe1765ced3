-- What the parts of some code do, and how they are put together.
use Rattle.std.proofs.Common.{◌≡◌, ℕ, ◌+◌, List, ◌∷◌, Some, sym, subst, arith}
use Rattle.std.specs.Prelude.{slice_get, Option}
use Rattle.rc_model.specs.Syntax.Words.{Word}
use Rattle.rc_model.specs.Syntax.Tree.{Node, Many, cmd, stage, piece}
use Rattle.rc_model.specs.Run.Plans.{Plan}
use Rattle.rc_model.specs.Run.State.{State}
use Rattle.rc_model.specs.Run.Shell.{ShellResult, Shell, under, leaves, skip, pure}
use Rattle.rc_model.specs.Code.Layout.{Op, Kept, KeptTree, KeptStages, KeptPieces, Code, Part, Nothing, Do, Keep, Past, ◌⨾◌}
use Rattle.rc_model.specs.Code.Machine.{Scope, Config, Step, goes, act, puts, acts, on_tree, on_stages, on_pieces}
use Rattle.law_machine.proofs.Place.{Stands, past, kept_past, stands_first, stands_second, past_then}
use Rattle.law_machine.proofs.Run.{Point, at, mid, Leads, Comes, Runs, does, then_runs, runs_at, runs_bind, settle_runs, further, leads_comes}

abbrev pub Words : Type 0
Words = List (List Word)

-- a configuration at another place of its code, with other words and another state
abbrev pub spot : Config → ℕ → Words → State → Config
spot c place words s = record c { counter = place; words = words; state = s }

-- points for each place, before a part with these words and after one
abbrev pub before : Config → Words → ℕ → State → Point
before c words p s = at (spot c p words s)

abbrev pub afterwards : {A : Type 0} → Config → (A → Words) → ℕ → A → State → Point
afterwards c words p a s = at (spot c p (words a) s)

-- Wherever a part stands in the code, it does what the meaning says.
pub record Leg {A : Type 0} (n : ℕ) (code : Code) (part : Part) (from : ℕ → State → Point) (to : ℕ → A → State → Point) (scopes : List Scope) (m : Shell A) : Type 0 where
  pub by : (p k : ℕ) → Stands code p k part → (s : State) → Runs n (from p s) (to (past part p k)) scopes (m s)

-- the usual one: with some words before, and with some after, by the value
abbrev pub Does : {A : Type 0} → ℕ → Config → Part → Words → (A → Words) → Shell A → Type 0
Does n c part words words' m = Leg n c.code part (before c words) (afterwards c words') c.scopes m

-- the place at the end, under another name
pub to_place : {A : Type 0} {n : ℕ} {f : Point} (to : ℕ → A → State → Point) {scopes : List Scope} (p q : ℕ) (m : Plan (ShellResult A)) → p ≡ q
    → Runs n f (to p) scopes m → Runs n f (to q) scopes m
to_place {n = n} {f = f} to {scopes = scopes} p q m e r = subst (λ x. Runs n f (to x) scopes m) e r

-- one part and then another
pub leg_then : {A B : Type 0} {n : ℕ} {code : Code} {a b : Part} {from : ℕ → State → Point} {half : ℕ → A → State → Point} {to : ℕ → B → State → Point}
    {scopes : List Scope} {f : Shell A} {g : A → Shell B}
    → Leg n code a from half scopes f → ((x : A) → Leg n code b (λ p s. half p x s) to scopes (g x)) → Leg n code (a ⨾ b) from to scopes (λ s. under (f s) g leaves)
leg_then {code = code} {a = a} {b = b} {to = to} {f = f} {g = g} la lb =
    record {
      by = λ p k h s.
          let q = past a p k in
          let j = kept_past a k in
          to_place to (past b q j) (past (a ⨾ b) p k) (under (f s) g leaves) (past_then p k a b) (
          runs_bind (f s) g (la.by p k (stands_first code p k a b h) s) (λ x s1. (lb x).by q j (stands_second code p k a b h) s1));
    }

-- no instructions
pub leg_nothing : {n : ℕ} {code : Code} {from : ℕ → State → Point} {scopes : List Scope} → Leg {A = Unit {0}} n code Nothing from (λ p a s. from p s) scopes skip
leg_nothing {from = from} =
    record { by = λ p k h s. let e : p ≡ p + 0 = omega arith in to_place (λ p a s. from p s) p (p + 0) (skip s) e (runs_at tt s) }

pub leg_pure : {A : Type 0} {n : ℕ} {code : Code} {to : ℕ → A → State → Point} {scopes : List Scope} (x : A) → Leg n code Nothing (λ p s. to p x s) to scopes (pure x)
leg_pure {to = to} x = record { by = λ p k h s. let e : p ≡ p + 0 = omega arith in to_place to p (p + 0) (pure x s) e (runs_at x s) }

-- from another state
pub leg_at : {A : Type 0} {n : ℕ} {code : Code} {b : Part} {from : ℕ → State → Point} {to : ℕ → A → State → Point} {scopes : List Scope} {m : Shell A} (t : State → State)
    → Leg n code b from to scopes m → Leg n code b (λ p s. from p (t s)) to scopes (λ s. m (t s))
leg_at t l = record { by = λ p k h s. l.by p k h (t s) }

-- one instruction
pub leg_do : {A : Type 0} {n : ℕ} {to : ℕ → A → State → Point} {m : Shell A} (c : Config) (words : Words) (op : Op)
    → ((p : ℕ) (s : State) → Runs n (mid (act (Some op) (spot c p words s))) (to (p + 1)) c.scopes (m s)) → Leg n c.code (Do op) (before c words) to c.scopes m
leg_do {m = m} c words op r = record { by = λ p k h s. then_runs (m s) (does (spot c p words s) op h.0.0) (r p s) }

-- one that keeps something
pub leg_keep : {A : Type 0} {n : ℕ} {to : ℕ → A → State → Point} {m : Shell A} (c : Config) (words : Words) (f : ℕ → Op) (x : Kept)
    → ((p k : ℕ) (s : State) → slice_get c.code.kept k ≡ Some x → Runs n (mid (act (Some (f k)) (spot c p words s))) (to (p + 1)) c.scopes (m s))
    → Leg n c.code (Keep f x) (before c words) to c.scopes m
leg_keep {m = m} c words f x r = record { by = λ p k h s. then_runs (m s) (does (spot c p words s) (f k) h.0.0) (r p k s h.1.0) }

-- an instruction that only leads on, before a part
pub leg_first : {A : Type 0} {n : ℕ} {to : ℕ → A → State → Point} {scopes : List Scope} {m : Shell A} (c : Config) (words words' : Words) (op : Op) (b : Part)
    → ((p : ℕ) (s : State) → act (Some op) (spot c p words s) ≡ goes (spot c (p + 1) words' s))
    → Leg n c.code b (before c words') to scopes m → Leg n c.code (Do op ⨾ b) (before c words) to scopes m
leg_first {to = to} {m = m} c words words' op b e l =
    record {
      by = λ p k h s.
          to_place to (past b (past (Do op) p k) (kept_past (Do op) k)) (past (Do op ⨾ b) p k) (m s) (past_then p k (Do op) b) (
          then_runs (m s) (subst (λ x. Leads (at (spot c p words s)) (mid x)) (e p s) (does (spot c p words s) op h.0.0)) (
          l.by (past (Do op) p k) (kept_past (Do op) k) (stands_second c.code p k (Do op) b h) s));
    }

-- and after one
pub leg_last : {A : Type 0} {n : ℕ} {code : Code} {a b : Part} {from : ℕ → State → Point} {half to : ℕ → A → State → Point} {scopes : List Scope} {m : Shell A}
    → Leg n code a from half scopes m → ((p k : ℕ) → Stands code p k b → (x : A) (s : State) → Comes (half p x s) (to (past b p k) x s)) → Leg n code (a ⨾ b) from to scopes m
leg_last {code = code} {a = a} {b = b} {to = to} {m = m} l e =
    record {
      by = λ p k h s.
          let q = past a p k in
          let j = kept_past a k in
          to_place to (past b q j) (past (a ⨾ b) p k) (m s) (past_then p k a b) (
          further (m s) (l.by p k (stands_first code p k a b h) s) (e q j (stands_second code p k a b h)));
    }

-- an instruction that only leads on
pub comes_op : (c : Config) (op : Op) (words words' : Words) (s s' : State) (p k : ℕ) → Stands c.code p k (Do op)
    → act (Some op) (spot c p words s) ≡ goes (spot c (p + 1) words' s') → Comes (at (spot c p words s)) (at (spot c (past (Do op) p k) words' s'))
comes_op c op words words' s s' p k h e = leads_comes (subst (λ x. Leads (at (spot c p words s)) (mid x)) e (does (spot c p words s) op h.0.0))

-- an instruction that can jump past a part
pub leg_past : {A : Type 0} {n : ℕ} {to : ℕ → A → State → Point} {from : ℕ → State → Point} {scopes : List Scope} {m : Shell A} {inner : Shell A}
    (c : Config) (words : Words) (f : ℕ → Op) (a : Part)
    → ((p q : ℕ) (s : State) → ((s1 : State) → Runs n (from (p + 1) s1) (to q) scopes (inner s1)) → Runs n (mid (act (Some (f q)) (spot c p words s))) (to q) c.scopes (m s))
    → Leg n c.code a from to scopes inner → Leg n c.code (Past f a) (before c words) to c.scopes m
leg_past {to = to} {m = m} c words f a r l =
    record {
      by = λ p k h s.
          let q = past a (p + 1) k in
          let e : q ≡ past (Past f a) p k = omega arith in
          to_place to q (past (Past f a) p k) (m s) e (
          then_runs (m s) (does (spot c p words s) (f q) h.0.0) (r p q s (λ s1. l.by (p + 1) k (h.0.1, h.1) s1)));
    }

-- acts within instructions
pub puts_runs : {n : ℕ} (c : Config) (p : ℕ) (words words' : Words) (m : Shell (List Word)) (s : State)
    → Runs n (mid (puts (spot c p words s) words' (m s))) (λ v s1. at (spot c (p + 1) (v ∷ words') s1)) c.scopes (m s)
puts_runs c p words words' m s = settle_runs (m s) _ (λ v s1. runs_at v s1)

pub acts_runs : {n : ℕ} (c : Config) (p : ℕ) (words words' : Words) (m : Shell (Unit {0})) (s : State)
    → Runs n (mid (acts (spot c p words s) words' (m s))) (λ a s1. at (spot c (p + 1) words' s1)) c.scopes (m s)
acts_runs c p words words' m s = settle_runs (m s) _ (λ a s1. runs_at a s1)

-- what is kept
pub tree_runs : {A : Type 0} {n : ℕ} (c : Config) {k : A → State → Point} {scopes : List Scope} {p : Plan (ShellResult A)} (o : Option Kept) (d : Node cmd) (go : Node cmd → Plan Step)
    → o ≡ Some (KeptTree d) → Runs n (mid (go d)) k scopes p → Runs n (mid (on_tree c o go)) k scopes p
tree_runs {n = n} c {k = k} {scopes = scopes} {p = p} o d go e r = subst (λ x. Runs n (mid (on_tree c x go)) k scopes p) (sym e) r

pub stages_runs : {A : Type 0} {n : ℕ} (c : Config) {k : A → State → Point} {scopes : List Scope} {p : Plan (ShellResult A)} (o : Option Kept) (d : Many stage) (go : Many stage → Plan Step)
    → o ≡ Some (KeptStages d) → Runs n (mid (go d)) k scopes p → Runs n (mid (on_stages c o go)) k scopes p
stages_runs {n = n} c {k = k} {scopes = scopes} {p = p} o d go e r = subst (λ x. Runs n (mid (on_stages c x go)) k scopes p) (sym e) r

pub pieces_runs : {A : Type 0} {n : ℕ} (c : Config) {k : A → State → Point} {scopes : List Scope} {p : Plan (ShellResult A)} (o : Option Kept) (d : Many piece) (go : Many piece → Plan Step)
    → o ≡ Some (KeptPieces d) → Runs n (mid (go d)) k scopes p → Runs n (mid (on_pieces c o go)) k scopes p
pieces_runs {n = n} c {k = k} {scopes = scopes} {p = p} o d go e r = subst (λ x. Runs n (mid (on_pieces c x go)) k scopes p) (sym e) r
