-- What the code of each form does, given what that of its parts does.
use Rattle.std.proofs.Common.{◌≡◌, ℕ, zero, suc, ◌+◌, ◌≤◌, List, [], ◌∷◌, ◌++◌, length, Some, refl, subst, arith, length-append}
use Rattle.std.specs.Prelude.{slice_get, Bool, true, false, Option, None, if◌then◌else◌, codes}
use Rattle.rc_model.specs.Syntax.Words.{Word, word_texts}
use Rattle.rc_model.specs.Run.Patterns.{matched}
use Rattle.rc_model.specs.Run.Calls.{close}
use Rattle.rc_model.specs.declared.call.Slots.{Slots}
use Rattle.rc_model.specs.Syntax.Tree.{Node, Many, cmd, stage}
use Rattle.rc_model.specs.declared.syntax.Logic.{Logic}
use Rattle.rc_model.specs.declared.syntax.Logic.TheVariants.{And, Or}
use Rattle.rc_model.specs.Run.Plans.{Plan, done_with, ask, cut}
use Rattle.rc_model.specs.Run.State.{State, set_value, push_local, pop_local, with_status, with_flag, is_true}
use Rattle.rc_model.specs.Run.Shell.{ShellResult, Next, Exit, under, leaves, change, skip}
use Rattle.rc_model.specs.Run.Acts.{closing, start_stages, end_stages, from_pipe, StartedStages, Running, Refused}
use Rattle.rc_model.specs.Run.Builtins.{Called, Finished, Body, BodyWith, run_words}
use Rattle.rc_model.specs.Run.Meaning.{Runner, Caller, called_means, local_end, file_end, piped, linked, if_means, if_not_means, condition, turns, each_more, each, if_so}
use Rattle.rc_model.specs.Code.Layout.{Op, KeptStages, Code, Part, Nothing, Do, Past, PastKeep, Loop, Either, ◌⨾◌, ops_of, kept_of, code, cmd_code}
use Rattle.rc_model.specs.Code.Layout.{Run, SetNull, WasTrue, IfTrue, IfFalse, Jump, EndPipe, Return, Case, condition_code, skip_by}
use Rattle.rc_model.specs.Code.Layout as op
use Rattle.rc_model.specs.Code.Machine.{act, last_stage, Scope, InLocal, InRedirection, InPipeline, InLoop, Config, Step, goes, unwind, enter, frame_of}
use Rattle.law_machine.proofs.Place.{past_then, Stands, HasAt, has_front, has_back, past, kept_past, stands_first, stands_second, stands_code}
use Rattle.law_machine.proofs.Run.{Point, at, mid, Leads, Comes, Runs, does, after_leads, then_runs, runs_at, runs_exit, runs_ask, runs_under, runs_bind, settle_then, fewer, further, leads_comes}
use Rattle.law_machine.proofs.Legs.{Words, spot, before, afterwards, Leg, Does, to_place, leg_then, leg_do, leg_past, acts_runs, stages_runs}

-- a command: nothing is left on the stack
abbrev pub Acts : ℕ → Config → Part → Runner → Type 0
Acts n c part m = Does n c part c.words (λ a. c.words) m

-- ** scopes

-- other scopes that end in the same way
pub same_scopes : {A : Type 0} {n : ℕ} {f : Point} {k : A → State → Point} {inner outer : List Scope} (p : Plan (ShellResult A))
    → ((s : State) (owed : List ℕ) → unwind inner s owed ≡ unwind outer s owed) → Runs n f k inner p → Runs n f k outer p
same_scopes (done_with (Next a s)) e r = record { by = r.by }
same_scopes {f = f} (done_with (Exit s owed)) e r = record { by = subst (λ x. Comes f (mid x)) (e s owed) r.by }
same_scopes (ask c go) e r = record { by = (r.by.0, r.by.1, λ a. (same_scopes (go a) e (record { by = r.by.2 a })).by) }
same_scopes cut e r = record { by = r.by }

-- within a local
pub leg_local : {n : ℕ} {code : Code} {b : Part} {from : ℕ → State → Point} {to : ℕ → Unit {0} → State → Point} {scopes : List Scope} {m : Runner}
    → Leg n code b from (λ p a s. to p a (pop_local s)) (InLocal ∷ scopes) m → Leg n code b from to scopes (local_end m)
leg_local {b = b} {scopes = scopes} {m = m} l =
    record { by = λ p k h s. runs_under scopes (m s) _ _ (l.by p k h s) (λ a s1. runs_at tt (pop_local s1)) (λ s1 owed. runs_exit (pop_local s1) owed) }

-- within a redirection, whose file is closed first
pub leg_file : {n : ℕ} {code : Code} {b : Part} {from : ℕ → State → Point} {scopes : List Scope} {m : Runner} (h : ℕ) (outer : Slots) (go : ℕ → State → Plan Step)
    → Leg n code b from (λ p a s. mid (ask (close h) (λ x. go p s))) (InRedirection (Some h) outer ∷ scopes) m
    → Leg n code b from (λ p a s. mid (go p s)) scopes (file_end h m)
leg_file {scopes = scopes} {m = m} h outer go l =
    record {
      by = λ p k st s.
          runs_under scopes (m s) _ _ (l.by p k st s)
          (λ a s1. runs_ask (close h) _ _ (λ x. runs_at tt s1))
          (λ s1 owed. runs_ask (close h) _ _ (λ x. runs_exit s1 owed));
    }

-- within a copy
pub leg_copy : {n : ℕ} {code : Code} {b : Part} {from : ℕ → State → Point} {to : ℕ → Unit {0} → State → Point} {scopes : List Scope} {m : Runner} (outer : Slots)
    → Leg n code b from to (InRedirection None outer ∷ scopes) m → Leg n code b from to scopes m
leg_copy {m = m} outer l = record { by = λ p k h s. same_scopes (m s) (λ s owed. refl) (l.by p k h s) }

-- the instruction of a copy, and what is within it
pub leg_copied : {n : ℕ} {to : ℕ → Unit {0} → State → Point} {m : Runner} (c within : Config) (op : Op) (b : Part)
    → ((p : ℕ) (s : State) → act (Some op) (spot c p c.words s) ≡ goes (spot (record c { scopes = InRedirection None c.slots ∷ c.scopes; slots = within.slots }) (p + 1) c.words s))
    → Leg n c.code b (before (record c { scopes = InRedirection None c.slots ∷ c.scopes; slots = within.slots }) c.words) to (InRedirection None c.slots ∷ c.scopes) m
    → Leg n c.code (Do op ⨾ b) (before c c.words) to c.scopes m
leg_copied {to = to} {m = m} c within op b e l =
    record {
      by = λ p k h s.
          to_place to (past b (past (Do op) p k) (kept_past (Do op) k)) (past (Do op ⨾ b) p k) (m s) (past_then p k (Do op) b) (
          then_runs (m s) (subst (λ x. Leads (at (spot c p c.words s)) (mid x)) (e p s) (does (spot c p c.words s) op h.0.0)) (
          (leg_copy c.slots l).by (past (Do op) p k) (kept_past (Do op) k) (stands_second c.code p k (Do op) b h) s));
    }

runs_close : {A : Type 0} {n : ℕ} {k : A → State → Point} {scopes : List Scope} (h : Option ℕ) (p : Plan Step) (q : Plan (ShellResult A))
    → Runs n (mid p) k scopes q → Runs n (mid (closing h p)) k scopes (closing h q)
runs_close None p q r = r
runs_close (Some h) p q r = runs_ask (close h) (λ b. p) (λ b. q) (λ b. r)

-- ** called bodies

-- a body that was called: its own code, in the frames and scopes of c
abbrev pub body : Config → Node cmd → Config
body c d = record c { code = code d }

-- where its Return stands
abbrev pub end_of : Node cmd → ℕ
end_of d = past (cmd_code d false) 0 0

pub at_return : (d : Node cmd) → slice_get (code d).ops (end_of d) ≡ Some Return
at_return d = (stands_second (code d) 0 0 (cmd_code d false) (Do Return) (stands_code d)).0.0

-- what a called body does: from its first instruction to its Return
abbrev pub CallsRun : ℕ → Caller → Type 0
CallsRun n call = (d : Node cmd) (c : Config) (s : State)
    → Runs n (at (spot (body c d) 0 c.words s)) (λ a s1. at (spot (body c d) (end_of d) c.words s1)) c.scopes (call c.slots d s)

module _ (n m : ℕ) (le : n ≤ suc m) (call : Caller) (calls_run : CallsRun m call) where
  enter_runs : (c : Config) (words : Words) (x : Called) (s : State)
      → Runs m (mid (enter c words x s)) (λ a s1. at (spot c (c.counter + 1) words s1)) c.scopes (called_means call c.slots x s)
  enter_runs c words Finished s = runs_at tt s
  enter_runs c words (Body d) s =
      let inner = record c { frames = frame_of c false ∷ c.frames; words = words } in
      further (call c.slots d s) (calls_run d inner s) (λ a s1. leads_comes (does (spot (body inner d) (end_of d) words s1) Return (at_return d)))
  enter_runs c words (BodyWith args d) s =
      let inner = record c { frames = frame_of c true ∷ c.frames; words = words; scopes = InLocal ∷ c.scopes } in
      let s' = push_local s (codes "*") args in
      runs_under c.scopes (call c.slots d s') _ _ (calls_run d inner s')
      (λ a s1. then_runs _ (does (spot (body inner d) (end_of d) words s1) Return (at_return d)) (runs_at tt (pop_local s1)))
      (λ s1 owed. runs_exit (pop_local s1) owed)

  -- a simple command, whose words are on top
  pub run_leg : (c : Config) (words : Words) (w : List Word)
      → Does n c (Do Run) (w ∷ words) (λ a. words) (λ s. under (run_words c.slots (word_texts w) s) (called_means call c.slots) leaves)
  run_leg c words w =
      record {
        by = λ p k h s.
            let act = run_words c.slots (word_texts w) s in
            let here = spot c p (w ∷ words) s in
            fewer n (suc m) (under act (called_means call c.slots) leaves) le (
            after_leads _ (does here Run h.0.0) (settle_then act (λ x s1. enter here words x s1) (called_means call c.slots) (λ x s1. enter_runs here words x s1)));
      }

-- ** choices

module _ (n : ℕ) (c : Config) where
  -- a choice, after its condition
  pub if_leg : (body : Part) (m : Runner) → Acts n c body m → Acts n c (Past op.If (body ⨾ Do WasTrue)) (if_means m)
  if_leg body m l = leg_past c c.words op.If (body ⨾ Do WasTrue) (λ p q s r. choice p q s r (is_true s.status)) (leg_then l (λ a. leg_do c c.words WasTrue (λ p s. runs_at tt (with_flag s false))))
    where
      choice : (p q : ℕ) (s : State)
          → ((s1 : State) → Runs n (at (spot c (p + 1) c.words s1)) (λ a s2. at (spot c q c.words s2)) c.scopes (under (m s1) (λ a. change (λ s. with_flag s false)) leaves))
          → (b : Bool)
          → Runs n (mid (goes (if b then spot c (p + 1) c.words s else spot c q c.words (with_flag s true)))) (λ a s1. at (spot c q c.words s1)) c.scopes
          (if b then under (m s) (λ a. change (λ s. with_flag s false)) leaves else change (λ s. with_flag s true) s)
      choice p q s r true = r s
      choice p q s r false = runs_at tt (with_flag s true)

  -- to the next place or to another, by some bit
  jumps : (p q : ℕ) (s : State) (m o : Runner) → ((s1 : State) → Runs n (at (spot c (p + 1) c.words s1)) (λ a s2. at (spot c q c.words s2)) c.scopes (m s1))
      → (b : Bool) → Runs n (mid (goes (spot c (if b then p + 1 else q) c.words s))) (λ a s1. at (spot c q c.words s1)) c.scopes (if b then m s else skip s)
  jumps p q s m o r true = r s
  jumps p q s m o r false = runs_at tt s

  jumps_else : (p q : ℕ) (s : State) (m : Runner) → ((s1 : State) → Runs n (at (spot c (p + 1) c.words s1)) (λ a s2. at (spot c q c.words s2)) c.scopes (m s1))
      → (b : Bool) → Runs n (mid (goes (spot c (if b then q else p + 1) c.words s))) (λ a s1. at (spot c q c.words s1)) c.scopes (if b then skip s else m s)
  jumps_else p q s m r true = runs_at tt s
  jumps_else p q s m r false = r s

  pub if_not_leg : (body : Part) (m : Runner) → Acts n c body m → Acts n c (Past op.IfNot body) (if_not_means m)
  if_not_leg body m l = leg_past c c.words op.IfNot body (λ p q s r. jumps p q s m m r s.flag) l

  pub link_leg : (logic : Logic) (body : Part) (m : Runner) → Acts n c body m → Acts n c (Past (skip_by logic) body) (linked logic m)
  link_leg And body m l = leg_past c c.words IfFalse body (λ p q s r. jumps p q s m m r (is_true s.status)) l
  link_leg Or body m l = leg_past c c.words IfTrue body (λ p q s r. jumps_else p q s m r (is_true s.status)) l

  pub condition_leg : (bare : Bool) (test : Part) (m : Runner) → Acts n c test m → Acts n c (condition_code bare test) (condition bare m)
  condition_leg true test m l = leg_do c c.words SetNull (λ p s. runs_at tt (with_status s []))
  condition_leg false test m l = l

  -- a branch, with its patterns on top of the subject
  pub branch_leg : (words : Words) (v ps : List Word) (first second : Part) (m o : Runner)
      → Does n c first (v ∷ words) (λ a. v ∷ words) m → Does n c second (v ∷ words) (λ a. v ∷ words) o
      → Does n c (Either Case first second) (ps ∷ v ∷ words) (λ a. v ∷ words) (if_so (matched v ps) m o)
  branch_leg words v ps first second m o lm lo =
      record {
        by = λ p k h s.
            let a = ops_of first (p + 1) k in
            let q = p + 1 + length a + 1 in
            let j = k + length (kept_of first) in
            let b = ops_of second q j in
            let e = q + length b in
            let rest = Jump e ∷ b in
            let at_first = has_front c.code.ops (p + 1) a rest h.0.1 in
            let at_rest = has_back c.code.ops (p + 1) a rest h.0.1 in
            let len : e ≡ past (Either Case first second) p k = omega (arith, length-append a rest) in
            to_place (afterwards c (λ a. v ∷ words)) e (past (Either Case first second) p k) (if_so (matched v ps) m o s) len (
            then_runs _ (does (spot c p (ps ∷ v ∷ words) s) (Case q) h.0.0) (
            choice p q e s
            (λ s1. further (m s1) (lm.by (p + 1) k (at_first, has_front c.code.kept k (kept_of first) (kept_of second) h.1) s1)
            (λ x s2. leads_comes (does (spot c (past first (p + 1) k) (v ∷ words) s2) (Jump e) at_rest.0)))
            (λ s1. lo.by q j (at_rest.1, has_back c.code.kept k (kept_of first) (kept_of second) h.1) s1)
            (matched v ps)));
      }
    where
      choice : (p q e : ℕ) (s : State)
          → ((s1 : State) → Runs n (at (spot c (p + 1) (v ∷ words) s1)) (λ a s2. at (spot c e (v ∷ words) s2)) c.scopes (m s1))
          → ((s1 : State) → Runs n (at (spot c q (v ∷ words) s1)) (λ a s2. at (spot c e (v ∷ words) s2)) c.scopes (o s1))
          → (b : Bool) → Runs n (mid (goes (spot c (if b then p + 1 else q) (v ∷ words) s))) (λ a s1. at (spot c e (v ∷ words) s1)) c.scopes (if_so b m o s)
      choice p q e s rm ro true = rm s
      choice p q e s rm ro false = ro s

  -- ** loops

  -- at most t turns
  while_runs : (q p pb e : ℕ) (test body : Runner) → slice_get c.code.ops p ≡ Some (IfFalse e) → slice_get c.code.ops pb ≡ Some (Jump q)
      → ((s : State) → Runs n (at (spot c q c.words s)) (λ a s1. at (spot c p c.words s1)) c.scopes (test s))
      → ((s : State) → Runs n (at (spot c (p + 1) c.words s)) (λ a s1. at (spot c pb c.words s1)) c.scopes (body s))
      → (t : ℕ) → t ≤ n → (s : State) → Runs t (at (spot c q c.words s)) (λ a s1. at (spot c e c.words s1)) c.scopes (turns t test body s)
  while_runs q p pb e test body at_test at_end rt rb zero le s = record { by = (0, omega arith, refl) }
  while_runs q p pb e test body at_test at_end rt rb (suc t) le s =
      runs_bind (test s) _ (fewer (suc t) n (test s) le (rt s)) (λ a s1.
      after_leads _ (does (spot c p c.words s1) (IfFalse e) at_test) (turn (while_runs q p pb e test body at_test at_end rt rb t (omega arith)) s1 (is_true s1.status)))
    where
      turn : ((s : State) → Runs t (at (spot c q c.words s)) (λ a s1. at (spot c e c.words s1)) c.scopes (turns t test body s)) → (s1 : State) (b : Bool)
          → Runs t (mid (goes (spot c (if b then p + 1 else e) c.words s1))) (λ a s3. at (spot c e c.words s3)) c.scopes
          (if b then under (body s1) (λ b. turns t test body) leaves else skip s1)
      turn again s1 true =
          runs_bind (body s1) _ (fewer t n (body s1) (omega arith) (rb s1)) (λ b s2. then_runs _ (does (spot c pb c.words s2) (Jump q) at_end) (again s2))
      turn again s1 false = runs_at tt s1

  pub while_leg : (test body : Part) (mt mb : Runner) → Acts n c test mt → Acts n c body mb → Acts n c (Loop test IfFalse body) (turns n mt mb)
  while_leg test body mt mb lt lb =
      record {
        by = λ p k h s.
            let t = ops_of test p k in
            let q = p + length t in
            let j = k + length (kept_of test) in
            let b = ops_of body (q + 1) j in
            let e = q + 1 + length b + 1 in
            let rest = IfFalse e ∷ (b ++ Jump p ∷ []) in
            let at_rest = has_back c.code.ops p t rest h.0 in
            let len : e ≡ past (Loop test IfFalse body) p k = omega (arith, length-append t rest, length-append b (Jump p ∷ [])) in
            let kept_test = has_front c.code.kept k (kept_of test) (kept_of body) h.1 in
            let kept_body = has_back c.code.kept k (kept_of test) (kept_of body) h.1 in
            to_place (afterwards c (λ a. c.words)) e (past (Loop test IfFalse body) p k) (turns n mt mb s) len (
            while_runs p q (q + 1 + length b) e mt mb at_rest.0 (has_back c.code.ops (q + 1) b (Jump p ∷ []) at_rest.1).0
            (lt.by p k (has_front c.code.ops p t rest h.0, kept_test))
            (lb.by (q + 1) j (has_front c.code.ops (q + 1) b (Jump p ∷ []) at_rest.1, kept_body)) n (omega arith) s);
      }

  -- the loop of a `for`, with these members left
  abbrev pub looping : List ℕ → List (List ℕ) → Bool → Config
  looping x vs bound = record c { scopes = InLoop x vs bound ∷ c.scopes }

  each_step : (p pb e : ℕ) (x : List ℕ) (m : Runner) → slice_get c.code.ops p ≡ Some (op.Next e) → slice_get c.code.ops pb ≡ Some (Jump p)
      → ((vs : List (List ℕ)) (s : State) → Runs n (at (spot (looping x vs true) (p + 1) c.words s)) (λ a s1. at (spot (looping x vs true) pb c.words s1)) (InLoop x vs true ∷ c.scopes) (m s))
      → (vs : List (List ℕ)) (s : State) → Runs n (at (spot (looping x vs true) (p + 1) c.words s)) (λ a s1. at (spot (looping x [] true) p c.words s1)) (InLocal ∷ c.scopes)
      (under (m s) (λ a. each_more x vs m) leaves)
  each_step p pb e x m at_next at_end rb [] s =
      runs_bind (m s) _ (same_scopes (m s) (λ s owed. refl) (rb [] s)) (λ a s1.
      then_runs _ (does (spot (looping x [] true) pb c.words s1) (Jump p) at_end) (runs_at tt s1))
  each_step p pb e x m at_next at_end rb (v ∷ vs) s =
      runs_bind (m s) _ (same_scopes (m s) (λ s owed. refl) (rb (v ∷ vs) s)) (λ a s1.
      then_runs _ (does (spot (looping x (v ∷ vs) true) pb c.words s1) (Jump p) at_end) (
      then_runs _ (does (spot (looping x (v ∷ vs) true) p c.words s1) (op.Next e) at_next) (each_step p pb e x m at_next at_end rb vs (set_value s1 x (v ∷ [])))))

  each_runs : (p pb e : ℕ) (x : List ℕ) (m : Runner) → slice_get c.code.ops p ≡ Some (op.Next e) → slice_get c.code.ops pb ≡ Some (Jump p)
      → ((vs : List (List ℕ)) (s : State) → Runs n (at (spot (looping x vs true) (p + 1) c.words s)) (λ a s1. at (spot (looping x vs true) pb c.words s1)) (InLoop x vs true ∷ c.scopes) (m s))
      → (vs : List (List ℕ)) (s : State) → Runs n (at (spot (looping x vs false) p c.words s)) (λ a s1. at (spot c e c.words s1)) c.scopes (each x vs m s)
  each_runs p pb e x m at_next at_end rb [] s = then_runs _ (does (spot (looping x [] false) p c.words s) (op.Next e) at_next) (runs_at tt s)
  each_runs p pb e x m at_next at_end rb (v ∷ vs) s =
      let s' = push_local s x (v ∷ []) in
      then_runs _ (does (spot (looping x (v ∷ vs) false) p c.words s) (op.Next e) at_next) (
      runs_under c.scopes (under (m s') (λ a. each_more x vs m) leaves) _ _ (each_step p pb e x m at_next at_end rb vs s')
      (λ a s1. then_runs _ (does (spot (looping x [] true) p c.words s1) (op.Next e) at_next) (runs_at tt (pop_local s1)))
      (λ s1 owed. runs_exit (pop_local s1) owed))

  pub each_leg : (x : List ℕ) (vs : List (List ℕ)) (body : Part) (m : Runner) → ((vs : List (List ℕ)) → Acts n (looping x vs true) body m)
      → Leg n c.code (Loop Nothing op.Next body) (before (looping x vs false) c.words) (afterwards c (λ a. c.words)) c.scopes (each x vs m)
  each_leg x vs body m l =
      record {
        by = λ p k h s.
            let e = p + 0 + 1 + length (ops_of body (p + 0 + 1) (k + 0)) + 1 in
            let same_p : p + 0 ≡ p = omega arith in
            let same_k : k + 0 ≡ k = omega arith in
            let b = ops_of body (p + 1) k in
            let stands : HasAt c.code.ops (p + 1) (b ++ Jump p ∷ []) =
            subst (λ i. HasAt c.code.ops (p + 1) (ops_of body (p + 1) i ++ Jump p ∷ [])) same_k (
            subst (λ q. HasAt c.code.ops (p + 1) (ops_of body (q + 1) (k + 0) ++ Jump p ∷ [])) same_p h.0.1) in
            let at_body = has_front c.code.ops (p + 1) b (Jump p ∷ []) stands in
            let len : e ≡ past (Loop Nothing op.Next body) p k = omega (arith, length-append (ops_of body (p + 0 + 1) (k + 0)) (Jump p ∷ [])) in
            to_place (afterwards c (λ a. c.words)) e (past (Loop Nothing op.Next body) p k) (each x vs m s) len (
            each_runs p (p + 1 + length b) e x m h.0.0 (has_back c.code.ops (p + 1) b (Jump p ∷ []) stands).0
            (λ vs. (l vs).by (p + 1) k (at_body, h.1)) vs s);
      }

  -- ** pipelines

  -- the last stage
  abbrev pub piping : Option ℕ → List ℕ → Config
  piping read_end children = record c { scopes = InPipeline read_end children c.slots ∷ c.scopes; slots = from_pipe read_end c.slots }

  pub pipe_leg : (stages : Many stage) (last : Part) (m : Slots → Runner)
      → ((read_end : Option ℕ) (children : List ℕ) → Acts n (piping read_end children) last (m (from_pipe read_end c.slots)))
      → Acts n c (PastKeep op.Stages (KeptStages stages) (last ⨾ Do EndPipe)) (λ s. under (start_stages c.slots stages s) (piped c.slots m) leaves)
  pipe_leg stages last m l =
      record {
        by = λ p k h s.
            let inner = last ⨾ Do EndPipe in
            let q = past inner (p + 1) (k + 1) in
            let stands : Stands c.code (p + 1) (k + 1) inner = (h.0.1, h.1.1) in
            let at_last = stands_first c.code (p + 1) (k + 1) last (Do EndPipe) stands in
            let at_end = (stands_second c.code (p + 1) (k + 1) last (Do EndPipe) stands).0.0 in
            let pe = past last (p + 1) (k + 1) in
            let len : q ≡ past (PastKeep op.Stages (KeptStages stages) inner) p k = omega arith in
            let near : pe + 1 ≡ q = omega (arith, length-append (ops_of last (p + 1) (k + 1)) (EndPipe ∷ [])) in
            to_place (afterwards c (λ a. c.words)) q (past (PastKeep op.Stages (KeptStages stages) inner) p k) (under (start_stages c.slots stages s) (piped c.slots m) leaves) len (
            then_runs _ (does (spot c p c.words s) (op.Stages k q) h.0.0) (
            stages_runs (spot c p c.words s) (slice_get c.code.kept k) stages _ h.1.0 (
            settle_then (start_stages c.slots stages s) _ (piped c.slots m) (begun p q pe near at_end (λ r cs. (l r cs).by (p + 1) (k + 1) at_last)))));
      }
    where
      begun : (p q pe : ℕ) → pe + 1 ≡ q → slice_get c.code.ops pe ≡ Some EndPipe
          → ((r : Option ℕ) (cs : List ℕ) (s : State)
          → Runs n (at (spot (piping r cs) (p + 1) c.words s)) (λ a s1. at (spot (piping r cs) pe c.words s1)) (InPipeline r cs c.slots ∷ c.scopes) (m (from_pipe r c.slots) s))
          → (st : StartedStages) (s : State) → Runs n (mid (last_stage (spot c p c.words s) q st s)) (λ a s1. at (spot c q c.words s1)) c.scopes (piped c.slots m st s)
      begun p q pe near at_end r Refused s = runs_at tt s
      begun p q pe near at_end r (Running h cs) s =
          to_place (afterwards c (λ a. c.words)) (pe + 1) q (piped c.slots m (Running h cs) s) near (
          runs_under c.scopes (m (from_pipe h c.slots) s) _ _ (r h cs s)
          (λ a s1. then_runs _ (does (spot (piping h cs) pe c.words s1) EndPipe at_end) (acts_runs c pe c.words c.words (end_stages h cs) s1))
          (λ s1 owed. runs_close h _ _ (runs_exit s1 (owed ++ cs))))
