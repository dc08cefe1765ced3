-- What the calls and the end of a plan are that keeps everything.
use Rattle.std.proofs.Common.{◌≡◌, ℕ, List, [], ◌∷◌, ◌++◌, Bool, true, false, refl, sym, ap, ◌∙◌, subst, Option, Some, None}
use Rattle.std.specs.Prelude.{if◌then◌else◌}
use Rattle.rc_model.specs.Run.Calls.{Call, Launch, start, Answer, Event, fitting, is_halt, calls, answers}
use Rattle.rc_model.specs.Run.Plans.{Plan, done_with, ask, cut, Played, Ends, Waits, Cut, after_call, play, calls_made}
use Rattle.rc_model.specs.Run.State.{State}
use Rattle.rc_model.specs.Run.Script.{whole}
use Rattle.rc_model.specs.Handed.Started.{plan_after, LaunchedByRule, CalledByRule, TracesStartByRule}
use Rattle.rc_model.specs.Handed.Proper.{IsProper}
use Rattle.rc_model.specs.Handed.HandedLaws.{ReadBackBy, ReadsBack, AllReadBack, ScriptsReadBack, EndsAreProper, TracesReadBack, TracesEndProper}
use Rattle.law_traces.proofs.Traces.{made_after}
use Rattle.law_handed.proofs.Safe.{Safe}
use Rattle.law_handed.proofs.Cmds.{safe_whole}

-- the calls read back what they hand over, and what was ended with is so
record PlayedSo {X : Type 0} (Q : X → Type 0) (r : Played X) : Type 0 where
  back : AllReadBack (calls_made r)
  end : (made : List Call) (x : X) (left : List Answer) → r ≡ Ends made x left → Q x

end_before : {X : Type 0} (Q : X → Type 0) (c : Call) (r : Played X) → PlayedSo Q r → (made : List Call) (x : X) (left : List Answer) → after_call c r ≡ Ends made x left → Q x
end_before Q c (Ends cs y rest) k made x left e = let same : y ≡ x = cc in subst Q same (k.end cs y rest refl)
end_before Q c (Waits cs) k made x left e = absurd cc
end_before Q c (Cut cs) k made x left e = absurd cc

played_by : {X : Type 0} (Q : X → Type 0) (c : Call) (r : Played X) (b : Bool) → ReadsBack c → PlayedSo Q r → PlayedSo Q (if b then Waits (c ∷ []) else after_call c r)
played_by Q c r true h k = record { back = (h, tt); end = λ made y left e. absurd cc }
played_by Q c r false h k = record { back = subst AllReadBack (sym (made_after c r)) (h, k.back); end = end_before Q c r k }

-- what is handed by a rule reads back
launched_back : {X : Type 0} (now : Plan X) (l : Launch) (o : Option (List ℕ)) → LaunchedByRule X now l o → ReadBackBy o l
launched_back now l None h = record { handed = record { tree = h.body; state = h.state; is = h.is; fits = h.fits }; tree = h.tree; state = h.proper; back = h.back }
launched_back now l (Some path) h = tt

called_back : {X : Type 0} (now : Plan X) (c : Call) → CalledByRule X now c → ReadsBack c
called_back now (start l) h = launched_back now l l.program h
called_back now _ h = tt

played : {X : Type 0} (Q : X → Type 0) (p : Plan X) → Safe p Q → (given : List Answer) → PlayedSo Q (play p given)
played Q (done_with x) k given = record { back = tt; end = λ made y left e. let same : x ≡ y = cc in subst Q same k }
played Q (ask c go) k [] = record { back = (called_back (ask c go) c k.0, tt); end = λ made y left e. absurd cc }
played Q (ask c go) k (x ∷ given) = played_by Q c (play (go (fitting c x)) given) (is_halt x) (called_back (ask c go) c k.0) (played Q (go (fitting c x)) (k.1 (fitting c x)) given)
played Q cut k given = record { back = tt; end = λ made y left e. absurd cc }

pub scripts_read_back : ScriptsReadBack
scripts_read_back n c s given b p = (played IsProper (whole n c s) (safe_whole n c s b p) given).back

pub ends_are_proper : EndsAreProper
ends_are_proper n c s t given left made b p e = (played IsProper (whole n c s) (safe_whole n c s b p) given).end made t left e

first_read_back : (front rest : List Call) → AllReadBack (front ++ rest) → AllReadBack front
first_read_back [] rest h = tt
first_read_back (c ∷ cs) rest h = (h.0, first_read_back cs rest h.1)

pub traces_read_back : TracesReadBack
traces_read_back c s trace b p g = first_read_back (calls trace) g.1.rest (subst AllReadBack g.1.is (scripts_read_back g.0 c s (answers trace) b p))

pub traces_end_proper : TracesEndProper
traces_end_proper c s t trace b p g = ends_are_proper g.0 c s t (answers trace) [] (calls trace) b p g.1

-- ** the rule of each start

safe_after : {X : Type 0} (Q : X → Type 0) (p : Plan X) (given : List Answer) → Safe p Q → Safe (plan_after p given) Q
safe_after Q (done_with x) given k = k
safe_after Q (ask c go) [] k = k
safe_after Q (ask c go) (a ∷ given) k = safe_after Q (go (fitting c a)) given (k.1 (fitting c a))
safe_after Q cut given k = tt

-- the call that a plan makes next
abbrev Next_ : {X : Type 0} → Plan X → Call → Type 0
Next_ {X = X} p c = (go : Answer → Plan X) × (p ≡ ask c go)

first_by : {X : Type 0} (c : Call) (r : Played X) (b : Bool) → (more : List Call) × (calls_made (if b then Waits (c ∷ []) else after_call c r) ≡ c ∷ more)
first_by c r true = ([], refl)
first_by c r false = (calls_made r, made_after c r)

first_made : {X : Type 0} (c : Call) (go : Answer → Plan X) (given : List Answer) → (more : List Call) × (calls_made (play (ask c go) given) ≡ c ∷ more)
first_made c go [] = ([], refl)
first_made c go (a ∷ given) = first_by c (play (go (fitting c a)) given) (is_halt a)

more_to_come : (before later : List Event) (e : Event) (rest : List Call) → [] ≡ calls (before ++ e ∷ later) ++ rest → ⊥
more_to_come [] later e rest h = absurd cc
more_to_come (b ∷ before) later e rest h = absurd cc

next_by : {X : Type 0} (c : Call) (go : Answer → Plan X) (b e : Event) (before later : List Event) (rest : List Call) (t : Bool) → is_halt b.answer ≡ t
    → (calls_made (play (go (fitting c b.answer)) (answers (before ++ e ∷ later))) ≡ calls (before ++ e ∷ later) ++ rest → Next_ (plan_after (go (fitting c b.answer)) (answers before)) e.call)
    → calls_made (play (ask c go) (if t then [] else b.answer ∷ answers (before ++ e ∷ later))) ≡ b.call ∷ (calls (before ++ e ∷ later) ++ rest)
    → Next_ (plan_after (ask c go) (if t then [] else b.answer ∷ answers before)) e.call
next_by c go b e before later rest true h ih k = let none : [] ≡ calls (before ++ e ∷ later) ++ rest = cc in absurd (more_to_come before later e rest none)
next_by c go b e before later rest false h ih k =
    let r = play (go (fitting c b.answer)) (answers (before ++ e ∷ later)) in
    let all : c ∷ calls_made r ≡ b.call ∷ (calls (before ++ e ∷ later) ++ rest) = sym (made_after c r) ∙ sym (ap (λ z. calls_made (if z then Waits (c ∷ []) else after_call c r)) h) ∙ k in
    let tail : calls_made r ≡ calls (before ++ e ∷ later) ++ rest = cc in
    ih tail

next_call : {X : Type 0} (p : Plan X) (before later : List Event) (e : Event) (rest : List Call)
    → calls_made (play p (answers (before ++ e ∷ later))) ≡ calls (before ++ e ∷ later) ++ rest → Next_ (plan_after p (answers before)) e.call
next_call (done_with x) before later e rest k = absurd (more_to_come before later e rest k)
next_call cut before later e rest k = absurd (more_to_come before later e rest k)
next_call (ask c go) [] later e rest k =
    let f = first_made c go (answers (e ∷ later)) in
    let same : c ≡ e.call = cc in
    (go, ap (λ z. ask z go) same)
next_call (ask c go) (b ∷ before) later e rest k = next_by c go b e before later rest (is_halt b.answer) refl (next_call (go (fitting c b.answer)) before later e rest) k

pub traces_start_by_rule : TracesStartByRule
traces_start_by_rule c s trace b p g before later e is =
    let p' = whole g.0 c s in
    let k : calls_made (play p' (answers (before ++ e ∷ later))) ≡ calls (before ++ e ∷ later) ++ g.1.rest = subst (λ z. calls_made (play p' (answers z)) ≡ calls z ++ g.1.rest) is g.1.is in
    let q = next_call p' before later e g.1.rest k in
    let safe = safe_after IsProper p' (answers before) (safe_whole g.0 c s b p) in
    (g.0, subst (λ z. CalledByRule State z e.call) (sym q.1) (subst (λ z. Safe z IsProper) q.1 safe).0)
