-- What a call of a world comes to where only its refusal matters.
use Rattle.std.proofs.Common.{arith, ℕ, ◌≡◌, ◌≤◌, refl, sym, ◌∙◌, ap, subst, List, Option, Some}
use Rattle.std.proofs.Common.{None, option_map, Result, Ok, Err, map, string_bytes, String, Vec, vec_len, IfOk, is_some, length}
use Rattle.std.specs.declared.alloc.Global.{Global}
use Rattle.std.specs.Prelude.{Bool, true, false, if◌then◌else◌}
use Rattle.std.proofs.lemmas.Bool.{le-leb}
use Rattle.rc_model.specs.Run.Calls.{Call, Answer, Event, file, pair, done, bytes, child, ended}
use Rattle.rc_model.specs.Run.Calls.{names, found, refused, extend, recorded_by, was_made, is_halt, want, taken_as, Want}
use Rattle.rc_model.specs.Run.Calls.{WantsFile, WantsPair, WantsDone, WantsBytes, WantsChild, WantsEnding, WantsNames, WantsKind}
use Rattle.rc_model.specs.Run.Calls.{as_file, as_pair, as_done, as_bytes, as_child, as_ending, as_names, as_kind}
use Rattle.rc_model.specs.Run.Plans.{Plan, done_with, asks, RanBetween}
use Rattle.rc_world.specs.Comes.{Comes, unless_refused, was_done}
use Rattle.rc_world.specs.Views.{answer_or_refused, file_answer, pair_answer, done_answer, bytes_answer, child_answer}
use Rattle.rc_world.specs.Views.{ending_answer, names_answer, kind_answer}
use Rattle.rc_model.specs.declared.call.Fault.{Fault}
use Rattle.rc_model.specs.declared.call.Fault.TheVariants.{NotFound, Denied, Exists, Broken, Full, Other, Halt, NoMemory}
use Rattle.rc_world.specs.declared.starts.Stop.{Stop}
use Rattle.rc_model.specs.declared.call.Handle.{Handle}
use Rattle.rc_model.specs.declared.call.ChildNo.{ChildNo}
use Rattle.rc_model.specs.declared.call.Ending.{Ending}
use Rattle.rc_model.specs.declared.call.Kind.{Kind}
use Rattle.law_plans.proofs.Runs.{ran_call}
use Rattle.rc_world.proofs.Joins.{left_no_memory, left_halt}

-- a refusal is taken in one way, whatever is wanted
same_refusal : (w : Want) (f : Fault) → taken_as w (refused f) ≡ taken_as WantsFile (refused f)
same_refusal WantsFile f = refl
same_refusal WantsPair f = refl
same_refusal WantsDone f = refl
same_refusal WantsBytes f = refl
same_refusal WantsChild f = refl
same_refusal WantsEnding f = refl
same_refusal WantsNames f = refl
same_refusal WantsKind f = refl

-- an answer is the value of a call, and is seen as that value
record Gives {V : Type 0} (c : Call) (seen : Answer → V) (x : Answer) (v : V) : Type 0 where
  made : was_made x ≡ true
  came : is_halt x ≡ false
  fits : taken_as (want c) x ≡ x
  viewed : seen x ≡ v

ran_asks : {V : Type 0} (a b : Option (List Event)) (c : Call) (seen : Answer → V) (x : Answer) (v : V) →
    Gives c seen x v → b ≡ extend a (recorded_by c x) → RanBetween a b (asks c seen) (done_with v)
ran_asks {V = V} a b c seen x v g h =
    let P : V → Type 0 = λ v. RanBetween a b (asks c seen) (done_with v) in
    subst P g.viewed (ran_call a b c x (λ x. done_with (seen x)) g.made (record { came = g.came; fits = g.fits }) h)

-- a refusal, by a fault that is neither a halt nor memory that was refused
ran_refused : {V : Type 0} (a b : Option (List Event)) (c : Call) (seen : Answer → V) (f : Fault) (v : V) →
    was_made (refused f) ≡ true → is_halt (refused f) ≡ false → taken_as WantsFile (refused f) ≡ refused f → seen (refused f) ≡ v →
    b ≡ extend a (recorded_by c (refused f)) → RanBetween a b (asks c seen) (done_with v)
ran_refused a b c seen f v made came fits viewed h =
    ran_asks a b c seen (refused f) v (record { made = made; came = came; fits = same_refusal (want c) f ∙ fits; viewed = viewed }) h

-- the refusal of a call
refusal_comes : {T V : Type 0} (a b : Option (List Event)) (c : Call) (seen : Answer → V) (view : Option T → V) (f : Fault) →
    ((f : Fault) → seen (refused f) ≡ view None) → b ≡ extend a (recorded_by c (refused f)) →
    Comes a b (asks c seen) view (unless_refused (Err f))
refusal_comes a b c seen view Halt n h = left_halt a b c (λ x. done_with (seen x)) h
refusal_comes a b c seen view NoMemory n h = left_no_memory a b (asks c seen) h
refusal_comes a b c seen view NotFound n h = ran_refused a b c seen NotFound (view None) refl refl refl (n NotFound) h
refusal_comes a b c seen view Denied n h = ran_refused a b c seen Denied (view None) refl refl refl (n Denied) h
refusal_comes a b c seen view Exists n h = ran_refused a b c seen Exists (view None) refl refl refl (n Exists) h
refusal_comes a b c seen view Broken n h = ran_refused a b c seen Broken (view None) refl refl refl (n Broken) h
refusal_comes a b c seen view Full n h = ran_refused a b c seen Full (view None) refl refl refl (n Full) h
refusal_comes a b c seen view Other n h = ran_refused a b c seen Other (view None) refl refl refl (n Other) h

came_to : {T V : Type 0} (a b : Option (List Event)) (c : Call) (good : T → Answer) (seen : Answer → V) (view : Option T → V) (r : Result T Fault) →
    ((x : T) → r ≡ Ok x → Gives c seen (good x) (view (Some x))) → ((f : Fault) → seen (refused f) ≡ view None) →
    b ≡ extend a (recorded_by c (answer_or_refused good r)) → Comes a b (asks c seen) view (unless_refused r)
came_to a b c good seen view (Ok x) g n h = ran_asks a b c seen (good x) (view (Some x)) (g x refl) h
came_to a b c good seen view (Err f) g n h = refusal_comes a b c seen view f n h

ends_so : {T V : Type 0} (a b : Option (List Event)) (plan : Plan V) (view : T → V) (r s : Result T Stop) →
    s ≡ r → Comes a b plan view r → Comes a b plan view s
ends_so {T = T} a b plan view r s e h = let P : Result T Stop → Type 0 = λ s. Comes a b plan view s in subst P (sym e) h

-- the calls, by the kind of their answers
pub file_comes : (a b : Option (List Event)) (c : Call) (r : Result Handle Fault) (s : Result (Option Handle) Stop) →
    want c ≡ WantsFile → b ≡ extend a (recorded_by c (file_answer r)) → s ≡ unless_refused r → Comes a b (asks c as_file) (option_map (λ x. x.0)) s
file_comes a b c r s w h e =
    ends_so a b (asks c as_file) (option_map (λ x. x.0)) (unless_refused r) s e
    (came_to a b c (λ x. file x.0) as_file (option_map (λ x. x.0)) r
    (λ x o. record { made = refl; came = refl; fits = ap (λ w. taken_as w (file x.0)) w; viewed = refl }) (λ f. refl) h)

pub pair_comes : (a b : Option (List Event)) (c : Call) (r : Result (Handle × Handle) Fault) (s : Result (Option (Handle × Handle)) Stop) →
    want c ≡ WantsPair → b ≡ extend a (recorded_by c (pair_answer r)) → s ≡ unless_refused r → Comes a b (asks c as_pair) (option_map (λ x. (x.0.0, x.1.0))) s
pair_comes a b c r s w h e =
    ends_so a b (asks c as_pair) (option_map (λ x. (x.0.0, x.1.0))) (unless_refused r) s e
    (came_to a b c (λ x. pair x.0.0 x.1.0) as_pair (option_map (λ x. (x.0.0, x.1.0))) r
    (λ x o. record { made = refl; came = refl; fits = ap (λ w. taken_as w (pair x.0.0 x.1.0)) w; viewed = refl }) (λ f. refl) h)

pub child_comes : (a b : Option (List Event)) (c : Call) (r : Result ChildNo Fault) (s : Result (Option ChildNo) Stop) →
    want c ≡ WantsChild → b ≡ extend a (recorded_by c (child_answer r)) → s ≡ unless_refused r → Comes a b (asks c as_child) (option_map (λ x. x.0)) s
child_comes a b c r s w h e =
    ends_so a b (asks c as_child) (option_map (λ x. x.0)) (unless_refused r) s e
    (came_to a b c (λ x. child x.0) as_child (option_map (λ x. x.0)) r
    (λ x o. record { made = refl; came = refl; fits = ap (λ w. taken_as w (child x.0)) w; viewed = refl }) (λ f. refl) h)

pub ending_comes : (a b : Option (List Event)) (c : Call) (r : Result Ending Fault) (s : Result (Option Ending) Stop) →
    want c ≡ WantsEnding → b ≡ extend a (recorded_by c (ending_answer r)) → s ≡ unless_refused r → Comes a b (asks c as_ending) (λ x. x) s
ending_comes a b c r s w h e =
    ends_so a b (asks c as_ending) (λ x. x) (unless_refused r) s e
    (came_to a b c (λ x. ended x) as_ending (λ x. x) r
    (λ x o. record { made = refl; came = refl; fits = ap (λ w. taken_as w (ended x)) w; viewed = refl }) (λ f. refl) h)

pub names_comes : (a b : Option (List Event)) (c : Call)
    (r : Result (Vec (String Global) Global) Fault) (s : Result (Option (Vec (String Global) Global)) Stop) →
    want c ≡ WantsNames → b ≡ extend a (recorded_by c (names_answer r)) → s ≡ unless_refused r →
    Comes a b (asks c as_names) (option_map (λ x. map string_bytes x.items)) s
names_comes a b c r s w h e =
    ends_so a b (asks c as_names) (option_map (λ x. map string_bytes x.items)) (unless_refused r) s e
    (came_to a b c (λ x. names (map string_bytes x.items)) as_names (option_map (λ x. map string_bytes x.items)) r
    (λ x o. record { made = refl; came = refl; fits = ap (λ w. taken_as w (names (map string_bytes x.items))) w; viewed = refl }) (λ f. refl) h)

pub kind_comes : (a b : Option (List Event)) (c : Call) (r : Result Kind Fault) (s : Result (Option Kind) Stop) →
    want c ≡ WantsKind → b ≡ extend a (recorded_by c (kind_answer r)) → s ≡ unless_refused r → Comes a b (asks c as_kind) (λ x. x) s
kind_comes a b c r s w h e =
    ends_so a b (asks c as_kind) (λ x. x) (unless_refused r) s e
    (came_to a b c (λ x. found x) as_kind (λ x. x) r
    (λ x o. record { made = refl; came = refl; fits = ap (λ w. taken_as w (found x)) w; viewed = refl }) (λ f. refl) h)

bounded : (r : Result (Vec ℕ Global) Fault) (x : Vec ℕ Global) → IfOk r (λ x. vec_len x ≤ 4096) → r ≡ Ok x → vec_len x ≤ 4096
bounded r x l o = let P : Result (Vec ℕ Global) Fault → Type 0 = λ r. IfOk r (λ x. vec_len x ≤ 4096) in subst P o l

-- a read within its bound
fits_read : (x : Vec ℕ Global) → vec_len x ≤ 4096 → taken_as WantsBytes (bytes x.items) ≡ bytes x.items
fits_read x l =
    let short : length x.items ≤ 4096 = omega (arith, l, x.ok.0) in
    ap (λ m. if m then bytes x.items else refused Other) (le-leb (length x.items) 4096 short)

pub bytes_comes : (a b : Option (List Event)) (c : Call) (r : Result (Vec ℕ Global) Fault) (s : Result (Option (Vec ℕ Global)) Stop) →
    want c ≡ WantsBytes → IfOk r (λ x. vec_len x ≤ 4096) → b ≡ extend a (recorded_by c (bytes_answer r)) → s ≡ unless_refused r →
    Comes a b (asks c as_bytes) (option_map (λ x. x.items)) s
bytes_comes a b c r s w l h e =
    ends_so a b (asks c as_bytes) (option_map (λ x. x.items)) (unless_refused r) s e
    (came_to a b c (λ x. bytes x.items) as_bytes (option_map (λ x. x.items)) r
    (λ x o. record { made = refl; came = refl; fits = ap (λ w. taken_as w (bytes x.items)) w ∙ fits_read x (bounded r x l o); viewed = refl }) (λ f. refl) h)

-- what gives nothing is done or not
done_to : (a b : Option (List Event)) (plan : Plan Bool) (r : Result (Unit {0}) Fault) →
    Comes a b plan is_some (unless_refused r) → Comes a b plan (λ x. x) (was_done r)
done_to a b plan (Ok x) h = h
done_to a b plan (Err NotFound) h = h
done_to a b plan (Err Denied) h = h
done_to a b plan (Err Exists) h = h
done_to a b plan (Err Broken) h = h
done_to a b plan (Err Full) h = h
done_to a b plan (Err Other) h = h
done_to a b plan (Err Halt) h = h
done_to a b plan (Err NoMemory) h = h

pub done_comes : (a b : Option (List Event)) (c : Call) (r : Result (Unit {0}) Fault) (s : Result Bool Stop) →
    want c ≡ WantsDone → b ≡ extend a (recorded_by c (done_answer r)) → s ≡ was_done r → Comes a b (asks c as_done) (λ x. x) s
done_comes a b c r s w h e = ends_so a b (asks c as_done) (λ x. x) (was_done r) s e (done_to a b (asks c as_done) r (came_to a b c (λ x. done) as_done is_some r
    (λ x o. record { made = refl; came = refl; fits = ap (λ w. taken_as w done) w; viewed = refl }) (λ f. refl) h))
