-- What a tape records when it plays one more call.
use Rattle.std.proofs.Common.{arith, ℕ, ◌≡◌, refl, sym, ◌∙◌, ap, List, [], ◌∷◌, ◌++◌, length, map, ◌<◌, ◌≤◌, ◌+◌, get_or, take}
use Rattle.std.specs.Prelude.{Bool, true, cond, not}
use Rattle.std.specs.List.{position_or_len, before_first}
use Rattle.std.proofs.lemmas.List.{take-map}
use Rattle.rc_model.specs.Run.Calls.{Call, Answer, file, pair, done, bytes, child, ended, names, found, refused}
use Rattle.rc_model.specs.Run.Calls.{event, is_halt, fitting, taken_as, want, Want, was_made, calls}
use Rattle.rc_model.specs.Run.Calls.{WantsFile, WantsPair, WantsDone, WantsBytes, WantsChild, WantsEnding, WantsNames, WantsKind}
use Rattle.rc_model.specs.declared.call.Fault.{Fault}
use Rattle.rc_model.specs.declared.call.Fault.TheVariants.{NotFound, Denied, Exists, Broken, Full, Other, Halt, NoMemory}
use Rattle.rc_world.specs.Tapes.{played, next_answer, refusal}
use Rattle.rc_world.specs.Views.{call_of, answer_of}
use Rattle.rc_world.specs.declared.event.Call.{Call as TapeCall}
use Rattle.rc_world.specs.declared.event.Answer.{Answer as TapeAnswer}

-- the first place, seen through a function
position_map : {X Y : Type 0} (p : Y → Bool) (f : X → Y) (xs : List X) → position_or_len p (map f xs) ≡ position_or_len (λ x. p (f x)) xs
position_map p f [] = refl
position_map p f (x ∷ xs) = ap (λ n. cond (not (p (f x))) (1 + n) 0) (position_map p f xs)

-- the answers before the first halt are those that a tape plays
pub cut_at_halt : (given kept : List TapeAnswer) (n : ℕ) →
    kept ≡ take n given → n ≡ position_or_len (λ a. is_halt (answer_of a)) given →
    map answer_of kept ≡ before_first is_halt (map answer_of given)
cut_at_halt given kept n k h =
    ap (map answer_of) k ∙ (sym (take-map answer_of n given) ∙ ap (λ n. take n (map answer_of given)) (h ∙ sym (position_map is_halt answer_of given)))

-- a halt fits each call
halt_fits : (w : Want) → refused Halt ≡ taken_as w (refused Halt)
halt_fits WantsFile = refl
halt_fits WantsPair = refl
halt_fits WantsDone = refl
halt_fits WantsBytes = refl
halt_fits WantsChild = refl
halt_fits WantsEnding = refl
halt_fits WantsNames = refl
halt_fits WantsKind = refl

-- one more call
pub played_push : (made : List TapeCall) (c : TapeCall) (answers : List Answer) (a : Answer) →
    a ≡ next_answer answers (map call_of made) →
    played (map call_of (made ++ c ∷ [])) answers ≡ played (map call_of made) answers ++ event (call_of c) (fitting (call_of c) a) ∷ []
played_push [] c [] a h = ap (λ a. event (call_of c) a ∷ []) (halt_fits (want (call_of c)) ∙ ap (fitting (call_of c)) (sym h))
played_push [] c (b ∷ answers) a h = ap (λ a. event (call_of c) (fitting (call_of c) a) ∷ []) (sym h)
played_push (d ∷ made) c [] a h = ap (λ es. event (call_of d) (refused Halt) ∷ es) (played_push made c [] a h)
played_push (d ∷ made) c (b ∷ answers) a h = ap (λ es. event (call_of d) (fitting (call_of d) b) ∷ es) (played_push made c answers a h)

-- all calls are recorded
pub played_calls : (made : List Call) (answers : List Answer) → made ≡ calls (played made answers)
played_calls [] answers = refl
played_calls (c ∷ made) [] = ap (λ cs. c ∷ cs) (played_calls made [])
played_calls (c ∷ made) (a ∷ answers) = ap (λ cs. c ∷ cs) (played_calls made answers)

-- the next answer by its place
pub next_at : (answers : List TapeAnswer) (made : List TapeCall) (n : ℕ) (a : TapeAnswer) →
    n ≡ length made → n < length answers → a ≡ get_or answers n a →
    answer_of a ≡ next_answer (map answer_of answers) (map call_of made)
next_at [] made n a e lt h = absurd (omega (arith, lt))
next_at (b ∷ answers) [] n a e lt h = ap answer_of (h ∙ ap (λ i. get_or (b ∷ answers) i a) e)
next_at (b ∷ answers) (c ∷ made) n a e lt h =
    let inside : length made < length answers = omega (arith, e, lt) in
    next_at answers made (length made) a refl inside (h ∙ ap (λ i. get_or (b ∷ answers) i a) e)

pub next_past : (answers : List TapeAnswer) (made : List TapeCall) (n : ℕ) →
    n ≡ length made → length answers ≤ n →
    refused Halt ≡ next_answer (map answer_of answers) (map call_of made)
next_past [] made n e h = refl
next_past (b ∷ answers) [] n e h = absurd (omega (arith, e, h))
next_past (b ∷ answers) (c ∷ made) n e h =
    let past : length answers ≤ length made = omega (arith, e, h) in
    next_past answers made (length made) refl past

-- a refusal of a tape is never out of memory
pub refusal_made : (a : Answer) (f : Fault) → refused f ≡ refusal a → was_made (refused f) ≡ true
refusal_made (refused NotFound) f h = ap was_made h
refusal_made (refused Denied) f h = ap was_made h
refusal_made (refused Exists) f h = ap was_made h
refusal_made (refused Broken) f h = ap was_made h
refusal_made (refused Full) f h = ap was_made h
refusal_made (refused Other) f h = ap was_made h
refusal_made (refused Halt) f h = ap was_made h
refusal_made (refused NoMemory) f h = ap was_made h
refusal_made (file n) f h = ap was_made h
refusal_made (pair r w) f h = ap was_made h
refusal_made done f h = ap was_made h
refusal_made (bytes b) f h = ap was_made h
refusal_made (child n) f h = ap was_made h
refusal_made (ended e) f h = ap was_made h
refusal_made (names ns) f h = ap was_made h
refusal_made (found k) f h = ap was_made h
