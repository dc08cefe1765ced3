-- The moves of a match.
use Rattle.std.proofs.Common.{◌≡◌, ◌&&◌, true, false, ℕ, zero, suc, ◌<◌, ◌≤◌, ◌+◌, ◌*◌, Bool, cond, List, [], ◌∷◌, length, Option, Some, None, refl, sym, ap, subst, ◌∙◌, arith}
use Rattle.std.proofs.Math.Nat.{mul-le-mul_left}
use Rattle.std.proofs.lemmas.List.{length-map}
use Rattle.std.proofs.lemmas.Option.{same_Some}
use Rattle.rc_model.specs.Syntax.Words.{Word}
use Rattle.rc_model.specs.Run.Patterns.{any_run, stands_for, parts_match, parts_from, Outside}
use Rattle.rc_model.specs.Mirrors.Greedy.{Matcher, after_one, after_star, Move, PastStar, PastOne, AtEnd, Miss, past_one, one_move, move_by, move, goes_back, after_move, greedy_from}
use Rattle.law_values.proofs.Going.{greedy_from-is}
use Rattle.law_values.proofs.Steps.{after_one-shorter}
use Rattle.rc_text.specs.declared.words.literal.Ch.{Ch}
use Rattle.rc_text.specs.Literals.{marks}
use Rattle.rc_glob.specs.Places.{first_place, later_place}
use Rattle.rc_glob.proofs.Reaching.{at_place, passes}

-- ** which move it is

pub star_move : (e : Bool) (w v : Word) (t : List ℕ) → after_star w ≡ Some v → move e w t ≡ PastStar v
star_move e w v t h = ap (λ o. move_by e o w t) h

one_char : (e : Bool) (w : Word) (c : ℕ) (t : List ℕ) → one_move e w (c ∷ t) ≡ past_one c t (after_one e w c)
one_char e [] c t = refl
one_char e (m ∷ w) c t = refl

pub char_move : (e : Bool) (w : Word) (c : ℕ) (all t : List ℕ) (o : Option Word) → after_star w ≡ None → all ≡ c ∷ t → after_one e w c ≡ o → move e w all ≡ past_one c t o
char_move e w c all t o h q k = ap (λ s. move_by e s w all) h ∙ ap (one_move e w) q ∙ one_char e w c t ∙ ap (past_one c t) k

pub end_move : (e : Bool) (w : Word) (t : List ℕ) → w ≡ [] → t ≡ [] → move e w t ≡ AtEnd
end_move e w t h k = ap (λ v. move e v t) h ∙ ap (move e []) k

at_end : (e : Bool) (w : Word) → (w ≡ [] → ⊥) → one_move e w [] ≡ Miss
at_end e [] n = absurd (n refl)
at_end e (m ∷ w) n = refl

pub late_move : (e : Bool) (w : Word) (t : List ℕ) → after_star w ≡ None → (w ≡ [] → ⊥) → t ≡ [] → move e w t ≡ Miss
late_move e w t h n k = ap (λ s. move_by e s w t) h ∙ ap (one_move e w) k ∙ at_end e w n

pub length-marks : (xs : List Ch) → length (marks xs) ≡ length xs
length-marks xs = simp length-map

pub after_shorter : (e : Bool) (w : List Ch) (c : ℕ) (v : List Ch) → after_one e (marks w) c ≡ Some (marks v) → length v < length w
after_shorter e w c v h = let l = after_one-shorter e (marks w) c (marks v) h in omega (arith, length-marks w, length-marks v)

-- ** what is left to do

-- from here the match comes to this answer
pub record Going (e : Bool) (answer : Bool) (w : Word) (t : List ℕ) (s : Bool) (bw : Word) (bt : List ℕ) : Type 0 where
  pub moves : ℕ
  pub is : greedy_from moves e w t s bw bt ≡ Some answer

pub going_start : (e : Bool) (w : Word) (t : List ℕ) → Going e (parts_match e (parts_from Outside w) t) w t false w t
going_start e w t = record { moves = suc (length w) * suc (length t); is = greedy_from-is e w t }

-- after a move
next_by : (e a : Bool) (w : Word) (t : List ℕ) (s : Bool) (bw : Word) (bt : List ℕ) (n : ℕ) (m : Move) → move e w t ≡ m → greedy_from n e w t s bw bt ≡ Some a →
    (k : ℕ) × (after_move (greedy_from k e) e m t s bw bt ≡ Some a)
next_by e a w t s bw bt zero m q h = cc
next_by e a w t s bw bt (suc k) m q h = (k, ap (λ m. after_move (greedy_from k e) e m t s bw bt) (sym q) ∙ h)

going_star : (e a : Bool) (w v : Word) (t : List ℕ) (s : Bool) (bw : Word) (bt : List ℕ) → move e w t ≡ PastStar v → Going e a w t s bw bt → Going e a v t true v t
going_star e a w v t s bw bt q g = let n = next_by e a w t s bw bt g.moves (PastStar v) q g.is in record { moves = n.0; is = n.1 }

pub going_one : (e a : Bool) (w v : Word) (c : ℕ) (t u : List ℕ) (s r : Bool) (bw : Word) (bt : List ℕ) →
    move e w t ≡ PastOne c v u → r ≡ (s && stands_for e c) → Going e a w t s bw bt → Going e a v u r bw bt
going_one e a w v c t u s r bw bt q h g =
    let n = next_by e a w t s bw bt g.moves (PastOne c v u) q g.is in record { moves = n.0; is = ap (λ z. greedy_from n.0 e v u z bw bt) h ∙ n.1 }

pub going_end : (e a : Bool) (w : Word) (t : List ℕ) (s : Bool) (bw : Word) (bt : List ℕ) → move e w t ≡ AtEnd → Going e a w t s bw bt → true ≡ a
going_end e a w t s bw bt q g = same_Some true a (next_by e a w t s bw bt g.moves AtEnd q g.is).1

-- back to the star
back_by : (e a : Bool) (w : Word) (t : List ℕ) (s : Bool) (bw : Word) (bt : List ℕ) → move e w t ≡ Miss → Going e a w t s bw bt → (k : ℕ) × (goes_back (greedy_from k e) e s bw bt ≡ Some a)
back_by e a w t s bw bt q g = next_by e a w t s bw bt g.moves Miss q g.is

going_back : (e a : Bool) (w : Word) (t : List ℕ) (s : Bool) (bw : Word) (c : ℕ) (bt more : List ℕ) →
    move e w t ≡ Miss → s ≡ true → bt ≡ c ∷ more → stands_for e c ≡ true → Going e a w t s bw bt →
    Going e a bw more s bw more
going_back e a w t s bw c bt more q h k may g =
    let n = back_by e a w t s bw bt q g in
    record {
      moves = n.0;
      is = ap (λ z. greedy_from n.0 e bw more z bw more) h
          ∙ ap (λ b. cond b (greedy_from n.0 e bw more true bw more) (Some false)) (sym may)
          ∙ ap (goes_back (greedy_from n.0 e) e true bw) (sym k)
          ∙ ap (λ z. goes_back (greedy_from n.0 e) e z bw bt) (sym h)
          ∙ n.1;
    }

pub no_star : (e a : Bool) (w : Word) (t : List ℕ) (s : Bool) (bw : Word) (bt : List ℕ) → move e w t ≡ Miss → s ≡ false → Going e a w t s bw bt → false ≡ a
no_star e a w t s bw bt q h g =
    let n = back_by e a w t s bw bt q g in same_Some false a (ap (λ z. goes_back (greedy_from n.0 e) e z bw bt) (sym h) ∙ n.1)

no_text : (e a : Bool) (w : Word) (t : List ℕ) (s : Bool) (bw : Word) (bt : List ℕ) → move e w t ≡ Miss → s ≡ true → bt ≡ [] → Going e a w t s bw bt → false ≡ a
no_text e a w t s bw bt q h k g =
    let n = back_by e a w t s bw bt q g in
    same_Some false a (ap (goes_back (greedy_from n.0 e) e true bw) (sym k) ∙ ap (λ z. goes_back (greedy_from n.0 e) e z bw bt) (sym h) ∙ n.1)

no_further : (e a : Bool) (w : Word) (t : List ℕ) (s : Bool) (bw : Word) (c : ℕ) (bt more : List ℕ) →
    move e w t ≡ Miss → s ≡ true → bt ≡ c ∷ more → stands_for e c ≡ false → Going e a w t s bw bt → false ≡ a
no_further e a w t s bw c bt more q h k may g =
    let n = back_by e a w t s bw bt q g in
    same_Some false a (
    ap (λ b. cond b (greedy_from n.0 e bw more true bw more) (Some false)) (sym may)
    ∙ ap (goes_back (greedy_from n.0 e) e true bw) (sym k)
    ∙ ap (λ z. goes_back (greedy_from n.0 e) e z bw bt) (sym h)
    ∙ n.1
    )

-- ** one answer

same_by : (e a b : Bool) (go back : Matcher) (s : Bool) (bw : Word) (bt : List ℕ) →
    ((w : Word) (t : List ℕ) (s : Bool) (bw : Word) (bt : List ℕ) → go w t s bw bt ≡ Some a →
    back w t s bw bt ≡ Some b → a ≡ b) →
    (m : Bool) → cond m (go bw bt true bw bt) (Some false) ≡ Some a → cond m (back bw bt true bw bt) (Some false) ≡ Some b → a ≡ b
same_by e a b go back s bw bt f true h k = f bw bt true bw bt h k
same_by e a b go back s bw bt f false h k = same_Some a b (sym h ∙ k)

same_back : (e a b : Bool) (go back : Matcher) → ((w : Word) (t : List ℕ) (s : Bool) (bw : Word) (bt : List ℕ) → go w t s bw bt ≡ Some a → back w t s bw bt ≡ Some b → a ≡ b) →
    (s : Bool) (bw : Word) (bt : List ℕ) → goes_back go e s bw bt ≡ Some a → goes_back back e s bw bt ≡ Some b → a ≡ b
same_back e a b go back f false bw bt h k = same_Some a b (sym h ∙ k)
same_back e a b go back f true bw [] h k = same_Some a b (sym h ∙ k)
same_back e a b go back f true bw (c ∷ bt) h k = same_by e a b go back true bw bt f (stands_for e c) h k

same_move : (e a b : Bool) (go back : Matcher) → ((w : Word) (t : List ℕ) (s : Bool) (bw : Word) (bt : List ℕ) → go w t s bw bt ≡ Some a → back w t s bw bt ≡ Some b → a ≡ b) →
    (m : Move) (t : List ℕ) (s : Bool) (bw : Word) (bt : List ℕ) → after_move go e m t s bw bt ≡ Some a → after_move back e m t s bw bt ≡ Some b → a ≡ b
same_move e a b go back f (PastStar v) t s bw bt h k = f v t true v t h k
same_move e a b go back f (PastOne c v u) t s bw bt h k = f v u (s && stands_for e c) bw bt h k
same_move e a b go back f AtEnd t s bw bt h k = same_Some a b (sym h ∙ k)
same_move e a b go back f Miss t s bw bt h k = same_back e a b go back f s bw bt h k

-- whatever the number of moves
same_answer : (e a b : Bool) (n k : ℕ) (w : Word) (t : List ℕ) (s : Bool) (bw : Word) (bt : List ℕ) → greedy_from n e w t s bw bt ≡ Some a → greedy_from k e w t s bw bt ≡ Some b → a ≡ b
same_answer e a b zero k w t s bw bt g h = cc
same_answer e a b (suc n) zero w t s bw bt g h = cc
same_answer e a b (suc n) (suc k) w t s bw bt g h = same_move e a b (greedy_from n e) (greedy_from k e) (same_answer e a b n k) (move e w t) t s bw bt g h

-- ** after a star

-- the star and the word after it match the text
abbrev pub star_match : Bool → Word → List ℕ → Bool
star_match e w t = any_run e (parts_match e (parts_from Outside w)) t

going_behind : (e : Bool) (v : Word) (t : List ℕ) → Going e (star_match e v t) v t true v t
going_behind e v t = going_star e (star_match e v t) ((42, true) ∷ v) v t false ((42, true) ∷ v) t refl (going_start e ((42, true) ∷ v) t)

going_is : (e a : Bool) (v : Word) (t : List ℕ) → Going e a v t true v t → a ≡ star_match e v t
going_is e a v t g = let h = going_behind e v t in same_answer e a (star_match e v t) g.moves h.moves v t true v t g.is h.is

-- nothing but these rests is matched by the word
abbrev pub Starts : (List ℕ → Bool) → Word → Type 0
Starts test w = (e : Bool) (x : List ℕ) → parts_match e (parts_from Outside w) x ≡ true → test x ≡ true

place_is : (e a : Bool) (v : Word) (t : List ℕ) (test : List ℕ → Bool) (o : Option (List ℕ)) → Starts test v → o ≡ first_place e test t → Going e a v t true v t → a ≡ at_place (star_match e v) o
place_is e a v t test o n q g =
    going_is e a v t g ∙ passes e test (parts_match e (parts_from Outside v)) t (n e) ∙ ap (at_place (star_match e v)) (sym q)

going_at : (e a : Bool) (v : Word) (u : List ℕ) → a ≡ star_match e v u → Going e a v u true v u
going_at e a v u h = subst (λ z. Going e z v u true v u) (sym h) (going_behind e v u)

pub star_place : (e a : Bool) (w v : Word) (t u : List ℕ) (s : Bool) (bw : Word) (bt : List ℕ) (test : List ℕ → Bool) → move e w t ≡ PastStar v → Starts test v → Some u ≡ first_place e test t →
    Going e a w t s bw bt → Going e a v u true v u
star_place e a w v t u s bw bt test m n q g = going_at e a v u (place_is e a v t test (Some u) n q (going_star e a w v t s bw bt m g))

pub star_nowhere : (e a : Bool) (w v : Word) (t : List ℕ) (s : Bool) (bw : Word) (bt : List ℕ) (test : List ℕ → Bool) → move e w t ≡ PastStar v → Starts test v → None ≡ first_place e test t →
    Going e a w t s bw bt → false ≡ a
star_nowhere e a w v t s bw bt test m n q g = sym (place_is e a v t test None n q (going_star e a w v t s bw bt m g))

-- ** back to the star, and on to the next place

later_by : (e a : Bool) (w : Word) (t : List ℕ) (bw : Word) (c : ℕ) (bt : List ℕ) (test : List ℕ → Bool) (b : Bool) →
    stands_for e c ≡ b → move e w t ≡ Miss → Starts test bw → Going e a w t true bw (c ∷ bt) →
    a ≡ at_place (star_match e bw) (cond b (first_place e test bt) None)
later_by e a w t bw c bt test true h m n g = place_is e a bw bt test (first_place e test bt) n refl (going_back e a w t true bw c (c ∷ bt) bt m refl refl h g)
later_by e a w t bw c bt test false h m n g = sym (no_further e a w t true bw c (c ∷ bt) bt m refl refl h g)

later_is : (e a : Bool) (w : Word) (t : List ℕ) (bw : Word) (bt : List ℕ) (test : List ℕ → Bool) → move e w t ≡ Miss → Starts test bw → Going e a w t true bw bt →
    a ≡ at_place (star_match e bw) (later_place e test bt)
later_is e a w t bw [] test m n g = sym (no_text e a w t true bw [] m refl refl g)
later_is e a w t bw (c ∷ bt) test m n g = later_by e a w t bw c bt test (stands_for e c) refl m n g

at_star : (e a : Bool) (w : Word) (t : List ℕ) (s : Bool) (bw : Word) (bt : List ℕ) → s ≡ true → Going e a w t s bw bt → Going e a w t true bw bt
at_star e a w t s bw bt h g = subst (λ z. Going e a w t z bw bt) h g

pub back_place : (e a : Bool) (w : Word) (t : List ℕ) (s : Bool) (bw : Word) (bt u : List ℕ) (test : List ℕ → Bool) → move e w t ≡ Miss → s ≡ true → Starts test bw → Some u ≡ later_place e test bt →
    Going e a w t s bw bt → Going e a bw u s bw u
back_place e a w t s bw bt u test m h n q g =
    let here = going_at e a bw u (later_is e a w t bw bt test m n (at_star e a w t s bw bt h g) ∙ ap (at_place (star_match e bw)) (sym q)) in
    subst (λ z. Going e a bw u z bw u) (sym h) here

pub back_nowhere : (e a : Bool) (w : Word) (t : List ℕ) (s : Bool) (bw : Word) (bt : List ℕ) (test : List ℕ → Bool) → move e w t ≡ Miss → s ≡ true → Starts test bw → None ≡ later_place e test bt →
    Going e a w t s bw bt → false ≡ a
back_nowhere e a w t s bw bt test m h n q g =
    sym (later_is e a w t bw bt test m n (at_star e a w t s bw bt h g) ∙ ap (at_place (star_match e bw)) (sym q))

-- ** the measure of a match

pub falls_back : (k b b' v w : ℕ) → b' < b → v ≤ k → (k + 1) * b' + v < (k + 1) * b + w
falls_back k b b' v w h l =
    let p : b' + 1 ≤ b = omega arith in
    let q : (k + 1) * (b' + 1) ≤ (k + 1) * b = mul-le-mul_left (k + 1) p in
    omega arith

pub falls_star : (k b b' v w : ℕ) → b' ≤ b → v < w → (k + 1) * b' + v < (k + 1) * b + w
falls_star k b b' v w h l =
    let q : (k + 1) * b' ≤ (k + 1) * b = mul-le-mul_left (k + 1) h in
    omega arith
