-- The greedy match decides the relation, within as many moves as pattern times text.
use Rattle.std.proofs.Common.{◌≡◌, ℕ, zero, suc, ◌+◌, ◌*◌, ◌<◌, ◌≤◌, Bool, true, false, cond, List, [], ◌∷◌, length, Option, Some, None, refl, sym, ap, ◌∙◌, ◌⊎◌, inl, inr, arith, ◌&&◌}
use Rattle.std.proofs.Math.Nat.{mul-le-mul_left, mul-suc}
use Rattle.rc_model.specs.Syntax.Words.{Word, has_pattern}
use Rattle.rc_model.specs.Run.Patterns.{parts_from, parts_match, Outside, stands_for, is_dots, matches}
use Rattle.rc_model.specs.Run.Matching.{Role, Star, Question, Open, Plain, role, Fits}
use Rattle.rc_model.specs.Mirrors.Greedy.{after_one, star_by, past_one, one_move, move_by, goes_back, after_move, greedy_from, greedy}
use Rattle.law_values.proofs.Steps.{FitsLater, FitsOne, Fits-cons, no_one, nothing_fits, after_one-shorter, Claim, claim_start, claim_star, claim_one, claim_back, claim_end, claim_fails, Back, no_way}
use Rattle.law_values.proofs.Computed.{parts_match-Fits, Fits-parts_match}

-- the answer is there, and it is right
abbrev Decides : Bool → Word → List ℕ → Option Bool → Type 0
Decides e W T o = ((o ≡ Some true) × Fits e W T) ⊎ ((o ≡ Some false) × (Fits e W T → ⊥))

-- what is left to do is less than n
record InTime (n k : ℕ) (w : Word) (t : List ℕ) (bw : Word) (bt : List ℕ) : Type 0 where
  pub word : length w ≤ k
  pub back : length bw ≤ k
  pub text : length t ≤ length bt
  pub time : suc k * length bt + length w < n

time_star : (n k : ℕ) (m : ℕ × Bool) (w : Word) (t : List ℕ) (bw : Word) (bt : List ℕ) → InTime (suc n) k (m ∷ w) t bw bt → InTime n k w t w t
time_star n k m w t bw bt i =
    let q : suc k * length t ≤ suc k * length bt = mul-le-mul_left (suc k) i.text in
    record { word = omega arith; back = omega arith; text = omega arith; time = omega arith }

time_one : (n k : ℕ) (w v : Word) (c : ℕ) (t : List ℕ) (bw : Word) (bt : List ℕ) → length v < length w → InTime (suc n) k w (c ∷ t) bw bt → InTime n k v t bw bt
time_one n k w v c t bw bt l i = record { word = omega arith; back = i.back; text = omega arith; time = omega arith }

time_back : (n k : ℕ) (w : Word) (t : List ℕ) (bw : Word) (c : ℕ) (bt : List ℕ) → InTime (suc n) k w t bw (c ∷ bt) → InTime n k bw bt bw bt
time_back n k w t bw c bt i =
    let q : suc k * suc (length bt) ≤ suc k * length (c ∷ bt) = omega arith in
    let r : suc k * (length bt + 1) ≤ suc k * length (c ∷ bt) = mul-le-mul_left (suc k) (omega arith) in
    record { word = i.back; back = i.back; text = omega arith; time = omega arith }

module _ (e : Bool) (W : Word) (T : List ℕ) where
  -- from any place on, with n moves
  abbrev Decided : ℕ → Type 0
  Decided n = (w : Word) (t : List ℕ) (s : Bool) (bw : Word) (bt : List ℕ) → Claim e W T w t s bw bt → InTime n (length W) w t bw bt → Decides e W T (greedy_from n e w t s bw bt)

  may_not : (bw : Word) (c : ℕ) (bt : List ℕ) → stands_for e c ≡ false → Back e true bw (c ∷ bt) → ⊥
  may_not bw c bt h b = let d : c ≡ b.1.0 = cc in no_way (sym h ∙ ap (stands_for e) d ∙ b.1.3)

  none_left : (bw : Word) → Back e true bw [] → ⊥
  none_left bw b = let q = b.1.2 in cc

  miss_by : (n : ℕ) → Decided n → (w : Word) (t : List ℕ) (bw : Word) (c : ℕ) (bt : List ℕ) (b : Bool) → stands_for e c ≡ b → (Fits e w t → ⊥)
      → Claim e W T w t true bw (c ∷ bt) → InTime (suc n) (length W) w t bw (c ∷ bt) →
      Decides e W T (cond b (greedy_from n e bw bt true bw bt) (Some false))
  miss_by n hyp w t bw c bt true h no_fit k i = hyp bw bt true bw bt (claim_back e W T w t bw c bt h no_fit k) (time_back n (length W) w t bw c bt i)
  miss_by n hyp w t bw c bt false h no_fit k i = inr (refl, claim_fails e W T w t true bw (c ∷ bt) no_fit (may_not bw c bt h) k)

  miss : (n : ℕ) → Decided n → (w : Word) (t : List ℕ) (s : Bool) (bw : Word) (bt : List ℕ) → (Fits e w t → ⊥) → Claim e W T w t s bw bt → InTime (suc n) (length W) w t bw bt →
      Decides e W T (goes_back (greedy_from n e) e s bw bt)
  miss n hyp w t false bw bt no_fit k i = inr (refl, claim_fails e W T w t false bw bt no_fit (λ b. no_way b.0) k)
  miss n hyp w t true bw [] no_fit k i = inr (refl, claim_fails e W T w t true bw [] no_fit (none_left bw) k)
  miss n hyp w t true bw (c ∷ bt) no_fit k i = miss_by n hyp w t bw c bt (stands_for e c) refl no_fit k i

  nothing_left : (m : ℕ × Bool) (w : Word) → (role m ≡ Star → ⊥) → ((role m ≡ Star) × FitsLater e w []) ⊎ FitsOne e (m ∷ w) [] → ⊥
  nothing_left m w n (inl x) = n x.0
  nothing_left m w n (inr o) = let q = o.3 in cc

  one_by_one : (n : ℕ) → Decided n → (m : ℕ × Bool) (w : Word) (c : ℕ) (t : List ℕ) (s : Bool) (bw : Word) (bt : List ℕ) (o : Option Word) → (role m ≡ Star → ⊥) → after_one e (m ∷ w) c ≡ o →
      Claim e W T (m ∷ w) (c ∷ t) s bw bt → InTime (suc n) (length W) (m ∷ w) (c ∷ t) bw bt →
      Decides e W T (after_move (greedy_from n e) e (past_one c t o) (c ∷ t) s bw bt)
  one_by_one n hyp m w c t s bw bt None k q claim i = miss n hyp (m ∷ w) (c ∷ t) s bw bt (no_one e m w c t k q) claim i
  one_by_one n hyp m w c t s bw bt (Some v) k q claim i =
      hyp v t (s && stands_for e c) bw bt (claim_one e W T (m ∷ w) c v t s bw bt q claim) (time_one n (length W) (m ∷ w) v c t bw bt (after_one-shorter e (m ∷ w) c v q) i)

  one : (n : ℕ) → Decided n → (m : ℕ × Bool) (w : Word) (t : List ℕ) (s : Bool) (bw : Word) (bt : List ℕ) → (role m ≡ Star → ⊥)
      → Claim e W T (m ∷ w) t s bw bt → InTime (suc n) (length W) (m ∷ w) t bw bt →
      Decides e W T (after_move (greedy_from n e) e (one_move e (m ∷ w) t) t s bw bt)
  one n hyp m w [] s bw bt k claim i = miss n hyp (m ∷ w) [] s bw bt (λ f. nothing_left m w k (Fits-cons f)) claim i
  one n hyp m w (c ∷ t) s bw bt k claim i = one_by_one n hyp m w c t s bw bt (after_one e (m ∷ w) c) k refl claim i

  other : (m : ℕ × Bool) (k : Role) → role m ≡ k → (k ≡ Star → ⊥) → role m ≡ Star → ⊥
  other m k q h r = h (sym q ∙ r)

  at_kind : (n : ℕ) → Decided n → (m : ℕ × Bool) (w : Word) (t : List ℕ) (s : Bool) (bw : Word) (bt : List ℕ) (k : Role) → role m ≡ k
      → Claim e W T (m ∷ w) t s bw bt → InTime (suc n) (length W) (m ∷ w) t bw bt →
      Decides e W T (after_move (greedy_from n e) e (move_by e (star_by k w) (m ∷ w) t) t s bw bt)
  at_kind n hyp m w t s bw bt Star q claim i = hyp w t true w t (claim_star e W T m w t s bw bt q claim) (time_star n (length W) m w t bw bt i)
  at_kind n hyp m w t s bw bt Question q claim i = one n hyp m w t s bw bt (other m Question q (λ z. cc)) claim i
  at_kind n hyp m w t s bw bt Open q claim i = one n hyp m w t s bw bt (other m Open q (λ z. cc)) claim i
  at_kind n hyp m w t s bw bt Plain q claim i = one n hyp m w t s bw bt (other m Plain q (λ z. cc)) claim i

  decided : (n : ℕ) → Decided n
  decided zero w t s bw bt claim i = absurd (omega arith)
  decided (suc n) [] [] s bw bt claim i = inl (refl, claim_end e W T s bw bt claim)
  decided (suc n) [] (c ∷ t) s bw bt claim i = miss n (decided n) [] (c ∷ t) s bw bt (nothing_fits e c t) claim i
  decided (suc n) (m ∷ w) t s bw bt claim i = at_kind n (decided n) m w t s bw bt (role m) refl claim i

enough : (k n : ℕ) → suc k * n + k < suc k * suc n
enough k n = let q : suc k * suc n ≡ suc k * n + suc k = mul-suc (suc k) n in omega arith

in_time : (W : Word) (T : List ℕ) → InTime (suc (length W) * suc (length T)) (length W) W T W T
in_time W T = record { word = omega arith; back = omega arith; text = omega arith; time = enough (length W) (length T) }

same_answer : (e : Bool) (W : Word) (T : List ℕ) (o : Option Bool) (b : Bool) → parts_match e (parts_from Outside W) T ≡ b → Decides e W T o → o ≡ Some b
same_answer e W T o true h (inl x) = x.0
same_answer e W T o false h (inl x) = no_way (sym h ∙ Fits-parts_match e W T x.1)
same_answer e W T o true h (inr x) = absurd (x.1 (parts_match-Fits e W T h))
same_answer e W T o false h (inr x) = x.0

guard_by : (g : Bool) (o : Option Bool) (b : Bool) → o ≡ Some b → cond g (Some false) o ≡ Some (cond g false b)
guard_by true o b h = refl
guard_by false o b h = h

-- without regard to `.` and `..`
pub greedy_from-is : (e : Bool) (w : Word) (t : List ℕ) → greedy_from (suc (length w) * suc (length t)) e w t false w t ≡ Some (parts_match e (parts_from Outside w) t)
greedy_from-is e w t =
    same_answer e w t (greedy_from (suc (length w) * suc (length t)) e w t false w t) (parts_match e (parts_from Outside w) t) refl
    (decided e w t (suc (length w) * suc (length t)) w t false w t (claim_start e w t w t) (in_time w t))

pub greedy-is : (e : Bool) (w : Word) (t : List ℕ) → greedy e w t ≡ Some (matches w t e)
unfolding matches
greedy-is e w t =
    guard_by (e && (has_pattern w && is_dots t)) (greedy_from (suc (length w) * suc (length t)) e w t false w t) (parts_match e (parts_from Outside w) t) (greedy_from-is e w t)
