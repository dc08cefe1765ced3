-- Reading to the end, one answer after the other.
use Rattle.std.proofs.Common.{◌≡◌, ℕ, zero, suc, ◌+◌, ◌<◌, ◌≤◌, Bool, true, false, cond, List, [], ◌∷◌, ◌++◌, length, Option, Some, None, refl, sym, ap, subst, arith, length-append, codes}
use Rattle.std.specs.Prelude.{nat_le}
use Rattle.rc_model.specs.Run.Calls.{Event, read, as_bytes}
use Rattle.rc_model.specs.Run.Plans.{Plan, done_with, asks, RanBetween}
use Rattle.rc_model.specs.Run.Shell.{ShellResult, Shell, Next, pure}
use Rattle.rc_model.specs.Run.State.{State}
use Rattle.rc_model.specs.Run.Acts.{Got, got_all, read_on, reading, read_all}
use Rattle.law_plans.proofs.Runs.{ran_none, ran_join}
use Rattle.rc_world.specs.Comes.{Left}
use Rattle.rc_world.specs.declared.starts.Stop.{Stop}
use Rattle.rc_world.proofs.Joins.{left_asked, left_join, ran_answered}

-- what is still to be done after these bytes, with `left` reads left
abbrev onwards_by : Bool → (left most file : ℕ) → (text : List ℕ) → Shell Got
onwards_by b left most file text = cond b (reading left most file text) (pure (got_all text (Some (codes "too large"))))

abbrev onwards : (left most file : ℕ) → (text : List ℕ) → Shell Got
onwards left most file text = onwards_by (nat_le (length text) most) left most file text

onwards_is : (left most file : ℕ) (text : List ℕ) (s : State) (b : Bool) → nat_le (length text) most ≡ b →
    onwards left most file text s ≡ onwards_by b left most file text s
onwards_is left most file text s b h = ap (λ x. onwards_by x left most file text s) h

-- reading has come to these bytes
pub record HasRead (a b : Option (List Event)) (most file : ℕ) (text : List ℕ) : Type 0 where
  pub left : ℕ
  pub enough : most < left + length text
  pub ran : (s : State) → RanBetween a b (read_all most file s) (onwards left most file text s)

pub nothing_yet : (a : Option (List Event)) (most file : ℕ) → nat_le 0 most ≡ true → HasRead a a most file []
nothing_yet a most file h =
    record {
      left = suc most;
      enough = omega arith;
      ran = λ s.
          let P : Plan (ShellResult Got) → Type 0 = λ q. RanBetween a a (read_all most file s) q in
          subst P (sym (onwards_is (suc most) most file [] s true h)) (ran_none a (read_all most file s));
    }

module _ (a b c : Option (List Event)) (most file : ℕ) (text : List ℕ) (short : nat_le (length text) most ≡ true) where
  -- one read more is made
  begun : (left : ℕ) (s : State) → RanBetween a b (read_all most file s) (onwards left most file text s) →
      RanBetween a b (read_all most file s) (reading left most file text s)
  begun left s f =
      let P : Plan (ShellResult Got) → Type 0 = λ q. RanBetween a b (read_all most file s) q in
      subst P (onwards_is left most file text s true short) f

  -- what follows its answer
  abbrev next : ℕ → State → Option (List ℕ) → Plan (ShellResult Got)
  next left s got = read_on (reading left most file) most text got s

  -- some bytes more
  with_more : (more : List ℕ) → (length more ≡ 0 → ⊥) → (left : ℕ) (s : State) →
      RanBetween c c (next left s (Some more)) (onwards left most file (text ++ more) s)
  with_more [] h left s = absurd (h refl)
  with_more (x ∷ xs) h left s = ran_none c _

  more_by : (left : ℕ) → (more : List ℕ) → (length more ≡ 0 → ⊥) → length text ≤ most → most < left + length text →
      ((s : State) → RanBetween a b (read_all most file s) (onwards left most file text s)) →
      RanBetween b c (asks (read file) as_bytes) (done_with (Some more)) → HasRead a c most file (text ++ more)
  more_by zero more h le enough ran f = absurd (omega (arith, le, enough))
  more_by (suc left) more h le enough ran f =
      record {
        left = left;
        enough = let n = length-append text more in omega arith;
        ran = λ s. ran_join a b c _ _ _ (begun (suc left) s (ran s))
            (ran_answered b c c (read file) as_bytes (Some more) (next left s) _ f (with_more more h left s));
      }

  pub has_more : (more : List ℕ) → (length more ≡ 0 → ⊥) → length text ≤ most → HasRead a b most file text →
      RanBetween b c (asks (read file) as_bytes) (done_with (Some more)) → HasRead a c most file (text ++ more)
  has_more more h le r f = more_by r.left more h le r.enough r.ran f

  -- the end, or a refusal
  ended_by : (left : ℕ) (got : Option (List ℕ)) (why : Option (List ℕ)) → ((n : ℕ) (s : State) → next n s got ≡ done_with (Next (got_all text why) s)) →
      length text ≤ most → most < left + length text → (s : State) →
      RanBetween a b (read_all most file s) (onwards left most file text s) → RanBetween b c (asks (read file) as_bytes) (done_with got) →
      RanBetween a c (read_all most file s) (done_with (Next (got_all text why) s))
  ended_by zero got why e le enough s ran f = absurd (omega (arith, le, enough))
  ended_by (suc left) got why e le enough s ran f =
      ran_join a b c _ _ _ (begun (suc left) s ran)
      (ran_answered b c c (read file) as_bytes got (next left s) _ f
      (let P : Plan (ShellResult Got) → Type 0 = λ q. RanBetween c c (next left s got) q in subst P (e left s) (ran_none c _)))

  pub at_end : length text ≤ most → HasRead a b most file text → RanBetween b c (asks (read file) as_bytes) (done_with (Some [])) →
      (s : State) → RanBetween a c (read_all most file s) (done_with (Next (got_all text None) s))
  at_end le r f s = ended_by r.left (Some []) None (λ n s. refl) le r.enough s (r.ran s) f

  pub at_refusal : length text ≤ most → HasRead a b most file text → RanBetween b c (asks (read file) as_bytes) (done_with None) →
      (s : State) → RanBetween a c (read_all most file s) (done_with (Next (got_all text (Some (codes "cannot read"))) s))
  at_refusal le r f s = ended_by r.left None (Some (codes "cannot read")) (λ n s. refl) le r.enough s (r.ran s) f

  left_by : (left : ℕ) (stop : Stop) → length text ≤ most → most < left + length text → (s : State) →
      RanBetween a b (read_all most file s) (onwards left most file text s) → Left b c (asks (read file) as_bytes) stop → Left a c (read_all most file s) stop
  left_by zero stop le enough s ran f = absurd (omega (arith, le, enough))
  left_by (suc left) stop le enough s ran f =
      left_join a b c stop _ _ (begun (suc left) s ran) (left_asked b c stop (read file) as_bytes (next left s) f)

  pub left_at_read : (stop : Stop) → length text ≤ most → HasRead a b most file text → Left b c (asks (read file) as_bytes) stop →
      (s : State) → Left a c (read_all most file s) stop
  left_at_read stop le r f s = left_by r.left stop le r.enough s (r.ran s) f

-- there are too many
pub too_large : (a b : Option (List Event)) (most file : ℕ) (text : List ℕ) → nat_le (length text) most ≡ false → HasRead a b most file text →
    (s : State) → RanBetween a b (read_all most file s) (done_with (Next (got_all text (Some (codes "too large"))) s))
too_large a b most file text h r s =
    let P : Plan (ShellResult Got) → Type 0 = λ q. RanBetween a b (read_all most file s) q in
    subst P (onwards_is r.left most file text s false h) (r.ran s)

-- a list of no members
pub nil_of : (xs : List ℕ) → length xs ≡ 0 → xs ≡ []
nil_of [] h = refl
nil_of (x ∷ xs) h = absurd (omega (arith, h))
