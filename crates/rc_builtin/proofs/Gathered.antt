-- What is known of several names, name by name.
use Rattle.std.proofs.Common.{◌≡◌, ℕ, List, [], ◌∷◌, ◌++◌, Option, Some, None, ap, ◌∙◌, sym, subst, refl, append_assoc}
use Rattle.std.proofs.lemmas.List.{append-nil}
use Rattle.rc_model.specs.Run.Builtins.{Known, known_of, known_each, later}
use Rattle.rc_model.specs.Run.Calls.{Event}
use Rattle.rc_model.specs.Run.Plans.{Plan, done_with, RanBetween}
use Rattle.rc_model.specs.Run.Shell.{ShellResult, Next, under, leaves}
use Rattle.rc_model.specs.Run.State.{State}
use Rattle.rc_world.specs.Comes.{Left}
use Rattle.rc_world.specs.declared.starts.Stop.{Stop}
use Rattle.rc_world.proofs.Joins.{left_join}
use Rattle.rc_world.proofs.Shells.{left_under}
use Rattle.law_plans.proofs.Runs.{ran_join, ran_none, ran_under}

-- what is known of a name comes before what follows
abbrev pub led_by : Known → Plan (ShellResult Known) → Plan (ShellResult Known)
led_by k p = under p (λ others t. done_with (Next (k.0 ++ others.0, later k.1 others.1) t)) leaves

-- the same for several names, the last one first
abbrev pub led_by_all : List Known → Plan (ShellResult Known) → Plan (ShellResult Known)
led_by_all [] p = p
led_by_all (k ∷ ks) p = led_by_all ks (led_by k p)

abbrev pub gathered : List Known → Known → Known
gathered [] k = k
gathered (f ∷ ks) k = gathered ks (f.0 ++ k.0, later f.1 k.1)

ran_led : (a b : Option (List Event)) (ks : List Known) (p q : Plan (ShellResult Known)) → RanBetween a b p q → RanBetween a b (led_by_all ks p) (led_by_all ks q)
ran_led a b [] p q f = f
ran_led a b (k ∷ ks) p q f = ran_led a b ks (led_by k p) (led_by k q) (ran_under a b p q (λ others t. done_with (Next (k.0 ++ others.0, later k.1 others.1) t)) leaves f)

left_led : (a b : Option (List Event)) (stop : Stop) (ks : List Known) (p : Plan (ShellResult Known)) → Left a b p stop → Left a b (led_by_all ks p) stop
left_led a b stop [] p f = f
left_led a b stop (k ∷ ks) p f = left_led a b stop ks (led_by k p) (left_under a b stop p (λ others t. done_with (Next (k.0 ++ others.0, later k.1 others.1) t)) leaves f)

ended : (ks : List Known) (k : Known) (s : State) → led_by_all ks (done_with (Next k s)) ≡ done_with (Next (gathered ks k) s)
ended [] k s = refl
ended (f ∷ ks) k s = ended ks (f.0 ++ k.0, later f.1 k.1) s

later_later : (a b c : Option (List ℕ)) → later (later a b) c ≡ later a (later b c)
later_later a b None = refl
later_later a b (Some status) = refl

later_none : (a : Option (List ℕ)) → later None a ≡ a
later_none None = refl
later_none (Some status) = refl

-- some names are shown, with these lines and this status, and the others are left
pub record Gathers (a b : Option (List Event)) (names left : List (List ℕ)) (s : State) (lines : List ℕ) (status : Option (List ℕ)) : Type 0 where
  pub before : List Known
  pub ran : RanBetween a b (known_each names s) (led_by_all before (known_each left s))
  pub sums : (k : Known) → gathered before k ≡ (lines ++ k.0, later status k.1)

pub gathers_none : (a : Option (List Event)) (names : List (List ℕ)) (s : State) → Gathers a a names names s [] None
gathers_none a names s = record {
  before = [];
  ran = ran_none a (known_each names s);
  sums = λ k. ap (λ t. (k.0, t)) (sym (later_none k.1));
}

pub gathers_on : (a b c : Option (List Event)) (names left : List (List ℕ)) (s : State) (lines : List ℕ) (status : Option (List ℕ)) (name : List ℕ) (k : Known) →
    Gathers a b names (name ∷ left) s lines status → RanBetween b c (known_of name s) (done_with (Next k s)) → Gathers a c names left s (lines ++ k.0) (later status k.1)
gathers_on a b c names left s lines status name k g f = record {
  before = k ∷ g.before;
  ran = ran_join a b c _ _ _ g.ran (ran_led b c g.before (known_each (name ∷ left) s) (led_by k (known_each left s))
      (ran_under b c (known_of name s) (done_with (Next k s)) (λ first t. led_by first (known_each left t)) leaves f));
  sums = λ j. g.sums (k.0 ++ j.0, later k.1 j.1)
      ∙ ap (λ t. (t, later status (later k.1 j.1))) (sym (append_assoc lines k.0 j.0))
      ∙ ap (λ t. ((lines ++ k.0) ++ j.0, t)) (sym (later_later status k.1 j.1));
}

-- a name was left on the way
pub gathers_left : (a b c : Option (List Event)) (stop : Stop) (names left : List (List ℕ)) (s : State) (lines : List ℕ) (status : Option (List ℕ)) (name : List ℕ) →
    Gathers a b names (name ∷ left) s lines status → Left b c (known_of name s) stop → Left a c (known_each names s) stop
gathers_left a b c stop names left s lines status name g f =
    left_join a b c stop _ _ g.ran (left_led b c stop g.before (known_each (name ∷ left) s)
    (left_under b c stop (known_of name s) (λ first t. led_by first (known_each left t)) leaves f))

pub gathers_all : (a b : Option (List Event)) (names : List (List ℕ)) (s : State) (lines : List ℕ) (status : Option (List ℕ)) →
    Gathers a b names [] s lines status → RanBetween a b (known_each names s) (done_with (Next (lines, status) s))
gathers_all a b names s lines status g =
    subst (λ p. RanBetween a b (known_each names s) p)
    (ended g.before ([], None) s ∙ ap (λ k. done_with (Next k s)) (g.sums ([], None) ∙ ap (λ t. (t, status)) (append-nil lines))) g.ran
