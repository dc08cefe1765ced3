-- A call whose answer does not matter, and the close of an end, before what follows.
use Rattle.std.proofs.Common.{List, Option}
use Rattle.rc_model.specs.Run.Calls.{Call, Event, Answer}
use Rattle.rc_model.specs.Run.Plans.{Plan, done_with, asks, RanBetween}
use Rattle.rc_model.specs.Run.Shell.{ShellResult, Shell, Next, ◌>>◌, say, leaves}
use Rattle.rc_model.specs.Run.State.{State}
use Rattle.law_plans.proofs.Runs.{ran_none, ran_next}
use Rattle.rc_world.specs.Comes.{Left}
use Rattle.rc_world.specs.declared.starts.Stop.{Stop}
use Rattle.rc_world.proofs.Joins.{left_asked, ran_answered}
use Rattle.rc_world.proofs.Shells.{left_under, left_next}

module _ {X V : Type 0} (a b c : Option (List Event)) (s : State) (call : Call) (taken : Answer → V) (m : Shell X) where
  said : V → Plan (ShellResult (Unit {0}))
  said v = done_with (Next tt s)

  -- the call was answered, and what follows went on
  pub ran_said : (v : V) (q : Plan (ShellResult X)) → RanBetween a b (asks call taken) (done_with v) → RanBetween b c (m s) q → RanBetween a c ((say call >> m) s) q
  unfolding said
  ran_said v q f g = ran_next a b c (say call s) tt s (λ x. m) leaves q (ran_answered a b b call taken v said _ f (ran_none b _)) g

  -- or it was left
  pub left_said : (v : V) (stop : Stop) → RanBetween a b (asks call taken) (done_with v) → Left b c (m s) stop → Left a c ((say call >> m) s) stop
  unfolding said
  left_said v stop f g = left_next a b c stop (say call s) tt s (λ x. m) leaves (ran_answered a b b call taken v said _ f (ran_none b _)) g

  -- the call itself was left
  pub left_saying : (stop : Stop) → Left a b (asks call taken) stop → Left a b ((say call >> m) s) stop
  unfolding said
  left_saying stop f = left_under a b stop (say call s) (λ x. m) leaves (left_asked a b stop call taken said f)

-- a piece that gives nothing, and what follows it
module _ {X : Type 0} (a b c : Option (List Event)) (s t : State) (n : Shell (Unit {0})) (m : Shell X) where
  pub ran_both : (q : Plan (ShellResult X)) → RanBetween a b (n s) (done_with (Next tt t)) → RanBetween b c (m t) q → RanBetween a c ((n >> m) s) q
  ran_both q f g = ran_next a b c (n s) tt t (λ x. m) leaves q f g

  pub left_first : (stop : Stop) → Left a b (n s) stop → Left a b ((n >> m) s) stop
  left_first stop f = left_under a b stop (n s) (λ x. m) leaves f

  pub left_second : (stop : Stop) → RanBetween a b (n s) (done_with (Next tt t)) → Left b c (m t) stop → Left a c ((n >> m) s) stop
  left_second stop f g = left_next a b c stop (n s) tt t (λ x. m) leaves f g
