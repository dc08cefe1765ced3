-- The stages of a pipeline, one after the other.
use Rattle.std.proofs.Common.{◌≡◌, ℕ, ◌+◌, ◌<◌, ◌≤◌, List, [], ◌∷◌, ◌++◌, length, drop, get_or, Option, Some, sym, ap, ◌∙◌, subst}
use Rattle.rc_model.specs.declared.call.Slots.{Slots}
use Rattle.rc_model.specs.Run.Acts.{Launched, NotLaunched, stages_from, launch_stages}
use Rattle.rc_model.specs.Run.Calls.{Event}
use Rattle.rc_model.specs.Run.Plans.{done_with, RanBetween}
use Rattle.rc_model.specs.Run.Shell.{Next}
use Rattle.rc_model.specs.Run.State.{State}
use Rattle.rc_model.specs.Syntax.Tree.{Many, stage, more}
use Rattle.law_plans.proofs.Runs.{ran_join}
use Rattle.rc_tree.specs.View.{stage_tree, stages_tree}
use Rattle.rc_tree.specs.declared.types.Stage.{Stage}
use Rattle.rc_world.specs.Comes.{Left}
use Rattle.rc_world.specs.declared.starts.Stop.{Stop}
use Rattle.rc_world.proofs.Joins.{left_join}
use Rattle.rc_pipes.proofs.Rows
use Rattle.rc_pipes.proofs.Rows.{past}

left_at_place : (xs : List Stage) (i : ℕ) (x : Stage) → i < length xs → x ≡ get_or xs i x → drop i xs ≡ x ∷ drop (i + 1) xs
left_at_place xs i x lt is = Rows.at_place xs i x lt ∙ ap (λ y. y ∷ drop (i + 1) xs) (sym is)

-- the stages so far were started, and those of a row from this place on are left
module _ (slots : Slots) (s : State) (a b : Option (List Event)) (all : Many stage) (before : Option ℕ) (children : List ℕ)
    (xs : List Stage) (i : ℕ)
    (h : RanBetween a b (launch_stages slots all s) (stages_from slots (stages_tree (drop i xs)) before children s)) where
  -- there are none
  pub row_started : length xs ≤ i → RanBetween a b (launch_stages slots all s) (done_with (Next (Launched before children) s))
  row_started le =
      let P : List Stage → Type 0 = λ left. RanBetween a b (launch_stages slots all s) (stages_from slots (stages_tree left) before children s) in
      subst P (past xs i le) h

  module _ (x : Stage) (c : Option (List Event)) (lt : i < length xs) (is : x ≡ get_or xs i x) where
    abbrev rest : Many stage
    rest = stages_tree (drop (i + 1) xs)

    at_place : RanBetween a b (launch_stages slots all s) (stages_from slots (more (stage_tree x) rest) before children s)
    at_place =
        let P : List Stage → Type 0 = λ left. RanBetween a b (launch_stages slots all s) (stages_from slots (stages_tree left) before children s) in
        subst P (left_at_place xs i x lt is) h

    -- the next one was started
    pub next_started : (r n : ℕ) →
        RanBetween b c (stages_from slots (more (stage_tree x) rest) before children s) (stages_from slots rest (Some r) (children ++ n ∷ []) s) →
        RanBetween a c (launch_stages slots all s) (stages_from slots rest (Some r) (children ++ n ∷ []) s)
    next_started r n f = ran_join a b c _ _ _ at_place f

    -- the next one was refused
    pub next_refused : (why : List ℕ) →
        RanBetween b c (stages_from slots (more (stage_tree x) rest) before children s) (done_with (Next (NotLaunched children why) s)) →
        RanBetween a c (launch_stages slots all s) (done_with (Next (NotLaunched children why) s))
    next_refused why f = ran_join a b c _ _ _ at_place f

    -- its start was left
    pub next_left : (stop : Stop) → Left b c (stages_from slots (more (stage_tree x) rest) before children s) stop →
        Left a c (launch_stages slots all s) stop
    next_left stop f = left_join a b c stop _ _ at_place f
