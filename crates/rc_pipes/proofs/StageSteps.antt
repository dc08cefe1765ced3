-- The start of a stage, call by call.
use Rattle.std.proofs.Common.{ℕ, List, [], ◌∷◌, ◌++◌, Option, Some, None, Bool, codes}
use Rattle.rc_model.specs.Run.Calls.{Event, make_pipe, close, as_pair, as_done, with_slot, to_file}
use Rattle.rc_model.specs.declared.call.Slots.{Slots}
use Rattle.rc_model.specs.Run.Plans.{Plan, done_with, asks, RanBetween}
use Rattle.rc_model.specs.Run.Shell.{ShellResult, Shell, Next, ◌>>◌, ◌>>=◌, say, pure, leaves}
use Rattle.rc_model.specs.Run.State.{State}
use Rattle.rc_model.specs.Run.Acts.{Started, Child, NoChild, LaunchedStages, NotLaunched, start_shell, close_end, from_pipe}
use Rattle.rc_model.specs.Run.Acts.{stages_from, stage_with, next_stage, no_stages}
use Rattle.rc_model.specs.Syntax.Tree.{Node, Many, cmd, stage, more, Stage}
use Rattle.law_plans.proofs.Runs.{ran_none, ran_next, ran_join}
use Rattle.rc_world.specs.Comes.{Left}
use Rattle.rc_world.specs.declared.starts.Stop.{Stop}
use Rattle.rc_world.proofs.Joins.{left_asked, left_join, ran_answered}
use Rattle.rc_world.proofs.Shells.{left_under}
use Rattle.rc_pipes.proofs.Steps.{ran_said, left_saying, ran_both, left_first}

-- a refusal
abbrev refusal : List ℕ → List ℕ → Shell LaunchedStages
refusal children why = pure (NotLaunched children why)

-- once the end before is closed
pub ran_refusal : (a b : Option (List Event)) (before : Option ℕ) (children why : List ℕ) (s : State) →
    RanBetween a b (close_end before s) (done_with (Next tt s)) → RanBetween a b (no_stages before children why s) (done_with (Next (NotLaunched children why) s))
ran_refusal a b before children why s f = ran_both a b b s s (close_end before) (refusal children why) _ f (ran_none b _)

pub left_refusal : (a b : Option (List Event)) (stop : Stop) (before : Option ℕ) (children why : List ℕ) (s : State) →
    Left a b (close_end before s) stop → Left a b (no_stages before children why s) stop
left_refusal a b stop before children why s f = left_first a b b s s (close_end before) (refusal children why) stop f

module _ (slots : Slots) (rest : Many stage) (body : Node cmd) (number : ℕ) (before : Option ℕ) (children : List ℕ) (s : State) where
  abbrev go : Option ℕ → List ℕ → Shell LaunchedStages
  go = stages_from slots rest

  abbrev pub plan : Plan (ShellResult LaunchedStages)
  plan = stages_from slots (more (Stage body number) rest) before children s

  -- what follows the pipe
  abbrev piped : Option (ℕ × ℕ) → Plan (ShellResult LaunchedStages)
  piped ends = stage_with go slots body number before children ends s

  -- the descriptors of the stage
  abbrev pub inner : ℕ → Slots
  inner write_end = with_slot (from_pipe before slots) number (to_file write_end)

  pub left_at_pipe : (a b : Option (List Event)) (stop : Stop) → Left a b (asks make_pipe as_pair) stop → Left a b plan stop
  left_at_pipe a b stop f = left_asked a b stop make_pipe as_pair piped f

  pub no_pipe : (a b : Option (List Event)) → RanBetween a b (asks make_pipe as_pair) (done_with None) → RanBetween a b plan (no_stages before children (codes "cannot pipe") s)
  no_pipe a b f = ran_answered a b b make_pipe as_pair None piped _ f (ran_none b _)

  module _ (r w : ℕ) where
    -- what follows the start
    abbrev pub started_stage : Started → Plan (ShellResult LaunchedStages)
    started_stage st = next_stage go before children r w st s

    with_pipe : (a b : Option (List Event)) → RanBetween a b (asks make_pipe as_pair) (done_with (Some (r, w))) → RanBetween a b plan (piped (Some (r, w)))
    with_pipe a b f = ran_answered a b b make_pipe as_pair (Some (r, w)) piped _ f (ran_none b _)

    pub left_at_start : (a b c : Option (List Event)) (stop : Stop) → RanBetween a b (asks make_pipe as_pair) (done_with (Some (r, w))) →
        Left b c (start_shell (inner w) body s) stop → Left a c plan stop
    left_at_start a b c stop f g =
        left_join a b c stop _ _ (with_pipe a b f)
        (left_under b c stop (start_shell (inner w) body s) (λ st t. next_stage go before children r w st t) leaves g)

    pub with_start : (a b c : Option (List Event)) (st : Started) → RanBetween a b (asks make_pipe as_pair) (done_with (Some (r, w))) →
        RanBetween b c (start_shell (inner w) body s) (done_with (Next st s)) → RanBetween a c plan (started_stage st)
    with_start a b c st f g =
        ran_join a b c _ _ _ (with_pipe a b f)
        (ran_next b c c (start_shell (inner w) body s) st s (λ st t. next_stage go before children r w st t) leaves _ g (ran_none c _))

    -- what follows the close of the write end
    abbrev pub cut_off : Started → Shell LaunchedStages
    cut_off (Child n) = close_end before >> go (Some r) (children ++ n ∷ [])
    cut_off (NoChild why) = say (close r) >> no_stages before children why

    pub ran_cut_off : (a b : Option (List Event)) (st : Started) (d : Bool) → RanBetween a b (asks (close w) as_done) (done_with d) →
        RanBetween a b (started_stage st) (cut_off st s)
    ran_cut_off a b (Child n) d f = ran_said a b b s (close w) as_done (cut_off (Child n)) d _ f (ran_none b _)
    ran_cut_off a b (NoChild why) d f = ran_said a b b s (close w) as_done (cut_off (NoChild why)) d _ f (ran_none b _)

    pub left_cut_off : (a b : Option (List Event)) (stop : Stop) (st : Started) → Left a b (asks (close w) as_done) stop → Left a b (started_stage st) stop
    left_cut_off a b stop (Child n) f = left_saying a b b s (close w) as_done (cut_off (Child n)) stop f
    left_cut_off a b stop (NoChild why) f = left_saying a b b s (close w) as_done (cut_off (NoChild why)) stop f

    -- a child was started: the end before is closed
    pub ran_child : (a b : Option (List Event)) (n : ℕ) → RanBetween a b (close_end before s) (done_with (Next tt s)) →
        RanBetween a b (cut_off (Child n) s) (go (Some r) (children ++ n ∷ []) s)
    ran_child a b n f = ran_both a b b s s (close_end before) (go (Some r) (children ++ n ∷ [])) _ f (ran_none b _)

    pub left_child : (a b : Option (List Event)) (stop : Stop) (n : ℕ) → Left a b (close_end before s) stop → Left a b (cut_off (Child n) s) stop
    left_child a b stop n f = left_first a b b s s (close_end before) (go (Some r) (children ++ n ∷ [])) stop f

    -- none was started: the read end is closed
    pub ran_no_child : (a b : Option (List Event)) (why : List ℕ) (d : Bool) → RanBetween a b (asks (close r) as_done) (done_with d) →
        RanBetween a b (cut_off (NoChild why) s) (no_stages before children why s)
    ran_no_child a b why d f = ran_said a b b s (close r) as_done (no_stages before children why) d _ f (ran_none b _)

    pub left_no_child : (a b : Option (List Event)) (stop : Stop) (why : List ℕ) → Left a b (asks (close r) as_done) stop → Left a b (cut_off (NoChild why) s) stop
    left_no_child a b stop why f = left_saying a b b s (close r) as_done (no_stages before children why) stop f
