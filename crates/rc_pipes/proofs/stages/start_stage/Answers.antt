use Rattle.std.proofs.Common.{ℕ, List, [], ◌∷◌, ◌++◌, Option, Some, Bool, ◌≡◌, codes, option_map, ap, subst}
use Rattle.rc_world.proofs.Joins.{given_up, left_join}
use Rattle.rc_world.specs.Comes.{Left}
use Rattle.rc_world.specs.declared.starts.Stop.{Stop}
use Rattle.law_plans.proofs.Runs.{ran_join}
use Rattle.rc_model.specs.Run.Acts as acts
use Rattle.rc_model.specs.Run.Acts.{close_end, from_pipe, no_stages, stages_from, start_shell}
use Rattle.rc_model.specs.Run.Calls.{Event, as_done, as_pair, close, make_pipe, to_file, with_slot}
use Rattle.rc_model.specs.Run.Plans.{RanBetween, asks, done_with}
use Rattle.rc_model.specs.Run.Shell.{Next}
use Rattle.rc_model.specs.Run.State as model
use Rattle.rc_model.specs.Syntax.Tree.{Node, Many, cmd, stage}
use Rattle.rc_model.specs.declared.call.Handle.{Handle}
use Rattle.rc_model.specs.declared.call.Slots.{Slots}
use Rattle.rc_pipes.specs.Starts.{started_of}
use Rattle.rc_pipes.specs.declared.programs.Started.{Started}
use Rattle.rc_scope.specs.States.{state_of}
use Rattle.rc_scope.specs.declared.state.State.{State}
use Rattle.rc_tree.specs.View.{cmd_tree}
use Rattle.rc_tree.specs.declared.types.Stage.{Stage}
use Rattle.rc_pipes.proofs.StageSteps.{ran_refusal, left_refusal, left_at_pipe, no_pipe, left_at_start, with_start, started_stage, plan, cut_off, ran_cut_off, left_cut_off, ran_child, left_child, ran_no_child, left_no_child}
use Rattle.rc_pipes.proofs.stages.start_stage.Goals as goal

-- a stage whose pipe was made, and what the start of its shell gave
module _ (slots : Slots) (rest : Many stage) (next : Stage) (before : Option Handle) (children : List ℕ) (state : State) (read_end write_end : Handle)
    (a b e : Option (List Event)) (started : Started) where
  abbrev body : Node cmd
  body = cmd_tree next.cmd

  abbrev held : Option ℕ
  held = option_map (λ end. end.0) before

  abbrev s : model.State
  s = state_of state

  abbrev r : ℕ
  r = read_end.0

  abbrev w : ℕ
  w = write_end.0

  module _ (made : RanBetween a b (asks make_pipe as_pair) (done_with (Some (r, w))))
      (start : RanBetween b e (start_shell (with_slot (from_pipe held slots) next.slot (to_file w)) body s) (done_with (Next (started_of started) s))) where
    begun : RanBetween a e (plan slots rest body next.slot held children s) (started_stage slots rest body next.slot held children s r w (started_of started))
    begun = with_start slots rest body next.slot held children s r w a b e (started_of started) made start

    left_at_close : (f : Option (List Event)) (stop : Stop) → Left e f (asks (close w) as_done) stop → Left a f (plan slots rest body next.slot held children s) stop
    left_at_close f stop h = left_join _ _ _ _ _ _ begun (left_cut_off slots rest body next.slot held children s r w e f stop (started_of started) h)

    -- the write end is closed
    module _ (f : Option (List Event)) (d : Bool) (closed : RanBetween e f (asks (close w) as_done) (done_with d)) where
      cut : (st : acts.Started) → started_of started ≡ st → RanBetween a f (plan slots rest body next.slot held children s) (cut_off slots rest body next.slot held children s r w st s)
      cut st is =
          subst (λ x. RanBetween a f (plan slots rest body next.slot held children s) (cut_off slots rest body next.slot held children s r w x s)) is
          (ran_join _ _ _ _ _ _ begun (ran_cut_off slots rest body next.slot held children s r w e f (started_of started) d closed))

      module _ (n : ℕ) (is : started_of started ≡ acts.Child n) (h : Option (List Event)) where
        child_left : (stop : Stop) → Left f h (close_end held s) stop → Left a h (plan slots rest body next.slot held children s) stop
        child_left stop k = left_join _ _ _ _ _ _ (cut (acts.Child n) is) (left_child slots rest body next.slot held children s r w f h stop n k)

        child_runs : RanBetween f h (close_end held s) (done_with (Next tt s)) → RanBetween a h (plan slots rest body next.slot held children s) (stages_from slots rest (Some r) (children ++ n ∷ []) s)
        child_runs k = ran_join _ _ _ _ _ _ (cut (acts.Child n) is) (ran_child slots rest body next.slot held children s r w f h n k)

      module _ (why : List ℕ) (is : started_of started ≡ acts.NoChild why) (h : Option (List Event)) where
        left_unstarted : (stop : Stop) → Left f h (asks (close r) as_done) stop → Left a h (plan slots rest body next.slot held children s) stop
        left_unstarted stop k = left_join _ _ _ _ _ _ (cut (acts.NoChild why) is) (left_no_child slots rest body next.slot held children s r w f h stop why k)

        unstarted : (last : Bool) → RanBetween f h (asks (close r) as_done) (done_with last) → RanBetween a h (plan slots rest body next.slot held children s) (no_stages held children why s)
        unstarted last k = ran_join _ _ _ _ _ _ (cut (acts.NoChild why) is) (ran_no_child slots rest body next.slot held children s r w f h why last k)

pub returns-in_err-read_end : goal.returns-in_err-read_end
returns-in_err-read_end g c = λ rest children.
    let body = cmd_tree c.args.next.now.cmd in
    let s = state_of c.args.state.now in
    let before = option_map (λ end. end.0) c.args.before in
    given_up _ _ _ _ c.from_residual.result c.in_err-read_end.field-0.0 c.from_residual.ensures.1
    (left_at_pipe c.args.slots rest body c.args.next.now.slot before children s _ _ _ c.in_err-read_end.ensures)

pub returns-in_err-close_end : goal.returns-in_err-close_end
returns-in_err-close_end g c = λ rest children.
    let body = cmd_tree c.args.next.now.cmd in
    let s = state_of c.args.state.now in
    let before = option_map (λ end. end.0) c.args.before in
    given_up _ _ _ _ c.from_residual-in_err-close_end.result c.in_err-close_end.field-0.0 c.from_residual-in_err-close_end.ensures.1
    (left_join _ _ _ _ _ _ (no_pipe c.args.slots rest body c.args.next.now.slot before children s _ _ (rw c.in_default.is at c.in_ok-read_end.ensures))
    (left_refusal _ _ _ before children (codes "cannot pipe") s (c.in_err-close_end.ensures s)))

pub returns-in_default : goal.returns-in_default
returns-in_default g c = λ rest children.
    let body = cmd_tree c.args.next.now.cmd in
    let s = state_of c.args.state.now in
    let before = option_map (λ end. end.0) c.args.before in
    ran_join _ _ _ _ _ _ (no_pipe c.args.slots rest body c.args.next.now.slot before children s _ _ (rw c.in_default.is at c.in_ok-read_end.ensures))
    (ran_refusal _ _ before children (codes "cannot pipe") s (c.in_ok-close_end.ensures s))

pub returns-in_err-started : goal.returns-in_err-started
returns-in_err-started g c = λ rest children.
    let body = cmd_tree c.args.next.now.cmd in
    let s = state_of c.args.state.now in
    let before = option_map (λ end. end.0) c.args.before in
    let r = c.in-Some.read_end.0 in
    let w = c.in-Some.write_end.0 in
    let a = g.W.World.events c.args.world.now in
    let b = g.W.World.events c.pipe.new.world in
    let e = g.W.World.events c.start_shell.new.world in
    given_up _ _ _ _ c.from_residual-in_err-started.result c.in_err-started.field-0.0 c.from_residual-in_err-started.ensures.1
    (left_at_start c.args.slots rest body c.args.next.now.slot before children s r w a b e _ (rw c.in-Some.is at c.in_ok-read_end.ensures)
    (rw c.stage_slots-inner.ensures at (c.in_err-started.ensures)))

pub returns-in_err-close : goal.returns-in_err-close
returns-in_err-close g c = λ rest children.
    given_up _ _ _ _ c.from_residual-in_err-close.result c.in_err-close.field-0.0 c.from_residual-in_err-close.ensures.1
    (left_at_close c.args.slots rest c.args.next.now c.args.before children c.args.state.now c.in-Some.read_end c.in-Some.write_end
    (g.W.World.events c.args.world.now) (g.W.World.events c.pipe.new.world) (g.W.World.events c.start_shell.new.world) c.in_ok-started.started
    (rw c.in-Some.is at c.in_ok-read_end.ensures) (rw c.stage_slots-inner.ensures at c.in_ok-started.ensures)
    _ _ c.in_err-close.ensures)

pub returns-in_err-close_end-in-Child : goal.returns-in_err-close_end-in-Child
returns-in_err-close_end-in-Child g c = λ rest children.
    given_up _ _ _ _ c.from_residual-in_err-close_end-in-Child.result c.in_err-close_end-in-Child.field-0.0 c.from_residual-in_err-close_end-in-Child.ensures.1
    (child_left c.args.slots rest c.args.next.now c.args.before children c.args.state.now c.in-Some.read_end c.in-Some.write_end
    (g.W.World.events c.args.world.now) (g.W.World.events c.pipe.new.world) (g.W.World.events c.start_shell.new.world) c.in_ok-started.started
    (rw c.in-Some.is at c.in_ok-read_end.ensures) (rw c.stage_slots-inner.ensures at c.in_ok-started.ensures)
    (g.W.World.events c.close.new.world) _ c.in_ok-close.ensures c.in-Child.child.0 (ap started_of c.in-Child.is) _ _ (c.in_err-close_end-in-Child.ensures (state_of c.args.state.now)))

pub returns-in_ok-close_end-in-Child : goal.returns-in_ok-close_end-in-Child
returns-in_ok-close_end-in-Child g c = λ rest children.
    child_runs c.args.slots rest c.args.next.now c.args.before children c.args.state.now c.in-Some.read_end c.in-Some.write_end
    (g.W.World.events c.args.world.now) (g.W.World.events c.pipe.new.world) (g.W.World.events c.start_shell.new.world) c.in_ok-started.started
    (rw c.in-Some.is at c.in_ok-read_end.ensures) (rw c.stage_slots-inner.ensures at c.in_ok-started.ensures)
    (g.W.World.events c.close.new.world) _ c.in_ok-close.ensures c.in-Child.child.0 (ap started_of c.in-Child.is) _ (c.in_ok-close_end-in-Child.ensures (state_of c.args.state.now))

pub returns-in_err-close-in-NoChild : goal.returns-in_err-close-in-NoChild
returns-in_err-close-in-NoChild g c = λ rest children.
    given_up _ _ _ _ c.from_residual-in_err-close-in-NoChild.result c.in_err-close-in-NoChild.field-0.0 c.from_residual-in_err-close-in-NoChild.ensures.1
    (left_unstarted c.args.slots rest c.args.next.now c.args.before children c.args.state.now c.in-Some.read_end c.in-Some.write_end
    (g.W.World.events c.args.world.now) (g.W.World.events c.pipe.new.world) (g.W.World.events c.start_shell.new.world) c.in_ok-started.started
    (rw c.in-Some.is at c.in_ok-read_end.ensures) (rw c.stage_slots-inner.ensures at c.in_ok-started.ensures)
    (g.W.World.events c.close.new.world) _ c.in_ok-close.ensures c.in-NoChild.why.now (ap started_of c.in-NoChild.is) _ _ c.in_err-close-in-NoChild.ensures)

pub returns-in_err-close_end-in-NoChild : goal.returns-in_err-close_end-in-NoChild
returns-in_err-close_end-in-NoChild g c = λ rest children.
    given_up _ _ _ _ c.from_residual-in_err-close_end-in-NoChild.result c.in_err-close_end-in-NoChild.field-0.0 c.from_residual-in_err-close_end-in-NoChild.ensures.1
    (left_join _ _ _ _ _ _
    (unstarted c.args.slots rest c.args.next.now c.args.before children c.args.state.now c.in-Some.read_end c.in-Some.write_end
    (g.W.World.events c.args.world.now) (g.W.World.events c.pipe.new.world) (g.W.World.events c.start_shell.new.world) c.in_ok-started.started
    (rw c.in-Some.is at c.in_ok-read_end.ensures) (rw c.stage_slots-inner.ensures at c.in_ok-started.ensures)
    (g.W.World.events c.close.new.world) _ c.in_ok-close.ensures c.in-NoChild.why.now (ap started_of c.in-NoChild.is) _ _ c.in_ok-close-in-NoChild.ensures)
    (left_refusal _ _ _ (option_map (λ end. end.0) c.args.before) children c.in-NoChild.why.now (state_of c.args.state.now) (c.in_err-close_end-in-NoChild.ensures (state_of c.args.state.now))))

pub returns-in_ok-close_end-in-NoChild : goal.returns-in_ok-close_end-in-NoChild
returns-in_ok-close_end-in-NoChild g c = λ rest children.
    ran_join _ _ _ _ _ _
    (unstarted c.args.slots rest c.args.next.now c.args.before children c.args.state.now c.in-Some.read_end c.in-Some.write_end
    (g.W.World.events c.args.world.now) (g.W.World.events c.pipe.new.world) (g.W.World.events c.start_shell.new.world) c.in_ok-started.started
    (rw c.in-Some.is at c.in_ok-read_end.ensures) (rw c.stage_slots-inner.ensures at c.in_ok-started.ensures)
    (g.W.World.events c.close.new.world) _ c.in_ok-close.ensures c.in-NoChild.why.now (ap started_of c.in-NoChild.is) _ _ c.in_ok-close-in-NoChild.ensures)
    (ran_refusal _ _ (option_map (λ end. end.0) c.args.before) children c.in-NoChild.why.now (state_of c.args.state.now) (c.in_ok-close_end-in-NoChild.ensures (state_of c.args.state.now)))
