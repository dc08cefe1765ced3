-- The start of the stages of a pipeline.
use Rattle.std.specs.Prelude.{ℕ, List, [], ◌∷◌, ◌++◌, Option, Some, Result, option_map}
use Rattle.rc_model.specs.Run.Acts as acts
use Rattle.rc_model.specs.Run.Calls.{Event}
use Rattle.rc_model.specs.Run.Plans.{Plan, done_with}
use Rattle.rc_model.specs.Run.Shell as shell
use Rattle.rc_model.specs.Run.State.{State}
use Rattle.rc_model.specs.Syntax.Tree.{Node, Many, stage, more}
use Rattle.rc_model.specs.declared.call.Slots.{Slots}
use Rattle.rc_scope.specs.Children.{child_numbers}
use Rattle.rc_world.specs.Comes.{GoesOn}
use Rattle.rc_world.specs.declared.starts.Stop.{Stop}
use Rattle.rc_pipes.specs.declared.stages.StageStart.{StageStart}
use Rattle.rc_pipes.specs.declared.stages.StageStart.TheVariants.{Running, Refused}
use Rattle.rc_pipes.specs.declared.stages.LaunchedStages.{LaunchedStages}
use Rattle.rc_pipes.specs.declared.stages.LaunchedStages.TheVariants as launched

-- what follows the start of a stage: the next one, or nothing after a refusal
abbrev pub after_stage : Slots → Many stage → List ℕ → State → StageStart → Plan (shell.ShellResult acts.LaunchedStages)
after_stage slots rest children s (Running read_end child) =
    acts.stages_from slots rest (Some read_end.0) (children ++ child.0 ∷ []) s
after_stage slots rest children s (Refused why) = done_with (shell.Next (acts.NotLaunched children why.now) s)

-- what became of the stages but the last
abbrev pub launched_of : LaunchedStages → acts.LaunchedStages
launched_of (launched.Running read_end children) =
    acts.Launched (option_map (λ end. end.0) read_end) (child_numbers children.items)
launched_of (launched.Refused children why) = acts.NotLaunched (child_numbers children.items) why.now

-- the first of any list of stages that reads from an end was started, or was not, after any children before it
abbrev pub StartsStage : (before after : Option (List Event)) → Slots → Node stage → Option ℕ → State →
    Result StageStart Stop → Type 0
StartsStage before after slots first read s result = (rest : Many stage) (children : List ℕ) →
    GoesOn before after (acts.stages_from slots (more first rest) read children s)
    (after_stage slots rest children s) result
