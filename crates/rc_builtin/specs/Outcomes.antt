-- The outcome of the words of a simple command.
use Rattle.std.specs.Prelude.{◌≡◌, List, [], Option, Result, Ok, Err, map}
use Rattle.rc_text.specs.Texts.{text_bytes}
use Rattle.rc_model.specs.Run.Calls.{Event}
use Rattle.rc_model.specs.Run.Plans.{Plan, done_with, RanBetween}
use Rattle.rc_model.specs.Run.Shell as shell
use Rattle.rc_model.specs.Run.State.{State}
use Rattle.rc_model.specs.Run.Builtins.{Called, Finished, Body, BodyWith}
use Rattle.rc_model.specs.Code.Layout.{code}
use Rattle.rc_model.specs.Syntax.Tree.{Node, cmd}
use Rattle.rc_code.specs.Views.{code_of}
use Rattle.rc_world.specs.Comes.{Left}
use Rattle.rc_world.specs.declared.starts.Stop.{Stop}
use Rattle.rc_builtin.specs.declared.command_words.Outcome.{Outcome}
use Rattle.rc_builtin.specs.declared.command_words.Outcome.TheVariants as words

-- the words of a simple command are finished in this state, or lead to a body that is to be called, or to the end of
-- the shell
abbrev pub RunsWords : (before after : Option (List Event)) → Plan (shell.ShellResult Called) → State →
    Result Outcome Stop → Type 0
RunsWords before after plan s (Ok words.Finished) = RanBetween before after plan (done_with (shell.Next Finished s))
RunsWords before after plan s (Ok (words.Body body)) =
    (called : Node cmd) × (code_of body ≡ code called)
    × RanBetween before after plan (done_with (shell.Next (Body called) s))
RunsWords before after plan s (Ok (words.Call args body)) =
    (called : Node cmd) × (code_of body ≡ code called)
    × RanBetween before after plan (done_with (shell.Next (BodyWith (map text_bytes args.items) called) s))
RunsWords before after plan s (Ok words.Exit) = RanBetween before after plan (done_with (shell.Exit s []))
RunsWords before after plan s (Err stop) = Left before after plan stop
