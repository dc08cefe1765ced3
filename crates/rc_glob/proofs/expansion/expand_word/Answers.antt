use Rattle.std.proofs.Common.{◌∷◌, [], subst}
use Rattle.rc_model.specs.Run.FileNames.{expanded_word}
use Rattle.rc_model.specs.Run.Plans.{RanBetween, done_with}
use Rattle.rc_model.specs.Run.Shell.{Next}
use Rattle.rc_world.specs.declared.starts.Stop.TheVariants.{NoMemory}
use Rattle.rc_world.proofs.Joins.{left_here, passed_up}
use Rattle.rc_glob.specs.Paths.{words_for}
use Rattle.rc_glob.proofs.Walks.{comes_alone}
use Rattle.rc_glob.proofs.expansion.expand_word.Goals as goal

pub returns-in_err-plain-in-Some : goal.returns-in_err-plain-in-Some
returns-in_err-plain-in-Some g c = λ s.
    passed_up _ _ _ _ c.from_residual-in_err-plain-in-Some.result NoMemory c.from_residual-in_err-plain-in-Some.ensures.1
    (left_here _ _ _ _ (c.in_ok-names.ensures s))

pub returns-in-None : goal.returns-in-None
returns-in-None g c = λ s.
    let w = c.args.word.now in
    comes_alone _ _ s _ (w ∷ []) _ c.itself.ensures
    (subst (λ names. RanBetween (g.W.World.events c.args.world.now) (g.W.World.events c.find_files.new.world)
    (expanded_word w s) (done_with (Next (words_for w names) s))) c.in-None.is (c.in_ok-names.ensures s))
