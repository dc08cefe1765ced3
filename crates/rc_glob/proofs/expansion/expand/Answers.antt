use Rattle.rc_model.specs.Syntax.Words.{word_texts}
use Rattle.rc_model.specs.Run.FileNames.{expanded_word}
use Rattle.rc_model.specs.Run.Shell.{pure}
use Rattle.rc_world.specs.declared.starts.Stop.TheVariants.{NoMemory}
use Rattle.rc_world.proofs.Joins.{left_memory, passed_up}
use Rattle.rc_world.proofs.Shells.{left_do, left_done, ran_do}
use Rattle.rc_glob.proofs.Walks.{ran_value}
use Rattle.rc_glob.proofs.expansion.expand.Goals as goal

pub returns-in_err-list : goal.returns-in_err-list
returns-in_err-list g c = λ s.
    passed_up _ _ _ _ c.from_residual.result c.in_err-list.field-0.0 c.from_residual.ensures.1 (left_do (expanded_word c.args.word.now) (λ ws. pure (word_texts ws)) (c.in_err-list.ensures s))

pub returns-in_err-into_texts : goal.returns-in_err-into_texts
returns-in_err-into_texts g c = λ s.
    passed_up _ _ _ _ c.from_residual-in_err-into_texts.result NoMemory c.from_residual-in_err-into_texts.ensures.1
    (left_done (expanded_word c.args.word.now) (λ ws. pure (word_texts ws)) (c.in_ok-list.ensures s) (left_memory _ _))

pub returns : goal.returns
returns g c = λ s. ran_do (expanded_word c.args.word.now) (λ ws. pure (word_texts ws)) (c.in_ok-list.ensures s) (ran_value _ s _ _ c.in_ok-into_texts.ensures)
