use Rattle.rc_model.specs.Run.FileNames.{expanded}
use Rattle.rc_world.specs.declared.starts.Stop.TheVariants.{NoMemory}
use Rattle.rc_world.proofs.Joins.{passed_up}
use Rattle.rc_glob.proofs.Walks.{left_word, memory_after_word, next_word, no_words_left}
use Rattle.rc_glob.proofs.expansion.expand_all.Goals as goal

pub returns-in_err-expand_word : goal.returns-in_err-expand_word
returns-in_err-expand_word g c = λ s.
    passed_up _ _ _ _ c.from_residual.result c.in_err-expand_word.field-0.0 c.from_residual.ensures.1
    (left_word _ _ s (expanded c.args.words.now s) c.args.words.now c.loop-word.word-index c.loop-word.all _ _
    c.word-item.result c.loop-word-test.true c.word-item.is (c.loop-word.invariant s)
    (c.in_err-expand_word.ensures s))

pub returns-in_err-append : goal.returns-in_err-append
returns-in_err-append g c = λ s.
    passed_up _ _ _ _ c.from_residual-in_err-append.result NoMemory c.from_residual-in_err-append.ensures.1
    (memory_after_word _ _ s (expanded c.args.words.now s) c.args.words.now c.loop-word.word-index c.loop-word.all _
    c.word-item.result _ c.loop-word-test.true c.word-item.is (c.loop-word.invariant s)
    (c.in_ok-expand_word.ensures s))

pub loop-word-preserved : goal.loop-word-preserved
loop-word-preserved g c = λ s.
    next_word _ _ s (expanded c.args.words.now s) c.args.words.now c.loop-word.word-index c.loop-word.all _
    c.word-item.result _ _ c.loop-word-test.true c.word-item.is c.in_ok-append.ensures.ok (c.loop-word.invariant s)
    (c.in_ok-expand_word.ensures s)

pub returns : goal.returns
returns g c = λ s. no_words_left _ _ s (expanded c.args.words.now s) c.args.words.now c.loop-word.word-index c.loop-word.all c.loop-word-test.false (c.loop-word.invariant s)
