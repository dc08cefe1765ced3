use Rattle.std.proofs.Common.{rules, Ok, sym, ap, ◌∙◌, arith}
use Rattle.std.proofs.lemmas.Result.{err_from_is_err_and}
use Rattle.rc_model.specs.Mirrors.Descent as d
use Rattle.rc_model.specs.Syntax.Grammar.{redirect}
use Rattle.rc_model.specs.Syntax.Tree as tree
use Rattle.rc_tree.specs.View.{nodes_push, branch_tree, branches_tree, cmd_tree, redirs_tree, tree_Simple}
use Rattle.rc_parser.specs.Reading.{made}
use Rattle.rc_parser.specs.Tokens.{lexemes_of}
use Rattle.rc_parser.proofs.Spelled.{word_is_text, quoted_is_text}
use Rattle.rc_parser.proofs.Turns.{lone_word, branches, branches_case, simple_fails, simple_whole}
use Rattle.rc_parser.proofs.descent.+parse.Goals.{switches::parse_cases-in-Some-Semicolon-default-default, switches::parse_cases-in-Some-Newline-default-default, switches::parse_cases-in-Some-Word-default-default+in_ok-branch-in-Some-Word-default-default+in_ok-push-in-Some-Word-default-default}
use Rattle.rc_parser.proofs.descent.+parse.Goals as goal

pub arguments::parse_part-parse_plain-requires : goal.arguments::parse_part-parse_plain-requires
arguments::parse_part-parse_plain-requires t c =
    let at = rw c.in-Some-Word-default-default.field-0-0-is at c.in-Some-Word-default-default.ensures in
    word_is_text _ _ _ at c.args.tokens.texts

pub arguments::parse_part-parse_quoted-requires : goal.arguments::parse_part-parse_quoted-requires
arguments::parse_part-parse_quoted-requires t c =
    let at = rw c.in-Some-Quoted-default-default.field-0-0-is at c.in-Some-Quoted-default-default.ensures in
    quoted_is_text _ _ _ at c.args.tokens.texts

pub arguments::parse_argument-returns-in-Some : goal.arguments::parse_argument-returns-in-Some
arguments::parse_argument-returns-in-Some t c =
    let word = c.in-Some in
    rw (lone_word c.args.left c.args.inside word.text.now (lexemes_of c.args.tokens) (lexemes_of word.rest) word.ensures.level word.ensures.word word.ensures.alone) c.parse_plain.ensures

pub openings::parse_simple_command-returns-in_err-words-2 : goal.openings::parse_simple_command-returns-in_err-words-2
openings::parse_simple_command-returns-in_err-words-2 t c =
    let e = err_from_is_err_and c.from_residual-in_err-words-2.result c.from_residual-in_err-words-2.ensures.1 in
    rw (e.1, e.2) (simple_fails c.in_err-words-2.field-0.0 _ _ _ _ c.in_ok-words.ensures c.in_err-words-2.ensures)

pub openings::parse_simple_command-returns : goal.openings::parse_simple_command-returns
openings::parse_simple_command-returns t c =
    simple_whole _ _ _ _ c.in_ok-words.ensures
    ∙ ap (λ q. made (λ x. d.Staged (redirect x.1 (tree.Simple x.0))) q) c.in_ok-words-2.ensures
    ∙ ap (λ q. Ok (d.Staged q, lexemes_of c.in_ok-words-2.rest)) (sym (c.in_ok-command-2.ensures
    ∙ ap (redirect (redirs_tree c.in_ok-words-2.redirs.items)) (ap cmd_tree c.in_ok-command.ensures.ok ∙ tree_Simple c.in_ok-words-2.words)))

pub switches::parse_cases-loop-preserved : goal.switches::parse_cases-loop-preserved
switches::parse_cases-loop-preserved t c =
    elim c.match-first-4.branch [
      | switches::parse_cases-in-Some-Semicolon-default-default w ↦ grind (arith, branches)
      | switches::parse_cases-in-Some-Newline-default-default w ↦ grind (arith, branches)
      | switches::parse_cases-in-Some-Word-default-default+in_ok-branch-in-Some-Word-default-default+in_ok-push-in-Some-Word-default-default w ↦
          branches_case _ _ _ _ _ _ _ (lexemes_of c.t28-1.given.0.0.2) _ _ c.t28-1.given.0.0.1.now _ c.loop.invariant (search rules) (sym w.is_case.ensures ∙ w.if-is_case.true)
          w.past_caret.ensures
          (w.in_ok-branch-in-Some-Word-default-default.ensures ∙ ap (λ q. Ok (branch_tree w.in_ok-branch-in-Some-Word-default-default.branch, lexemes_of q)) (sym w.rest-is))
          c.loop-test.true (ap (λ q. branches_tree q.items) w.branches-is ∙ search (rules, nodes_push))
    ]
