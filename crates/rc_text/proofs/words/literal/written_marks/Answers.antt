use Rattle.std.proofs.Common.{rules, ◌≡◌, Bool, true, false, not, ◌&&◌, ap, refl, ◌∙◌}
use borrow.Author.Tests.{tests}
use Rattle.std.specs.List.{list_any}
use Rattle.std.specs.Str.{chars}
use Rattle.rc_model.specs.Syntax.Words.{has_pattern, is_pattern_char, written}
use Rattle.rc_text.proofs.LiteralMarks.{if_ok, patterns_of}
use Rattle.rc_text.proofs.MarkedRuns.{pattern_of_written, runs_of_written}
use Rattle.rc_text.proofs.words.literal.written_marks.Goals.{then-quoted-via-then-quoted, then-quoted-via-else-quoted+then-not-has_pattern_char}
use Rattle.rc_text.proofs.words.literal.written_marks.Goals as goal

none : (b found : Bool) → found ≡ false → b && found ≡ false
none true found e = e
none false found e = refl

pub returns-then-quoted : goal.returns-then-quoted
returns-then-quoted c =
    let text = c.args.text.now in
    let quoted = c.args.quoted in
    let no_pattern : has_pattern (written text quoted) ≡ false = patterns_of text quoted ∙ elim c.then-quoted.branch [
      | then-quoted-via-then-quoted w ↦ ap (λ b. not b && list_any is_pattern_char (chars text)) w.if-quoted.true
      | then-quoted-via-else-quoted+then-not-has_pattern_char w ↦ none (not quoted) _ (search (rules, tests))
    ] in
    runs_of_written text quoted no_pattern c.one.result c.one.ensures

pub returns : goal.returns
returns c =
    if_ok c.of_pattern.result
    (λ all e. pattern_of_written c.args.text.now c.args.quoted (search (rules, tests)) (search (rules, tests)) _ c.in_ok-all_marked.ensures all e)
    c.of_pattern.ensures
