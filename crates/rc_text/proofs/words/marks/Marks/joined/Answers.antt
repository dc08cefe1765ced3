use Rattle.std.proofs.Common.{◌≡◌, ◌++◌, length, ap, refl, subst, ◌∙◌}
use Rattle.std.specs.Prelude.{◌⊎◌, MatchOption}
use Rattle.rc_text.specs.Literals.{marks}
use Rattle.rc_text.specs.Views.{word_of, AreMarkedAsOne, HasPattern}
use Rattle.rc_text.proofs.LiteralMarks.{if_ok}
use Rattle.rc_text.proofs.MarkedRuns.{joined_marks}
use Rattle.rc_text.proofs.words.marks.Marks.joined.Goals as goal

pub returns-in-Some : goal.returns-in-Some
returns-in-Some c =
    let left = c.args.self.now in
    let right = c.args.next_marks.now in
    let end = length c.args.text.now in
    let as_one : AreMarkedAsOne left end right c.in-Some.marks =
    subst (λ o. MatchOption o (HasPattern left ⊎ HasPattern right) (AreMarkedAsOne left end right)) c.in-Some.is c.in_ok-marks.ensures in
    as_one c.args.text.now c.args.next.now refl c.utf8.text c.utf8.next c.requires.left c.requires.right

pub returns : goal.returns
returns c =
    let left = c.args.self.now in
    let right = c.args.next_marks.now in
    let text = c.args.text.now in
    let next = c.args.next.now in
    let pattern : HasPattern left ⊎ HasPattern right =
    subst (λ o. MatchOption o (HasPattern left ⊎ HasPattern right) (AreMarkedAsOne left (length text) right)) c.in_default.is c.in_ok-marks.ensures in
    let all : marks c.push_chars-2.new.all.items ≡ word_of text left ++ word_of next right =
    c.in_ok-push_chars-2.ensures
    ∙ ap (λ w. w ++ word_of next right) (c.in_ok-push_chars.ensures ∙ ap (λ chs. marks chs ++ word_of text left) c.in_ok-all.ensures.items) in
    if_ok c.of_pattern.result
    (λ joined e. joined_marks text next left right c.utf8.text c.utf8.next c.requires.left c.requires.right pattern _ all joined e)
    c.of_pattern.ensures
