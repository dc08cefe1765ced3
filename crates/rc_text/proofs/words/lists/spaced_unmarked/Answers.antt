use Rattle.std.proofs.Common.{◌≡◌, ◌∷◌, ◌++◌, false, true, map, sym, ap, ◌∙◌, string_bytes}
use Rattle.std.proofs.lemmas.List.{take_all}
use Rattle.std.proofs.lemmas.Str.{chars-nil}
use Rattle.std.specs.List.{flat_map}
use Rattle.rc_model.specs.Syntax.Words.{unmarked, spaced_words, written}
use Rattle.rc_text.proofs.LiteralMarks.{at_ok}
use Rattle.rc_text.proofs.Marks.{spaced_others}
use Rattle.rc_text.proofs.words.lists.spaced_unmarked.Goals as goal

pub returns : goal.returns
returns c =
    let begun : written (string_bytes c.push_text.new.joined) true ≡ unmarked c.in-Some.first.now =
    at_ok c.in_ok-push_text.was c.push_text.ensures
    ∙ ap (λ t. written t true ++ unmarked c.in-Some.first.now) c.new-joined.ensures.bytes
    ∙ ap (λ cs. map (λ x. (x, false)) cs ++ unmarked c.in-Some.first.now) chars-nil in
    c.plain.ensures ∙ ap (λ t. written t true) c.in_ok-from_string.ensures ∙ c.loop-word.invariant
    ∙ ap (λ ws. written (string_bytes c.push_text.new.joined) true ++ flat_map (λ v. (32, false) ∷ unmarked v) ws) (take_all c.loop-word.word-index c.in-Some.others.now c.loop-word-test.false)
    ∙ ap (λ t. t ++ flat_map (λ v. (32, false) ∷ unmarked v) c.in-Some.others.now) begun
    ∙ spaced_others c.in-Some.first.now c.in-Some.others.now
    ∙ ap (λ ws. unmarked (spaced_words ws)) (sym c.in-Some.ensures.cases.0)
