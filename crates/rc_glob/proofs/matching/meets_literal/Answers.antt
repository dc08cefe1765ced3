use Rattle.std.proofs.Common.{rules, ◌≡◌, ◌∙◌, false, ap, map, sym}
use Rattle.std.specs.Str.{chars}
use Rattle.rc_model.specs.Run.Patterns.{matches}
use Rattle.rc_model.specs.Syntax.Words.{written}
use Rattle.rc_text.proofs.Marks.{written_characters}
use Rattle.rc_text.specs.Literals.{marks}
use Rattle.rc_glob.proofs.Plain.{plain_is}
use Rattle.rc_glob.proofs.Subjects.{by_one}
use Rattle.rc_glob.proofs.matching.meets_literal.Goals as goal

pub returns-in-Some : goal.returns-in-Some
returns-in-Some c =
    let literal = c.args.pattern.now in
    let own : marks c.in-Some.chars.now ≡ written literal.0 literal.1 = search rules in
    c.is_match.ensures
    ∙ ap (λ w. matches w (chars c.text-subject.result.now) false) own
    ∙ ap (λ cs. matches (written literal.0 literal.1) cs false) c.text-subject.ensures.characters
    ∙ by_one (matches (written literal.0 literal.1) (map (λ m. m.0) c.args.word.now) false)

pub returns-in-None : goal.returns-in-None
returns-in-None c =
    let literal = c.args.pattern.now in
    let word = written literal.0 literal.1 in
    let own : c.text.result.now ≡ literal.0 = search rules in
    plain_is false c.eq.result word c.text.result.now c.text-subject.result.now c.text.utf8 c.text-subject.utf8 c.in-None.ensures
    (ap chars own ∙ sym (written_characters literal.0 literal.1)) c.eq.ensures
    ∙ ap (λ cs. matches word cs false) c.text-subject.ensures.characters
    ∙ by_one (matches word (map (λ m. m.0) c.args.word.now) false)
