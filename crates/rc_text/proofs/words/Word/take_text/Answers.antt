use Rattle.std.proofs.Common.{ℕ, Bool, map, ap, sym, ◌∙◌}
use Rattle.std.proofs.lemmas.Str.{IsUtf8-had}
use Rattle.rc_text.proofs.Marks.{text_of_word}
use Rattle.rc_text.proofs.MarkedRuns.{characters_of}
use Rattle.rc_text.proofs.words.Word.take_text.Goals as goal

pub returns-clause-text : goal.returns-clause-text
returns-clause-text c =
    let text = c.self.inside.text in
    text_of_word _ _ _ (IsUtf8-had _ text.ok) (characters_of _ _ (IsUtf8-had _ text.ok) c.self.invariant) c.self.view_is

pub returns-clause-characters : goal.returns-clause-characters
returns-clause-characters c =
    let text = c.self.inside.text in
    sym (characters_of _ _ (IsUtf8-had _ text.ok) c.self.invariant) ∙ ap (map (λ (m : ℕ × Bool). m.0)) c.self.view_is
