use Rattle.std.proofs.Common.{◌++◌, length, ap, refl, subst, sym, ◌∙◌}
use Rattle.std.proofs.lemmas.Str.{IsUtf8-had}
use Rattle.rc_text.specs.Texts.{text_bytes}
use Rattle.rc_text.specs.Views.{word_of, AreMarked}
use Rattle.rc_text.proofs.LiteralMarks.{either_way, on_ok}
use Rattle.rc_text.proofs.words.Word.push.Goals as goal

pub invariant_of-self : goal.invariant_of-self
invariant_of-self c =
    let old = c.self.inside in
    let bytes = text_bytes old.text in
    let joined = c.go_on.ensures c.if-go_on.true (length bytes) bytes c.args.next.now refl (IsUtf8-had _ old.text.ok) c.utf8.next c.self.invariant c.requires in
    either_way c.push_str.result
    (λ e. subst (λ t. AreMarked t old.marks) (sym e) joined.0)
    (λ e. subst (λ t. AreMarked t old.marks) (sym e) c.self.invariant)
    c.push_str.ensures.ok c.push_str.ensures.err

pub returns-then-go_on-clause-ok : goal.returns-then-go_on-clause-ok
returns-then-go_on-clause-ok c =
    let old = c.self.inside in
    let bytes = text_bytes old.text in
    let joined = c.go_on.ensures c.if-go_on.true (length bytes) bytes c.args.next.now refl (IsUtf8-had _ old.text.ok) c.utf8.next c.self.invariant c.requires in
    on_ok c.push_str.result
    (λ e. ap (λ t. word_of t old.marks) e ∙ joined.1 ∙ ap (λ w. w ++ word_of c.args.next.now c.args.next_marks.now) c.self.view_is)
    c.push_str.ensures.ok
