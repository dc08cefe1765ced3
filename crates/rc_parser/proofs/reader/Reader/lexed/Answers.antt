use Rattle.std.proofs.Common.{rules, arith, ◌≡◌, ◌∙◌, length, Some, sym, subst, vec_len, eq-eqb, IfErr, IfOk}
use Rattle.rc_model.specs.Mirrors.FirstFault.{first_fault}
use Rattle.rc_model.specs.Syntax.Faults.{fault}
use Rattle.rc_model.specs.declared.fault.FaultKind.TheVariants.{TooLong}
use Rattle.rc_parser.specs.Faults.{Refuses}
use Rattle.rc_parser.proofs.Kept.{all_kept, is_longer}
use Rattle.rc_parser.proofs.Texts.{too_long}
use Rattle.rc_parser.proofs.reader.Reader.lexed.Goals as goal

pub returns-then-not-is_empty-clause-refused : goal.returns-then-not-is_empty-clause-refused
returns-then-not-is_empty-clause-refused c =
    let r = c.self.inside in
    let some : length r.passed.items ≡ 0 → ⊥ = λ z. let t = eq-eqb (vec_len r.passed) 0 (omega (arith, z, r.passed.ok.0)) in (cc) in
    subst (λ z. first_fault z ≡ Some (fault TooLong 0)) c.self.view_is (too_long _ (is_longer _ r.pieces r.room r.passed.items c.self.invariant some))

pub returns-clause-text : goal.returns-clause-text
returns-clause-text c =
    let r = c.self.inside in
    let none : vec_len r.passed ≡ 0 = search rules in
    let whole = c.finish-text.ensures.text ∙ sym (all_kept _ r.pieces r.passed.items (omega (arith, none, r.passed.ok.0))) ∙ c.self.view_is in
    subst (λ z. IfOk c.new.result (λ script. script ≡ z)) whole c.new.ensures.text

pub returns-clause-refused : goal.returns-clause-refused
returns-clause-refused c =
    let r = c.self.inside in
    let none : vec_len r.passed ≡ 0 = search rules in
    let whole = c.finish-text.ensures.text ∙ sym (all_kept _ r.pieces r.passed.items (omega (arith, none, r.passed.ok.0))) ∙ c.self.view_is in
    subst (λ z. IfErr c.new.result (λ e. Refuses e z)) whole c.new.ensures.refused
