use Rattle.std.proofs.Common.{rules, ◌≡◌, List, ℕ, string_bytes, subst, ◌∙◌}
use Rattle.rc_code.specs.Views.{code_of}
use Rattle.rc_code.specs.declared.code.Code.{Code}
use Rattle.rc_scope.specs.CompiledTexts.{IsCodeOfText}
use Rattle.rc_scope.proofs.recent_codes.CompiledText.code_of.Goals as goal

-- the same code, of the same text
shared : (text own : List ℕ) (a b : Code) → own ≡ text → code_of b ≡ code_of a → IsCodeOfText own a → IsCodeOfText text b
shared text own a b same e h = subst (λ t. IsCodeOfText t b) same (h.0, h.1, e ∙ h.2)

pub returns-then-eq : goal.returns-then-eq
returns-then-eq c =
    let same : string_bytes c.self.inside.text ≡ c.args.text.now = search rules in
    shared c.args.text.now (string_bytes c.self.inside.text) c.self.inside.code c.in_ok-clone.field-0 same c.in_ok-clone.ensures.cases c.self.invariant
