-- What is known of a script before its tokens are looked at.
use Rattle.std.proofs.Common.{◌≡◌, ℕ, ◌<◌, ◌≤◌, Bool, true, false, List, Some, length, refl, sym, ap, ◌∙◌, subst}
use Rattle.std.proofs.lemmas.Str.{IsUtf8-from_is_utf8}
use Rattle.std.specs.Str.{IsUtf8, is_utf8}
use Rattle.std.specs.Str.Lossy.{utf8_valid_len}
use Rattle.rc_model.specs.declared.fault.FaultKind.TheVariants.{TooLong, NotText}
use Rattle.rc_model.specs.Syntax.Faults.{fault}
use Rattle.rc_model.specs.Syntax.Accepted.{line_of, longest_script}
use Rattle.rc_model.specs.Mirrors.FirstFault.{first_fault}
use Rattle.law_syntax.proofs.FirstFault.{first_too_long, first_not_text}

pub too_long : (text : List ℕ) → longest_script < length text → first_fault text ≡ Some (fault TooLong 0)
too_long text h = first_too_long text h

no_text : (text : List ℕ) (b : Bool) → is_utf8 text ≡ b → (IsUtf8 text → ⊥) → b ≡ false
no_text text true e h = absurd (h (IsUtf8-from_is_utf8 text e))
no_text text false e h = refl

pub not_text : (text : List ℕ) (place line : ℕ) → length text ≤ longest_script → (IsUtf8 text → ⊥) → place ≡ utf8_valid_len text → line ≡ line_of text place →
    first_fault text ≡ Some (fault NotText line)
not_text text place line short h p l =
    subst (λ n. first_fault text ≡ Some (fault NotText n)) (sym (l ∙ ap (line_of text) p)) (first_not_text text short (no_text text (is_utf8 text) refl h))

pub ruleset texts = (too_long, not_text)
