use Rattle.std.proofs.Common.{sym, subst}
use Rattle.std.proofs.lemmas.Str.{IsUtf8-append, IsUtf8-had}
use Rattle.std.specs.Str.{IsUtf8}
use Rattle.rc_text.proofs.texts.Text.grown.Goals as goal

pub invariant_of-result : goal.invariant_of-result
invariant_of-result c = record { ok = ∣ subst IsUtf8 (sym c.in-Ok.ensures.ok) (IsUtf8-append _ _ (IsUtf8-had _ c.requires) c.utf8.next) ∣₁ }
