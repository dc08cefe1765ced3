use Rattle.std.proofs.Common.{sym, subst}
use Rattle.std.proofs.lemmas.Str.{IsUtf8-append, IsUtf8-had}
use Rattle.std.specs.Str.{IsUtf8}
use Rattle.rc_text.specs.Rooms.{bytes_in}
use Rattle.rc_text.proofs.LiteralMarks.{either_way}
use Rattle.rc_text.proofs.texts.Text.push_str.Goals as goal

pub invariant_of-self : goal.invariant_of-self
invariant_of-self c =
    let u : IsUtf8 c.in-InPlace.text.bytes = IsUtf8-had _ (subst (λ r. ∥ IsUtf8 (bytes_in r) ∥₁) c.in-InPlace.is c.args.self.now.ok) in
    record {
      ok = ∣ either_way c.try_push_str.result
          (λ e. subst IsUtf8 (sym e) (IsUtf8-append _ _ u c.utf8.next))
          (λ e. subst (λ t. IsUtf8 t.bytes) (sym e) u)
          c.try_push_str.ensures.ok c.try_push_str.ensures.err ∣₁;
    }
