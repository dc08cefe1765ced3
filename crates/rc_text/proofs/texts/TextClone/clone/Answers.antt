use Rattle.std.proofs.Common.{sym, ◌∙◌, subst}
use Rattle.std.specs.Str.{IsUtf8}
use Rattle.rc_text.specs.Rooms.{bytes_in}
use Rattle.rc_text.proofs.texts.TextClone.clone.Goals as goal
use Rattle.rc_text.proofs.texts.TextClone.clone.Goals.{in-InPlace, in-Shared+in_ok-clone-in-Shared}

pub invariant_of-result : goal.invariant_of-result
invariant_of-result c =
    record {
      ok = elim c.match-self.branch [
        | in-InPlace w ↦ subst (λ r. ∥ IsUtf8 (bytes_in r) ∥₁) (w.in-InPlace.is ∙ sym w.room-is) c.args.self.now.ok
        | in-Shared+in_ok-clone-in-Shared w ↦ subst (λ r. ∥ IsUtf8 (bytes_in r) ∥₁) (sym w.room-is) w.in_ok-clone-in-Shared.field-0.value.ok
      ];
    }
