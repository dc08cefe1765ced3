use Rattle.std.proofs.Common.{subst}
use Rattle.std.specs.Str.{IsUtf8}
use Rattle.rc_text.specs.Rooms.{bytes_in}
use Rattle.rc_text.proofs.texts.Text.joined.Goals as goal

pub grown-requires : goal.grown-requires
grown-requires c = subst (λ r. ∥ IsUtf8 (bytes_in r) ∥₁) c.in-InPlace.is c.args.self.now.ok
