use Rattle.rc_scope.proofs.Places.{place_read}
use Rattle.rc_scope.proofs.variables.positional_members.place_of.Goals as goal

pub returns : goal.returns
returns c = rw c.ok.ensures.value (place_read c.args.digits.now _ c.requires.digits c.requires.some c.parse.ensures.value.0)
