-- What is promised of the families that values stand for.
use Rattle.law_family.proofs.Promised.{promised}
use Rattle.rc_shell.specs.Families.{Holds, made_of}
use Rattle.rc_shell.specs.Held.{Held}
use Rattle.rc_shell.specs.Made.{KeepsPromise}
use Rattle.rc_shell.proofs.Stands.{first_proper, state_proper}

pub keeps_promise : (h : Held) → Holds h → KeepsPromise (made_of h)
keeps_promise h holds =
    let p = promised h.limit (made_of h).tree (made_of h).state (made_of h).steps holds.made in
    record { made = holds.made; promised = p; read = p.read (first_proper h holds) (state_proper h.processes) }
