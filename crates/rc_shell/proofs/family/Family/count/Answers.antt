use Rattle.std.proofs.Common.{◌≡◌, subst, arith}
use Rattle.rc_shell.specs.Families.{made_of}
use Rattle.rc_shell.specs.Made.{KeepsPromise, processes}
use Rattle.rc_shell.proofs.Promises.{keeps_promise}
use Rattle.rc_shell.proofs.family.Family.count.Goals as goal

pub returns-clause-count : goal.returns-clause-count
returns-clause-count c = subst (λ h. c.len.result ≡ (processes (made_of h)).count) c.self.view_is
    (let n = c.self.invariant.stand.count in omega (arith, n, c.len.ensures))

pub returns-clause-promised : goal.returns-clause-promised
returns-clause-promised c = subst (λ h. KeepsPromise (made_of h)) c.self.view_is (keeps_promise _ c.self.invariant)
