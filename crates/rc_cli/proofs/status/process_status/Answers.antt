use Rattle.std.proofs.Common.{◌≡◌, ◌≢◌, ℕ, ◌<◌, List, Option, Some, None, false, IfSome, IfNone, unwrap_or, refl, arith}
use Rattle.std.specs.Fmt.{decimal}
use Rattle.std.proofs.lemmas.Fmt.{decimal_injective}
use Rattle.rc_model.specs.Run.State.{is_true}
use Rattle.rc_cli.specs.Statuses.{IsProcessStatus}
use Rattle.rc_cli.proofs.status.process_status.Goals as goal

-- for a status that isn't true, by the number that it is the decimal of
by_code : (status : List ℕ) (code : Option ℕ) → is_true status ≡ false
    → IfSome code (λ n. (0 < n) × (n < 256) × (status ≡ decimal n))
    → IfNone code ((n : ℕ) → 0 < n → n < 256 → status ≢ decimal n)
    → IsProcessStatus status (unwrap_or code 1)
by_code status (Some m) untrue found none = record {
  yes = λ yes. cc;
  code = λ _ n above below same. decimal_injective m n (omega arith) (omega arith) cc;
  other = λ _ no. absurd (no m found.0 found.1 found.2);
}
by_code status None untrue found none = record {
  yes = λ yes. cc;
  code = λ _ n above below same. absurd (none n above below same);
  other = λ _ no. refl;
}

pub returns-else-is_true : goal.returns-else-is_true
returns-else-is_true c =
    rw c.unwrap_or.ensures (by_code c.args.status.now c.code_of.result (cc) c.code_of.ensures.found c.code_of.ensures.none)
