-- Code that is made if all of it was written.
use Rattle.std.proofs.Common.{Result, Ok, Err, IfOk, OnOk, IsOk, arith}

-- there is code only where all was written, so what holds then holds of it
pub where_written : {A B E F P : Type 0} (Q : A → Type 0) (made : Result A E) (written : Result B F) → OnOk made (IsOk written) → OnOk written P → (P → IfOk made Q) → IfOk made Q
where_written Q (Ok x) (Ok u) whole holds go_on = go_on holds
where_written Q (Ok x) (Err e) whole holds go_on = absurd (grind arith)
where_written Q (Err e) written whole holds go_on = tt

-- what follows once all was written
pub once_written : {B F P Q : Type 0} (written : Result B F) → OnOk written P → (P → Q) → OnOk written Q
once_written (Ok u) holds go_on = go_on holds
once_written (Err e) holds go_on = tt
