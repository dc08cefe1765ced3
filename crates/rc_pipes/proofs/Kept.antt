-- A child that is taken back leaves the list as it was.
use Rattle.std.proofs.Common.{◌≡◌, ◌-◌, ◌+◌, ℕ, List, [], ◌∷◌, ◌++◌, length, take, ap, arith, length-append}
use Rattle.std.proofs.lemmas.List.{take_at}
use Rattle.rc_model.specs.Run.State.{State, add_child}

-- the list without the newest is the one before
before_newest : (ns : List ℕ) (n : ℕ) → take (length (ns ++ n ∷ []) - 1) (ns ++ n ∷ []) ≡ ns
before_newest ns n =
    let count : length (ns ++ n ∷ []) ≡ length ns + 1 = length-append ns (n ∷ []) in
    let one : length ns ≡ length (ns ++ n ∷ []) - 1 = omega (arith, count) in
    take_at ns (n ∷ []) (length (ns ++ n ∷ []) - 1) one

pub taken_back : (s t u : State) (n : ℕ) → t ≡ add_child s n →
    u ≡ record t { background = take (length t.background - 1) t.background } → u ≡ s
taken_back s t u n added taken =
    rw (taken, added) (ap (λ ns. record s { background = ns }) (before_newest s.background n))
