use Rattle.std.proofs.Common.{rules, ◌≡◌, ◌∷◌, [], List, length, set, refl, arith}
use Rattle.rc_scope.proofs.variables.value_members.Members.replace_only.Goals as goal

-- the only element is another one
only : {T : Type 0} (xs : List T) (x : T) → length xs ≡ 1 → set xs 0 x ≡ x ∷ []
only [] x h = absurd (omega (arith, h))
only (y ∷ []) x h = refl
only (y ∷ z ∷ ys) x h = absurd (omega (arith, h))

pub returns-clause-ok : goal.returns-clause-ok
returns-clause-ok c =
    let xs = c.in-Own.own.items in
    let one : length xs ≡ 1 = search rules in
    only xs c.args.text one
