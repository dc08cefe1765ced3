use Rattle.std.proofs.Common.{rules, ◌≡◌, None, Some, Result, Ok, Err, OnErr, refl, ◌∙◌, ap, arith}
use Rattle.std.proofs.lemmas.Grind.{common_steps}
use Rattle.std.proofs.lemmas.Map.Steps.{set_value_same}
use Rattle.std.specs.Map.{lookup, set_value}
use Rattle.rc_scope.specs.Rows.{entries_in, is_named}
use Rattle.rc_scope.specs.declared.variables.value_rows.Value.{Value}
use Rattle.rc_scope.proofs.Rows.{around, rows_sorted, lookup_row, lookup_at, lookup_past, rows_at, set_row, same_row}
use Rattle.rc_scope.proofs.variables.value_rows.Values.append.Goals as goal

-- what holds, holds at an error
at_error : {T E : Type 0} (P : Type 0) (r : Result T E) → P → OnErr r P
at_error P (Ok x) h = tt
at_error P (Err e) h = h

pub returns-then-len-row-clause-ok : goal.returns-then-len-row-clause-ok
returns-then-len-row-clause-ok c =
    (refl, rw (← c.self.view_is) (lookup_past c.args.name.now c.self.inside.rows.items c.self.invariant (omega arith)), refl)

pub returns-then-len-row-clause-ordered : goal.returns-then-len-row-clause-ordered
returns-then-len-row-clause-ordered c = rw (← c.self.view_is) (rows_sorted 0 c.self.inside.rows.items c.self.invariant)

pub invariant_of-self : goal.invariant_of-self
invariant_of-self c =
    rows_at c.args.name.now c.row_of-row.result c.self.inside.rows.items c.index_mut-row.result.now (c.get_mut.follows.lender _)
    (omega arith) (omega arith) c.index_mut-row.ensures.value c.self.invariant (c.get_mut.follows.holds _).1

pub returns-in_err-push-clause-err : goal.returns-in_err-push-clause-err
returns-in_err-push-clause-err c =
    let q = c.args.name.now in
    let rows = c.self.inside.rows.items in
    let i = c.row_of-row.result in
    let row = c.index_mut-row.result.now in
    let old = c.in-Some.value.now in
    let w = around q 0 i rows row (omega arith) (omega arith) c.index_mut-row.ensures.value c.self.invariant in
    let new : Value = record { texts = c.push.new.self; covers = old.covers } in
    let found : lookup (is_named q) (entries_in row) ≡ Some old = search rules in
    let same : new ≡ old = ap (λ t. record { texts = t; covers = old.covers }) c.in_err-push.ensures.err in
    at_error _ c.from_residual.result (rw (← c.self.view_is) (same_row q 0 i rows row (c.get_mut.follows.lender new) w
    ((c.get_mut.follows.holds new).0 ∙ ap (set_value (is_named q) (entries_in row)) same ∙ set_value_same (is_named q) (entries_in row) old found)))

pub returns-in_err-push-clause-ordered : goal.returns-in_err-push-clause-ordered
returns-in_err-push-clause-ordered c = rw (← c.self.view_is) (rows_sorted 0 c.self.inside.rows.items c.self.invariant)

pub invariant_of-self-in-Some : goal.invariant_of-self-in-Some
invariant_of-self-in-Some c =
    rows_at c.args.name.now c.row_of-row.result c.self.inside.rows.items c.index_mut-row.result.now (c.get_mut.follows.lender _)
    (omega arith) (omega arith) c.index_mut-row.ensures.value c.self.invariant (c.get_mut.follows.holds _).1

pub returns-in-Some-clause-ok : goal.returns-in-Some-clause-ok
returns-in-Some-clause-ok c =
    let q = c.args.name.now in
    let rows = c.self.inside.rows.items in
    let i = c.row_of-row.result in
    let row = c.index_mut-row.result.now in
    let old = c.in-Some.value.now in
    let w = around q 0 i rows row (omega arith) (omega arith) c.index_mut-row.ensures.value c.self.invariant in
    let new : Value = record { texts = c.push.new.self; covers = old.covers } in
    let found : lookup (is_named q) (entries_in row) ≡ Some old = search rules in
    rw (← c.self.view_is) (
      old,
      new,
      lookup_row q 0 i rows row w ∙ found,
      c.in_ok-push.ensures.ok,
      refl,
      set_row q 0 i rows row w (c.get_mut.follows.lender new) new (c.get_mut.follows.holds new).0,
    )

pub returns-in-Some-clause-ordered : goal.returns-in-Some-clause-ordered
returns-in-Some-clause-ordered c = rw (← c.self.view_is) (rows_sorted 0 c.self.inside.rows.items c.self.invariant)

pub returns-clause-ok : goal.returns-clause-ok
returns-clause-ok c =
    let q = c.args.name.now in
    let rows = c.self.inside.rows.items in
    let row = c.index_mut-row.result.now in
    let none : lookup (is_named q) (entries_in row) ≡ None = search rules in
    (refl, rw (← c.self.view_is) (lookup_at q c.row_of-row.result rows row (omega arith) (omega arith) c.index_mut-row.ensures.value c.self.invariant ∙ none), grind (arith, common_steps))

pub returns-clause-ordered : goal.returns-clause-ordered
returns-clause-ordered c = rw (← c.self.view_is) (rows_sorted 0 c.self.inside.rows.items c.self.invariant)
