use Rattle.std.proofs.Common.{rules, ◌≡◌, false, Some, None, is_some, option_map, unwrap_or, sym, ◌∙◌, ap, arith}
use Rattle.std.specs.Map.{lookup, set_value}
use Rattle.rc_scope.specs.Rows.{entries_in, is_named, entries_of}
use Rattle.rc_scope.specs.Stacks.{covers_in}
use Rattle.rc_scope.specs.declared.variables.value_rows.Value.{Value}
use Rattle.rc_scope.proofs.Rows.{around, rows_sorted, lookup_row, lookup_at, lookup_past, rows_at, set_row}
use Rattle.rc_scope.proofs.variables.value_rows.Values.write.Goals as goal

pub returns-then-len-row-clause-absent : goal.returns-then-len-row-clause-absent
returns-then-len-row-clause-absent c =
    rw (← c.self.view_is) (lookup_past c.args.name.now c.self.inside.rows.items c.self.invariant (omega arith))

pub returns-then-len-row-clause-ordered : goal.returns-then-len-row-clause-ordered
returns-then-len-row-clause-ordered c = rw (← c.self.view_is) (rows_sorted 0 c.self.inside.rows.items c.self.invariant)

pub invariant_of-self : goal.invariant_of-self
invariant_of-self c =
    rows_at c.args.name.now c.row_of-row.result c.self.inside.rows.items c.index_mut-row.result.now (c.get_mut.follows.lender _)
    (omega arith) (omega arith) c.index_mut-row.ensures.value c.self.invariant (c.get_mut.follows.holds _).1

pub returns-in-Some-clause-found : goal.returns-in-Some-clause-found
returns-in-Some-clause-found c =
    let q = c.args.name.now in
    let rows = c.self.inside.rows.items in
    let i = c.row_of-row.result in
    let row = c.index_mut-row.result.now in
    let w = around q 0 i rows row (omega arith) (omega arith) c.index_mut-row.ensures.value c.self.invariant in
    let found : lookup (is_named q) (entries_in row) ≡ Some c.in-Some.value.now = search rules in
    rw (← c.self.view_is) (ap is_some (lookup_row q 0 i rows row w ∙ found))

pub returns-in-Some-clause-new : goal.returns-in-Some-clause-new
returns-in-Some-clause-new c =
    let q = c.args.name.now in
    let rows = c.self.inside.rows.items in
    let i = c.row_of-row.result in
    let row = c.index_mut-row.result.now in
    let w = around q 0 i rows row (omega arith) (omega arith) c.index_mut-row.ensures.value c.self.invariant in
    let new : Value = record { texts = c.args.texts; covers = c.in-Some.value.now.covers } in
    let h = c.get_mut.follows.holds new in
    let found : lookup (is_named q) (entries_in row) ≡ Some c.in-Some.value.now = search rules in
    let kept : new.covers ≡ covers_in q (entries_of rows) =
    sym (ap (λ o. unwrap_or (option_map (λ (v : Value). v.covers) o) false) (lookup_row q 0 i rows row w ∙ found)) in
    rw (← c.self.view_is) (set_row q 0 i rows row w (c.get_mut.follows.lender new) new h.0
    ∙ ap (λ b. set_value (is_named q) (entries_of rows) (record { texts = c.args.texts; covers = b })) kept)

pub returns-in-Some-clause-ordered : goal.returns-in-Some-clause-ordered
returns-in-Some-clause-ordered c = rw (← c.self.view_is) (rows_sorted 0 c.self.inside.rows.items c.self.invariant)

pub returns-clause-absent : goal.returns-clause-absent
returns-clause-absent c =
    let row = c.index_mut-row.result.now in
    let none : lookup (is_named c.args.name.now) (entries_in row) ≡ None = search rules in
    rw (← c.self.view_is)
    (lookup_at c.args.name.now c.row_of-row.result c.self.inside.rows.items row (omega arith) (omega arith) c.index_mut-row.ensures.value c.self.invariant ∙ none)

pub returns-clause-ordered : goal.returns-clause-ordered
returns-clause-ordered c = rw (← c.self.view_is) (rows_sorted 0 c.self.inside.rows.items c.self.invariant)
