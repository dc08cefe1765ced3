use Rattle.std.proofs.Common.{rules, ◌≡◌, Some, None, sym, ◌∙◌, ap, arith}
use Rattle.std.specs.Map.{lookup, set_value}
use Rattle.rc_scope.specs.Rows.{entries_in, is_named}
use Rattle.rc_scope.proofs.Rows.{around, rows_sorted, lookup_row, lookup_at, lookup_past, rows_at, set_row}
use Rattle.rc_scope.proofs.variables.value_rows.Values.replace.Goals as goal

pub returns-then-len-row-clause-absent : goal.returns-then-len-row-clause-absent
returns-then-len-row-clause-absent c =
    rw (← c.self.view_is) (lookup_past c.args.name.now c.self.inside.rows.items c.self.invariant (omega arith))

pub returns-then-len-row-clause-ordered : goal.returns-then-len-row-clause-ordered
returns-then-len-row-clause-ordered c = rw (← c.self.view_is) (rows_sorted 0 c.self.inside.rows.items c.self.invariant)

pub invariant_of-self : goal.invariant_of-self
invariant_of-self c =
    let after = c.get_mut.follows.lender c.replace.new.dest in
    let h = c.get_mut.follows.holds c.replace.new.dest in
    rows_at c.args.name.now c.row_of-row.result c.self.inside.rows.items c.index_mut-row.result.now after (omega arith) (omega arith) c.index_mut-row.ensures.value c.self.invariant h.1

pub returns-in-Some-clause-found : goal.returns-in-Some-clause-found
returns-in-Some-clause-found c =
    let q = c.args.name.now in
    let rows = c.self.inside.rows.items in
    let i = c.row_of-row.result in
    let row = c.index_mut-row.result.now in
    let w = around q 0 i rows row (omega arith) (omega arith) c.index_mut-row.ensures.value c.self.invariant in
    let found : lookup (is_named q) (entries_in row) ≡ Some c.in-Some.old.now = search rules in
    rw (← c.self.view_is) (lookup_row q 0 i rows row w ∙ found ∙ ap Some (sym c.replace.ensures.value))

pub returns-in-Some-clause-new : goal.returns-in-Some-clause-new
returns-in-Some-clause-new c =
    let q = c.args.name.now in
    let rows = c.self.inside.rows.items in
    let i = c.row_of-row.result in
    let row = c.index_mut-row.result.now in
    let w = around q 0 i rows row (omega arith) (omega arith) c.index_mut-row.ensures.value c.self.invariant in
    let h = c.get_mut.follows.holds c.replace.new.dest in
    rw (← c.self.view_is) (set_row q 0 i rows row w (c.get_mut.follows.lender c.replace.new.dest) c.replace.new.dest h.0 ∙ ap (set_value (is_named q) _) c.replace.ensures.after)

pub returns-in-Some-clause-ordered : goal.returns-in-Some-clause-ordered
returns-in-Some-clause-ordered c = rw (← c.self.view_is) (rows_sorted 0 c.self.inside.rows.items c.self.invariant)

pub returns-clause-absent : goal.returns-clause-absent
returns-clause-absent c =
    let row = c.index_mut-row.result.now in
    let none : lookup (is_named c.args.name.now) (entries_in row) ≡ None = search rules in
    rw (← c.self.view_is)
    (lookup_at c.args.name.now c.row_of-row.result c.self.inside.rows.items row (omega arith) (omega arith) c.index_mut-row.ensures.value c.self.invariant ∙ none)

pub returns-clause-ordered : goal.returns-clause-ordered
returns-clause-ordered c = rw (← c.self.view_is) (rows_sorted 0 c.self.inside.rows.items c.self.invariant)
