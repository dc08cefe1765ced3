use Rattle.std.proofs.Common.{sym, ◌∙◌, arith}
use Rattle.rc_scope.proofs.Rows.{around, lookup_changed, lookup_past, remove_row, remove_rows, remove_past}
use Rattle.rc_scope.proofs.variables.value_rows.Values.remove.Goals as goal

pub returns-then-len-row-clause-taken : goal.returns-then-len-row-clause-taken
returns-then-len-row-clause-taken c =
    rw (← c.self.view_is) (sym (remove_past c.args.name.now c.self.inside.rows.items c.self.invariant (omega arith)))

pub returns-then-len-row-clause-gone : goal.returns-then-len-row-clause-gone
returns-then-len-row-clause-gone c =
    rw (← c.self.view_is) (lookup_past c.args.name.now c.self.inside.rows.items c.self.invariant (omega arith))

pub invariant_of-self : goal.invariant_of-self
invariant_of-self c =
    let q = c.args.name.now in
    let rows = c.self.inside.rows.items in
    let i = c.row_of-row.result in
    let row = c.index_mut-row.result.now in
    let w = around q 0 i rows row (omega arith) (omega arith) c.index_mut-row.ensures.value c.self.invariant in
    remove_rows q 0 i rows row w c.remove.new.self c.remove.ensures.taken c.remove.ensures.ordered

pub returns-clause-taken : goal.returns-clause-taken
returns-clause-taken c =
    let q = c.args.name.now in
    let rows = c.self.inside.rows.items in
    let i = c.row_of-row.result in
    let row = c.index_mut-row.result.now in
    let w = around q 0 i rows row (omega arith) (omega arith) c.index_mut-row.ensures.value c.self.invariant in
    rw (← c.self.view_is) (remove_row q 0 i rows row w c.remove.new.self c.remove.ensures.taken)

pub returns-clause-gone : goal.returns-clause-gone
returns-clause-gone c =
    let q = c.args.name.now in
    let rows = c.self.inside.rows.items in
    let i = c.row_of-row.result in
    let row = c.index_mut-row.result.now in
    let w = around q 0 i rows row (omega arith) (omega arith) c.index_mut-row.ensures.value c.self.invariant in
    lookup_changed q 0 i rows row w c.remove.new.self ∙ c.remove.ensures.gone
