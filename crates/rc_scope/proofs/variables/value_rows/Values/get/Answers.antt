use Rattle.std.proofs.Common.{◌≡◌, ◌+◌, sym, ◌∙◌, arith}
use Rattle.rc_scope.specs.Rows.{row_of}
use Rattle.rc_scope.proofs.Rows.{around, lookup_row, lookup_past}
use Rattle.rc_scope.proofs.variables.value_rows.Values.get.Goals as goal

pub returns-then-len-row : goal.returns-then-len-row
returns-then-len-row c =
    rw (← c.self.view_is) (sym (lookup_past c.args.name.now c.self.inside.rows.items c.self.invariant (omega arith)))

pub returns : goal.returns
returns c =
    let q = c.args.name.now in
    let rows = c.self.inside.rows.items in
    let i = c.row_of-row.result in
    let at : row_of q ≡ 0 + i = omega arith in
    let w = around q 0 i rows c.index.result.now at (omega arith) c.index.ensures c.self.invariant in
    rw (← c.self.view_is) (c.get.ensures ∙ sym (lookup_row q 0 i rows c.index.result.now w))
