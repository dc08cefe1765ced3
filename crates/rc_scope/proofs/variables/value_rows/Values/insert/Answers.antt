use Rattle.std.proofs.Common.{rules, arith, ℕ, ◌≡◌, ◌+◌, string_bytes, Result, Ok, Err, OnErr, sym, ap, ◌∙◌}
use Rattle.std.specs.BTreeMap.{insert_entry}
use Rattle.std.specs.String.{string_cmp}
use Rattle.rc_scope.specs.Rows.{row_of}
use Rattle.rc_scope.proofs.Rows.{around, rows_sorted, insert_row, insert_rows, same_row, same_rows}
use Rattle.rc_scope.proofs.variables.value_rows.Values.insert.Goals as goal

-- what holds, holds at an error
at_error : {T E : Type 0} (P : Type 0) (r : Result T E) → P → OnErr r P
at_error P (Ok x) h = tt
at_error P (Err e) h = h

-- a place is that many rows after the first
place_at : {m i : ℕ} → m ≡ i → m ≡ 0 + i
place_at h = omega (arith, h)

pub returns-in_err-grow-clause-ordered : goal.returns-in_err-grow-clause-ordered
returns-in_err-grow-clause-ordered c = rw (← c.self.view_is) (rows_sorted 0 c.self.inside.rows.items c.self.invariant)

pub invariant_of-self-in_err-insert : goal.invariant_of-self-in_err-insert
invariant_of-self-in_err-insert c =
    let q = string_bytes c.args.name in
    let rows = c.grow.new.rows.items in
    let i = c.row_of-row.result in
    let row = c.index_mut-row.result.now in
    let text : c.deref.result.now ≡ q = search rules in
    let at : row_of q ≡ 0 + i = place_at (sym (c.row_of-row.ensures ∙ ap row_of text)) in
    let w = around q 0 i rows row at c.in_ok-grow.ensures.ok c.index_mut-row.ensures.value (c.grow.ensures.kept.1 0 c.self.invariant) in
    same_rows q 0 i rows row c.insert.new.self w c.in_err-insert.ensures.err

pub returns-in_err-insert-clause-err : goal.returns-in_err-insert-clause-err
returns-in_err-insert-clause-err c =
    let q = string_bytes c.args.name in
    let rows = c.grow.new.rows.items in
    let i = c.row_of-row.result in
    let row = c.index_mut-row.result.now in
    let text : c.deref.result.now ≡ q = search rules in
    let at : row_of q ≡ 0 + i = place_at (sym (c.row_of-row.ensures ∙ ap row_of text)) in
    let w = around q 0 i rows row at c.in_ok-grow.ensures.ok c.index_mut-row.ensures.value (c.grow.ensures.kept.1 0 c.self.invariant) in
    at_error _ c.from_residual-in_err-insert.result (same_row q 0 i rows row c.insert.new.self w c.in_err-insert.ensures.err ∙ c.grow.ensures.kept.0 ∙ c.self.view_is)

pub returns-in_err-insert-clause-ordered : goal.returns-in_err-insert-clause-ordered
returns-in_err-insert-clause-ordered c = rw (← c.self.view_is) (rows_sorted 0 c.self.inside.rows.items c.self.invariant)

pub invariant_of-self-2 : goal.invariant_of-self-2
invariant_of-self-2 c =
    let q = string_bytes c.args.name in
    let rows = c.grow.new.rows.items in
    let i = c.row_of-row.result in
    let row = c.index_mut-row.result.now in
    let text : c.deref.result.now ≡ q = search rules in
    let at : row_of q ≡ 0 + i = place_at (sym (c.row_of-row.ensures ∙ ap row_of text)) in
    let w = around q 0 i rows row at c.in_ok-grow.ensures.ok c.index_mut-row.ensures.value (c.grow.ensures.kept.1 0 c.self.invariant) in
    insert_rows c.args.name c.args.value 0 i rows row c.insert.new.self w c.in_ok-insert.ensures.ok c.in_ok-insert.ensures.ordered

pub returns-clause-ok : goal.returns-clause-ok
returns-clause-ok c =
    let q = string_bytes c.args.name in
    let rows = c.grow.new.rows.items in
    let i = c.row_of-row.result in
    let row = c.index_mut-row.result.now in
    let text : c.deref.result.now ≡ q = search rules in
    let at : row_of q ≡ 0 + i = place_at (sym (c.row_of-row.ensures ∙ ap row_of text)) in
    let w = around q 0 i rows row at c.in_ok-grow.ensures.ok c.index_mut-row.ensures.value (c.grow.ensures.kept.1 0 c.self.invariant) in
    insert_row c.args.name c.args.value 0 i rows row c.insert.new.self w c.in_ok-insert.ensures.ok
    ∙ ap (λ es. insert_entry string_cmp es c.args.name c.args.value) (c.grow.ensures.kept.0 ∙ c.self.view_is)

pub returns-clause-ordered : goal.returns-clause-ordered
returns-clause-ordered c = rw (← c.self.view_is) (rows_sorted 0 c.self.inside.rows.items c.self.invariant)
