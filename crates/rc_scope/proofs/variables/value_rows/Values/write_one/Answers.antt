use Rattle.std.proofs.Common.{rules, ◌≡◌, false, Some, Result, Ok, Err, OnOk, is_some, option_map, unwrap_or, sym, ◌∙◌, ap, arith}
use Rattle.std.proofs.lemmas.Map.Steps.{set_value_same}
use Rattle.std.proofs.lemmas.Result.{on_err_weaker, on_ok_weaker}
use Rattle.std.specs.Map.{lookup, set_value}
use Rattle.rc_scope.specs.Rows.{entries_in, is_named, entries_of}
use Rattle.rc_scope.specs.Stacks.{covers_in}
use Rattle.rc_scope.specs.declared.variables.value_rows.Value.{Value}
use Rattle.rc_scope.proofs.Rows.{around, rows_sorted, lookup_row, rows_at, set_row}
use Rattle.rc_scope.proofs.variables.value_rows.Values.write_one.Goals as goal

-- what holds, holds where it went well
if_ok : {T E P : Type 0} (r : Result T E) → P → OnOk r P
if_ok (Ok x) h = h
if_ok (Err e) h = tt

pub returns-then-len-row-clause-ordered : goal.returns-then-len-row-clause-ordered
returns-then-len-row-clause-ordered c = rw (← c.self.view_is) (rows_sorted 0 c.self.inside.rows.items c.self.invariant)

pub invariant_of-self : goal.invariant_of-self
invariant_of-self c =
    rows_at c.args.name.now c.row_of-row.result c.self.inside.rows.items c.index_mut-row.result.now (c.get_mut.follows.lender _)
    (omega arith) (omega arith) c.index_mut-row.ensures.value c.self.invariant (c.get_mut.follows.holds _).1

pub returns-in-Some-clause-found : goal.returns-in-Some-clause-found
returns-in-Some-clause-found c =
    let q = c.args.name.now in
    let rows = c.self.inside.rows.items in
    let i = c.row_of-row.result in
    let row = c.index_mut-row.result.now in
    let w = around q 0 i rows row (omega arith) (omega arith) c.index_mut-row.ensures.value c.self.invariant in
    let found : lookup (is_named q) (entries_in row) ≡ Some c.in-Some.value.now = search rules in
    rw (← c.self.view_is) (if_ok c.replace_only.result (ap is_some (lookup_row q 0 i rows row w ∙ found)))

pub returns-in-Some-clause-new : goal.returns-in-Some-clause-new
returns-in-Some-clause-new c =
    let q = c.args.name.now in
    let rows = c.self.inside.rows.items in
    let i = c.row_of-row.result in
    let row = c.index_mut-row.result.now in
    let w = around q 0 i rows row (omega arith) (omega arith) c.index_mut-row.ensures.value c.self.invariant in
    let new : Value = record { texts = c.replace_only.new.self; covers = c.in-Some.value.now.covers } in
    let h = c.get_mut.follows.holds new in
    let found : lookup (is_named q) (entries_in row) ≡ Some c.in-Some.value.now = search rules in
    let kept : new.covers ≡ covers_in q (entries_of rows) =
    sym (ap (λ o. unwrap_or (option_map (λ (v : Value). v.covers) o) false) (lookup_row q 0 i rows row w ∙ found)) in
    rw (← c.self.view_is) (on_ok_weaker c.replace_only.result (λ one. set_row q 0 i rows row w (c.get_mut.follows.lender new) new h.0
    ∙ ap (λ b. set_value (is_named q) (entries_of rows) (record { texts = c.replace_only.new.self; covers = b })) kept
    ∙ ap (λ ts. set_value (is_named q) (entries_of rows) (record { texts = ts; covers = covers_in q (entries_of rows) })) one) c.replace_only.ensures.ok)

pub returns-in-Some-clause-same : goal.returns-in-Some-clause-same
returns-in-Some-clause-same c =
    let q = c.args.name.now in
    let rows = c.self.inside.rows.items in
    let i = c.row_of-row.result in
    let row = c.index_mut-row.result.now in
    let old = c.in-Some.value.now in
    let w = around q 0 i rows row (omega arith) (omega arith) c.index_mut-row.ensures.value c.self.invariant in
    let new : Value = record { texts = c.replace_only.new.self; covers = old.covers } in
    let h = c.get_mut.follows.holds new in
    let found : lookup (is_named q) (entries_in row) ≡ Some old = search rules in
    rw (← c.self.view_is) (on_err_weaker c.replace_only.result (λ kept. set_row q 0 i rows row w (c.get_mut.follows.lender new) new h.0
    ∙ ap (λ ts. set_value (is_named q) (entries_of rows) (record { texts = ts; covers = old.covers })) kept
    ∙ set_value_same (is_named q) (entries_of rows) old (lookup_row q 0 i rows row w ∙ found)) c.replace_only.ensures.err)

pub returns-in-Some-clause-ordered : goal.returns-in-Some-clause-ordered
returns-in-Some-clause-ordered c = rw (← c.self.view_is) (rows_sorted 0 c.self.inside.rows.items c.self.invariant)

pub returns-clause-ordered : goal.returns-clause-ordered
returns-clause-ordered c = rw (← c.self.view_is) (rows_sorted 0 c.self.inside.rows.items c.self.invariant)
