use Rattle.std.proofs.Common.{rules, ◌≡◌, Some, None, option_map, sym, ap, ◌∙◌, arith}
use Rattle.std.specs.Map.{lookup, set_value}
use Rattle.std.proofs.lemmas.Map.Steps.{set_value_same}
use Rattle.rc_scope.specs.Rows.{entries_in, is_named}
use Rattle.rc_scope.specs.declared.variables.value_rows.Value.{Value}
use Rattle.rc_scope.proofs.Rows.{around, lookup_row, lookup_at, lookup_past, rows_at, same_row}
use Rattle.rc_scope.proofs.variables.value_rows.Values.share.Goals as goal

pub returns-then-len-row-clause-ok : goal.returns-then-len-row-clause-ok
returns-then-len-row-clause-ok c =
    rw (← c.self.view_is) (sym (ap (option_map (λ (v : Value). v.texts)) (lookup_past c.args.name.now c.self.inside.rows.items c.self.invariant (omega arith))))

pub returns-in_default-clause-ok : goal.returns-in_default-clause-ok
returns-in_default-clause-ok c =
    let q = c.args.name.now in
    let rows = c.self.inside.rows.items in
    let row = c.index_mut-row.result.now in
    let none : lookup (is_named q) (entries_in row) ≡ None = search rules in
    rw (← c.self.view_is) (sym (ap (option_map (λ (v : Value). v.texts))
    (lookup_at q c.row_of-row.result rows row (omega arith) (omega arith) c.index_mut-row.ensures.value c.self.invariant ∙ none)))

pub invariant_of-self-in_err-share : goal.invariant_of-self-in_err-share
invariant_of-self-in_err-share c =
    rows_at c.args.name.now c.row_of-row.result c.self.inside.rows.items c.index_mut-row.result.now (c.get_mut.follows.lender _)
    (omega arith) (omega arith) c.index_mut-row.ensures.value c.self.invariant (c.get_mut.follows.holds _).1

pub returns-in_err-share-clause-same : goal.returns-in_err-share-clause-same
returns-in_err-share-clause-same c =
    let q = c.args.name.now in
    let rows = c.self.inside.rows.items in
    let i = c.row_of-row.result in
    let row = c.index_mut-row.result.now in
    let w = around q 0 i rows row (omega arith) (omega arith) c.index_mut-row.ensures.value c.self.invariant in
    let old = c.in-Some.value.now in
    let new : Value = record { texts = c.share.new.self; covers = old.covers } in
    let h = c.get_mut.follows.holds new in
    let found : lookup (is_named q) (entries_in row) ≡ Some old = search rules in
    let same : new ≡ old = ap (λ t. record { texts = t; covers = old.covers }) c.share.ensures.same in
    rw (← c.self.view_is) (same_row q 0 i rows row (c.get_mut.follows.lender new) w
    (h.0 ∙ ap (set_value (is_named q) (entries_in row)) same ∙ set_value_same (is_named q) (entries_in row) old found))

pub invariant_of-self-2 : goal.invariant_of-self-2
invariant_of-self-2 c =
    rows_at c.args.name.now c.row_of-row.result c.self.inside.rows.items c.index_mut-row.result.now (c.get_mut.follows.lender _)
    (omega arith) (omega arith) c.index_mut-row.ensures.value c.self.invariant (c.get_mut.follows.holds _).1

pub returns-clause-ok : goal.returns-clause-ok
returns-clause-ok c =
    let q = c.args.name.now in
    let rows = c.self.inside.rows.items in
    let i = c.row_of-row.result in
    let row = c.index_mut-row.result.now in
    let w = around q 0 i rows row (omega arith) (omega arith) c.index_mut-row.ensures.value c.self.invariant in
    let found : lookup (is_named q) (entries_in row) ≡ Some c.in-Some.value.now = search rules in
    rw (← c.self.view_is) (ap Some c.in_ok-share.ensures.ok ∙ sym (ap (option_map (λ (v : Value). v.texts)) (lookup_row q 0 i rows row w ∙ found)))

pub returns-clause-same : goal.returns-clause-same
returns-clause-same c =
    let q = c.args.name.now in
    let rows = c.self.inside.rows.items in
    let i = c.row_of-row.result in
    let row = c.index_mut-row.result.now in
    let w = around q 0 i rows row (omega arith) (omega arith) c.index_mut-row.ensures.value c.self.invariant in
    let old = c.in-Some.value.now in
    let new : Value = record { texts = c.share.new.self; covers = old.covers } in
    let h = c.get_mut.follows.holds new in
    let found : lookup (is_named q) (entries_in row) ≡ Some old = search rules in
    let same : new ≡ old = ap (λ t. record { texts = t; covers = old.covers }) c.share.ensures.same in
    rw (← c.self.view_is) (same_row q 0 i rows row (c.get_mut.follows.lender new) w
    (h.0 ∙ ap (set_value (is_named q) (entries_in row)) same ∙ set_value_same (is_named q) (entries_in row) old found))
