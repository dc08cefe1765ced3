use Rattle.std.proofs.Common.{rules, ◌≡◌, Option, Some, IfSome, subst, ap, ◌∙◌, arith}
use Rattle.std.specs.Map.{lookup, set_value}
use Rattle.std.proofs.lemmas.Map.Steps.{set_value_same}
use Rattle.rc_model.specs.Handed.Image.{value_text}
use Rattle.rc_scope.specs.KeptEntries.{kept_text}
use Rattle.rc_scope.specs.Rows.{entries_in, is_named}
use Rattle.rc_scope.specs.Stacks.{texts_of}
use Rattle.rc_scope.specs.declared.variables.value_rows.Value.{Value}
use Rattle.rc_scope.proofs.Rows.{around, lookup_row, rows_at, same_row}
use Rattle.rc_scope.proofs.variables.value_rows.Values.keep_entry.Goals as goal

pub keep-requires : goal.keep-requires
keep-requires c =
    let q = c.args.name.now in
    let rows = c.self.inside.rows.items in
    let i = c.row_of-row.result in
    let row = c.index_mut-row.result.now in
    let w = around q 0 i rows row (omega arith) (omega arith) c.index_mut-row.ensures.value c.self.invariant in
    let found : lookup (is_named q) (entries_in row) ≡ Some c.in-Some.value.now = search rules in
    subst (λ (o : Option Value). IfSome o (λ v. kept_text c.args.kept ≡ value_text (texts_of v))) (lookup_row q 0 i rows row w ∙ found) (rw (← c.self.view_is) at c.requires)

pub invariant_of-self-2 : goal.invariant_of-self-2
invariant_of-self-2 c =
    rows_at c.args.name.now c.row_of-row.result c.self.inside.rows.items c.index_mut-row.result.now (c.get_mut.follows.lender _)
    (omega arith) (omega arith) c.index_mut-row.ensures.value c.self.invariant (c.get_mut.follows.holds _).1

pub returns : goal.returns
returns c =
    let q = c.args.name.now in
    let rows = c.self.inside.rows.items in
    let i = c.row_of-row.result in
    let row = c.index_mut-row.result.now in
    let w = around q 0 i rows row (omega arith) (omega arith) c.index_mut-row.ensures.value c.self.invariant in
    let old = c.in-Some.value.now in
    let new : Value = record { texts = c.keep.new.self; covers = old.covers } in
    let h = c.get_mut.follows.holds new in
    let found : lookup (is_named q) (entries_in row) ≡ Some old = search rules in
    let same : new ≡ old = ap (λ t. record { texts = t; covers = old.covers }) c.keep.ensures in
    rw (← c.self.view_is) (same_row q 0 i rows row (c.get_mut.follows.lender new) w
    (h.0 ∙ ap (set_value (is_named q) (entries_in row)) same ∙ set_value_same (is_named q) (entries_in row) old found))
