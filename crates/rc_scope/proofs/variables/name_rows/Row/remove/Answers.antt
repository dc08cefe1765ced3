use Rattle.std.proofs.Common.{◌≡◌, true, refl, sym, ap, ◌∙◌}
use Rattle.rc_scope.specs.Rows.{is_named}
use Rattle.rc_scope.proofs.Rows.{no_keys, one_key}
use Rattle.rc_scope.proofs.variables.name_rows.Row.remove.Goals as goal

pub returns-in-Empty-clause-ordered : goal.returns-in-Empty-clause-ordered
returns-in-Empty-clause-ordered c = rw c.in-Empty.is no_keys

pub returns-then-not-is_named-clause-ordered : goal.returns-then-not-is_named-clause-ordered
returns-then-not-is_named-clause-ordered c = one_key c.in-One.entry.value.name

pub returns-clause-taken : goal.returns-clause-taken
returns-clause-taken c =
    let it : is_named c.args.name.now c.deref.result.now.name ≡ true
    = sym c.is_named.ensures ∙ c.if-not-is_named.false in
    let found : is_named c.args.name.now c.in-One.entry.value.name ≡ true
    = ap (λ e. is_named c.args.name.now e.name) (sym c.deref.ensures) ∙ it in
    rw (c.in-One.is, found) refl

pub returns-clause-ordered : goal.returns-clause-ordered
returns-clause-ordered c = no_keys
