use Rattle.std.proofs.Common.{rules, ◌≡◌, sym, ◌∙◌, string_bytes}
use Rattle.std.specs.Str.{bytes_eq}
use Rattle.std.proofs.lemmas.Map.Text.{is_eq-slice_cmp}
use Rattle.rc_scope.proofs.variables.name_rows.Entry.is_named.Goals as goal

pub returns : goal.returns
returns c =
    let q = c.args.name.now in
    let key = string_bytes c.args.self.now.name in
    let same : c.eq.result ≡ bytes_eq q key = search rules in
    same ∙ sym (is_eq-slice_cmp q key)
