use Rattle.std.proofs.Common.{rules, ◌≡◌, ◌∙◌, ap, false, string_bytes, subst}
use Rattle.std.specs.Prelude.{◌==◌}
use Rattle.std.specs.List.{list_any}
use Rattle.std.specs.Str.{IsUtf8}
use Rattle.std.specs.String.{string_vec}
use Rattle.std.proofs.lemmas.Str.{IsUtf8-string_bytes}
use Rattle.rc_text.proofs.Decoding.{whole_text}
use Rattle.rc_text.proofs.output.into_lossy.Goals as goal

pub returns-in-Ok : goal.returns-in-Ok
returns-in-Ok c =
    let vec : string_vec c.in-Ok.text ≡ c.args.bytes = search rules in
    let same : string_bytes c.in-Ok.text ≡ c.args.bytes.items = ap (λ v. v.items) vec in
    let none : list_any (λ b. b == 0) c.args.bytes.items ≡ false = search rules in
    same ∙ whole_text c.args.bytes.items none (subst IsUtf8 same (IsUtf8-string_bytes c.in-Ok.text))
