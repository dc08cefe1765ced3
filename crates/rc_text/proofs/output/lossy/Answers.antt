use Rattle.std.proofs.Common.{◌≡◌, ◌∙◌, ap, refl, sym, false, string_bytes}
use Rattle.std.specs.Prelude.{◌==◌}
use Rattle.std.specs.List.{list_any}
use Rattle.std.specs.Str.Lossy.{utf8_lossy}
use Rattle.bstr.proofs.lemmas.LossyLemmas.{lossy_chars-utf8_lossy}
use Rattle.rc_text.proofs.Decoding.{all_kept, written_after}
use Rattle.rc_text.proofs.output.lossy.Goals as goal

pub returns-then-not-contains : goal.returns-then-not-contains
returns-then-not-contains c =
    let none : list_any (λ b. b == 0) c.args.bytes.now ≡ false = sym c.if-not-contains.ensures.value in
    let text : string_bytes c.to_str_lossy_into.new.dest ≡ utf8_lossy c.args.bytes.now =
    written_after _ _ _ _ (c.in_ok-to_str_lossy_into.ensures.ok refl) c.new-text.ensures.bytes (lossy_chars-utf8_lossy _) in
    text ∙ ap utf8_lossy (sym (all_kept c.args.bytes.now none))
