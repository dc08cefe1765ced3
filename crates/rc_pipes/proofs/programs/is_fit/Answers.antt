use Rattle.std.proofs.Common.{◌≡◌, true, false, rules, sym, ◌∙◌}
use Rattle.std.proofs.lemmas.List.Folds.{list_all-map}
use Rattle.std.specs.List.{list_all}
use Rattle.rc_text.specs.Texts.{text_bytes}
use Rattle.rc_model.specs.Handed.Image.{is_short}
use Rattle.rc_pipes.proofs.programs.is_fit.Goals as goal

pub returns-then-are_short : goal.returns-then-are_short
returns-then-are_short c =
    let l = c.args.launch.now in
    let args : list_all (λ t. is_short (text_bytes t)) l.args.items ≡ true = search rules in
    let env : c.are_short-then-are_short.result ≡ list_all (λ t. is_short (text_bytes t)) l.env.items = search rules in
    rw (list_all-map is_short text_bytes l.args.items ∙ args) (env ∙ sym (list_all-map is_short text_bytes l.env.items))

pub returns-else-are_short : goal.returns-else-are_short
returns-else-are_short c =
    let l = c.args.launch.now in
    let args : list_all (λ t. is_short (text_bytes t)) l.args.items ≡ false = search rules in
    let short : c.are_short.result ≡ false = search rules in
    rw (list_all-map is_short text_bytes l.args.items ∙ args) short
