use Rattle.std.proofs.Common.{rules, ◌≡◌, true, false}
use Rattle.std.specs.List.{list_all}
use Rattle.rc_model.specs.Handed.Image.{is_short}
use Rattle.rc_text.specs.Texts.{text_bytes}
use Rattle.rc_scope.specs.States.{state_of}
use Rattle.rc_image.proofs.Launches.{short_all, not_short}
use Rattle.rc_image.proofs.launch.write_env.Goals as goal

pub returns-then-are_short : goal.returns-then-are_short
returns-then-are_short c =
    let es = c.in_ok-entries.entries.items in
    let short : list_all (λ text. is_short (text_bytes text)) es ≡ true = search rules in
    short_all es (state_of c.args.state.now) c.in_ok-entries.ensures short

pub returns-else-are_short : goal.returns-else-are_short
returns-else-are_short c =
    let es = c.in_ok-entries.entries.items in
    let long : list_all (λ text. is_short (text_bytes text)) es ≡ false = search rules in
    not_short es (state_of c.args.state.now) c.in_ok-entries.ensures long
