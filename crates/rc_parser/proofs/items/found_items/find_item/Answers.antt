use Rattle.std.proofs.Common.{rules, ◌∙◌, sym}
use Rattle.rc_model.specs.Mirrors.Descent as d
use Rattle.rc_parser.specs.Tokens.{lexemes_of}
use Rattle.rc_parser.proofs.ReadItems.{IsPlain, fails_at_its_end, item_found}
use Rattle.rc_parser.proofs.items.found_items.find_item.Goals.{in_default-via-in-Some+in_default, in_default-via-in_default}
use Rattle.rc_parser.proofs.items.found_items.find_item.Goals as goal

pub returns-in_default-clause-found : goal.returns-in_default-clause-found
returns-in_default-clause-found c =
    let plain : IsPlain (lexemes_of c.loop-turn.rest) =
    elim c.in_default.branch [
      | in_default-via-in-Some+in_default w ↦ search rules
      | in_default-via-in_default w ↦ search rules
    ] in
    λ front. sym (c.loop-turn.invariant front)
    ∙ item_found (d.read c.args.left) c.args.turns c.loop-turn.turn c.args.after_if front _ _ _ c.loop-turn-test.true (sym c.ends.ensures ∙ c.if-ends.false) plain c.in_ok-cmd-in_default.ensures.parsed
    ∙ search rules

pub returns-in_err-background-in_default-clause-found : goal.returns-in_err-background-in_default-clause-found
returns-in_err-background-in_default-clause-found c =
    let plain : IsPlain (lexemes_of c.loop-turn.rest) =
    elim c.in_default.branch [
      | in_default-via-in-Some+in_default w ↦ search rules
      | in_default-via-in_default w ↦ search rules
    ] in
    fails_at_its_end c.args.left _ c.in_err-background-in_default.field-0.0 _ (d.item_end (lexemes_of c.in_ok-cmd-in_default.after)) _
    c.from_residual-in_err-background-in_default.ensures.1 c.in_err-background-in_default.ensures
    (λ front. sym (c.loop-turn.invariant front)
    ∙ item_found (d.read c.args.left) c.args.turns c.loop-turn.turn c.args.after_if front _ _ _ c.loop-turn-test.true (sym c.ends.ensures ∙ c.if-ends.false) plain c.in_ok-cmd-in_default.ensures.parsed)
