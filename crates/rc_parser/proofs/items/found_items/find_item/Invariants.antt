use Rattle.std.proofs.Common.{◌≡◌, ◌-◌}
use Rattle.rc_model.specs.Syntax.Tree.{Many, item}
use Rattle.rc_parser.specs.ItemReading.{items_after}
use Rattle.rc_parser.specs.Tokens.{lexemes_of}
use Rattle.rc_parser.proofs.items.found_items.find_item.Given as goal

-- whatever items came before, the next ones are found from here on
abbrev pub invariant-loop-turn : goal.invariant-loop-turn
invariant-loop-turn l =
    (front : Many item) → items_after l.left (l.turns - l.turn) l.after_if (lexemes_of l.rest) front
    ≡ items_after l.left l.turns l.after_if (lexemes_of l.tokens) front
