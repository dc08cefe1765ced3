use Rattle.std.proofs.Common.{◌≡◌, Some, sym}
use Rattle.rc_model.specs.Mirrors.Greedy.{after_one}
use Rattle.rc_text.specs.Literals.{marks}
use Rattle.rc_glob.proofs.Moves.{after_shorter}
use Rattle.rc_glob.proofs.matching.next_move.Goals as goal

pub returns-in-Some-after_one-clause-less : goal.returns-in-Some-after_one-clause-less
returns-in-Some-after_one-clause-less c =
    let h : after_one c.args.explicit (marks c.args.word.now) c.in-Some-first_char.c ≡ Some (marks c.in-Some-after_one.rest.now) = sym c.in-Some-after_one.ensures in
    (after_shorter _ _ _ _ h, c.in-Some-first_char.ensures.shorter, c.in-Some-first_char.ensures.utf8)
