use Rattle.std.proofs.Common.{rules, ◌≡◌, false}
use Rattle.std.specs.Str.{chars}
use Rattle.rc_glob.proofs.Reaching.{all_may}
use Rattle.rc_glob.proofs.search.star_stands_for.Goals as goal

pub returns-then-not-explicit : goal.returns-then-not-explicit
returns-then-not-explicit c =
    let h : c.args.explicit ≡ false = search rules in
    all_may c.args.explicit (chars c.args.text.now) h
