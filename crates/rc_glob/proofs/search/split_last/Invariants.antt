use Rattle.std.specs.Str.{IsUtf8}
use Rattle.rc_glob.proofs.Lasts.{Cut}
use Rattle.rc_glob.proofs.search.split_last.Given as goal

abbrev pub invariant-loop-left : goal.invariant-loop-left
invariant-loop-left l = record { cut : Cut l.text l.front l.count l.left; utf8 : IsUtf8 l.front }

abbrev pub decreases-loop-left : goal.decreases-loop-left
decreases-loop-left l = l.left
