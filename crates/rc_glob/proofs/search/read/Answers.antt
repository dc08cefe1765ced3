use Rattle.std.proofs.Common.{refl, ap, length, arith}
use Rattle.rc_glob.proofs.Hashes.{read_end, read_rest, read_hash}
use Rattle.rc_glob.proofs.search.read.Goals as goal

pub loop-left-init : goal.loop-left-init
loop-left-init c = record { hash = refl; rest = refl; many = refl; utf8 = c.utf8.text }

pub loop-left-preserved : goal.loop-left-preserved
loop-left-preserved c =
    let one = ap length c.in-Some.ensures.chars in
    record {
      hash = read_hash _ _ _ _ _ _ _ _ c.in-Some.ensures.chars (omega arith) c.add_char-hash.ensures c.loop-left.invariant.hash;
      rest = read_rest _ _ _ _ _ _ c.in-Some.ensures.chars (omega arith) c.loop-left.invariant.rest;
      many = omega (arith, c.loop-left.invariant.many);
      utf8 = c.in-Some.ensures.utf8;
    }

pub returns-in_default-clause-parts : goal.returns-in_default-clause-parts
returns-in_default-clause-parts c = omega (arith, ap length c.in_default.ensures.chars, c.loop-left.invariant.many)

pub returns-clause-parts : goal.returns-clause-parts
returns-clause-parts c =
    read_end _ _ _ _ _ c.loop-left-test.false c.loop-left.invariant.hash c.loop-left.invariant.rest c.loop-left.invariant.many
