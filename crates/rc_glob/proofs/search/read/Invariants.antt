use Rattle.std.proofs.Common.{◌≡◌, ◌+◌, length, take, drop}
use Rattle.std.specs.Str.{chars, IsUtf8}
use Rattle.rc_glob.specs.Hashes.{hash_from}
use Rattle.rc_glob.proofs.search.read.Given as goal

abbrev pub invariant-loop-left : goal.invariant-loop-left
invariant-loop-left l = record {
  hash : hash_from l.hash (take l.left (chars l.rest)) ≡ hash_from 0 (take l.count (chars l.text));
  rest : drop l.left (chars l.rest) ≡ drop l.count (chars l.text);
  many : length (chars l.text) + l.left ≡ length (chars l.rest) + l.count;
  utf8 : IsUtf8 l.rest;
}

abbrev pub decreases-loop-left : goal.decreases-loop-left
decreases-loop-left l = l.left
