use Rattle.std.proofs.Common.{◌≡◌, length, map}
use Rattle.std.specs.Prelude.{◌↔◌}
use Rattle.std.specs.Iterator.Adapters.{zip_first, zip_second}
use Rattle.std.specs.Slice.Iter.{iter_rest}
use Rattle.rc_text.specs.Texts.{text_bytes}
use Rattle.rc_host.proofs.launches.kept_environment.are_same.Given as goal

-- what is left is the same if and only if all is
abbrev pub invariant-loop-left : goal.invariant-loop-left
invariant-loop-left l = record {
  same : (map text_bytes (iter_rest (zip_first l.left-iterator)) ≡ map text_bytes (iter_rest (zip_second l.left-iterator)))
      ↔ (map text_bytes l.lefts ≡ map text_bytes l.rights);
  long : length (iter_rest (zip_first l.left-iterator)) ≡ length (iter_rest (zip_second l.left-iterator));
}
