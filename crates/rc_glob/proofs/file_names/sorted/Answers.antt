use Rattle.std.proofs.Common.{◌≡◌, true, false, refl, ap, ◌∙◌, ◌+◌, slice_index_or, String, Global}
use Rattle.std.specs.Ordering.{is_le, is_lt, ordering_reverse}
use Rattle.std.specs.declared.cmp.Ordering.{Ordering}
use Rattle.std.specs.declared.cmp.Ordering.TheVariants.{Less, Equal, Greater}
use Rattle.std.specs.String.{string_cmp, string_cmp_total}
use Rattle.rc_glob.proofs.file_names.sorted.Goals as goal

not_below : (o : Ordering) → is_le o ≡ true → is_lt (ordering_reverse o) ≡ false
not_below Less h = refl
not_below Equal h = refl
not_below Greater h = absurd (cc h)

in_order : (x y : String Global) → is_le (string_cmp x y) ≡ true → is_lt (string_cmp y x) ≡ false
in_order x y h = ap is_lt (string_cmp_total.antisymm y x) ∙ not_below (string_cmp x y) h

pub returns-then-is_sorted-clause-sorted : goal.returns-then-is_sorted-clause-sorted
returns-then-is_sorted-clause-sorted c k d _ h = in_order (slice_index_or c.args.texts.items k d)
    (slice_index_or c.args.texts.items (k + 1) d) ((rw c.as_slice.ensures.value at c.if-is_sorted.ensures.cases) k d h)
