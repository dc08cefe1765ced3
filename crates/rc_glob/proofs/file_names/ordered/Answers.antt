use Rattle.rc_glob.proofs.Sorting.{in_order}
use Rattle.rc_glob.proofs.file_names.ordered.Goals as goal

pub returns : goal.returns
returns c = in_order c.args.texts.items c.sorted-names.result.items c.sorted-names.ensures.permutation c.sorted-names.ensures.sorted c.dedup.new.self.items c.dedup.ensures.filtered
