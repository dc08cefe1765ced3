use Rattle.std.proofs.Common.{◌≡◌, ◌+◌, ◌∷◌, [], ◌++◌, not, ap, sym, ◌∙◌}
use Rattle.rc_text.specs.Runs.{last_mark, total}
use Rattle.rc_text.proofs.MarkedRuns.{last_mark_after, total_after}
use Rattle.rc_text.proofs.words.runs.Runs.pushed.Goals as goal

pub invariant_of-result : goal.invariant_of-result
invariant_of-result c =
    let old = c.self.inside in
    let items : c.push.new.self.items ≡ old.lengths.items ++ c.args.length ∷ [] = c.in_ok-push.ensures.ok in (
      c.in-Some.ensures.1 ∙ ap (λ n. n + c.args.length) c.self.invariant.0 ∙ sym (total_after old.lengths.items c.args.length) ∙ ap total (sym items),
      ap not c.self.invariant.1 ∙ sym (last_mark_after old.first old.lengths.items c.args.length) ∙ ap (last_mark old.first) (sym items),
    )
