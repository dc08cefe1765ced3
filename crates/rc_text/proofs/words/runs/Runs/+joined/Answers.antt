use Rattle.std.proofs.Common.{rules, ◌≡◌, ◌∷◌, not, subst, sym}
use Rattle.rc_text.specs.Runs.{AreJoined}
use Rattle.rc_text.proofs.LiteralMarks.{if_ok}
use Rattle.rc_text.proofs.MarkedRuns.{one_by_one}
use Rattle.rc_text.proofs.words.runs.Runs.+joined.Goals as goal

pub returns : goal.returns
returns t c =
    let length = c.in-Some.length.now in
    let others = c.in-Some.others.now in
    let runs = c.in_ok-runs.runs in
    let split : c.args.lengths.now ≡ length ∷ others = search rules in
    if_ok c.joined.result
    (λ all h. subst (λ ns. AreJoined c.args.self c.args.end (c.args.first, ns) all) (sym split)
    (one_by_one c.args.self runs all c.args.end length c.args.first others c.in_ok-runs.ensures
    (subst (λ end. AreJoined runs end (not c.args.first, others) all) c.in-Some-checked_add.ensures.1 h)))
    c.joined.ensures
