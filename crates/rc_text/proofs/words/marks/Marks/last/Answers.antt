use Rattle.std.proofs.Common.{Bool, List, ℕ, ap, sym, ◌∙◌}
use Rattle.rc_text.specs.Runs.{last_mark}
use Rattle.rc_text.specs.Views.{marks_in}
use Rattle.rc_text.proofs.MarkedRuns.{as_before}
use Rattle.rc_text.proofs.words.marks.Marks.last.Goals as goal

pub returns-in-Few : goal.returns-in-Few
returns-in-Few c = as_before _ c.in-Few.runs _ (sym c.self.view_is ∙ ap marks_in c.in-Few.is) c.last.ensures

pub returns-in-Many : goal.returns-in-Many
returns-in-Many c =
    as_before _ c.in-Many.runs.value _ (sym c.self.view_is ∙ ap marks_in c.in-Many.is)
    (c.last-in-Many.ensures ∙ ap (λ (r : Bool × List ℕ). last_mark r.0 r.1) c.deref.ensures)
