use Rattle.std.proofs.Common.{◌∙◌, sym, string_bytes}
use Rattle.rc_trace.proofs.Written.{shown, goes_on, line_written}
use Rattle.rc_trace.proofs.lines.Lines.show.Goals as goal

pub returns-then-was_made-clause-written : goal.returns-then-was_made-clause-written
returns-then-was_made-clause-written g c = shown _ _ _ _ _ _ _ _ (sym c.was_made.ensures ∙ c.if-was_made.true) (
    λ w. line_written string_bytes _ _ _ _ c.line-line.ensures (c.write_line-is_written.ensures w)
    )

pub invariant_of-self : goal.invariant_of-self
invariant_of-self g c = record {
  shown = rw c.and-self.ensures (
      goes_on _ _ _ _ _ _ _ _ (sym c.was_made.ensures ∙ c.if-was_made.true) (
      λ w. line_written string_bytes _ _ _ _ c.line-line.ensures (c.write_line-is_written.ensures w)
      ) _ _ c.args.self.now.shown
      );
}
