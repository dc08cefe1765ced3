use Rattle.std.proofs.Common.{rules, ◌≡◌, ◌<◌, ◌∙◌, [], length, take, subst, sym, arith}
use Rattle.std.proofs.lemmas.List.{nil_from_length}
use Rattle.std.proofs.lemmas.Str.{IsCharBoundary-start}
use Rattle.std.specs.Str.{NoCharPasses}
use Rattle.rc_text.specs.Members.{among}
use Rattle.rc_text.proofs.Cuts.{skip_all, skip_boundary, skip_none}
use Rattle.rc_text.proofs.members.separators.Separators.skipped.Goals as goal

pub returns-then-not-is_ascii-clause-boundary : goal.returns-then-not-is_ascii-clause-boundary
returns-then-not-is_ascii-clause-boundary c = IsCharBoundary-start _ c.utf8.text

pub returns-then-is_empty-clause-none : goal.returns-then-is_empty-clause-none
returns-then-is_empty-clause-none c =
    let long : length c.self.inside.all.items ≡ 0 = search rules in
    let nothing : [] ≡ c.args.self.now = sym (nil_from_length _ long) ∙ c.self.view_is in
    subst (λ cs. NoCharPasses (among cs) (take (length c.args.text.now) c.args.text.now)) nothing (skip_all _ c.utf8.text)

pub returns-clause-none : goal.returns-clause-none
returns-clause-none c =
    let bytes = c.as_bytes.result.now in
    let n = c.bytes_above.result in
    let found = c.bytes_above.ensures in
    let small : c.self.inside.greatest < 128 = search (arith, c.if-not-is_ascii.false, c.if-not-is_ascii.ensures) in
    let at = skip_boundary c.self.inside.greatest n bytes small found.bound found.stop in
    subst (λ cs. NoCharPasses (among cs) (take n c.args.text.now)) c.self.view_is
    (subst (λ t. NoCharPasses (among c.self.inside.all.items) (take n t)) c.as_bytes.ensures.value
    (skip_none c.self.inside.greatest n _ bytes c.as_bytes.ensures.utf8 small c.self.invariant at found.above))
