use Rattle.std.proofs.Common.{sym, ◌∙◌}
use Rattle.std.specs.Str.{chars}
use Rattle.rc_glob.proofs.Hashes.{begins_all, begins_next, begins_none, begins_other}
use Rattle.rc_glob.proofs.search.begins_with.Goals as goal

pub run-preserved : goal.run-preserved
run-preserved c = record {
  same = c.run.invariant.same ∙ begins_next _ _ _ _ _ _ c.in-Some.ensures.cases.0 c.in-Some-first_char.ensures.chars c.if-first-c.false;
  utf8 = c.in-Some-first_char.ensures.utf8;
}

pub returns-in_default-first_char : goal.returns-in_default-first_char
returns-in_default-first_char c =
    begins_none c.run.left.now c.in-Some.others.now c.in-Some.first.now (chars c.run.rest.now) c.in-Some.ensures.cases.0 c.in_default-first_char.ensures.chars ∙ sym c.run.invariant.same

pub returns-then-first-c : goal.returns-then-first-c
returns-then-first-c c =
    begins_other c.run.left.now c.in-Some.others.now c.in-Some.first.now (chars c.run.rest.now) _ _ c.in-Some.ensures.cases.0 c.in-Some-first_char.ensures.chars c.if-first-c.true
    ∙ sym c.run.invariant.same

pub returns : goal.returns
returns c = begins_all c.run.left.now (chars c.run.rest.now) c.in_default.ensures.cases ∙ sym c.run.invariant.same
