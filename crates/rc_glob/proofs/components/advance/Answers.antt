use Rattle.std.proofs.Common.{arith, ap, string_bytes, ◌∙◌, ◌<◌, length}
use Rattle.rc_text.specs.Literals.{marks}
use Rattle.rc_glob.specs.Paths.{components_of}
use Rattle.rc_glob.proofs.Cuts.{further, further_has, here, nowhere, shorter_at, with_slash}
use Rattle.rc_glob.proofs.components.advance.Goals as goal

pub returns-then-any_pattern-clause-goes_on : goal.returns-then-any_pattern-clause-goes_on
returns-then-any_pattern-clause-goes_on c =
    c.loop-after.invariant.same
    ∙ here (marks c.loop-after.rest.now) (marks c.first_component.result.0.now) (components_of c.first_component.result.1) (string_bytes c.loop-after.path) c.any_pattern.result
    c.first_component.ensures.cut c.any_pattern.ensures c.if-any_pattern.true

pub returns-in_default-clause-goes_on : goal.returns-in_default-clause-goes_on
returns-in_default-clause-goes_on c =
    nowhere (marks c.loop-after.rest.now) (marks c.first_component.result.0.now) (components_of c.first_component.result.1) c.any_pattern.result
    c.first_component.ensures.cut (ap components_of c.in_default.is) c.any_pattern.ensures c.if-any_pattern.false c.loop-after.invariant.pattern

pub loop-after-preserved : goal.loop-after-preserved
loop-after-preserved c =
    let less : length c.in-Some.more.now < length c.loop-after.rest.now = shorter_at _ _ _ c.in-Some.is c.first_component.ensures.shorter in
    record {
      same =
          c.loop-after.invariant.same
          ∙ further (marks c.loop-after.rest.now) (marks c.first_component.result.0.now) (components_of c.first_component.result.1) (marks c.in-Some.more.now) (string_bytes c.loop-after.path)
          (string_bytes c.push_text.new.path) (string_bytes c.push.new.self) c.any_pattern.result
          c.first_component.ensures.cut (ap components_of c.in-Some.is) c.any_pattern.ensures c.if-any_pattern.false c.loop-after.invariant.pattern
          c.in_ok-push_text.ensures (with_slash _ _ c.in_ok-push.ensures.bytes);
      pattern =
          further_has (marks c.loop-after.rest.now) (marks c.first_component.result.0.now) (components_of c.first_component.result.1) (marks c.in-Some.more.now) c.any_pattern.result
          c.first_component.ensures.cut (ap components_of c.in-Some.is) c.any_pattern.ensures c.if-any_pattern.false c.loop-after.invariant.pattern;
      shorter = omega arith;
    }
