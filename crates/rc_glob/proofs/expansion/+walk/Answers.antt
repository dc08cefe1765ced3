use Rattle.std.proofs.Common.{ap, string_bytes, ◌∙◌}
use Rattle.rc_model.specs.Run.FileNames.{components, listed, walk}
use Rattle.rc_text.specs.Literals.{marks}
use Rattle.rc_world.specs.declared.starts.Stop.TheVariants.{NoMemory}
use Rattle.rc_world.proofs.Joins.{comes_as, left_memory, passed_up}
use Rattle.rc_glob.specs.Paths.{components_of, paths_from}
use Rattle.rc_glob.proofs.Cuts.{with_slash}
use Rattle.rc_glob.proofs.Walks.{begun, joined_is, left_alone, left_listed, left_name, memory_after_name, memory_at_name, next_name, no_names_left, on_pattern, on_plain, ran_alone}
use Rattle.rc_glob.proofs.expansion.+walk.Goals as goal

pub walk-returns-in_err-component : goal.walk-returns-in_err-component
walk-returns-in_err-component g t c = λ s. passed_up _ _ _ _ c.from_residual.result NoMemory c.from_residual.ensures.1 (left_memory _ _)

pub walk-returns-in_err-names : goal.walk-returns-in_err-names
walk-returns-in_err-names g t c = λ s.
    passed_up _ _ _ _ c.from_residual-in_err-names.result c.in_err-names.field-0.0 c.from_residual-in_err-names.ensures.1
    (left_listed (marks c.in_ok-component.component.now) (string_bytes c.advance.new.path) _ _ _ s
    (walk (components_of c.in_ok-component.rest)) (paths_from (components (marks c.args.word.now))
    (string_bytes c.args.path))
    c.deref.result.now c.in_ok-component.ensures.goes_on c.deref.ensures c.in_err-names.ensures)

pub walk-returns-in_err-paths_in : goal.walk-returns-in_err-paths_in
walk-returns-in_err-paths_in g t c = λ s.
    passed_up _ _ _ _ c.from_residual-in_err-paths_in.result NoMemory c.from_residual-in_err-paths_in.ensures.1
    (left_alone (marks c.in_ok-component.component.now) (string_bytes c.advance.new.path) _ _ s
    (walk (components_of c.in_ok-component.rest)) (paths_from (components (marks c.args.word.now))
    (string_bytes c.args.path))
    c.deref.result.now c.in_ok-names.names.items c.in_ok-component.ensures.goes_on c.deref.ensures c.in_ok-names.ensures)

pub walk-returns-in_default : goal.walk-returns-in_default
walk-returns-in_default g t c = λ s.
    ran_alone (marks c.in_ok-component.component.now) (string_bytes c.advance.new.path) _ _ s
    (walk (components_of c.in_ok-component.rest)) (paths_from (components (marks c.args.word.now))
    (string_bytes c.args.path))
    c.deref.result.now c.in_ok-names.names.items c.in_ok-component.ensures.goes_on c.deref.ensures c.in_ok-names.ensures
    c.deref-in_default.result.now c.in_ok-paths_in.field-0.items (ap (λ o. walk (components_of o)) c.in_default.is) c.deref-in_default.ensures c.in_ok-paths_in.ensures

pub walk-loop-name-init : goal.walk-loop-name-init
walk-loop-name-init g t c = λ s.
    begun (marks c.in_ok-component.component.now) (string_bytes c.advance.new.path) _ _ s
    (walk (components (marks c.in-Some.rest.now))) (paths_from (components (marks c.args.word.now))
    (string_bytes c.args.path))
    c.deref.result.now c.in_ok-names.names.items c.deref-name-items.result.now c.new-found.result.items
    (c.in_ok-component.ensures.goes_on ∙ ap (λ o. listed (marks c.in_ok-component.component.now)
    (walk (components_of o)) (string_bytes c.advance.new.path)) c.in-Some.is) c.deref.ensures c.in_ok-names.ensures
    c.deref-name-items.ensures.value c.new-found.ensures.items

pub walk-returns-in_err-whole : goal.walk-returns-in_err-whole
walk-returns-in_err-whole g t c = λ s.
    passed_up _ _ _ _ c.from_residual-in_err-whole.result NoMemory c.from_residual-in_err-whole.ensures.1
    (memory_at_name _ _ s (paths_from (components (marks c.args.word.now)) (string_bytes c.args.path) s) (walk (components (marks c.in-Some.rest.now))) (string_bytes c.advance.new.path)
    c.deref-name-items.result.now c.loop-name.name-index c.loop-name.found.items (c.loop-name.invariant s))

pub walk-returns-in_err-below : goal.walk-returns-in_err-below
walk-returns-in_err-below g t c = λ s.
    passed_up _ _ _ _ c.from_residual-in_err-below.result c.in_err-below.field-0.0 c.from_residual-in_err-below.ensures.1
    (left_name _ _ s (paths_from (components (marks c.args.word.now)) (string_bytes c.args.path) s) (walk (components (marks c.in-Some.rest.now))) (string_bytes c.advance.new.path)
    c.deref-name-items.result.now c.loop-name.name-index c.loop-name.found.items
    _ _ c.name-item.result (string_bytes c.in_ok-whole.whole) c.loop-name-test.true c.name-item.is
    (joined_is _ _ _ _ _ c.in_ok-whole.ensures c.deref-in-loop-name.ensures c.deref-in-loop-name-2.ensures) (c.loop-name.invariant s) (c.in_err-below.ensures s))

pub walk-returns-in_err-append : goal.walk-returns-in_err-append
walk-returns-in_err-append g t c = λ s.
    passed_up _ _ _ _ c.from_residual-in_err-append.result NoMemory c.from_residual-in_err-append.ensures.1
    (memory_after_name _ _ s (paths_from (components (marks c.args.word.now)) (string_bytes c.args.path) s) (walk (components (marks c.in-Some.rest.now))) (string_bytes c.advance.new.path)
    c.deref-name-items.result.now c.loop-name.name-index c.loop-name.found.items
    _ c.name-item.result c.in_ok-below.below.items (string_bytes c.in_ok-whole.whole) c.loop-name-test.true c.name-item.is
    (joined_is _ _ _ _ _ c.in_ok-whole.ensures c.deref-in-loop-name.ensures c.deref-in-loop-name-2.ensures) (c.loop-name.invariant s) (c.in_ok-below.ensures s))

pub walk-loop-name-preserved : goal.walk-loop-name-preserved
walk-loop-name-preserved g t c = λ s.
    next_name _ _ s (paths_from (components (marks c.args.word.now)) (string_bytes c.args.path) s) (walk (components (marks c.in-Some.rest.now))) (string_bytes c.advance.new.path)
    c.deref-name-items.result.now c.loop-name.name-index c.loop-name.found.items
    _ c.name-item.result c.in_ok-below.below.items c.append.new.self.items (string_bytes c.in_ok-whole.whole) c.loop-name-test.true c.name-item.is
    (joined_is _ _ _ _ _ c.in_ok-whole.ensures c.deref-in-loop-name.ensures c.deref-in-loop-name-2.ensures) c.in_ok-append.ensures.items (c.loop-name.invariant s) (c.in_ok-below.ensures s)

pub walk-returns : goal.walk-returns
walk-returns g t c = λ s.
    no_names_left _ _ s (paths_from (components (marks c.args.word.now)) (string_bytes c.args.path) s) (walk (components (marks c.in-Some.rest.now))) (string_bytes c.advance.new.path)
    c.deref-name-items.result.now c.loop-name.name-index c.loop-name.found.items c.loop-name-test.false (c.loop-name.invariant s)

pub walk_on-returns-in_err-push : goal.walk_on-returns-in_err-push
walk_on-returns-in_err-push g t c = λ s. passed_up _ _ _ _ c.from_residual.result NoMemory c.from_residual.ensures.1 (left_memory _ _)

pub walk_on-returns-then-any_pattern : goal.walk_on-returns-then-any_pattern
walk_on-returns-then-any_pattern g t c = λ s.
    comes_as _ _ _ _ _ _
    (ap (λ m. m s) (on_pattern (marks c.args.rest.now) (string_bytes c.args.path) (string_bytes c.push.new.self) c.any_pattern.result c.any_pattern.ensures c.if-any_pattern.true
    (with_slash _ _ c.in_ok-push.ensures.bytes))) (c.walk.ensures s)

pub walk_on-returns-in_err-push_text : goal.walk_on-returns-in_err-push_text
walk_on-returns-in_err-push_text g t c = λ s. passed_up _ _ _ _ c.from_residual-in_err-push_text.result NoMemory c.from_residual-in_err-push_text.ensures.1 (left_memory _ _)

pub walk_on-returns : goal.walk_on-returns
walk_on-returns g t c = λ s.
    comes_as _ _ _ _ _ _
    (ap (λ m. m s) (on_plain (marks c.args.rest.now) (string_bytes c.args.path) (string_bytes c.push.new.self)
    (string_bytes c.push_text.new.path) c.any_pattern.result c.any_pattern.ensures c.if-any_pattern.false
    (with_slash _ _ c.in_ok-push.ensures.bytes) c.in_ok-push_text.ensures)) (c.if_there.ensures s)
