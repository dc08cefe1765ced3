use Rattle.std.proofs.Common.{Some, map, refl, subst}
use Rattle.rc_text.specs.Texts.{text_bytes}
use Rattle.rc_scope.specs.States.{state_of}
use Rattle.rc_builtin.specs.Scripts.{Compiles}
use Rattle.rc_builtin.proofs.Evals.{not_sourced, sourced}
use Rattle.rc_builtin.proofs.dot.run_read.Goals as goal

pub returns-in_default-clause-ok : goal.returns-in_default-clause-ok
returns-in_default-clause-ok c = λ recorded.
    let s = state_of c.args.state.now in
    let t = state_of c.compiled.new.state in
    let made = c.in_ok-body.ensures.ok c.args.reader c.compile_read.ensures in
    not_sourced recorded s t c.args.reader (map text_bytes c.args.args.items) (subst (λ o. Compiles c.args.reader s t o) c.in_default.is made)

pub returns-clause-ok : goal.returns-clause-ok
returns-clause-ok c = λ recorded.
    let s = state_of c.args.state.now in
    let t = state_of c.compiled.new.state in
    let made = c.in_ok-body.ensures.ok c.args.reader c.compile_read.ensures in
    sourced recorded s t c.args.reader c.args.args (map text_bytes c.args.args.items) c.in-Some.body refl (subst (λ o. Compiles c.args.reader s t o) c.in-Some.is made)
