use Rattle.std.proofs.Common.{rules, ◌≡◌, ◌++◌, [], Option, Some, None, ℕ, List, drop, map, ap, refl, string_bytes}
use Rattle.std.proofs.lemmas.List.{drop_all}
use Rattle.std.specs.Borrow.{Bor}
use Rattle.std.specs.Option.{option_or}
use Rattle.rc_text.specs.Texts.{text_bytes}
use Rattle.rc_model.specs.Run.Builtins.{later}
use Rattle.rc_world.specs.declared.starts.Stop.TheVariants.{NoMemory}
use Rattle.rc_builtin.specs.Known.{known, status_of}
use Rattle.rc_pipes.proofs.Changes.{texts_left}
use Rattle.rc_builtin.proofs.Gathered.{gathers_on, gathers_left, gathers_all}
use Rattle.rc_scope.specs.States.{state_of}
use Rattle.rc_world.proofs.Joins.{left_here, passed_up}
use Rattle.rc_builtin.proofs.known_names.known_each.Goals as goal

status_or : (a b : Option (Bor (List ℕ))) → status_of (option_or a b) ≡ later (status_of b) (status_of a)
status_or None b = refl
status_or (Some x) b = refl

pub returns-in_err-known : goal.returns-in_err-known
returns-in_err-known g c =
    let left = texts_left text_bytes c.args.names.now c.loop-name.name-index c.name-item.result c.loop-name-test.true c.name-item.is in
    let name : c.as_str.result.now ≡ text_bytes c.name-item.result = search rules in
    passed_up _ _ _ _ c.from_residual.result c.in_err-known.field-0.0 c.from_residual.ensures.1
    (gathers_left _ _ _ _ _ _ (state_of c.args.state.now) _ _ (text_bytes c.name-item.result) (rw left at c.loop-name.invariant) (rw name at c.in_err-known.ensures))

pub returns-in_err-push_str : goal.returns-in_err-push_str
returns-in_err-push_str g c =
    let left = texts_left text_bytes c.args.names.now c.loop-name.name-index c.name-item.result c.loop-name-test.true c.name-item.is in
    let name : c.as_str.result.now ≡ text_bytes c.name-item.result = search rules in
    passed_up _ _ _ _ c.from_residual-in_err-push_str.result NoMemory c.from_residual-in_err-push_str.ensures.1
    (left_here _ _ _ _ (gathers_on _ _ _ _ _ (state_of c.args.state.now) _ _ (text_bytes c.name-item.result) (known c.in_ok-known.known)
    (rw left at c.loop-name.invariant) (rw name at c.in_ok-known.ensures)).ran)

pub loop-name-preserved : goal.loop-name-preserved
loop-name-preserved g c =
    let left = texts_left text_bytes c.args.names.now c.loop-name.name-index c.name-item.result c.loop-name-test.true c.name-item.is in
    let name : c.as_str.result.now ≡ text_bytes c.name-item.result = search rules in
    let lines : string_bytes c.push_str.new.self ≡ string_bytes c.loop-name.lines ++ string_bytes c.in_ok-known.known.lines = search rules in
    rw (lines, c.or-status.ensures, status_or c.in_ok-known.known.status c.loop-name.status)
    (gathers_on _ _ _ _ _ (state_of c.args.state.now) _ _ (text_bytes c.name-item.result) (known c.in_ok-known.known)
    (rw left at c.loop-name.invariant) (rw name at c.in_ok-known.ensures))

pub returns : goal.returns
returns g c =
    let none : map text_bytes (drop c.loop-name.name-index c.args.names.now) ≡ [] = ap (map text_bytes) (drop_all c.loop-name.name-index c.args.names.now c.loop-name-test.false) in
    gathers_all _ _ _ _ _ _ (rw none at c.loop-name.invariant)
