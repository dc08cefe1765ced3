use Rattle.std.proofs.Common.{rules, arith, ◌≡◌, ◌≤◌, ◌++◌, [], length, vec_len, eq-eqb}
use Rattle.std.proofs.lemmas.Bool.{le-leb, lt-leb}
use Rattle.rc_world.specs.declared.starts.Stop.TheVariants.{NoMemory}
use Rattle.rc_world.proofs.Joins.{left_here, passed_up}
use Rattle.rc_pipes.proofs.Readings.{nothing_yet, has_more, at_end, at_refusal, left_at_read, too_large, nil_of}
use Rattle.rc_pipes.proofs.output_reading.read_all.Goals as goal

pub loop-handle-init : goal.loop-handle-init
loop-handle-init g c =
    let e : c.new-bytes.result.items ≡ [] = search rules in
    rw e (nothing_yet _ c.args.most c.args.handle.0 (le-leb 0 c.args.most (omega arith)))

pub returns-in_err-more : goal.returns-in_err-more
returns-in_err-more g c =
    let text = c.loop-handle.bytes.items in
    let le : length text ≤ c.args.most = omega (arith, c.loop-handle.bytes.ok.0) in
    λ s. passed_up _ _ _ _ c.from_residual.result c.in_err-more.field-0.0 c.from_residual.ensures.1
    (left_at_read _ _ _ c.args.most c.args.handle.0 text (le-leb (length text) c.args.most le) _ le c.loop-handle.invariant c.in_err-more.ensures.came s)

pub returns-in_default : goal.returns-in_default
returns-in_default g c =
    let text = c.loop-handle.bytes.items in
    let le : length text ≤ c.args.most = omega (arith, c.loop-handle.bytes.ok.0) in
    at_refusal _ _ _ c.args.most c.args.handle.0 text (le-leb (length text) c.args.most le) le c.loop-handle.invariant
    (rw c.in_default.is at c.in_ok-more.ensures.came)

pub returns-then-is_empty : goal.returns-then-is_empty
returns-then-is_empty g c =
    let text = c.loop-handle.bytes.items in
    let le : length text ≤ c.args.most = omega (arith, c.loop-handle.bytes.ok.0) in
    let none : vec_len c.in-Some.more ≡ 0 = search rules in
    let e : c.in-Some.more.items ≡ [] = nil_of c.in-Some.more.items (omega (arith, none, c.in-Some.more.ok.0)) in
    at_end _ _ _ c.args.most c.args.handle.0 text (le-leb (length text) c.args.most le) le c.loop-handle.invariant
    (rw (c.in-Some.is, e) at c.in_ok-more.ensures.came)

pub returns-in_err-extend_from_slice : goal.returns-in_err-extend_from_slice
returns-in_err-extend_from_slice g c =
    let text = c.loop-handle.bytes.items in
    let le : length text ≤ c.args.most = omega (arith, c.loop-handle.bytes.ok.0) in
    let some : length c.in-Some.more.items ≡ 0 → ⊥ = λ z. let t = eq-eqb (vec_len c.in-Some.more) 0 (omega (arith, z, c.in-Some.more.ok.0)) in (cc) in
    let read = has_more _ _ _ c.args.most c.args.handle.0 text (le-leb (length text) c.args.most le) c.in-Some.more.items some le c.loop-handle.invariant
    (rw c.in-Some.is at c.in_ok-more.ensures.came) in
    λ s. passed_up _ _ _ _ c.from_residual-in_err-extend_from_slice.result NoMemory c.from_residual-in_err-extend_from_slice.ensures.1 (left_here _ _ _ _ (read.ran s))

pub loop-handle-preserved : goal.loop-handle-preserved
loop-handle-preserved g c =
    let text = c.loop-handle.bytes.items in
    let le : length text ≤ c.args.most = omega (arith, c.loop-handle.bytes.ok.0) in
    let some : length c.in-Some.more.items ≡ 0 → ⊥ = λ z. let t = eq-eqb (vec_len c.in-Some.more) 0 (omega (arith, z, c.in-Some.more.ok.0)) in (cc) in
    let more : c.extend_from_slice.new.self.items ≡ text ++ c.in-Some.more.items = search rules in
    rw more (has_more _ _ _ c.args.most c.args.handle.0 text (le-leb (length text) c.args.most le) c.in-Some.more.items some le c.loop-handle.invariant
    (rw c.in-Some.is at c.in_ok-more.ensures.came))

pub returns : goal.returns
returns g c =
    let text = c.loop-handle.bytes.items in
    too_large _ _ c.args.most c.args.handle.0 text (lt-leb (length text) c.args.most (omega (arith, c.loop-handle.bytes.ok.0))) c.loop-handle.invariant
