use Rattle.std.proofs.Common.{rules, arith, ◌≡◌, ◌≤◌, ◌<◌, ◌++◌, ◌∙◌, ℕ, Bool, false, [], ap, length, vec_len, eq-eqb, IsTrue}
use Rattle.std.proofs.lemmas.Bool.{le-leb, lt-leb}
use Rattle.rc_model.specs.Run.Acts.{longest_file}
use Rattle.rc_model.specs.Syntax.Accepted.{longest_script}
use Rattle.rc_world.specs.declared.starts.Stop.TheVariants.{NoMemory}
use Rattle.rc_world.proofs.Joins.{left_here, passed_up}
use Rattle.rc_pipes.proofs.Readings.{nothing_yet, has_more, at_end, at_refusal, left_at_read, too_large, nil_of}
use Rattle.rc_builtin.proofs.dot.read_script.Goals as goal

-- the text is not too long
short : (b : Bool) (n : ℕ) → (longest_script < n → IsTrue b) → b ≡ false → n ≤ longest_script
short b n h e = let no : longest_script < n → ⊥ = λ l. (let t = h l in (cc)) in omega (arith, no)

pub loop-file-init : goal.loop-file-init
loop-file-init g c =
    let e : c.new-reader.result ≡ [] = search rules in
    rw e (nothing_yet _ longest_script c.args.file.0 (le-leb 0 longest_script (omega arith)))

pub returns-in_err-more : goal.returns-in_err-more
unfolding longest_file
returns-in_err-more g c =
    let text = c.loop-file.reader in
    let le = short _ (length text) c.is_too_long.ensures.1 c.loop-file-test.true in
    λ s. passed_up _ _ _ _ c.from_residual.result c.in_err-more.field-0.0 c.from_residual.ensures.1
    (left_at_read _ _ _ longest_script c.args.file.0 text (le-leb (length text) longest_script le) _ le c.loop-file.invariant c.in_err-more.ensures.came s)

pub returns-in_default : goal.returns-in_default
unfolding longest_file
returns-in_default g c =
    let text = c.loop-file.reader in
    let le = short _ (length text) c.is_too_long.ensures.1 c.loop-file-test.true in
    at_refusal _ _ _ longest_script c.args.file.0 text (le-leb (length text) longest_script le) le c.loop-file.invariant
    (rw c.in_default.is at c.in_ok-more.ensures.came)

pub returns-then-is_empty : goal.returns-then-is_empty
unfolding longest_file
returns-then-is_empty g c =
    let text = c.loop-file.reader in
    let le = short _ (length text) c.is_too_long.ensures.1 c.loop-file-test.true in
    let none : vec_len c.in-Some.more ≡ 0 = search rules in
    let e : c.in-Some.more.items ≡ [] = nil_of c.in-Some.more.items (omega (arith, none, c.in-Some.more.ok.0)) in
    at_end _ _ _ longest_script c.args.file.0 text (le-leb (length text) longest_script le) le c.loop-file.invariant
    (rw (c.in-Some.is, e) at c.in_ok-more.ensures.came)

pub returns-in_err-feed : goal.returns-in_err-feed
unfolding longest_file
returns-in_err-feed g c =
    let text = c.loop-file.reader in
    let le = short _ (length text) c.is_too_long.ensures.1 c.loop-file-test.true in
    let some : length c.in-Some.more.items ≡ 0 → ⊥ = λ z. let t = eq-eqb (vec_len c.in-Some.more) 0 (omega (arith, z, c.in-Some.more.ok.0)) in (cc) in
    let read = has_more _ _ _ longest_script c.args.file.0 text (le-leb (length text) longest_script le) c.in-Some.more.items some le c.loop-file.invariant
    (rw c.in-Some.is at c.in_ok-more.ensures.came) in
    λ s. passed_up _ _ _ _ c.from_residual-in_err-feed.result NoMemory c.from_residual-in_err-feed.ensures.1 (left_here _ _ _ _ (read.ran s))

pub loop-file-preserved : goal.loop-file-preserved
loop-file-preserved g c =
    let text = c.loop-file.reader in
    let le = short _ (length text) c.is_too_long.ensures.1 c.loop-file-test.true in
    let some : length c.in-Some.more.items ≡ 0 → ⊥ = λ z. let t = eq-eqb (vec_len c.in-Some.more) 0 (omega (arith, z, c.in-Some.more.ok.0)) in (cc) in
    let more : c.feed.new.self ≡ text ++ c.in-Some.more.items = c.in_ok-feed.ensures.ok ∙ ap (λ z. text ++ z) c.deref.ensures.value in
    rw more (has_more _ _ _ longest_script c.args.file.0 text (le-leb (length text) longest_script le) c.in-Some.more.items some le c.loop-file.invariant
    (rw c.in-Some.is at c.in_ok-more.ensures.came))

pub returns : goal.returns
unfolding longest_file
returns g c =
    let text = c.loop-file.reader in
    too_large _ _ longest_script c.args.file.0 text (lt-leb (length text) longest_script (omega arith)) c.loop-file.invariant
