use Rattle.std.proofs.Common.{rules, ◌≡◌, ◌≤◌, ◌-◌, ◌^◌, ◌∷◌, ◌++◌, true, false, Err, List, ℕ, length, drop, codes, min, string_bytes, sym, ap, ◌∙◌, arith}
use Rattle.std.proofs.lemmas.Grind.{common_steps}
use Rattle.rc_model.specs.Run.Numbers.{digits_value}
use Rattle.rc_model.specs.Syntax.Text.{begins_with}
use Rattle.rc_image.specs.Images.{fault_here}
use Rattle.rc_image.proofs.Beginnings.{begins_by, begun_by, from_mark, not_begun}
use Rattle.rc_image.proofs.Claims.{reads_one, reads_other, reads_several}
use Rattle.rc_image.proofs.image_words.read_words.Goals as goal

pub returns-then-starts_with : goal.returns-then-starts_with
returns-then-starts_with c =
    let words = c.args.words.now in
    let first = c.in-Some.first.now in
    let e : words ≡ first ∷ c.in-Some.rest.now = c.in-Some.ensures.cases.0 in
    let s : c.deref.result.now ≡ string_bytes first = search rules in
    let h : begins_with (codes "rc1;") (string_bytes first) ≡ true =
    ap (begins_with (codes "rc1;")) (sym s) ∙ sym (begins_by _ (codes "rc1;") c.deref.result.now c.starts_with.ensures.cases) ∙ c.if-starts_with.true in
    let d : c.deref-then-starts_with.result.now ≡ string_bytes first = search rules in
    rw (reads_one words c.in-Some.rest.now first e h, ← d) c.read_one.ensures

pub returns-in_default-strip_prefix : goal.returns-in_default-strip_prefix
returns-in_default-strip_prefix c =
    let words = c.args.words.now in
    let first = c.in-Some.first.now in
    let e : words ≡ first ∷ c.in-Some.rest.now = c.in-Some.ensures.cases.0 in
    let s : c.deref.result.now ≡ string_bytes first = search rules in
    let h : begins_with (codes "rc1;") (string_bytes first) ≡ false =
    ap (begins_with (codes "rc1;")) (sym s) ∙ sym (begins_by _ (codes "rc1;") c.deref.result.now c.starts_with.ensures.cases) ∙ c.if-starts_with.false in
    let t : c.deref-2.result.now ≡ string_bytes first = search rules in
    let k : begins_with (codes "rc2;") (string_bytes first) ≡ false =
    ap (begins_with (codes "rc2;")) (sym t) ∙ not_begun (codes "rc2;") c.deref-2.result.now c.in_default-strip_prefix.ensures.cases in
    let b : c.deref-in_default-strip_prefix.result.now ≡ string_bytes first = search rules in
    reads_other words c.in-Some.rest.now first e h k ∙ ap (λ f. Err f) (ap fault_here (sym b) ∙ sym c.beginning_fault.ensures)

pub returns : goal.returns
returns c =
    let words = c.args.words.now in
    let first = c.in-Some.first.now in
    let rest = c.in-Some.rest.now in
    let digits = c.in-Some-strip_prefix.digits.now in
    let cut = c.in-Some-strip_prefix.ensures.cases in
    let pieces = c.split_at.result.0.now in
    let e : words ≡ first ∷ rest = c.in-Some.ensures.cases.0 in
    let s : c.deref.result.now ≡ string_bytes first = search rules in
    let h : begins_with (codes "rc1;") (string_bytes first) ≡ false =
    ap (begins_with (codes "rc1;")) (sym s) ∙ sym (begins_by _ (codes "rc1;") c.deref.result.now c.starts_with.ensures.cases) ∙ c.if-starts_with.false in
    let t : c.deref-2.result.now ≡ string_bytes first = search rules in
    let m : string_bytes first ≡ codes "rc2;" ++ digits = sym t ∙ from_mark (codes "rc2;") c.deref-2.result.now digits cut.0 cut.1.1 cut.2 in
    let k : begins_with (codes "rc2;") (string_bytes first) ≡ true = ap (begins_with (codes "rc2;")) m ∙ begun_by (codes "rc2;") digits in
    let d : digits ≡ drop 4 (string_bytes first) = sym (ap (λ (x : List ℕ). drop 4 x) m) in
    let b : c.as_bytes.result.now ≡ digits = search rules in
    let claim : c.claimed.result ≡ min (digits_value 0 digits) (2 ^ 64 - 1) = c.claimed.ensures ∙ ap (λ (x : List ℕ). min (digits_value 0 x) (2 ^ 64 - 1)) b in
    let short : length rest ≤ 2 ^ 64 - 1 = grind (arith, common_steps) in
    let count : c.min-count.result ≡ min c.claimed.result (length rest) = grind (arith, common_steps) in
    let f : c.deref-3.result.now ≡ string_bytes first = search rules in
    rw (reads_several words rest pieces first digits c.claimed.result c.min-count.result e h k d claim short count c.split_at.ensures.front, ← f) c.read_several.ensures
