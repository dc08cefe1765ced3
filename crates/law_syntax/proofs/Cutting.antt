-- The machine and the cut agree on each text.
use Rattle.std.proofs.Common.{◌≡◌, ℕ, suc, Bool, true, false, cond, not, ◌==◌, List, [], ◌∷◌, ◌++◌, refl, sym, ap, subst, ◌∙◌}
use Rattle.std.specs.Prelude.{Option, Some, None, Result, Ok, Err, unwrap_or, ◌&&◌}
use Rattle.std.specs.Str.{chars}
use Rattle.std.proofs.lemmas.Bool.{eqb-true}
use Rattle.rc_model.specs.Syntax.Text.{without_zero}
use Rattle.rc_model.specs.Syntax.Tokens as t
use Rattle.rc_model.specs.Syntax.Tokens.{Token}
use Rattle.rc_model.specs.declared.fault.SyntaxFault.{SyntaxFault}
use Rattle.rc_model.specs.Mirrors.Reading.{Between, run, zero_line, unless_zero, lexed, ReadingLaw}
use Rattle.law_syntax.proofs.CutRuns.{Cuts-run}
use Rattle.law_syntax.proofs.Total.{total}
use Rattle.rc_model.specs.declared.fault.FaultKind.TheVariants.{ZeroByte}
use Rattle.rc_model.specs.declared.syntax.Place.{Place}
use Rattle.rc_model.specs.declared.syntax.Previous.TheVariants as previous

-- the first zero of a text
record ZeroAt (p : Place) (cs : List ℕ) (line : ℕ) : Type 0 where
  pub front : List ℕ
  pub rest : List ℕ
  pub is : cs ≡ front ++ 0 ∷ rest
  pub none : without_zero front ≡ true
  pub at : (t.after_chars p front).line ≡ line

zero_free : (line : ℕ) (cs : List ℕ) → without_zero cs ≡ true → zero_line line cs ≡ None
zero_free line [] h = refl
zero_free line (c ∷ cs) h = by (c == 0) h (zero_free (cond (c == 10) (suc line) line) cs)
  where
    by : (b : Bool) → (not b && without_zero cs) ≡ true → (without_zero cs ≡ true → zero_line (cond (c == 10) (suc line) line) cs ≡ None) →
        cond b (Some line) (zero_line (cond (c == 10) (suc line) line) cs) ≡ None
    by true h' g = absurd cc
    by false h' g = g h'

zero_found : (p : Place) (cs rest : List ℕ) → without_zero cs ≡ true → zero_line p.line (cs ++ 0 ∷ rest) ≡ Some (t.after_chars p cs).line
zero_found p [] rest h = refl
zero_found p (c ∷ cs) rest h = by (c == 0) h (zero_found (t.after_char p c) cs rest)
  where
    by : (b : Bool) → (not b && without_zero cs) ≡ true → (without_zero cs ≡ true → zero_line (t.after_char p c).line (cs ++ 0 ∷ rest) ≡ Some (t.after_chars (t.after_char p c) cs).line) →
        cond b (Some p.line) (zero_line (t.after_char p c).line (cs ++ 0 ∷ rest)) ≡ Some (t.after_chars (t.after_char p c) cs).line
    by true h' g = absurd cc
    by false h' g = g h'

no_zero_found : (p : Place) (cs : List ℕ) → zero_line p.line cs ≡ None → without_zero cs ≡ true
no_zero_found p [] h = refl
no_zero_found p (c ∷ cs) h = by (c == 0) h (no_zero_found (t.after_char p c) cs)
  where
    by : (b : Bool) → cond b (Some p.line) (zero_line (t.after_char p c).line cs) ≡ None → (zero_line (t.after_char p c).line cs ≡ None → without_zero cs ≡ true) →
        (not b && without_zero cs) ≡ true
    by true h' g = absurd cc
    by false h' g = g h'

zero_at : (p : Place) (cs : List ℕ) (line : ℕ) → zero_line p.line cs ≡ Some line → ZeroAt p cs line
zero_at p [] line h = absurd cc
zero_at p (c ∷ cs) line h = by (c == 0) refl h (zero_at (t.after_char p c) cs line)
  where
    by : (b : Bool) → (c == 0) ≡ b → cond b (Some p.line) (zero_line (t.after_char p c).line cs) ≡ Some line →
        (zero_line (t.after_char p c).line cs ≡ Some line → ZeroAt (t.after_char p c) cs line) → ZeroAt p (c ∷ cs) line
    by true e h' g = record { front = []; rest = cs; is = ap (λ z. z ∷ cs) (eqb-true c 0 e); none = refl; at = ap (λ o. unwrap_or o line) h' }
    by false e h' g =
        let z = g h' in
        record { front = c ∷ z.front; rest = z.rest; is = ap (λ x. c ∷ x) z.is; none = ap (λ b. not b && without_zero z.front) e ∙ z.none; at = z.at }

found_by : (text : List ℕ) (z : Option ℕ) → zero_line 1 (chars text) ≡ z → t.Lexes text (unless_zero z (run (Between previous.Apart) [] t.first_place (chars text)))
found_by text None e =
    let x = total (chars text) previous.Apart [] t.first_place in
    subst (λ o. t.Lexes text (t.result_of o)) (sym (Cuts-run x.cut)) (t.cut x.outcome (no_zero_found t.first_place (chars text) e) x.cut)
found_by text (Some line) e =
    let z = zero_at t.first_place (chars text) line e in
    subst (λ n. t.Lexes text (Err (t.fault ZeroByte n))) z.at (t.zero_byte z.front z.rest z.is z.none)

only : {text : List ℕ} {other : Result (List Token) SyntaxFault} → t.Lexes text other → other ≡ lexed text
only {text = text} (t.zero_byte cs rest e h) =
    ap (λ z. unless_zero z (run (Between previous.Apart) [] t.first_place (chars text))) (sym (ap (zero_line 1) e ∙ zero_found t.first_place cs rest h))
only {text = text} (t.cut o h c) =
    ap t.result_of (sym (Cuts-run c)) ∙ ap (λ z. unless_zero z (run (Between previous.Apart) [] t.first_place (chars text))) (sym (zero_free 1 (chars text) h))

pub law : ReadingLaw
law text = record { found = found_by text (zero_line 1 (chars text)) refl; only = λ other l. only l }

-- a text has one reading
pub one_reading : {text : List ℕ} {a b : Result (List Token) SyntaxFault} → t.Lexes text a → t.Lexes text b → a ≡ b
one_reading x y = only x ∙ sym (only y)

-- and one list of tokens
pub one_cut : {text : List ℕ} {xs ys : List Token} → t.Lexes text (Ok xs) → t.Lexes text (Ok ys) → xs ≡ ys
one_cut x y = ap (λ r. tokens_or r []) (one_reading x y)
  where
    tokens_or : Result (List Token) SyntaxFault → List Token → List Token
    tokens_or (Ok ts) other = ts
    tokens_or (Err f) other = other
