-- Bytes of characters that are not ASCII.
use Rattle.std.proofs.Common.{◌≡◌, ℕ, suc, ◌+◌, ◌/◌, ◌%◌, ◌≤◌, ◌<◌, Bool, true, false, cond, ◌==◌, ◌||◌, ltb, List, [], ◌∷◌, ◌++◌, length, refl, ap, ◌∙◌, arith}
use Rattle.std.specs.Prelude.{◌&&◌, nat_le}
use Rattle.std.specs.List.{list_any, list_all}
use Rattle.std.proofs.lemmas.Bool.{eqb-true, ltb-true}
use Rattle.std.proofs.Math.Utf8.{encode}
use Rattle.std.specs.Char.{encode_utf8}
use Rattle.rc_model.specs.Syntax.Text.{begins_with}
use Rattle.rc_model.specs.Syntax.Tokens as t
use Rattle.rc_model.specs.Syntax.Tokens.{Lexeme}
use Rattle.law_syntax.specs.ByteReading.{after_bytes}
use Rattle.rc_model.specs.declared.syntax.Place.{Place}
use Rattle.rc_model.specs.declared.syntax.Previous.{Previous}
use Rattle.rc_model.specs.declared.syntax.Previous.TheVariants as previous
use Rattle.rc_model.specs.declared.syntax.Class.TheVariants as class

-- an operator is ASCII
abbrev ascii : List ℕ → Bool
ascii cs = list_all (λ c. ltb c 128) cs

begins_high : (xs : List ℕ) (b : ℕ) (bs word : List ℕ) → 128 ≤ b → ascii word ≡ true → begins_with (xs ++ b ∷ bs) word ≡ false
begins_high xs b bs [] h a = by xs
  where
    by : (ys : List ℕ) → begins_with (ys ++ b ∷ bs) [] ≡ false
    by [] = refl
    by (y ∷ ys) = refl
begins_high [] b bs (c ∷ cs) h a = by (b == c) refl (ltb c 128) refl a
  where
    by : (v : Bool) → (b == c) ≡ v → (w : Bool) → ltb c 128 ≡ w → (w && ascii cs) ≡ true → (v && begins_with bs cs) ≡ false
    by false e w f g = refl
    by true e true f g = absurd (omega (arith, eqb-true b c e, ltb-true c 128 f))
    by true e false f g = absurd cc
begins_high (x ∷ xs) b bs (c ∷ cs) h a = by (x == c) (ltb c 128) a (begins_high xs b bs cs h)
  where
    by : (v w : Bool) → (w && ascii cs) ≡ true → (ascii cs ≡ true → begins_with (xs ++ b ∷ bs) cs ≡ false) → (v && begins_with (xs ++ b ∷ bs) cs) ≡ false
    by false w g f = refl
    by true true g f = f g
    by true false g f = absurd cc

none_begins_high : (xs : List ℕ) (b : ℕ) (bs : List ℕ) → 128 ≤ b → (os : List (List ℕ × Lexeme)) → list_all (λ o. ascii o.0) os ≡ true →
    list_any (λ o. begins_with (xs ++ b ∷ bs) o.0) os ≡ false
none_begins_high xs b bs h [] a = refl
none_begins_high xs b bs h (o ∷ os) a = by (ascii o.0) refl a (none_begins_high xs b bs h os)
  where
    by : (v : Bool) → ascii o.0 ≡ v → (v && list_all (λ p. ascii p.0) os) ≡ true →
        (list_all (λ p. ascii p.0) os ≡ true → list_any (λ p. begins_with (xs ++ b ∷ bs) p.0) os ≡ false) →
        (begins_with (xs ++ b ∷ bs) o.0 || list_any (λ p. begins_with (xs ++ b ∷ bs) p.0) os) ≡ false
    by true e g f = ap (λ v. v || list_any (λ p. begins_with (xs ++ b ∷ bs) p.0) os) (begins_high xs b bs o.0 h e) ∙ f g
    by false e g f = absurd cc

pub high_begins_none : (xs : List ℕ) (b : ℕ) → 128 ≤ b → t.begins_operator (xs ++ b ∷ []) ≡ false
high_begins_none xs b h = none_begins_high xs b [] h t.operators refl

pub not_equal : (b n : ℕ) → n < b → (b == n) ≡ false
not_equal b n h = by (b == n) refl
  where
    by : (v : Bool) → (b == n) ≡ v → (b == n) ≡ false
    by true e = absurd (omega (arith, eqb-true b n e))
    by false e = e

not_le : (b n : ℕ) → n < b → nat_le b n ≡ false
not_le b n h = grind arith

and_false : (v : Bool) → (v && false) ≡ false
and_false true = refl
and_false false = refl

-- it is no character of a name
pub high_no_name : (b : ℕ) → 128 ≤ b → t.is_name_char b ≡ false
high_no_name b h =
    ap (λ v. (nat_le 48 b && v) || (nat_le 65 b && nat_le b 90) || (nat_le 97 b && nat_le b 122) || (b == 95) || (b == 42)) (not_le b 57 (omega arith))
    ∙ ap (λ v. v || (nat_le 65 b && nat_le b 90) || (nat_le 97 b && nat_le b 122) || (b == 95) || (b == 42)) (and_false (nat_le 48 b))
    ∙ ap (λ v. (nat_le 65 b && v) || (nat_le 97 b && nat_le b 122) || (b == 95) || (b == 42)) (not_le b 90 (omega arith))
    ∙ ap (λ v. v || (nat_le 97 b && nat_le b 122) || (b == 95) || (b == 42)) (and_false (nat_le 65 b))
    ∙ ap (λ v. (nat_le 97 b && v) || (b == 95) || (b == 42)) (not_le b 122 (omega arith))
    ∙ ap (λ v. v || (b == 95) || (b == 42)) (and_false (nat_le 97 b))
    ∙ ap (λ v. v || (b == 42)) (not_equal b 95 (omega arith))
    ∙ not_equal b 42 (omega arith)

pub high_begins_no_name : (prev : Previous) (b : ℕ) → 128 ≤ b → t.begins_name prev b ≡ false
high_begins_no_name previous.Dollar b h = high_no_name b h
high_begins_no_name prev b h = refl

-- its class
pub high_class : (b : ℕ) → 128 ≤ b → t.class_of b ≡ class.Ordinary
high_class b h =
    by (t.begins_operator (b ∷ [])) (b == 32) (b == 9) (b == 10) (b == 35) (b == 39) (b == 92) (high_begins_none [] b h) (not_equal b 32 (omega arith))
    (not_equal b 9 (omega arith)) (not_equal b 10 (omega arith)) (not_equal b 35 (omega arith)) (not_equal b 39 (omega arith)) (not_equal b 92 (omega arith))
  where
    by : (o x y z u v w : Bool) → o ≡ false → x ≡ false → y ≡ false → z ≡ false → u ≡ false → v ≡ false → w ≡ false →
        cond o class.Operates (cond (x || y) class.Blank (cond z class.LineEnd (cond u class.Hash (cond v class.Quote (cond w class.Backslash class.Ordinary))))) ≡ class.Ordinary
    by false false false false false false false e f g i j k l = refl
    by o x y z u v w e f g i j k l = cc

-- bytes that are not ASCII
pub data Highs : List ℕ → Type 0 where
  nothing : Highs []
  one : (b : ℕ) (bs : List ℕ) → 128 ≤ b → Highs bs → Highs (b ∷ bs)

-- the bytes of a character that is not ASCII
pub record HighChar (bytes : List ℕ) : Type 0 where
  pub first : ℕ
  pub more : List ℕ
  pub are : bytes ≡ first ∷ more
  pub high : 128 ≤ first
  pub highs : Highs more

pub encode_high : (c : ℕ) → 128 ≤ c → HighChar (encode_utf8 c)
unfolding encode
encode_high c h = by (ltb c 128) refl (ltb c 2048) (ltb c 65536)
  where
    by : (x : Bool) → ltb c 128 ≡ x → (y z : Bool) →
        HighChar (cond x (c ∷ []) (cond y ((192 + c / 64) ∷ (128 + c % 64) ∷ [])
        (cond z ((224 + c / 4096) ∷ (128 + c / 64 % 64) ∷ (128 + c % 64) ∷ [])
        ((240 + c / 262144) ∷ (128 + c / 4096 % 64) ∷ (128 + c / 64 % 64) ∷ (128 + c % 64) ∷ []))))
    by true e y z = absurd (omega (arith, ltb-true c 128 e))
    by false e true z = record {
      first = 192 + c / 64;
      more = (128 + c % 64) ∷ [];
      are = refl;
      high = omega arith;
      highs = one (128 + c % 64) [] (omega arith) nothing;
    }
    by false e false true = record {
      first = 224 + c / 4096;
      more = (128 + c / 64 % 64) ∷ (128 + c % 64) ∷ [];
      are = refl;
      high = omega arith;
      highs = one (128 + c / 64 % 64) ((128 + c % 64) ∷ []) (omega arith) (one (128 + c % 64) [] (omega arith) nothing);
    }
    by false e false false = record {
      first = 240 + c / 262144;
      more = (128 + c / 4096 % 64) ∷ (128 + c / 64 % 64) ∷ (128 + c % 64) ∷ [];
      are = refl;
      high = omega arith;
      highs = one (128 + c / 4096 % 64) ((128 + c / 64 % 64) ∷ (128 + c % 64) ∷ []) (omega arith)
          (one (128 + c / 64 % 64) ((128 + c % 64) ∷ []) (omega arith) (one (128 + c % 64) [] (omega arith) nothing));
    }

pub same_place : (p q : Place) → p.byte ≡ q.byte → p.line ≡ q.line → p ≡ q
same_place p q e f = ap (λ z. record { byte = z; line = p.line }) e ∙ ap (λ z. record { byte = q.byte; line = z }) f

-- where they end
pub after_high : (p : Place) (bs : List ℕ) → Highs bs → after_bytes p bs ≡ record { byte = p.byte + length bs; line = p.line }
after_high p [] h = same_place p (record { byte = p.byte + 0; line = p.line }) (omega arith) refl
after_high p (b ∷ bs) (one b' bs' h k) =
    ap (λ v. after_bytes (record { byte = p.byte + 1; line = cond v (suc p.line) p.line }) bs) (not_equal b 10 (omega arith))
    ∙ after_high (record { byte = p.byte + 1; line = p.line }) bs k
    ∙ same_place (record { byte = (p.byte + 1) + length bs; line = p.line }) (record { byte = p.byte + length (b ∷ bs); line = p.line }) (omega arith) refl
