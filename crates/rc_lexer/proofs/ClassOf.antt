-- The class of a byte.
use Rattle.std.proofs.Common.{◌≡◌, ℕ, Bool, true, false, ◌==◌, ◌||◌, List, [], ◌∷◌, refl, sym, subst}
use Rattle.std.proofs.lemmas.Bool.{eqb-true}
use Rattle.rc_model.specs.Syntax.Tokens as t
use Rattle.law_syntax.specs.ByteReading as bytes
use Rattle.law_syntax.specs.ByteReading.{is_alone}
use Rattle.rc_lexer.specs.Views.{lexeme_of}
use Rattle.rc_lexer.specs.Spans.{alone_kind, byte_class}
use Rattle.rc_lexer.specs.Trie.{first_op, spelled}
use Rattle.rc_model.specs.declared.syntax.Class.{Class}
use Rattle.rc_model.specs.declared.syntax.Class.TheVariants as class
use Rattle.rc_lexer.specs.declared.byte_classes.ByteClass.{ByteClass}
use Rattle.rc_lexer.specs.declared.byte_classes.ByteClass.TheVariants.{Alone, Begins, Blank, LineEnd, Hash, Quote, Backslash, Ordinary}

-- what the definitions call it
abbrev pub seen_class : ByteClass → Class
seen_class Alone = class.Operates
seen_class Begins = class.Operates
seen_class Blank = class.Blank
seen_class LineEnd = class.LineEnd
seen_class Hash = class.Hash
seen_class Quote = class.Quote
seen_class Backslash = class.Backslash
seen_class Ordinary = class.Ordinary

-- what the class says of the byte
abbrev pub Fits : ByteClass → ℕ → Type 0
Fits Alone b = is_alone b ≡ true
Fits Begins b = (is_alone b ≡ false) × (spelled (first_op b) ≡ b ∷ [])
Fits _ b = Unit {0}

pub record ClassIs (b : ℕ) (k : ByteClass) : Type 0 where
  pub class : seen_class k ≡ t.class_of b
  pub fits : Fits k b

at : (b n : ℕ) → (b == n) ≡ true → ClassIs n (byte_class n) → ClassIs b (byte_class b)
at b n e h = subst (λ z. ClassIs z (byte_class z)) (sym (eqb-true b n e)) h

pub class_is : (b : ℕ) → ClassIs b (byte_class b)
class_is b = by (b == 59) (b == 94) (b == 61) (b == 40) (b == 41) (b == 123) (b == 125) (b == 96) (b == 38) (b == 124) (b == 62) (b == 60) (b == 36) refl refl refl refl refl refl refl refl refl refl refl refl refl
  where
    others : is_alone b ≡ false → ((b == 38) || (b == 124) || (b == 62) || (b == 60) || (b == 36)) ≡ false → t.begins_operator (b ∷ []) ≡ false → (u v w x y z : Bool) → (b == 32) ≡ u → (b == 9) ≡ v → (b == 10) ≡ w → (b == 35) ≡ x → (b == 39) ≡ y → (b == 92) ≡ z →
        ClassIs b (byte_class b)
    others a h o true v w x y z e f g i j k = at b 32 e (record { class = refl; fits = tt })
    others a h o false true w x y z e f g i j k = at b 9 f (record { class = refl; fits = tt })
    others a h o false false true x y z e f g i j k = at b 10 g (record { class = refl; fits = tt })
    others a h o false false false true y z e f g i j k = at b 35 i (record { class = refl; fits = tt })
    others a h o false false false false true z e f g i j k = at b 39 j (record { class = refl; fits = tt })
    others a h o false false false false false true e f g i j k = at b 92 k (record { class = refl; fits = tt })
    others a h o false false false false false false e f g i j k =
        let c : byte_class b ≡ Ordinary = rw (a, h, e, f, g, i, j, k) refl in
        subst (λ q. ClassIs b q) (sym c) (record { class = rw (o, e, f, g, i, j, k) refl; fits = tt })

    by : (x0 x1 x2 x3 x4 x5 x6 x7 x8 x9 x10 x11 x12 : Bool) → (b == 59) ≡ x0 → (b == 94) ≡ x1 → (b == 61) ≡ x2 → (b == 40) ≡ x3 → (b == 41) ≡ x4 → (b == 123) ≡ x5 → (b == 125) ≡ x6 → (b == 96) ≡ x7 → (b == 38) ≡ x8 → (b == 124) ≡ x9 → (b == 62) ≡ x10 → (b == 60) ≡ x11 → (b == 36) ≡ x12 → ClassIs b (byte_class b)
    by true x1 x2 x3 x4 x5 x6 x7 x8 x9 x10 x11 x12 e0 e1 e2 e3 e4 e5 e6 e7 e8 e9 e10 e11 e12 = at b 59 e0 (record { class = refl; fits = refl })
    by false true x2 x3 x4 x5 x6 x7 x8 x9 x10 x11 x12 e0 e1 e2 e3 e4 e5 e6 e7 e8 e9 e10 e11 e12 = at b 94 e1 (record { class = refl; fits = refl })
    by false false true x3 x4 x5 x6 x7 x8 x9 x10 x11 x12 e0 e1 e2 e3 e4 e5 e6 e7 e8 e9 e10 e11 e12 = at b 61 e2 (record { class = refl; fits = refl })
    by false false false true x4 x5 x6 x7 x8 x9 x10 x11 x12 e0 e1 e2 e3 e4 e5 e6 e7 e8 e9 e10 e11 e12 = at b 40 e3 (record { class = refl; fits = refl })
    by false false false false true x5 x6 x7 x8 x9 x10 x11 x12 e0 e1 e2 e3 e4 e5 e6 e7 e8 e9 e10 e11 e12 = at b 41 e4 (record { class = refl; fits = refl })
    by false false false false false true x6 x7 x8 x9 x10 x11 x12 e0 e1 e2 e3 e4 e5 e6 e7 e8 e9 e10 e11 e12 = at b 123 e5 (record { class = refl; fits = refl })
    by false false false false false false true x7 x8 x9 x10 x11 x12 e0 e1 e2 e3 e4 e5 e6 e7 e8 e9 e10 e11 e12 = at b 125 e6 (record { class = refl; fits = refl })
    by false false false false false false false true x8 x9 x10 x11 x12 e0 e1 e2 e3 e4 e5 e6 e7 e8 e9 e10 e11 e12 = at b 96 e7 (record { class = refl; fits = refl })
    by false false false false false false false false true x9 x10 x11 x12 e0 e1 e2 e3 e4 e5 e6 e7 e8 e9 e10 e11 e12 = at b 38 e8 (record { class = refl; fits = (refl, refl) })
    by false false false false false false false false false true x10 x11 x12 e0 e1 e2 e3 e4 e5 e6 e7 e8 e9 e10 e11 e12 = at b 124 e9 (record { class = refl; fits = (refl, refl) })
    by false false false false false false false false false false true x11 x12 e0 e1 e2 e3 e4 e5 e6 e7 e8 e9 e10 e11 e12 = at b 62 e10 (record { class = refl; fits = (refl, refl) })
    by false false false false false false false false false false false true x12 e0 e1 e2 e3 e4 e5 e6 e7 e8 e9 e10 e11 e12 = at b 60 e11 (record { class = refl; fits = (refl, refl) })
    by false false false false false false false false false false false false true e0 e1 e2 e3 e4 e5 e6 e7 e8 e9 e10 e11 e12 = at b 36 e12 (record { class = refl; fits = (refl, refl) })
    by false false false false false false false false false false false false false e0 e1 e2 e3 e4 e5 e6 e7 e8 e9 e10 e11 e12 = others (rw (e0, e1, e2, e3, e4, e5, e6, e7) refl) (rw (e8, e9, e10, e11, e12) refl) (rw (e0, e1, e2, e3, e4, e5, e6, e7, e8, e9, e10, e11, e12) refl) (b == 32) (b == 9) (b == 10) (b == 35) (b == 39) (b == 92) refl refl refl refl refl refl

pub alone_same : (b : ℕ) (script text : List ℕ) → lexeme_of script (alone_kind b) text ≡ bytes.alone b
alone_same b script text = by (b == 59) (b == 94) (b == 61) (b == 40) (b == 41) (b == 123) (b == 125) refl refl refl refl refl refl refl
  where
    by : (x1 x2 x3 x4 x5 x6 x7 : Bool) → (b == 59) ≡ x1 → (b == 94) ≡ x2 → (b == 61) ≡ x3 → (b == 40) ≡ x4 → (b == 41) ≡ x5 → (b == 123) ≡ x6 → (b == 125) ≡ x7 →
        lexeme_of script (alone_kind b) text ≡ bytes.alone b
    by true x2 x3 x4 x5 x6 x7 e1 e2 e3 e4 e5 e6 e7 = rw e1 refl
    by false true x3 x4 x5 x6 x7 e1 e2 e3 e4 e5 e6 e7 = rw (e1, e2) refl
    by false false true x4 x5 x6 x7 e1 e2 e3 e4 e5 e6 e7 = rw (e1, e2, e3) refl
    by false false false true x5 x6 x7 e1 e2 e3 e4 e5 e6 e7 = rw (e1, e2, e3, e4) refl
    by false false false false true x6 x7 e1 e2 e3 e4 e5 e6 e7 = rw (e1, e2, e3, e4, e5) refl
    by false false false false false true x7 e1 e2 e3 e4 e5 e6 e7 = rw (e1, e2, e3, e4, e5, e6) refl
    by false false false false false false true e1 e2 e3 e4 e5 e6 e7 = rw (e1, e2, e3, e4, e5, e6, e7) refl
    by false false false false false false false e1 e2 e3 e4 e5 e6 e7 = rw (e1, e2, e3, e4, e5, e6, e7) refl
