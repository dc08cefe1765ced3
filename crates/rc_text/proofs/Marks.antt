-- The characters of words.
use Rattle.std.proofs.Common.{◌≡◌, ℕ, Bool, true, false, not, ◌||◌, List, [], ◌∷◌, ◌++◌, map, refl, ap, ◌∙◌, sym, Result, Ok, Err, OnOk, if◌then◌else◌}
use Rattle.std.specs.Result.{is_ok}
use Rattle.std.proofs.Math.Bool.{beq}
use Rattle.std.proofs.lemmas.List.{append-nil, map-append}
use Rattle.std.proofs.lemmas.Str.{chars-append, chars-encodes, encodes-chars}
use Rattle.std.proofs.lemmas.Bool.{or_parts}
use Rattle.std.specs.Char.{encode_utf8}
use Rattle.std.specs.List.{flat_map}
use Rattle.std.specs.Str.{chars, encode_utf8_all, IsUtf8}
use Rattle.rc_model.specs.Syntax.Words.{Word, has_pattern, is_pattern, spaced_words, unmarked, word_text, written}

-- what was pushed is there where memory was
pub pushed : {E A : Type 0} (r : Result (Unit {0}) E) (new more old : A) → new ≡ (if is_ok r then more else old) → OnOk r (new ≡ more)
pushed (Ok u) new more old h = h
pushed (Err e) new more old h = tt

-- marks that are alike, and that are not
pub same_mark : (a b : Bool) → beq a b ≡ true → a ≡ b
same_mark true true e = refl
same_mark true false e = sym e
same_mark false true e = e
same_mark false false e = refl

pub other_mark : (a b : Bool) → beq a b ≡ false → not a ≡ b
other_mark true true e = sym e
other_mark true false e = refl
other_mark false true e = refl
other_mark false false e = e

pub not_not : (b : Bool) → not (not b) ≡ b
not_not true = refl
not_not false = refl

-- the same mark on each character, and taken away again
pub without : (b : Bool) (cs : List ℕ) → map (λ (m : ℕ × Bool). m.0) (map (λ c. (c, b)) cs) ≡ cs
without b [] = refl
without b (c ∷ cs) = ap (λ ds. c ∷ ds) (without b cs)

pub written_characters : (text : List ℕ) (quoted : Bool) → map (λ (c : ℕ × Bool). c.0) (written text quoted) ≡ chars text
written_characters text quoted = without (not quoted) (chars text)

-- the text of a word, by its characters
pub text_of_word : (text : List ℕ) (w v : Word) → IsUtf8 text → map (λ (c : ℕ × Bool). c.0) w ≡ chars text → w ≡ v → text ≡ word_text v
text_of_word text w v u h e = sym (encodes-chars text u) ∙ ap encode_utf8_all (sym h) ∙ ap word_text e

-- two texts written alike
pub written-append : (left right : List ℕ) (quoted : Bool) → IsUtf8 left → written (left ++ right) quoted ≡ written left quoted ++ written right quoted
written-append left right quoted u =
    ap (map (λ c. (c, not quoted))) (chars-append left right u) ∙ map-append (λ c. (c, not quoted)) (chars left) (chars right)

pub patterns-append : (left right : Word) → has_pattern left ≡ false → has_pattern right ≡ false → has_pattern (left ++ right) ≡ false
patterns-append [] right h k = k
patterns-append (m ∷ left) right h k = let b = or_parts (is_pattern m) (has_pattern left) h in ap (λ z. z || has_pattern (left ++ right)) b.0 ∙ patterns-append left right b.1 k

or_goes_on : (a b c : Bool) → (b ≡ true → c ≡ true) → a || b ≡ true → a || c ≡ true
or_goes_on true b c f h = refl
or_goes_on false b c f h = f h

or_last : (a b : Bool) → b ≡ true → a || b ≡ true
or_last true b h = refl
or_last false b h = h

-- a pattern character stays one beside other characters
pub patterns-left : (left right : Word) → has_pattern left ≡ true → has_pattern (left ++ right) ≡ true
patterns-left [] right h = absurd (let n : ⊥ = cc in n)
patterns-left (m ∷ left) right h = or_goes_on (is_pattern m) (has_pattern left) (has_pattern (left ++ right)) (patterns-left left right) h

pub patterns-right : (left right : Word) → has_pattern right ≡ true → has_pattern (left ++ right) ≡ true
patterns-right [] right h = h
patterns-right (m ∷ left) right h = or_last (is_pattern m) (has_pattern (left ++ right)) (patterns-right left right h)

-- the text of a word at the end of another text, and a space before it
unmarked_written : (w : Word) → map (λ c. (c, false)) (map (λ (m : ℕ × Bool). m.0) w) ≡ unmarked w
unmarked_written [] = refl
unmarked_written (m ∷ ms) = ap (λ ns. (m.0, false) ∷ ns) (unmarked_written ms)

pub text_unmarked : (text : List ℕ) (w v : Word) → map (λ (c : ℕ × Bool). c.0) w ≡ chars text → w ≡ v → written text true ≡ unmarked v
text_unmarked text w v h e = ap (map (λ c. (c, false))) (sym h) ∙ unmarked_written w ∙ ap unmarked e

pub text_added : (before after text : List ℕ) (w : Word) → IsUtf8 before → after ≡ before ++ text → chars text ≡ map (λ (m : ℕ × Bool). m.0) w →
    written after true ≡ written before true ++ unmarked w
text_added before after text w u e h =
    ap (λ t. written t true) e ∙ written-append before text true u
    ∙ ap (λ ms. written before true ++ ms) (ap (map (λ c. (c, false))) h ∙ unmarked_written w)

pub space_added : (before after : List ℕ) → IsUtf8 before → after ≡ before ++ encode_utf8 32 → written after true ≡ written before true ++ (32, false) ∷ []
space_added before after u e =
    ap (λ t. written t true) e ∙ written-append before (encode_utf8 32) true u
    ∙ ap (λ bs. written before true ++ map (λ c. (c, false)) (chars bs)) (sym (append-nil (encode_utf8 32)))
    ∙ ap (λ ms. written before true ++ map (λ c. (c, false)) ms) (chars-encodes (32 ∷ []) refl)

-- the first word, and each other after a space
pub spaced_others : (w : Word) (ws : List Word) → unmarked w ++ flat_map (λ v. (32, false) ∷ unmarked v) ws ≡ unmarked (spaced_words (w ∷ ws))
spaced_others w [] = append-nil (unmarked w)
spaced_others w (v ∷ vs) =
    ap (λ u. unmarked w ++ ((32, false) ∷ u)) (spaced_others v vs)
    ∙ sym (map-append (λ (m : ℕ × Bool). (m.0, false)) w ((32, false) ∷ spaced_words (v ∷ vs)))
