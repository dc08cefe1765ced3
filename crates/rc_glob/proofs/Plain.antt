-- Words with no pattern character: such a word matches the text of its own characters alone.
use Rattle.std.proofs.Common.{◌≡◌, ℕ, Bool, true, false, cond, ◌||◌, ◌&&◌, ◌==◌, List, [], ◌∷◌, ◌++◌, map, refl, sym, ap, ◌∙◌}
use Rattle.std.specs.Bool.{Decides}
use Rattle.std.specs.Str.{bytes_eq, chars, encode_utf8_all, IsUtf8}
use Rattle.std.proofs.lemmas.Cmp.{nat_list_eq_equiv}
use Rattle.std.proofs.lemmas.Slice.Eq.{bytes_eq-Decides}
use Rattle.std.proofs.lemmas.Str.{encodes-chars}
use Rattle.std.proofs.lemmas.Bool.{or_parts}
use Rattle.rc_model.specs.Syntax.Words.{Word, has_pattern, is_pattern}
use Rattle.rc_model.specs.Run.Patterns.{AnyOne, AnyRun, class_begun_by, Inside, is_dots, matches, outside, Outside, parts_from, parts_match, This}

part_by : (a b d : Bool) (c : ℕ) → (a || b) || d ≡ false → cond a (AnyRun ∷ []) (cond b (AnyOne ∷ []) (cond d [] (This c ∷ []))) ≡ This c ∷ []
part_by true b d c h = absurd (let n : ⊥ = cc in n)
part_by false true d c h = absurd (let n : ⊥ = cc in n)
part_by false false true c h = absurd (let n : ⊥ = cc in n)
part_by false false false c h = refl

-- a character that is no pattern character stands for itself
itself : (m : ℕ × Bool) → is_pattern m ≡ false → outside m ≡ This m.0 ∷ []
itself (c, true) h = part_by (c == 42) (c == 63) (c == 91) c h
itself (c, false) h = refl

no_class : (m : ℕ × Bool) → is_pattern m ≡ false → class_begun_by m ≡ Outside
no_class (c, true) h = ap (λ b. cond b (Inside []) Outside) (or_parts ((c == 42) || (c == 63)) (c == 91) h).1
no_class (c, false) h = refl

pub first_plain : (m : ℕ × Bool) (w : Word) → is_pattern m ≡ false → parts_from Outside (m ∷ w) ≡ This m.0 ∷ parts_from Outside w
first_plain m w h = ap (λ ps. ps ++ parts_from (class_begun_by m) w) (itself m h) ∙ ap (λ b. This m.0 ∷ parts_from b w) (no_class m h)

-- the parts of such a word are its characters
parts_plain : (w : Word) → has_pattern w ≡ false → parts_from Outside w ≡ map (λ m. This m.0) w
parts_plain [] h = refl
parts_plain (m ∷ w) h =
    let n = or_parts (is_pattern m) (has_pattern w) h in
    first_plain m w n.0 ∙ ap (λ ps. This m.0 ∷ ps) (parts_plain w n.1)

same_characters : (e : Bool) (w : Word) (cs : List ℕ) → parts_match e (map (λ m. This m.0) w) cs ≡ bytes_eq cs (map (λ m. m.0) w)
same_characters e [] [] = refl
same_characters e [] (c ∷ cs) = refl
same_characters e (m ∷ w) [] = refl
same_characters e (m ∷ w) (c ∷ cs) = ap (λ b. (c == m.0) && b) (same_characters e w cs)

never_dots : (e : Bool) (w : Word) (cs : List ℕ) → has_pattern w ≡ false → e && (has_pattern w && is_dots cs) ≡ false
never_dots true w cs h = ap (λ b. b && is_dots cs) h
never_dots false w cs h = refl

matches_plain : (e : Bool) (w : Word) (cs : List ℕ) → has_pattern w ≡ false → matches w cs e ≡ bytes_eq cs (map (λ m. m.0) w)
unfolding matches
matches_plain e w cs h =
    ap (λ b. cond b false (parts_match e (parts_from Outside w) cs)) (never_dots e w cs h)
    ∙ ap (λ ps. parts_match e ps cs) (parts_plain w h)
    ∙ same_characters e w cs

-- ** texts are the same where their characters are

alike : {P Q : Type 0} (a b : Bool) → Decides a P → Decides b Q → (P → Q) → (Q → P) → a ≡ b
alike true true f g there back = refl
alike true false f g there back = absurd (let h : false ≡ true = g.1 (there (f.0 refl)) in let n : ⊥ = cc in n)
alike false true f g there back = absurd (let h : false ≡ true = f.1 (back (g.0 refl)) in let n : ⊥ = cc in n)
alike false false f g there back = refl

by_characters : (s t : List ℕ) → IsUtf8 s → IsUtf8 t → bytes_eq s t ≡ bytes_eq (chars s) (chars t)
by_characters s t u v =
    alike (bytes_eq s t) (bytes_eq (chars s) (chars t)) (bytes_eq-Decides s t) (bytes_eq-Decides (chars s) (chars t)) (ap chars)
    (λ h. sym (encodes-chars s u) ∙ ap encode_utf8_all h ∙ encodes-chars t v)

pub plain_is : (e r : Bool) (w : Word) (own text : List ℕ) → IsUtf8 own → IsUtf8 text → has_pattern w ≡ false → chars own ≡ map (λ m. m.0) w → r ≡ bytes_eq own text → r ≡ matches w (chars text) e
plain_is e r w own text u v h k q =
    q ∙ nat_list_eq_equiv.symm own text ∙ by_characters text own v u ∙ ap (bytes_eq (chars text)) k ∙ sym (matches_plain e w (chars text) h)
