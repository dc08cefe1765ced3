-- The texts `.` and `..`.
use Rattle.std.proofs.Common.{◌≡◌, ℕ, Bool, true, false, ◌||◌, List, [], codes, arith, refl, sym, ap, ◌∙◌}
use Rattle.std.specs.Str.{bytes_eq, chars, encode_utf8_all, IsAscii, IsUtf8}
use Rattle.std.proofs.lemmas.Str.{chars-IsAscii, encodes-chars, encodes-IsAscii}
use Rattle.std.proofs.lemmas.Str.Ascii.{IsAscii-nil, IsAscii-cons}
use Rattle.std.proofs.lemmas.Slice.Eq.{bytes_eq-Decides}
use Rattle.std.proofs.lemmas.Grind.{common_steps}
use Rattle.rc_model.specs.Run.Patterns.{is_dots}

alike : (a b : Bool) → (a ≡ true → b ≡ true) → (b ≡ true → a ≡ true) → a ≡ b
alike true b f g = sym (f refl)
alike false true f g = g refl
alike false false f g = refl

-- a text is another where its characters are
same_text : (text other : List ℕ) → IsUtf8 text → IsAscii other → bytes_eq (chars text) other ≡ bytes_eq text other
same_text text other u a =
    alike (bytes_eq (chars text) other) (bytes_eq text other)
    (λ h. (bytes_eq-Decides text other).1 (sym (encodes-chars text u) ∙ ap encode_utf8_all ((bytes_eq-Decides (chars text) other).0 h) ∙ encodes-IsAscii other a))
    (λ h. (bytes_eq-Decides (chars text) other).1 (ap chars ((bytes_eq-Decides text other).0 h) ∙ chars-IsAscii other a))

dot : IsAscii (codes ".")
dot = IsAscii-cons 46 [] (omega arith) IsAscii-nil

two_dots : IsAscii (codes "..")
two_dots = IsAscii-cons 46 (codes ".") (omega arith) dot

pub dots_by : (text : List ℕ) → IsUtf8 text → is_dots (chars text) ≡ (bytes_eq text (codes ".") || bytes_eq text (codes ".."))
dots_by text u =
    ap (λ b. b || bytes_eq (chars text) (codes "..")) (same_text text (codes ".") u dot)
    ∙ ap (λ b. bytes_eq text (codes ".") || b) (same_text text (codes "..") u two_dots)

pub ruleset dots = (dots_by, common_steps)
