-- The bytes of a text are read as its characters are.
use Rattle.std.proofs.Common.{◌≡◌, ℕ, ◌≤◌, Bool, true, false, ltb, List, [], ◌∷◌, ◌++◌, refl, sym, ap, ◌∙◌}
use Rattle.std.proofs.lemmas.Bool.{ltb-true, ltb-false}
use Rattle.std.specs.Char.{encode_utf8}
use Rattle.std.specs.Str.{encode_utf8_all}
use Rattle.rc_model.specs.Syntax.Tokens as t
use Rattle.rc_model.specs.Mirrors.Reading as r
use Rattle.rc_model.specs.Mirrors.Reading.{follow}
use Rattle.law_syntax.specs.ByteReading as b
use Rattle.law_syntax.specs.ByteReading.{after_byte}
use Rattle.law_syntax.specs.ByteLaws.{BytesLaw}
use Rattle.law_syntax.proofs.High.{HighChar, encode_high, high_class}
use Rattle.law_syntax.proofs.Ascii.{Reads, ascii, step_same}
use Rattle.law_syntax.proofs.NotAscii.{high_step}

high_char : (c : ℕ) (cs : List ℕ) → Reads cs → 128 ≤ c → HighChar (encode_utf8 c) → Reads (c ∷ cs)
high_char c cs ih k h s due p =
    ap (λ z. b.run s due p (z ++ encode_utf8_all cs)) h.are
    ∙ ap (λ z. follow (b.step s due p h.first z) (λ s' due'. b.run s' due' (after_byte p h.first) (h.more ++ encode_utf8_all cs))) (high_class h.first h.high)
    ∙ high_step cs s due p c h.first h.more (record { reads = ih; are = h.are; high = k; first_high = h.high; highs = h.highs })
    ∙ ap (λ z. follow (r.step s due p c z) (λ s' due'. r.run s' due' (t.after_char p c) cs)) (sym (high_class c k))

char_by : (c : ℕ) (cs : List ℕ) (v : Bool) → ltb c 128 ≡ v → Reads cs → Reads (c ∷ cs)
char_by c cs true e ih s due p =
    let a = ascii c (ltb-true c 128 e) in
    ap (λ z. b.run s due p (z ++ encode_utf8_all cs)) a.byte ∙ step_same cs s due p c (t.class_of c) ih a
char_by c cs false e ih s due p = let k : 128 ≤ c = ltb-false c 128 e in high_char c cs ih k (encode_high c k) s due p

reads : (cs : List ℕ) → Reads cs
reads [] = λ s due p. refl
reads (c ∷ cs) = char_by c cs (ltb c 128) refl (reads cs)

pub law : BytesLaw
law s due p cs = reads cs s due p
