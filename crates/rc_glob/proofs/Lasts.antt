-- The last characters of a text.
use Rattle.std.proofs.Common.{◌≡◌, ℕ, ◌+◌, ◌<◌, ◌≤◌, List, [], ◌∷◌, ◌++◌, length, take, drop, refl, sym, ap, subst, ◌∙◌, arith}
use Rattle.std.specs.Char.{encode_utf8}
use Rattle.std.specs.Str.{chars, encode_utf8_all, IsCharBoundary, IsUtf8}
use Rattle.std.proofs.lemmas.List.{append-nil, length-append, nil_from_length, take_all, take_at, take-append-drop, take-take}
use Rattle.std.proofs.lemmas.Str.{chars-append, chars-nil, encodes-append, encodes-chars, encodes_same, IsCharBoundary-from_take}

pub last_of : (text front : List ℕ) (c : ℕ) → IsUtf8 text → IsUtf8 front → text ≡ front ++ encode_utf8 c → chars text ≡ chars front ++ c ∷ []
last_of text front c u v h =
    encodes_same (chars text) (chars front ++ c ∷ [])
    (encodes-chars text u ∙ h ∙ ap (λ t. t ++ encode_utf8 c) (sym (encodes-chars front v)) ∙ ap (λ t. encode_utf8_all (chars front) ++ t) (sym (append-nil (encode_utf8 c)))
    ∙ sym (encodes-append (chars front) (c ∷ [])))

-- all but this many of the characters that are looked for come after this front
pub record Cut (text front : List ℕ) (count left : ℕ) : Type 0 where
  pub is : take (length front) text ≡ front
  pub within : length front ≤ length text
  pub many : length (chars text) + left ≡ length (chars front) + count

pub no_cut : (text : List ℕ) (count : ℕ) → Cut text text count count
no_cut text count = record { is = take_all (length text) text (omega arith); within = omega arith; many = refl }

pub cut_more : (text front before : List ℕ) (c count left less : ℕ) → front ≡ before ++ encode_utf8 c →
    chars front ≡ chars before ++ c ∷ [] → left ≡ less + 1 → Cut text front count left → Cut text before count less
cut_more text front before c count left less h k l cut =
    let whole : length front ≡ length before + length (encode_utf8 c) = ap length h ∙ length-append before (encode_utf8 c) in
    let some : length (chars front) ≡ length (chars before) + 1 = ap length k ∙ length-append (chars before) (c ∷ []) in
    let lower : length before ≤ length front = omega arith in
    let many = cut.many in
    let within = cut.within in
    record {
      is =
          sym (take-take (length before) (length front) text lower)
          ∙ ap (take (length before)) (cut.is ∙ h)
          ∙ take_at before (encode_utf8 c) (length before) refl;
      within = omega arith;
      many = omega arith;
    }

pub too_short : (text front : List ℕ) (count left : ℕ) → chars front ≡ [] → 0 < left → Cut text front count left → length (chars text) < count
too_short text front count left h l cut =
    let many = cut.many in
    let none : length (chars front) ≡ 0 = ap length h in
    omega arith

pub may_cut : (text front : List ℕ) (count left n : ℕ) → IsUtf8 text → IsUtf8 front → n ≡ length front → Cut text front count left → IsCharBoundary text n
may_cut text front count left n u v h cut =
    subst (IsCharBoundary text) (sym h) (IsCharBoundary-from_take text (length front) u cut.within (subst IsUtf8 (sym cut.is) v))

pub both_parts : (text front start end : List ℕ) (count left n : ℕ) → IsUtf8 front → n ≡ length front → start ≡ take n text → end ≡ drop n text → left ≤ 0 → Cut text front count left →
    (chars text ≡ chars start ++ chars end) × (length (chars end) ≡ count)
both_parts text front start end count left n u h k l z cut =
    let same : start ≡ front = k ∙ ap (λ i. take i text) h ∙ cut.is in
    let whole : text ≡ start ++ end = sym (take-append-drop n text) ∙ (ap (λ t. t ++ drop n text) (sym k) ∙ ap (λ t. start ++ t) (sym l)) in
    let parts : chars text ≡ chars start ++ chars end = ap chars whole ∙ chars-append start end (subst IsUtf8 (sym same) u) in
    let many = cut.many in
    let as_many : length (chars start) ≡ length (chars front) = ap (λ t. length (chars t)) same in
    let all : length (chars text) ≡ length (chars start) + length (chars end) = ap length parts ∙ length-append (chars start) (chars end) in
    (parts, omega arith)

pub no_chars : (text rest : List ℕ) → rest ≡ text → length rest ≡ 0 → chars text ≡ []
no_chars text rest h k = ap chars (sym h ∙ nil_from_length rest k) ∙ chars-nil
