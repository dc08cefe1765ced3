-- The members of a text, cut off one after the other.
use Rattle.std.proofs.Common.{◌≡◌, ◌<◌, ℕ, Bool, false, true, cond, not, suc, List, [], ◌∷◌, ◌++◌, map, length, take, refl, sym, ap, subst, ◌∙◌, append_assoc, arith}
use Rattle.std.proofs.lemmas.Bool.{ne_eqb}
use Rattle.std.proofs.Math.Seq.{take-append_seam}
use Rattle.std.proofs.lemmas.List.{length-append}
use Rattle.std.proofs.lemmas.List.Elements.{All-cons, All-nil}
use Rattle.std.proofs.lemmas.List.Splits.{slice_split_at, slice_split_none}
use Rattle.std.proofs.lemmas.Str.{chars-append, chars_from_encodes, chars-nil, chars_past_char, encodes-chars, IsCharBoundary-at_seam, IsUtf8-past_char, IsUtf8-take, length-encode, len_utf8_bounds}
use Rattle.std.specs.Prelude.{◌==◌, filter}
use Rattle.std.specs.Char.{encode_utf8}
use Rattle.std.specs.List.{All, slice_split}
use Rattle.std.specs.Str.{IsUtf8, NoCharPasses, NonePass, chars, encode_utf8_all}
use Rattle.rc_model.specs.Run.Lists.{split}
use Rattle.rc_text.specs.Members.{among, members_in, IsCut}

none_list : (p : ℕ → Bool) (cs : List ℕ) → NonePass p cs → All (λ c. p c ≡ false) cs
none_list p [] h = All-nil (λ c. p c ≡ false)
none_list p (c ∷ cs) h = All-cons (λ d. p d ≡ false) c cs h.0 (none_list p cs h.1)

-- the characters of a text none of which passes
none_chars : (p : ℕ → Bool) (text : List ℕ) → IsUtf8 text → NoCharPasses p text → All (λ c. p c ≡ false) (chars text)
none_chars p text u h = subst (All (λ c. p c ≡ false)) (chars_from_encodes h.0 text u h.1) (none_list p h.0 h.2)

-- what follows the front of a text, and the front itself
pub IsUtf8-after : (cs front back : List ℕ) → encode_utf8_all cs ≡ front → IsUtf8 (front ++ back) → IsUtf8 back
IsUtf8-after [] front back e u = subst (λ t. IsUtf8 (t ++ back)) (sym e) u
IsUtf8-after (c ∷ cs) front back e u =
    IsUtf8-after cs (encode_utf8_all cs) back refl
    (IsUtf8-past_char (front ++ back) (encode_utf8_all cs ++ back) c u (ap (λ t. t ++ back) (sym e) ∙ append_assoc (encode_utf8 c) (encode_utf8_all cs) back))

IsUtf8-before : (text front back : List ℕ) → IsUtf8 text → IsUtf8 back → text ≡ front ++ back → IsUtf8 front
IsUtf8-before text front back u v e =
    subst IsUtf8 (ap (take (length front)) e ∙ take-append_seam front back) (IsUtf8-take text (length front) u (IsCharBoundary-at_seam text front back e v))

-- what follows the first separator
pub IsUtf8-more : (separators rest front back : List ℕ) → IsUtf8 rest → IsCut separators rest front back → IsUtf8 back
IsUtf8-more separators rest front back u cut =
    IsUtf8-past_char (encode_utf8 cut.c ++ back) back cut.c (IsUtf8-after cut.none.0 front (encode_utf8 cut.c ++ back) cut.none.1 (subst IsUtf8 cut.split u)) refl

pub shorter : (separators rest front back : List ℕ) → IsCut separators rest front back → length back < length rest
shorter separators rest front back cut =
    omega (arith, ap length cut.split, length-append front (encode_utf8 cut.c ++ back), length-append (encode_utf8 cut.c) back, length-encode cut.c, (len_utf8_bounds cut.c).0)

-- the parts that aren't empty
abbrev filled : List (List ℕ) → List (List ℕ)
filled parts = filter (λ run. not (length run == 0)) parts

abbrev pub with_member : List ℕ → List (List ℕ) → List (List ℕ)
with_member [] others = others
with_member (c ∷ cs) others = (c ∷ cs) ∷ others

filled_member : (member : List ℕ) (others : List (List ℕ)) → filled (member ∷ others) ≡ with_member member (filled others)
filled_member [] others = refl
filled_member (c ∷ cs) others = ap (λ b. cond (not b) ((c ∷ cs) ∷ filled others) (filled others)) (ne_eqb (suc (length cs)) 0 (λ h. absurd (omega arith)))

-- a member that has begun has a byte
no_bytes : (c : ℕ) (rest : List ℕ) → encode_utf8 c ++ rest ≡ [] → ⊥
no_bytes c rest e = absurd (omega (arith, ap length e, length-append (encode_utf8 c) rest, length-encode c, (len_utf8_bounds c).0))

-- the members of a text whose first run is this one
spelled : (member cs : List ℕ) (others : List (List ℕ)) → encode_utf8_all cs ≡ member → map encode_utf8_all (with_member cs others) ≡ with_member member (map encode_utf8_all others)
spelled [] [] others e = refl
spelled [] (c ∷ cs) others e = absurd (no_bytes c (encode_utf8_all cs) e)
spelled (b ∷ bs) [] others e = cc
spelled (b ∷ bs) (c ∷ cs) others e = ap (λ m. m ∷ map encode_utf8_all others) e

-- a member that has begun, and one that has not
pub begun : (member : List ℕ) (others : List (List ℕ)) → length member == 0 ≡ false → with_member member others ≡ member ∷ others
begun [] others e = absurd (let n : ⊥ = cc in n)
begun (b ∷ bs) others e = refl

pub not_begun : (member : List ℕ) (others : List (List ℕ)) → length member == 0 ≡ true → with_member member others ≡ others
not_begun [] others e = refl
not_begun (b ∷ bs) others e = absurd (let d : (suc (length bs) == 0) ≡ false = ne_eqb (suc (length bs)) 0 (λ h. absurd (omega arith)) in let n : ⊥ = cc in n)

pub none_in : (cuts : List ℕ) → members_in cuts [] ≡ []
none_in cuts = ap (λ cs. map encode_utf8_all (filled (slice_split (among cuts) cs))) chars-nil

pub no_members : split [] [] ≡ []
no_members = none_in (chars [])

module _ (cuts : List ℕ) where
  abbrev parts : List ℕ → List (List ℕ)
  parts cs = slice_split (among cuts) cs

  -- what follows the first separator is cut in the same way
  first_cut : (rest front back : List ℕ) (c : ℕ) → IsUtf8 front → IsUtf8 (encode_utf8 c ++ back) → NoCharPasses (among cuts) front → among cuts c ≡ true →
      rest ≡ front ++ (encode_utf8 c ++ back) → members_in cuts rest ≡ map encode_utf8_all (with_member (chars front) (filled (parts (chars back))))
  first_cut rest front back c u v none is e =
      ap (λ t. map encode_utf8_all (filled (parts t)))
      (ap chars e ∙ chars-append front (encode_utf8 c ++ back) u ∙ ap (λ t. chars front ++ t) (chars_past_char (encode_utf8 c ++ back) back c v refl))
      ∙ ap (λ t. map encode_utf8_all (filled t)) (slice_split_at (among cuts) (chars front) c (chars back) (none_chars (among cuts) front u none) is)
      ∙ ap (map encode_utf8_all) (filled_member (chars front) (parts (chars back)))

  -- the member before the first separator, and those after it
  pub after_cut : (rest front back : List ℕ) → IsUtf8 rest → IsCut cuts rest front back → members_in cuts rest ≡ with_member front (members_in cuts back)
  after_cut rest front back u cut =
      let c = cut.c in
      let v = IsUtf8-after cut.none.0 front (encode_utf8 c ++ back) cut.none.1 (subst IsUtf8 cut.split u) in
      let w = IsUtf8-before rest front (encode_utf8 c ++ back) u v cut.split in
      first_cut rest front back c w v cut.none cut.is cut.split
      ∙ spelled front (chars front) (filled (parts (chars back))) (encodes-chars front w)

  -- where no separator is left, the rest is the last member
  pub last_member : (rest : List ℕ) → IsUtf8 rest → NoCharPasses (among cuts) rest → members_in cuts rest ≡ with_member rest []
  last_member rest u none =
      ap (λ t. map encode_utf8_all (filled t)) (slice_split_none (among cuts) (chars rest) (none_chars (among cuts) rest u none))
      ∙ ap (map encode_utf8_all) (filled_member (chars rest) [])
      ∙ spelled rest (chars rest) [] (encodes-chars rest u)
