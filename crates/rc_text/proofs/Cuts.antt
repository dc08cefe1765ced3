-- Separators in a text.
use Rattle.std.proofs.Common.{◌≡◌, ◌<◌, ◌≤◌, ◌+◌, ◌-◌, ℕ, Bool, false, inl, inr, List, [], ◌∷◌, ◌++◌, length, get_or, take, drop, append_assoc, refl, ap, sym, subst, ◌∙◌, arith}
use Rattle.std.proofs.lemmas.Bool.{cases_lt, ne_eqb}
use Rattle.std.proofs.Math.Seq.{take-append_seam, take-length}
use Rattle.std.proofs.lemmas.List.{length-append, length-take-le, take-append-drop}
use Rattle.std.proofs.lemmas.List.Elements.{All-head, All-more, All-tail, All-weaker}
use Rattle.std.proofs.lemmas.Str.{encode_ascii, encodes-chars, IsCharBoundary-at_seam, IsCharBoundary-before_ascii, IsCharBoundary-end, IsUtf8-take, NoCharPasses-append}
use Rattle.std.specs.Prelude.{◌||◌, slice_range}
use Rattle.std.specs.Char.{encode_utf8}
use Rattle.std.specs.List.{All}
use Rattle.std.specs.Str.{chars, encode_utf8_all, IsCharBoundary, IsUtf8, NoCharPasses, NonePass}
use Rattle.std.specs.Str.Pattern.{FindsBy, SplitsAroundMatch}
use Rattle.rc_text.specs.Members.{among, IsCut}
use Rattle.rc_text.proofs.Runs.{IsUtf8-after}

-- a character above all separators is none of them
pub none_above : (greatest c : ℕ) (separators : List ℕ) → All (λ d. d ≤ greatest) separators → greatest < c → among separators c ≡ false
none_above greatest c [] h below = refl
none_above greatest c (d ∷ ds) h below =
    let le : d ≤ greatest = All-head (λ d. d ≤ greatest) d ds h in
    ap (λ b. b || among ds c) (ne_eqb d c (λ e. absurd (omega (arith, le, below, e))))
    ∙ none_above greatest c ds (All-tail (λ d. d ≤ greatest) d ds h) below

-- a character below 128 is one byte, so that bytes above all separators are of characters above all of them
character_above : (greatest c : ℕ) (rest : List ℕ) → greatest < 128 → All (λ b. greatest < b) (encode_utf8 c ++ rest) → greatest < c
character_above greatest c rest small h =
    elim (cases_lt c 128) [
      | inl l ↦ All-head (λ b. greatest < b) c rest (subst (λ t. All (λ b. greatest < b) (t ++ rest)) (encode_ascii c l) h)
      | inr l ↦ omega (arith, small, l)
    ]

rest_above : (greatest : ℕ) (front rest : List ℕ) → All (λ b. greatest < b) (front ++ rest) → All (λ b. greatest < b) rest
rest_above greatest [] rest h = h
rest_above greatest (b ∷ bs) rest h = rest_above greatest bs rest (All-tail (λ b. greatest < b) b (bs ++ rest) h)

none_passes : (greatest : ℕ) (separators cs : List ℕ) → greatest < 128 → All (λ d. d ≤ greatest) separators → All (λ b. greatest < b) (encode_utf8_all cs) → NonePass (among separators) cs
none_passes greatest separators [] small are h = tt
none_passes greatest separators (c ∷ cs) small are h =
    (none_above greatest c separators are (character_above greatest c (encode_utf8_all cs) small h), none_passes greatest separators cs small are (rest_above greatest (encode_utf8 c) (encode_utf8_all cs) h))

-- with no separators, each text is without them
none_among_none : (cs : List ℕ) → NonePass (among []) cs
none_among_none [] = tt
none_among_none (c ∷ cs) = (refl, none_among_none cs)

pub skip_all : (text : List ℕ) → IsUtf8 text → NoCharPasses (among []) (take (length text) text)
skip_all text u = subst (NoCharPasses (among [])) (sym (take-length text)) (chars text, encodes-chars text u, none_among_none (chars text))

-- where bytes above all separators end
pub skip_boundary : (greatest n : ℕ) (text : List ℕ) → greatest < 128 → n ≤ length text → (n < length text → get_or text n 0 ≤ greatest) → IsCharBoundary text n
skip_boundary greatest n text small le stop =
    elim (cases_lt n (length text)) [
      | inl l ↦ IsCharBoundary-before_ascii text n l (omega (arith, small, stop l))
      | inr l ↦ subst (IsCharBoundary text) (omega (arith, le, l)) (IsCharBoundary-end text)
    ]

pub skip_none : (greatest n : ℕ) (separators text : List ℕ) → IsUtf8 text → greatest < 128 → All (λ d. d ≤ greatest) separators → IsCharBoundary text n →
    All (λ b. greatest < b) (take n text) → NoCharPasses (among separators) (take n text)
skip_none greatest n separators text u small are at h =
    let e = encodes-chars (take n text) (IsUtf8-take text n u at) in
    (chars (take n text), e, none_passes greatest separators (chars (take n text)) small are (subst (All (λ b. greatest < b)) (sym e) h))

-- the first separator after what was skipped is the first of the text
pub none_after : (p : ℕ → Bool) (n : ℕ) (text rest : List ℕ) → NoCharPasses p (take n text) → rest ≡ drop n text → NoCharPasses p rest → NoCharPasses p text
none_after p n text rest skipped e h =
    subst (NoCharPasses p) (take-append-drop n text) (NoCharPasses-append p (take n text) (drop n text) skipped (subst (NoCharPasses p) e h))

pub is_cut : (Agrees : (ℕ → Bool) → Type 0) (separators text rest front back : List ℕ) (n : ℕ) → NoCharPasses (among separators) (take n text) → rest ≡ drop n text →
    Agrees (among separators) → SplitsAroundMatch (λ t found. (k : ℕ → Bool) → Agrees k → FindsBy k t found) rest front back → IsCut separators text (take n text ++ front) back
is_cut Agrees separators text rest front back n skipped e agrees (i, j, found, ef, eb, le, at, total) =
    let hit = found (among separators) agrees in
    let c = hit.1.0 in
    let is_rest : rest ≡ front ++ (encode_utf8 c ++ back) = sym (take-append-drop i rest) ∙ ap (λ t. t ++ drop i rest) (sym ef)
    ∙ ap (λ t. front ++ t) (hit.1.2.split ∙ ap (λ t. encode_utf8 c ++ t) (sym eb)) in
    record {
      none = NoCharPasses-append (among separators) (take n text) front skipped (subst (NoCharPasses (among separators)) (sym ef) hit.0);
      c = c;
      is = hit.1.1;
      split = sym (take-append-drop n text) ∙ ap (λ t. take n text ++ t) (sym e ∙ is_rest) ∙ sym (append_assoc (take n text) front (encode_utf8 c ++ back));
    }

cut_length : (n : ℕ) (text front : List ℕ) → n ≤ length text → length (take n text ++ front) ≡ n + length front
cut_length n text front le = omega (arith, le, length-append (take n text) front, length-take-le n text le)

pub cut_front : (separators text front back : List ℕ) (n : ℕ) → n ≤ length text → IsCut separators text (take n text ++ front) back → take n text ++ front ≡ slice_range text 0 (n + length front)
cut_front separators text front back n le cut =
    let front_of : take (length (take n text ++ front)) text ≡ take n text ++ front =
    ap (take (length (take n text ++ front))) cut.split ∙ take-append_seam (take n text ++ front) (encode_utf8 cut.c ++ back) in
    let place : length (take n text ++ front) ≡ n + length front - 0 = omega (arith, cut_length n text front le) in
    sym (subst (λ m. take m text ≡ take n text ++ front) place front_of)

pub cut_boundary : (separators text front back : List ℕ) (n : ℕ) → IsUtf8 text → n ≤ length text → IsCut separators text (take n text ++ front) back → IsCharBoundary text (n + length front)
cut_boundary separators text front back n u le cut =
    let more = encode_utf8 cut.c ++ back in
    subst (IsCharBoundary text) (cut_length n text front le)
    (IsCharBoundary-at_seam text (take n text ++ front) more cut.split (IsUtf8-after cut.none.0 (take n text ++ front) more cut.none.1 (subst IsUtf8 cut.split u)))

-- the greatest of one character more
pub All-one_more : (all : List ℕ) (i c old new : ℕ) → i < length all → c ≡ get_or all i c → All (λ d. d ≤ old) (take i all) → old ≤ new → c ≤ new →
    All (λ d. d ≤ new) (take (i + 1) all)
All-one_more all i c old new l e h le at =
    All-more (λ d. d ≤ new) all i c l
    (All-weaker (λ d. d ≤ old) (λ d. d ≤ new) (λ d m. omega (arith, m, le)) (take i all) h)
    (subst (λ d. d ≤ new) e at)
