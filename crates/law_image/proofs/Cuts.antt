-- The pieces of a text, and its words, are those of the rule.
use Rattle.std.specs.Prelude.{Option, Some, None, option_map, nat_le, take, drop, codes}
use Rattle.std.proofs.Common.{◌≡◌, ℕ, zero, suc, ◌+◌, ◌≤◌, ◌<◌, List, [], ◌∷◌, ◌++◌, length, get_or, Bool, true, false, if◌then◌else◌, refl, sym, ap, subst, ◌∙◌, arith, ◌⊎◌, inl, inr}
use Rattle.std.specs.List.{concat}
use Rattle.std.specs.Str.{IsUtf8, IsCharBoundary}
use Rattle.std.proofs.Math.Seq.{take-append_seam, drop-append_seam}
use Rattle.std.proofs.lemmas.List.{take-append-drop, length-take-le, length-drop}
use Rattle.std.proofs.lemmas.Bool.{and_parts, and_from, le-leb, leb-true, leb-false, cases_lt, false≢true, lt-leb}
use Rattle.std.proofs.lemmas.Bool.Decides.{nat_tests}
use Rattle.std.proofs.lemmas.Str.{IsUtf8-drop, IsCharBoundary-start}
use Rattle.std.proofs.lemmas.Option.{same_Some}
use Rattle.rc_model.specs.Handed.Pieces.{most_pieces, IsLongest, ArePieces, no_more, next, AreWords, in_one, in_pieces, one_word, several_words, begins_whole, can_cut, last_cut, pieces, words_of}
use Rattle.rc_model.specs.Handed.WordsLaws.{PiecesByRule, WordsByRule}

-- ** where a text can be cut

lead_at : (n : ℕ) (text : List ℕ) → begins_whole (drop n text) ≡ true → n < length text → 128 ≤ get_or text n 0 → 192 ≤ get_or text n 0
lead_at n [] h l m = absurd (omega arith)
lead_at zero (b ∷ bs) h l m = grind (arith, nat_tests, h, m)
lead_at (suc n) (b ∷ bs) h l m = lead_at n bs h (omega arith) m

whole_at : (n : ℕ) (text : List ℕ) → (n < length text → 128 ≤ get_or text n 0 → 192 ≤ get_or text n 0) → begins_whole (drop n text) ≡ true
whole_at zero [] h = refl
whole_at (suc n) [] h = refl
whole_at zero (b ∷ bs) h = by (cases_lt b 128)
  where
    by : (b < 128) ⊎ (128 ≤ b) → begins_whole (b ∷ bs) ≡ true
    by (inl l) = grind (arith, nat_tests, l)
    by (inr l) = let m : 192 ≤ b = h (omega arith) l in grind (arith, nat_tests, m)
whole_at (suc n) (b ∷ bs) h = whole_at n bs (λ l m. h (omega arith) m)

pub cut_back : (n : ℕ) (text : List ℕ) → can_cut n text ≡ true → IsCharBoundary text n
cut_back n text h =
    let k = and_parts (nat_le n (length text)) (begins_whole (drop n text)) h in
    (leb-true n (length text) k.0, lead_at n text k.1)

pub cut_here : (n : ℕ) (text : List ℕ) → IsCharBoundary text n → can_cut n text ≡ true
cut_here n text h = and_from (nat_le n (length text)) _ (le-leb n (length text) h.0) (whole_at n text h.1)

-- the last place is found
record IsLast (limit : ℕ) (text : List ℕ) (n : ℕ) : Type 0 where
  within : n ≤ limit
  between : IsCharBoundary text n
  last : (m : ℕ) → n < m → m ≤ limit → IsCharBoundary text m → ⊥

last_step : (limit : ℕ) (text : List ℕ) (n : ℕ) (t : Bool) → can_cut (suc limit) text ≡ t → IsLast limit text n → IsLast (suc limit) text (if t then suc limit else n)
last_step limit text n true e p = record { within = omega arith; between = cut_back (suc limit) text e; last = λ m l k b. absurd (omega arith) }
last_step limit text n false e p = record {
  within = omega (arith, p.within);
  between = p.between;
  last = λ m l k b. last m l k b (cases_lt limit m);
}
  where
    last : (m : ℕ) → n < m → m ≤ suc limit → IsCharBoundary text m → (limit < m) ⊎ (m ≤ limit) → ⊥
    last m l h b (inl k) = false≢true (sym e ∙ cut_here (suc limit) text (subst (IsCharBoundary text) {x = m} {y = suc limit} (omega arith) b))
    last m l h b (inr k) = p.last m l k b

last_is : (limit : ℕ) (text : List ℕ) → IsUtf8 text → IsLast limit text (last_cut limit text)
unfolding last_cut
last_is zero text u = record { within = omega arith; between = IsCharBoundary-start text u; last = λ m l k b. absurd (omega arith) }
last_is (suc limit) text u = last_step limit text (last_cut limit text) (can_cut (suc limit) text) refl (last_is limit text u)

-- no other place is the last
same_last : (limit : ℕ) (text : List ℕ) (n m : ℕ) → IsLast limit text n → IsLast limit text m → n ≡ m
same_last limit text n m p q = by (cases_lt n m) (cases_lt m n)
  where
    by : (n < m) ⊎ (m ≤ n) → (m < n) ⊎ (n ≤ m) → n ≡ m
    by (inl l) c = absurd (p.last m l q.within q.between)
    by (inr l) (inl k) = absurd (q.last n k p.within p.between)
    by (inr l) (inr k) = omega arith

-- ** pieces

abbrev first_piece : ℕ → List ℕ → List ℕ
first_piece limit text = take (last_cut limit text) text

abbrev past_piece : ℕ → List ℕ → List ℕ
past_piece limit text = drop (last_cut limit text) text

piece_length : (limit : ℕ) (text : List ℕ) → IsUtf8 text → length (first_piece limit text) ≡ last_cut limit text
piece_length limit text u = length-take-le (last_cut limit text) text (last_is limit text u).between.0

longest_is : (limit : ℕ) (text : List ℕ) → IsUtf8 text → IsLongest limit text (first_piece limit text)
longest_is limit text u =
    let p = last_is limit text u in
    let e = sym (piece_length limit text u) in
    record {
      short = subst (λ n. n ≤ limit) e p.within;
      between = subst (IsCharBoundary text) e p.between;
      longest = subst (λ n. (m : ℕ) → n < m → m ≤ limit → IsCharBoundary text m → ⊥) e p.last;
    }

-- the first piece of a text is the longest
piece_is : (limit : ℕ) (text piece rest : List ℕ) → IsUtf8 text → text ≡ piece ++ rest → IsLongest limit text piece → (piece ≡ first_piece limit text) × (rest ≡ past_piece limit text)
piece_is limit text piece rest u cut l =
    let n : length piece ≡ last_cut limit text =
    same_last limit text (length piece) (last_cut limit text) (record { within = l.short; between = l.between; last = l.longest })
    (last_is limit text u) in (
      sym (take-append_seam piece rest) ∙ ap (take (length piece)) (sym cut) ∙ ap (λ n. take n text) n,
      sym (drop-append_seam piece rest) ∙ ap (drop (length piece)) (sym cut) ∙ ap (λ n. drop n text) n,
    )

rest_utf8 : (limit : ℕ) (text : List ℕ) → IsUtf8 text → IsUtf8 (past_piece limit text)
rest_utf8 limit text u = IsUtf8-drop text (last_cut limit text) u (last_is limit text u).between

-- what was found after a piece
pub mapped_back : {A B : Type 0} (f : A → B) (o : Option A) (y : B) → option_map f o ≡ Some y → (x : A) × (o ≡ Some x) × (f x ≡ y)
mapped_back f None y h = absurd (cc)
mapped_back f (Some x) y h = (x, refl, cc)

not_empty : (b : ℕ) (bs : List ℕ) → b ∷ bs ≡ [] → ⊥
not_empty b bs h = cc

found_pieces : (most limit : ℕ) (text : List ℕ) (words : List (List ℕ)) → IsUtf8 text → pieces most limit text ≡ Some words → ArePieces limit text words × (length words ≤ most)
unfolding pieces
found_pieces zero limit [] words u h = subst (λ w. ArePieces limit [] w × (length w ≤ zero)) (same_Some [] words h) (no_more, omega arith)
found_pieces (suc most) limit [] words u h = subst (λ w. ArePieces limit [] w × (length w ≤ suc most)) (same_Some [] words h) (no_more, omega arith)
found_pieces zero limit (b ∷ bs) words u h = absurd (cc)
found_pieces (suc most) limit (b ∷ bs) words u h =
    let m = mapped_back (λ rest. first_piece limit (b ∷ bs) ∷ rest) (pieces most limit (past_piece limit (b ∷ bs))) words h in
    let more = found_pieces most limit (past_piece limit (b ∷ bs)) m.0 (rest_utf8 limit (b ∷ bs) u) m.1 in
    subst (λ w. ArePieces limit (b ∷ bs) w × (length w ≤ suc most)) m.2 (
      next (b ∷ bs) (first_piece limit (b ∷ bs)) (past_piece limit (b ∷ bs)) m.0 (not_empty b bs)
          (sym (take-append-drop (last_cut limit (b ∷ bs)) (b ∷ bs))) (longest_is limit (b ∷ bs) u) more.0,
      omega (arith, more.1),
    )

one_more : (most limit : ℕ) (text piece rest : List ℕ) (words : List (List ℕ)) → (text ≡ [] → ⊥)
    → (piece ≡ first_piece limit text) × (rest ≡ past_piece limit text) → pieces most limit rest ≡ Some words
    → pieces (suc most) limit text ≡ Some (piece ∷ words)
unfolding pieces
one_more most limit [] piece rest words ne p h = absurd (ne refl)
one_more most limit (b ∷ bs) piece rest words ne p h =
    ap (option_map (λ r. first_piece limit (b ∷ bs) ∷ r)) (ap (pieces most limit) (sym p.1) ∙ h) ∙ ap (λ x. Some (x ∷ words)) (sym p.0)

no_pieces : (most limit : ℕ) → pieces most limit [] ≡ Some []
unfolding pieces
no_pieces zero limit = refl
no_pieces (suc most) limit = refl

pieces_found : (limit most : ℕ) (text : List ℕ) (words : List (List ℕ)) → IsUtf8 text → ArePieces limit text words → length words ≤ most → pieces most limit text ≡ Some words
pieces_found limit most text words u no_more l = no_pieces most limit
pieces_found limit zero text words u (next text' piece rest ps ne cut longest more) l = absurd (omega arith)
pieces_found limit (suc most) text words u (next text' piece rest ps ne cut longest more) l =
    let p = piece_is limit text' piece rest u cut longest in
    one_more most limit text' piece rest ps ne p (pieces_found limit most rest ps (subst IsUtf8 (sym p.1) (rest_utf8 limit text' u)) more (omega arith))

pub pieces_by_rule : PiecesByRule
pieces_by_rule most limit text words u = (found_pieces most limit text words u, λ h. pieces_found limit most text words u h.0 h.1)

-- a text is its pieces, joined
pub joined_pieces : (limit : ℕ) (text : List ℕ) (words : List (List ℕ)) → ArePieces limit text words → text ≡ concat words
joined_pieces limit text words no_more = refl
joined_pieces limit text words (next text' piece rest ps ne cut longest more) = cut ∙ ap (λ z. piece ++ z) (joined_pieces limit rest ps more)

-- how many bytes have room in this many pieces of `limit` bytes
abbrev pub room : ℕ → ℕ → ℕ
room zero limit = 0
room (suc most) limit = limit + room most limit

one_within : (limit n : ℕ) (t : Bool) → n ≤ limit → (if t then suc limit else n) ≤ suc limit
one_within limit n true h = omega arith
one_within limit n false h = omega arith

last_within : (limit : ℕ) (text : List ℕ) → last_cut limit text ≤ limit
unfolding last_cut
last_within zero text = omega arith
last_within (suc limit) text = one_within limit (last_cut limit text) (can_cut (suc limit) text) (last_within limit text)

pub pieces_room : (most limit : ℕ) (text : List ℕ) (words : List (List ℕ)) → pieces most limit text ≡ Some words → length text ≤ room most limit
unfolding pieces
pieces_room most limit [] words h = omega arith
pieces_room zero limit (b ∷ bs) words h = absurd (cc)
pieces_room (suc most) limit (b ∷ bs) words h =
    let m = mapped_back (λ rest. first_piece limit (b ∷ bs) ∷ rest) (pieces most limit (past_piece limit (b ∷ bs))) words h in
    let more = pieces_room most limit (past_piece limit (b ∷ bs)) m.0 m.1 in
    past (last_cut limit (b ∷ bs)) (b ∷ bs) (last_within limit (b ∷ bs)) more
  where
    past : (n : ℕ) (text : List ℕ) → n ≤ limit → length (drop n text) ≤ room most limit → length text ≤ limit + room most limit
    past n text l h = omega (arith, length-drop n text)

-- ** words

by_length : (limit : ℕ) (text : List ℕ) (t : Bool) → nat_le (length (codes "rc1;" ++ text)) limit ≡ t → (words : List (List ℕ)) → IsUtf8 text
    → (if t then Some (one_word text) else option_map several_words (pieces most_pieces limit text)) ≡ Some words → AreWords limit text words
by_length limit text true e words u h = subst (AreWords limit text) (same_Some (one_word text) words h) (in_one (leb-true (length (codes "rc1;" ++ text)) limit e))
by_length limit text false e words u h =
    let m = mapped_back several_words (pieces most_pieces limit text) words h in
    let p = found_pieces most_pieces limit text m.0 u m.1 in
    subst (AreWords limit text) m.2 (in_pieces m.0 (leb-false (length (codes "rc1;" ++ text)) limit e) p.0 p.1)

found_words : (limit : ℕ) (text : List ℕ) (words : List (List ℕ)) → IsUtf8 text → words_of limit text ≡ Some words → AreWords limit text words
found_words limit text words u h = by_length limit text (nat_le (length (codes "rc1;" ++ text)) limit) refl words u h

words_found : (limit : ℕ) (text : List ℕ) (words : List (List ℕ)) → IsUtf8 text → AreWords limit text words → words_of limit text ≡ Some words
words_found limit text words u (in_one h) =
    ap (λ t. if t then Some (one_word text) else option_map several_words (pieces most_pieces limit text)) (le-leb (length (codes "rc1;" ++ text)) limit h)
words_found limit text words u (in_pieces ps h p l) =
    ap (λ t. if t then Some (one_word text) else option_map several_words (pieces most_pieces limit text)) (lt-leb (length (codes "rc1;" ++ text)) limit h)
    ∙ ap (option_map several_words) (pieces_found limit most_pieces text ps u p l)

pub words_by_rule : WordsByRule
words_by_rule limit text words u = (found_words limit text words u, words_found limit text words u)
