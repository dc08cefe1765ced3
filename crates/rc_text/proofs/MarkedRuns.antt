-- Words whose marks are runs.
use Rattle.std.proofs.Common.{◌≡◌, ◌≤◌, ℕ, Bool, true, false, not, List, [], ◌∷◌, ◌++◌, ◌+◌, ◌-◌, map, length, take, drop, refl, ap, ◌∙◌, sym, subst, arith, inl, inr}
use Rattle.std.proofs.Math.Seq.{take-append_seam, drop-append_seam}
use Rattle.std.proofs.lemmas.List.{append_assoc, length-append, length-drop, length-take, map-append, take-append-drop, take-append-le, drop-append-le}
use Rattle.std.proofs.lemmas.Str.{chars-append, IsCharBoundary-at_seam, IsCharBoundary-from_take, IsUtf8-append, IsUtf8-drop, IsUtf8-take}
use Rattle.std.specs.Prelude.{◌⊎◌}
use Rattle.std.specs.List.{list_any}
use Rattle.std.specs.Str.{chars, IsCharBoundary, IsUtf8}
use Rattle.rc_model.specs.Syntax.Words.{Word, has_pattern, is_pattern_char, unmarked, written}
use Rattle.rc_text.proofs.LiteralMarks.{patterns_of, unmarked_patterns}
use Rattle.rc_text.proofs.Marks.{not_not, patterns-append, patterns-left, patterns-right, without, written_characters}
use Rattle.rc_text.specs.Runs.{with_mark, marked_runs, last_mark, total, AreRuns, AreJoined}
use Rattle.rc_text.specs.Views.{is_quoted_by, word_of, AreMarked, AreMarkedAsOne, HasPattern, HasRuns}

-- a run that goes on
longer : (mark : Bool) (t u : List ℕ) → IsUtf8 t → with_mark mark (t ++ u) ≡ with_mark mark t ++ with_mark mark u
longer mark t u h = ap (map (λ c. (c, mark))) (chars-append t u h) ∙ map-append (λ c. (c, mark)) (chars t) (chars u)

-- a boundary of a text that goes on
kept_boundary : (t u : List ℕ) (n : ℕ) → IsUtf8 t → IsUtf8 u → IsCharBoundary t n → IsCharBoundary (t ++ u) n
kept_boundary t u n h k b =
    IsCharBoundary-from_take (t ++ u) n (IsUtf8-append t u h k) (omega (arith, length-append t u, b.0))
    (subst IsUtf8 (sym (take-append-le n t u b.0)) (IsUtf8-take t n h b))

-- the last run goes on
grown : (mark : Bool) (ns t u : List ℕ) → IsUtf8 t → AreRuns ns t →
    marked_runs mark ns (t ++ u) ≡ marked_runs mark ns t ++ with_mark (last_mark mark ns) u
grown mark [] t u h r = longer mark t u h
grown mark (n ∷ ns) t u h r =
    ap (λ s. with_mark mark s ++ marked_runs (not mark) ns (drop n (t ++ u))) (take-append-le n t u r.0.0)
    ∙ ap (λ s. with_mark mark (take n t) ++ marked_runs (not mark) ns s) (drop-append-le n t u r.0.0)
    ∙ ap (λ w. with_mark mark (take n t) ++ w) (grown (not mark) ns (drop n t) u (IsUtf8-drop t n h r.0) r.1)
    ∙ sym (append_assoc (with_mark mark (take n t)) (marked_runs (not mark) ns (drop n t)) (with_mark (last_mark (not mark) ns) u))

grown_runs : (ns t u : List ℕ) → IsUtf8 t → IsUtf8 u → AreRuns ns t → AreRuns ns (t ++ u)
grown_runs [] t u h k r = tt
grown_runs (n ∷ ns) t u h k r = (
  kept_boundary t u n h k r.0,
  subst (AreRuns ns) (sym (drop-append-le n t u r.0.0)) (grown_runs ns (drop n t) u (IsUtf8-drop t n h r.0) k r.1),
)

-- the last run ends, and another follows
ended : (mark : Bool) (ns t : List ℕ) (k : ℕ) (v : List ℕ) → AreRuns ns t → total ns + k ≡ length t →
    marked_runs mark (ns ++ k ∷ []) (t ++ v) ≡ marked_runs mark ns t ++ with_mark (not (last_mark mark ns)) v
ended mark [] t k v r e =
    let n : k ≡ length t = omega (arith, e) in
    ap (λ n. with_mark mark (take n (t ++ v)) ++ with_mark (not mark) (drop n (t ++ v))) n
    ∙ ap (λ s. with_mark mark s ++ with_mark (not mark) (drop (length t) (t ++ v))) (take-append_seam t v)
    ∙ ap (λ s. with_mark mark t ++ with_mark (not mark) s) (drop-append_seam t v)
ended mark (n ∷ ns) t k v r e =
    ap (λ s. with_mark mark s ++ marked_runs (not mark) (ns ++ k ∷ []) (drop n (t ++ v))) (take-append-le n t v r.0.0)
    ∙ ap (λ s. with_mark mark (take n t) ++ marked_runs (not mark) (ns ++ k ∷ []) s) (drop-append-le n t v r.0.0)
    ∙ ap (λ w. with_mark mark (take n t) ++ w) (ended (not mark) ns (drop n t) k v r.1 (omega (arith, length-drop n t, e, r.0.0)))
    ∙ sym (append_assoc (with_mark mark (take n t)) (marked_runs (not mark) ns (drop n t)) (with_mark (not (last_mark (not mark) ns)) v))

ended_runs : (ns t : List ℕ) (k : ℕ) (v : List ℕ) → IsUtf8 t → IsUtf8 v → AreRuns ns t → total ns + k ≡ length t → AreRuns (ns ++ k ∷ []) (t ++ v)
ended_runs [] t k v h u r e =
    let n : k ≡ length t = omega (arith, e) in (
      subst (IsCharBoundary (t ++ v)) (sym n) (IsCharBoundary-at_seam (t ++ v) t v refl u),
      tt,
    )
ended_runs (n ∷ ns) t k v h u r e = (
  kept_boundary t v n h u r.0,
  subst (AreRuns (ns ++ k ∷ [])) (sym (drop-append-le n t v r.0.0))
      (ended_runs ns (drop n t) k v (IsUtf8-drop t n h r.0) u r.1 (omega (arith, length-drop n t, e, r.0.0))),
)

-- the last run begins in the text
within : (ns t : List ℕ) → AreRuns ns t → total ns ≤ length t
within [] t r = omega arith
within (n ∷ ns) t r = omega (arith, within ns (drop n t) r.1, length-drop n t, r.0.0)

-- the last run after another one
pub last_mark_after : (mark : Bool) (ns : List ℕ) (k : ℕ) → last_mark mark (ns ++ k ∷ []) ≡ not (last_mark mark ns)
last_mark_after mark [] k = refl
last_mark_after mark (n ∷ ns) k = last_mark_after (not mark) ns k

pub total_after : (ns : List ℕ) (k : ℕ) → total (ns ++ k ∷ []) ≡ total ns + k
total_after [] k = omega arith
total_after (n ∷ ns) k = omega (arith, total_after ns k)

-- a run of a text with the mark of the last one, and one with the other mark
pub goes_on : (runs : Bool × List ℕ) (end : ℕ) (mark : Bool) → last_mark runs.0 runs.1 ≡ mark → AreJoined runs end (mark, []) runs
goes_on runs end mark e t v l h k r s =
    (grown_runs runs.1 t v h k r, grown runs.0 runs.1 t v h r ∙ ap (λ b. marked_runs runs.0 runs.1 t ++ with_mark b v) e)

pub begins : (runs : Bool × List ℕ) (end : ℕ) (mark : Bool) → not (last_mark runs.0 runs.1) ≡ mark →
    AreJoined runs end (mark, []) (runs.0, runs.1 ++ (end - total runs.1) ∷ [])
begins runs end mark e t v l h k r s =
    let n : total runs.1 + (end - total runs.1) ≡ length t = omega (arith, within runs.1 t r, l) in (
      ended_runs runs.1 t (end - total runs.1) v h k r n,
      ended runs.0 runs.1 t (end - total runs.1) v r n ∙ ap (λ b. marked_runs runs.0 runs.1 t ++ with_mark b v) e,
    )

-- the first run of a text, and then the others
pub one_by_one : (left between all : Bool × List ℕ) (end n : ℕ) (mark : Bool) (ns : List ℕ) → AreJoined left end (mark, []) between →
    AreJoined between (end + n) (not mark, ns) all → AreJoined left end (mark, n ∷ ns) all
one_by_one left between all end n mark ns f g t v l h k r s =
    let front = IsUtf8-take v n k s.0 in
    let one = f t (take n v) l h front r tt in
    let two = g (t ++ take n v) (drop n v) (omega (arith, length-append t (take n v), length-take n v, l, s.0.0)) (IsUtf8-append t (take n v) h front) (IsUtf8-drop v n k s.0) one.0 s.1 in
    let whole : (t ++ take n v) ++ drop n v ≡ t ++ v = append_assoc t (take n v) (drop n v) ∙ ap (λ z. t ++ z) (take-append-drop n v) in (
      subst (AreRuns all.1) whole two.0,
      ap (marked_runs all.0 all.1) (sym whole) ∙ two.1 ∙ ap (λ w. w ++ marked_runs (not mark) ns (drop n v)) one.1
          ∙ append_assoc (marked_runs left.0 left.1 t) (with_mark mark (take n v)) (marked_runs (not mark) ns (drop n v)),
    )

-- the characters without their marks
run_characters : (mark : Bool) (ns t : List ℕ) → IsUtf8 t → AreRuns ns t → map (λ (m : ℕ × Bool). m.0) (marked_runs mark ns t) ≡ chars t
run_characters mark [] t h r = without mark (chars t)
run_characters mark (n ∷ ns) t h r =
    map-append (λ (m : ℕ × Bool). m.0) (with_mark mark (take n t)) (marked_runs (not mark) ns (drop n t))
    ∙ ap (λ z. z ++ map (λ (m : ℕ × Bool). m.0) (marked_runs (not mark) ns (drop n t))) (without mark (chars (take n t)))
    ∙ ap (λ z. chars (take n t) ++ z) (run_characters (not mark) ns (drop n t) (IsUtf8-drop t n h r.0) r.1)
    ∙ sym (chars-append (take n t) (drop n t) (IsUtf8-take t n h r.0)) ∙ ap chars (take-append-drop n t)

pub characters_of : (text : List ℕ) (m : (Bool × List ℕ) ⊎ Word) → IsUtf8 text → AreMarked text m → map (λ (c : ℕ × Bool). c.0) (word_of text m) ≡ chars text
characters_of text (inl runs) u h = run_characters runs.0 runs.1 text u h.0
characters_of text (inr word) u h = h.0

-- pattern characters, by the marks
pub no_pattern : (text : List ℕ) (m : (Bool × List ℕ) ⊎ Word) → HasRuns m → AreMarked text m → has_pattern (word_of text m) ≡ false
no_pattern text (inl runs) r h = h.1
no_pattern text (inr word) r h = absurd r

pub some_pattern : (text : List ℕ) (m : (Bool × List ℕ) ⊎ Word) → HasPattern m → AreMarked text m → has_pattern (word_of text m) ≡ true
some_pattern text (inl runs) p h = absurd p
some_pattern text (inr word) p h = h.1

-- runs of two texts without a pattern character, as those of one
pub joined_runs : (left right all : Bool × List ℕ) (end : ℕ) → AreJoined left end right all → AreMarkedAsOne (inl left) end (inl right) (inl all)
joined_runs left right all end j t v l h k r s =
    let both = j t v l h k r.0 s.0 in (
      (both.0, ap has_pattern both.1 ∙ patterns-append (marked_runs left.0 left.1 t) (marked_runs right.0 right.1 v) r.1 s.1),
      both.1,
    )

-- a text that makes the last run longer
pub as_before : (m : (Bool × List ℕ) ⊎ Word) (runs : Bool × List ℕ) (mark : Bool) → m ≡ inl runs → mark ≡ last_mark runs.0 runs.1 →
    (end : ℕ) → AreMarkedAsOne m end (inl (mark, [])) m
as_before m runs mark e l end =
    subst (λ n. AreMarkedAsOne n end (inl (mark, [])) n) (sym e) (joined_runs runs (mark, []) runs end (goes_on runs end mark (sym l)))

-- the characters of two texts with a pattern character, as those of one
module _ (t v : List ℕ) (left right : (Bool × List ℕ) ⊎ Word) (h : IsUtf8 t) (k : IsUtf8 v) (r : AreMarked t left) (s : AreMarked v right) where
  either_pattern : HasPattern left ⊎ HasPattern right → has_pattern (word_of t left ++ word_of v right) ≡ true
  either_pattern (inl p) = patterns-left (word_of t left) (word_of v right) (some_pattern t left p r)
  either_pattern (inr p) = patterns-right (word_of t left) (word_of v right) (some_pattern v right p s)

  pub joined_pattern : HasPattern left ⊎ HasPattern right → AreMarked (t ++ v) (inr (word_of t left ++ word_of v right))
  joined_pattern p = (
    map-append (λ (m : ℕ × Bool). m.0) (word_of t left) (word_of v right)
        ∙ ap (λ z. z ++ map (λ (m : ℕ × Bool). m.0) (word_of v right)) (characters_of t left h r)
        ∙ ap (λ z. chars t ++ z) (characters_of v right k s)
        ∙ sym (chars-append t v h),
    either_pattern p,
  )

  pub joined_marks : HasPattern left ⊎ HasPattern right → (w : Word) → w ≡ word_of t left ++ word_of v right → (all : (Bool × List ℕ) ⊎ Word) → all ≡ inr w →
      AreMarked (t ++ v) all × (word_of (t ++ v) all ≡ word_of t left ++ word_of v right)
  joined_marks p w e all h =
      subst (λ m. AreMarked (t ++ v) m × (word_of (t ++ v) m ≡ word_of t left ++ word_of v right)) (sym h)
      (subst (λ u. AreMarked (t ++ v) (inr u)) (sym e) (joined_pattern p), e)

-- a word of a script without a pattern character, and one with it
pub runs_of_written : (text : List ℕ) (quoted : Bool) → has_pattern (written text quoted) ≡ false → (all : (Bool × List ℕ) ⊎ Word) → all ≡ inl (not quoted, []) →
    AreMarked text all × (word_of text all ≡ written text quoted) × (is_quoted_by all ≡ quoted)
runs_of_written text quoted h all e =
    subst (λ m. AreMarked text m × (word_of text m ≡ written text quoted) × (is_quoted_by m ≡ quoted)) (sym e) ((tt, h), refl, not_not quoted)

pub pattern_of_written : (text : List ℕ) (quoted : Bool) → quoted ≡ false → list_any is_pattern_char (chars text) ≡ true → (w : Word) → w ≡ written text false →
    (all : (Bool × List ℕ) ⊎ Word) → all ≡ inr w → AreMarked text all × (word_of text all ≡ written text quoted) × (is_quoted_by all ≡ quoted)
pattern_of_written text quoted q h w e all a =
    let f : w ≡ written text quoted = e ∙ ap (written text) (sym q) in
    subst (λ m. AreMarked text m × (word_of text m ≡ written text quoted) × (is_quoted_by m ≡ quoted)) (sym a)
    ((ap (map (λ (m : ℕ × Bool). m.0)) f ∙ written_characters text quoted, ap has_pattern e ∙ patterns_of text false ∙ h), f, sym q)

-- a text without marks
pub plain_fits : (text : List ℕ) → AreMarked text (inl (false, []))
plain_fits text = (tt, unmarked_patterns (chars text))

unmarked_of : (cs : List ℕ) → unmarked (map (λ c. (c, false)) cs) ≡ map (λ c. (c, false)) cs
unmarked_of [] = refl
unmarked_of (c ∷ cs) = ap (λ ms. (c, false) ∷ ms) (unmarked_of cs)

pub plain_unmarked : (text : List ℕ) (m : (Bool × List ℕ) ⊎ Word) → m ≡ inl (false, []) → unmarked (word_of text m) ≡ word_of text m
plain_unmarked text m e = subst (λ n. unmarked (word_of text n) ≡ word_of text n) (sym e) (unmarked_of (chars text))
