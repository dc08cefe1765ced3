-- The members of a text are the only ones, and they are what splitting computes.
use Rattle.std.proofs.Common.{◌≡◌, ◌≢◌, ℕ, suc, Bool, true, false, cond, List, [], ◌∷◌, ◌++◌, map, length, refl, sym, ap, subst, ◌∙◌, ◌&&◌, ◌||◌, not, arith}
use Rattle.std.proofs.lemmas.Bool.{ne_eqb, and_parts, or_parts}
use Rattle.std.specs.Prelude.{◌↔◌, ◌==◌, filter}
use Rattle.std.specs.List.{list_all, list_any, slice_split, onto_first}
use Rattle.std.specs.Str.{chars, encode_utf8_all}
use Rattle.rc_model.specs.Run.Lists.{split}
use Rattle.rc_model.specs.Run.Splitting.{is_cut, Splits, gap, next, is_among, AreMembers}

-- the parts that aren't empty
abbrev pub filled : List (List ℕ) → List (List ℕ)
filled parts = filter (λ run. not (length run == 0)) parts

abbrev pub runs : (ℕ → Bool) → List ℕ → List (List ℕ)
runs p cs = filled (slice_split p cs)

not_nil : (c : ℕ) (cs : List ℕ) → (c ∷ cs) ≢ []
not_nil c cs e = cc

filled_member : (member : List ℕ) (others : List (List ℕ)) → member ≢ [] → filled (member ∷ others) ≡ member ∷ filled others
filled_member [] others ne = absurd (ne refl)
filled_member (c ∷ cs) others ne = ap (λ b. cond (not b) ((c ∷ cs) ∷ filled others) (filled others)) (ne_eqb (suc (length cs)) 0 (λ h. absurd (omega arith)))

module _ (p : ℕ → Bool) where
  all_more : (c : ℕ) (cs : List ℕ) → p c ≡ true → list_all p cs ≡ true → list_all p (c ∷ cs) ≡ true
  all_more c cs h k = ap (λ b. b && list_all p cs) h ∙ k

  -- one separator more in front
  gap_more : (c : ℕ) (cs : List ℕ) (ms : List (List ℕ)) → p c ≡ true → Splits p cs ms → Splits p (c ∷ cs) ms
  gap_more c cs ms h (gap g k) = gap (c ∷ cs) (all_more c cs h k)
  gap_more c cs ms h (next t before member rest members k ne clear ends q s) = next (c ∷ cs) (c ∷ before) member rest members (all_more c before h k) ne clear ends (ap (λ z. c ∷ z) q) s

  -- the first part, and what follows it
  record Parts (cs : List ℕ) (parts : List (List ℕ)) : Type 0 where
    pub first : List ℕ
    pub rest : List ℕ
    pub others : List (List ℕ)
    pub is : parts ≡ first ∷ others
    pub cut : cs ≡ first ++ rest
    pub clear : list_any p first ≡ false
    pub ends : is_cut p rest ≡ true
    pub splits : Splits p rest (filled others)

  with_first : (first rest : List ℕ) (others : List (List ℕ)) → list_any p first ≡ false → is_cut p rest ≡ true → Splits p rest (filled others) → Splits p (first ++ rest) (filled (first ∷ others))
  with_first [] rest others clear ends s = s
  with_first (c ∷ cs) rest others clear ends s =
      subst (Splits p ((c ∷ cs) ++ rest)) (sym (filled_member (c ∷ cs) others (not_nil c cs))) (next ((c ∷ cs) ++ rest) [] (c ∷ cs) rest (filled others) refl (not_nil c cs) clear ends refl s)

  of_parts : (cs : List ℕ) (parts : List (List ℕ)) → Parts cs parts → Splits p cs (filled parts)
  of_parts cs parts x =
      subst (λ z. Splits p z (filled parts)) (sym x.cut)
      (subst (λ z. Splits p (x.first ++ x.rest) (filled z)) (sym x.is) (with_first x.first x.rest x.others x.clear x.ends x.splits))

  parts_by : (c : ℕ) (cs : List ℕ) (b : Bool) → p c ≡ b → Parts cs (slice_split p cs) → Parts (c ∷ cs) (cond b ([] ∷ slice_split p cs) (onto_first c (slice_split p cs)))
  parts_by c cs true h x = record {
    first = [];
    rest = c ∷ cs;
    others = slice_split p cs;
    is = refl;
    cut = refl;
    clear = refl;
    ends = h;
    splits = gap_more c cs (runs p cs) h (of_parts cs (slice_split p cs) x);
  }
  parts_by c cs false h x = record {
    first = c ∷ x.first;
    rest = x.rest;
    others = x.others;
    is = ap (onto_first c) x.is;
    cut = ap (λ z. c ∷ z) x.cut;
    clear = ap (λ b. b || list_any p x.first) h ∙ x.clear;
    ends = x.ends;
    splits = x.splits;
  }

  parts_of : (cs : List ℕ) → Parts cs (slice_split p cs)
  parts_of [] = record { first = []; rest = []; others = []; is = refl; cut = refl; clear = refl; ends = refl; splits = gap [] refl }
  parts_of (c ∷ cs) = parts_by c cs (p c) refl (parts_of cs)

  pub runs-Splits : (cs : List ℕ) → Splits p cs (runs p cs)
  runs-Splits cs = of_parts cs (slice_split p cs) (parts_of cs)

  -- and there are no others
  after_gap : (g cs : List ℕ) → list_all p g ≡ true → runs p (g ++ cs) ≡ runs p cs
  after_gap [] cs h = refl
  after_gap (c ∷ g) cs h =
      let b = and_parts (p c) (list_all p g) h in
      ap (λ x. filled (cond x ([] ∷ slice_split p (g ++ cs)) (onto_first c (slice_split p (g ++ cs))))) b.0 ∙ after_gap g cs b.1

  gap_runs : (g : List ℕ) → list_all p g ≡ true → runs p g ≡ []
  gap_runs [] h = refl
  gap_runs (c ∷ g) h =
      let b = and_parts (p c) (list_all p g) h in
      ap (λ x. filled (cond x ([] ∷ slice_split p g) (onto_first c (slice_split p g)))) b.0 ∙ gap_runs g b.1

  cut_at : (rest : List ℕ) → is_cut p rest ≡ true → (others : List (List ℕ)) × (slice_split p rest ≡ [] ∷ others)
  cut_at [] h = ([], refl)
  cut_at (c ∷ cs) h = (slice_split p cs, ap (λ x. cond x ([] ∷ slice_split p cs) (onto_first c (slice_split p cs))) h)

  split_member : (member rest : List ℕ) (others : List (List ℕ)) → list_any p member ≡ false → slice_split p rest ≡ [] ∷ others → slice_split p (member ++ rest) ≡ member ∷ others
  split_member [] rest others h k = k
  split_member (c ∷ cs) rest others h k =
      let b = or_parts (p c) (list_any p cs) h in
      ap (λ x. cond x ([] ∷ slice_split p (cs ++ rest)) (onto_first c (slice_split p (cs ++ rest)))) b.0 ∙ ap (onto_first c) (split_member cs rest others b.1 k)

  next_runs : (before member rest : List ℕ) → list_all p before ≡ true → member ≢ [] → list_any p member ≡ false → is_cut p rest ≡ true → runs p (before ++ (member ++ rest)) ≡ member ∷ runs p rest
  next_runs before member rest h ne clear ends =
      let x = cut_at rest ends in
      after_gap before (member ++ rest) h ∙ ap filled (split_member member rest x.0 clear x.1) ∙ filled_member member x.0 ne ∙ ap (λ z. member ∷ filled z) (sym x.1)

  pub Splits-runs : {cs : List ℕ} {ms : List (List ℕ)} → Splits p cs ms → ms ≡ runs p cs
  Splits-runs (gap cs h) = sym (gap_runs cs h)
  Splits-runs (next cs before member rest members h ne clear ends q s) = ap (λ z. member ∷ z) (Splits-runs s) ∙ sym (next_runs before member rest h ne clear ends) ∙ ap (runs p) (sym q)

  -- two lists of members of one text are the same
  pub Splits-unique : (cs : List ℕ) (ms ns : List (List ℕ)) → Splits p cs ms → Splits p cs ns → ms ≡ ns
  Splits-unique cs ms ns s t = Splits-runs s ∙ sym (Splits-runs t)

pub split-is : (text separators : List ℕ) (texts : List (List ℕ)) → (texts ≡ split text separators) ↔ AreMembers text separators texts
split-is text separators texts = (
  (λ h. record { members = runs (is_among separators) (chars text); cut = runs-Splits (is_among separators) (chars text); spelled = h }),
  (λ m. m.spelled ∙ ap (map encode_utf8_all) (Splits-runs (is_among separators) m.cut)),
)
