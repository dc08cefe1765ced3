-- Joining computes what the relation says.
use Rattle.std.proofs.Common.{◌≡◌, ◌≢◌, suc, Bool, true, false, cond, eqb, List, [], ◌∷◌, ◌++◌, map, length, refl, sym, ap, subst, ◌∙◌, eq-eqb, arith}
use Rattle.std.specs.Prelude.{◌↔◌, Result, Ok, Err}
use Rattle.std.proofs.lemmas.Bool.{eqb-true, ne_eqb}
use Rattle.rc_model.specs.Syntax.Words.{Word}
use Rattle.rc_model.specs.Run.Lists.{pairwise, distributed, concatenated}
use Rattle.rc_model.specs.Run.Joining.{Pairs, none, pair, Joins, pairs, before, after, left_empty, right_empty, mismatch}
use Rattle.rc_model.specs.declared.fault.ListFault.{ListFault}
use Rattle.rc_model.specs.declared.fault.ListFault.TheVariants.{CountMismatch, EmptyConcat}

Pairs-counts : {xs ys zs : List Word} → Pairs xs ys zs → length xs ≡ length ys
Pairs-counts none = refl
Pairs-counts (pair a b as' bs cs p) = ap suc (Pairs-counts p)

Pairs-pairwise : {xs ys zs : List Word} → Pairs xs ys zs → zs ≡ pairwise xs ys
Pairs-pairwise none = refl
Pairs-pairwise (pair a b as' bs cs p) = ap (λ z. (a ++ b) ∷ z) (Pairs-pairwise p)

pairwise-Pairs : (xs ys : List Word) → length xs ≡ length ys → Pairs xs ys (pairwise xs ys)
pairwise-Pairs [] [] h = none
pairwise-Pairs [] (b ∷ bs) h = absurd (omega arith)
pairwise-Pairs (a ∷ as') [] h = absurd (omega arith)
pairwise-Pairs (a ∷ as') (b ∷ bs) h = pair a b as' bs (pairwise as' bs) (pairwise-Pairs as' bs (omega arith))

filled : (a : Word) (as' : List Word) → (a ∷ as') ≢ []
filled a as' h = cc

several : (a b : Word) (as' : List Word) → length (a ∷ b ∷ as') ≢ 1
several a b as' h = absurd (omega arith)

apart : (xs ys : List Word) → length xs ≢ length ys → Joins xs ys (distributed xs ys)
apart [] [] h = absurd (h refl)
apart [] (b ∷ bs) h = left_empty refl (filled b bs)
apart (a ∷ as') [] h = right_empty refl (filled a as')
apart (a ∷ []) (b ∷ []) h = absurd (h refl)
apart (a ∷ []) (b ∷ d ∷ bs) h = before a refl (filled b (d ∷ bs)) (several b d bs)
apart (a ∷ c ∷ as') (b ∷ []) h = after b refl (filled a (c ∷ as')) (several a c as')
apart (a ∷ c ∷ as') (b ∷ d ∷ bs) h = mismatch h (filled a (c ∷ as')) (filled b (d ∷ bs)) (several a c as') (several b d bs)

joins_by : (xs ys : List Word) (b : Bool) → eqb (length xs) (length ys) ≡ b → Joins xs ys (cond b (Ok (pairwise xs ys)) (distributed xs ys))
joins_by xs ys true h = pairs (pairwise xs ys) (pairwise-Pairs xs ys (eqb-true (length xs) (length ys) h))
joins_by xs ys false h = apart xs ys (λ q. let x : true ≡ false = sym (eq-eqb (length xs) (length ys) q) ∙ h in cc)

same_counts : (xs ys : List Word) → length xs ≡ length ys → concatenated xs ys ≡ Ok (pairwise xs ys)
same_counts xs ys h = ap (λ b. cond b (Ok (pairwise xs ys)) (distributed xs ys)) (eq-eqb (length xs) (length ys) h)

other_counts : (xs ys : List Word) → length xs ≢ length ys → concatenated xs ys ≡ distributed xs ys
other_counts xs ys h = ap (λ b. cond b (Ok (pairwise xs ys)) (distributed xs ys)) (ne_eqb (length xs) (length ys) h)

one_before : (a : Word) (ys : List Word) → ys ≢ [] → distributed (a ∷ []) ys ≡ Ok (map (λ b. a ++ b) ys)
one_before a [] ne = absurd (ne refl)
one_before a (b ∷ bs) ne = refl

one_after : (b : Word) (xs : List Word) → xs ≢ [] → length xs ≢ 1 → distributed xs (b ∷ []) ≡ Ok (map (λ a. a ++ b) xs)
one_after b [] ne more = absurd (ne refl)
one_after b (a ∷ []) ne more = absurd (more refl)
one_after b (a ∷ c ∷ as') ne more = refl

none_first : (ys : List Word) → distributed [] ys ≡ Err EmptyConcat
none_first [] = refl
none_first (b ∷ bs) = refl

none_second : (xs : List Word) → distributed xs [] ≡ Err EmptyConcat
none_second [] = refl
none_second (a ∷ as') = refl

both_several : (xs ys : List Word) → xs ≢ [] → ys ≢ [] → length xs ≢ 1 → length ys ≢ 1 → distributed xs ys ≡ Err CountMismatch
both_several [] ys a b c d = absurd (a refl)
both_several (x ∷ xs) [] a b c d = absurd (b refl)
both_several (x ∷ []) (y ∷ ys) a b c d = absurd (c refl)
both_several (x ∷ w ∷ xs) (y ∷ []) a b c d = absurd (d refl)
both_several (x ∷ w ∷ xs) (y ∷ z ∷ ys) a b c d = refl

no_count : (ys : List Word) → ys ≢ [] → 0 ≢ length ys
no_count [] ne h = ne refl
no_count (y ∷ ys) ne h = absurd (omega arith)

Joins-concatenated : {xs ys : List Word} {r : Result (List Word) ListFault} → Joins xs ys r → r ≡ concatenated xs ys
Joins-concatenated {xs} {ys} (pairs zs p) = ap Ok (Pairs-pairwise p) ∙ sym (same_counts xs ys (Pairs-counts p))
Joins-concatenated {xs} {ys} (before a q ne more) =
    sym (other_counts xs ys (λ h. more (sym h ∙ ap length q)) ∙ ap (λ z. distributed z ys) q ∙ one_before a ys ne)
Joins-concatenated {xs} {ys} (after b q ne more) =
    sym (other_counts xs ys (λ h. more (h ∙ ap length q)) ∙ ap (distributed xs) q ∙ one_after b xs ne more)
Joins-concatenated {xs} {ys} (left_empty q ne) = sym (other_counts xs ys (λ h. no_count ys ne (sym (ap length q) ∙ h)) ∙ ap (λ z. distributed z ys) q ∙ none_first ys)
Joins-concatenated {xs} {ys} (right_empty q ne) = sym (other_counts xs ys (λ h. no_count xs ne (sym (ap length q) ∙ sym h)) ∙ ap (distributed xs) q ∙ none_second xs)
Joins-concatenated {xs} {ys} (mismatch n a b c d) = sym (other_counts xs ys n ∙ both_several xs ys a b c d)

pub concatenated-is : (xs ys : List Word) (r : Result (List Word) ListFault) → (r ≡ concatenated xs ys) ↔ Joins xs ys r
concatenated-is xs ys r = (
  (λ h. subst (Joins xs ys) (sym h) (joins_by xs ys (eqb (length xs) (length ys)) refl)),
  (λ j. Joins-concatenated j),
)
