-- The answers to its calls decide what a word becomes.
use Rattle.std.proofs.Common.{◌≡◌, ◌≢◌, List, [], ◌∷◌, refl, sym, ap, ◌∙◌, inl, inr, ℕ}
use Rattle.std.specs.List.Sorted.{IsStrictlySortedBy}
use Rattle.std.specs.declared.cmp.Ordering.TheVariants.{Less}
use Rattle.std.proofs.lemmas.Cmp.{nat_list_cmp_total}
use Rattle.rc_model.specs.Syntax.Text.{text_cmp}
use Rattle.rc_model.specs.Syntax.Words.{Word, plain_words}
use Rattle.rc_model.specs.Run.Calls.{Call, Answer}
use Rattle.rc_model.specs.Run.PathNames.{IsIn, Expands, found, itself}
use Rattle.law_values.proofs.Once.{less_itself}
use Rattle.law_values.proofs.Sorted.{Below}

below_in : (x p : List ℕ) (ks : List (List ℕ)) → Below x ks → IsIn p ks → text_cmp x p ≡ Less
below_in x p [] h i = absurd i
below_in x p (k ∷ ks) h (inl q) = ap (text_cmp x) (sym q) ∙ h.0
below_in x p (k ∷ ks) h (inr i) = below_in x p ks h.1 i

not_itself : (x : List ℕ) → text_cmp x x ≡ Less → ⊥
not_itself x h = less_itself (text_cmp x x) (nat_list_cmp_total.antisymm x x) h

same_head : (x y : List ℕ) (xs ys : List (List ℕ)) → Below x xs → Below y ys → IsIn x (y ∷ ys) → IsIn y (x ∷ xs) → x ≡ y
same_head x y xs ys b c (inl q) j = sym q
same_head x y xs ys b c (inr i) (inl q) = q
same_head x y xs ys b c (inr i) (inr j) = absurd (not_itself x (nat_list_cmp_total.trans x y x (below_in x y xs b j) (below_in y x ys c i)))

in_tail : (x y p : List ℕ) (xs ys : List (List ℕ)) → x ≡ y → Below x xs → IsIn p xs → IsIn p (y ∷ ys) → IsIn p ys
in_tail x y p xs ys q b i (inl e) = absurd (not_itself x (ap (text_cmp x) (q ∙ e) ∙ below_in x p xs b i))
in_tail x y p xs ys q b i (inr j) = j

pub same_sorted : (xs ys : List (List ℕ)) → IsStrictlySortedBy text_cmp xs → IsStrictlySortedBy text_cmp ys → ((p : List ℕ) → IsIn p xs → IsIn p ys) → ((p : List ℕ) → IsIn p ys → IsIn p xs) → xs ≡ ys
unfolding IsStrictlySortedBy
same_sorted [] [] s t f g = refl
same_sorted [] (y ∷ ys) s t f g = absurd (g y (inl refl))
same_sorted (x ∷ xs) [] s t f g = absurd (f x (inl refl))
same_sorted (x ∷ xs) (y ∷ ys) s t f g =
    let q = same_head x y xs ys s.0 t.0 (f x (inl refl)) (g y (inl refl)) in
    let r = same_sorted xs ys s.1 t.1 (λ p i. in_tail x y p xs ys q s.0 i (f p (inr i))) (λ p i. in_tail y x p ys xs (sym q) t.0 i (g p (inr i))) in
    ap (λ z. z ∷ xs) q ∙ ap (λ z. y ∷ z) r

none_named : (ps : List (List ℕ)) → ps ≢ [] → ((p : List ℕ) → IsIn p ps → ⊥) → ⊥
none_named [] ne h = ne refl
none_named (p ∷ ps) ne h = h p (inl refl)

pub one_expansion : (answers : Call → Answer) (w : Word) (us vs : List Word) → Expands answers w us → Expands answers w vs → us ≡ vs
one_expansion answers w us vs (found ps f s n) (found qs g t m) = ap plain_words (same_sorted ps qs s t (λ p i. (g p).1 ((f p).0 i)) (λ p i. (f p).1 ((g p).0 i)))
one_expansion answers w us vs (found ps f s n) (itself k) = absurd (none_named ps n (λ p i. k p ((f p).0 i)))
one_expansion answers w us vs (itself k) (found qs g t m) = absurd (none_named qs m (λ p i. k p ((g p).0 i)))
one_expansion answers w us vs (itself k) (itself l) = refl
