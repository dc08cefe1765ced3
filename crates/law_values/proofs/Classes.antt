-- What a class holds, by the relation and by the test.
use Rattle.std.proofs.Common.{◌≡◌, ℕ, ◌≤◌, Bool, true, false, cond, leb, eqb, ◌&&◌, ◌||◌, not, [], ◌∷◌, refl, sym, ap, ◌∙◌, eq-eqb, ◌⊎◌, inl, inr}
use Rattle.std.proofs.lemmas.Bool.{eqb-true, leb-true, le-leb, or_cases, or_left, or_right, and_parts}
use Rattle.rc_model.specs.Syntax.Words.{Word}
use Rattle.rc_model.specs.Run.Patterns.{is_marked, holds}
use Rattle.rc_model.specs.Run.Matching.{begins_range, IsMember, single, after_single, range, after_range, IsHeld, among, apart}
use Rattle.rc_model.specs.Mirrors.Greedy.{class_holds}

within : (a c b : ℕ) → (leb a c && leb c b) ≡ true → (a ≤ c) × (c ≤ b)
within a c b h = let x = and_parts (leb a c) (leb c b) h in (leb-true a c x.0, leb-true c b x.1)

is_within : (a c b : ℕ) → a ≤ c → c ≤ b → (leb a c && leb c b) ≡ true
is_within a c b l m = ap (λ x. x && leb c b) (le-leb a c l) ∙ le-leb c b m

none_more : (b : Bool) → b ≡ (b || false)
none_more true = refl
none_more false = refl

-- the test, where no range begins
holds_single : (m : ℕ × Bool) (ms : Word) (c : ℕ) → begins_range (m ∷ ms) ≡ false → holds (m ∷ ms) c ≡ (eqb m.0 c || holds ms c)
holds_single m [] c h = none_more (eqb m.0 c)
holds_single m (d ∷ []) c h = refl
holds_single m (d ∷ n ∷ ms) c h = ap (λ b. cond b ((leb m.0 c && leb c n.0) || holds ms c) (eqb m.0 c || holds (d ∷ n ∷ ms) c)) h

holds_range : (m d n : ℕ × Bool) (ms : Word) (c : ℕ) → is_marked 45 d ≡ true → holds (m ∷ d ∷ n ∷ ms) c ≡ ((leb m.0 c && leb c n.0) || holds ms c)
holds_range m d n ms c h = ap (λ b. cond b ((leb m.0 c && leb c n.0) || holds ms c) (eqb m.0 c || holds (d ∷ n ∷ ms) c)) h

pub IsMember-holds : {c : ℕ} {ms : Word} → IsMember c ms → holds ms c ≡ true
IsMember-holds {c} (single m ms h e) = holds_single m ms c h ∙ or_left (eqb m.0 c) (holds ms c) (eq-eqb m.0 c e)
IsMember-holds {c} (after_single m ms h k) = holds_single m ms c h ∙ or_right (eqb m.0 c) (holds ms c) (IsMember-holds k)
IsMember-holds {c} (range m d n ms h l u) = holds_range m d n ms c h ∙ or_left (leb m.0 c && leb c n.0) (holds ms c) (is_within m.0 c n.0 l u)
IsMember-holds {c} (after_range m d n ms h k) = holds_range m d n ms c h ∙ or_right (leb m.0 c && leb c n.0) (holds ms c) (IsMember-holds k)

of_single : (m : ℕ × Bool) (ms : Word) (c : ℕ) → begins_range (m ∷ ms) ≡ false → (holds ms c ≡ true → IsMember c ms) → (eqb m.0 c ≡ true) ⊎ (holds ms c ≡ true) → IsMember c (m ∷ ms)
of_single m ms c h rest (inl e) = single m ms h (eqb-true m.0 c e)
of_single m ms c h rest (inr e) = after_single m ms h (rest e)

of_range : (m d n : ℕ × Bool) (ms : Word) (c : ℕ) → is_marked 45 d ≡ true → (holds ms c ≡ true → IsMember c ms) → ((leb m.0 c && leb c n.0) ≡ true) ⊎ (holds ms c ≡ true) → IsMember c (m ∷ d ∷ n ∷ ms)
of_range m d n ms c h rest (inl e) = let w = within m.0 c n.0 e in range m d n ms h w.0 w.1
of_range m d n ms c h rest (inr e) = after_range m d n ms h (rest e)

at_dash : (m d n : ℕ × Bool) (ms : Word) (c : ℕ) (b : Bool) → is_marked 45 d ≡ b → (holds ms c ≡ true → IsMember c ms) → (holds (d ∷ n ∷ ms) c ≡ true → IsMember c (d ∷ n ∷ ms)) →
    holds (m ∷ d ∷ n ∷ ms) c ≡ true → IsMember c (m ∷ d ∷ n ∷ ms)
at_dash m d n ms c true k far near h = of_range m d n ms c k far (or_cases (leb m.0 c && leb c n.0) (holds ms c) (sym (holds_range m d n ms c k) ∙ h))
at_dash m d n ms c false k far near h = of_single m (d ∷ n ∷ ms) c k near (or_cases (eqb m.0 c) (holds (d ∷ n ∷ ms) c) (sym (holds_single m (d ∷ n ∷ ms) c k) ∙ h))

pub holds-IsMember : (ms : Word) (c : ℕ) → holds ms c ≡ true → IsMember c ms
holds-IsMember [] c h = absurd cc
holds-IsMember (m ∷ []) c h = single m [] refl (eqb-true m.0 c h)
holds-IsMember (m ∷ d ∷ []) c h = of_single m (d ∷ []) c refl (holds-IsMember (d ∷ []) c) (or_cases (eqb m.0 c) (eqb d.0 c) h)
holds-IsMember (m ∷ d ∷ n ∷ ms) c h = at_dash m d n ms c (is_marked 45 d) refl (holds-IsMember ms c) (holds-IsMember (d ∷ n ∷ ms) c) h

not_holds : (ms : Word) (c : ℕ) (b : Bool) → holds ms c ≡ b → (IsMember c ms → ⊥) → b ≡ false
not_holds ms c true k h = absurd (h (holds-IsMember ms c k))
not_holds ms c false k h = refl

pub IsHeld-test : {c : ℕ} {ms : Word} → IsHeld c ms → class_holds ms c ≡ true
IsHeld-test {c} (among m ms h k) = ap (λ b. cond b (not (holds ms c)) (holds (m ∷ ms) c)) h ∙ IsMember-holds k
IsHeld-test {c} (apart m ms h k) = ap (λ b. cond b (not (holds ms c)) (holds (m ∷ ms) c)) h ∙ ap not (not_holds ms c (holds ms c) refl k)

not_member : (ms : Word) (c : ℕ) → not (holds ms c) ≡ true → IsMember c ms → ⊥
not_member ms c h k = let x : not true ≡ true = ap not (sym (IsMember-holds k)) ∙ h in cc

held_by : (m : ℕ × Bool) (ms : Word) (c : ℕ) (b : Bool) → is_marked 126 m ≡ b → cond b (not (holds ms c)) (holds (m ∷ ms) c) ≡ true → IsHeld c (m ∷ ms)
held_by m ms c true k h = apart m ms k (not_member ms c h)
held_by m ms c false k h = among m ms k (holds-IsMember (m ∷ ms) c h)

pub test-IsHeld : (ms : Word) (c : ℕ) → class_holds ms c ≡ true → IsHeld c ms
test-IsHeld [] c h = absurd cc
test-IsHeld (m ∷ ms) c h = held_by m ms c (is_marked 126 m) refl h
