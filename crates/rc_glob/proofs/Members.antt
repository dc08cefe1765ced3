-- The members of a class, one by one.
use Rattle.std.proofs.Common.{◌≡◌, ℕ, Bool, true, false, cond, eqb, ◌||◌, List, ◌∷◌, ◌++◌, Option, Some, None, sym, ap, ◌∙◌}
use Rattle.std.proofs.lemmas.Bool.{ne_eqb}
use Rattle.rc_model.specs.Syntax.Words.{Word}
use Rattle.rc_model.specs.Run.Patterns.{holds, is_between, is_marked}

-- more characters before the members
abbrev pub with_front : Word → Option (Word × Word) → Option (Word × Word)
with_front front None = None
with_front front (Some p) = Some (front ++ p.0, p.1)

-- a range that lacks the character is passed over, and so is a member that isn't it
pub range_step : (xs ys zs more : List (ℕ × Bool)) (a m b : ℕ × Bool) (c : ℕ) (r : Bool) → xs ≡ a ∷ ys → ys ≡ m ∷ zs → zs ≡ b ∷ more → r ≡ is_marked 45 m → r ≡ true →
    (n : Bool) → n ≡ is_between a.0 b.0 c → n ≡ false → holds xs c ≡ holds more c
range_step xs ys zs more a m b c r x y z h t n k f =
    ap (λ w. holds w c) (x ∙ ap (λ w. a ∷ w) (y ∙ ap (λ w. m ∷ w) z))
    ∙ ap (λ u. cond u (is_between a.0 b.0 c || holds more c) (eqb a.0 c || holds (m ∷ b ∷ more) c)) (sym h ∙ t)
    ∙ ap (λ u. u || holds more c) (sym k ∙ f)

pub other_step : (xs ys zs more : List (ℕ × Bool)) (a m b : ℕ × Bool) (c : ℕ) (r : Bool) → xs ≡ a ∷ ys → ys ≡ m ∷ zs → zs ≡ b ∷ more → r ≡ is_marked 45 m → r ≡ false →
    (a.0 ≡ c → ⊥) → holds xs c ≡ holds ys c
other_step xs ys zs more a m b c r x y z h t n =
    let q : ys ≡ m ∷ b ∷ more = y ∙ ap (λ w. m ∷ w) z in
    ap (λ w. holds w c) (x ∙ ap (λ w. a ∷ w) q)
    ∙ ap (λ u. cond u (is_between a.0 b.0 c || holds more c) (eqb a.0 c || holds (m ∷ b ∷ more) c)) (sym h ∙ t)
    ∙ ap (λ u. u || holds (m ∷ b ∷ more) c) (ne_eqb a.0 c n) ∙ ap (λ w. holds w c) (sym q)
