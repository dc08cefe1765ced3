-- A text without a byte 0.
use Rattle.std.proofs.Common.{◌≡◌, ℕ, suc, ◌==◌, ◌||◌, Bool, true, false, cond, List, [], ◌∷◌, refl, ap, ◌∙◌}
use Rattle.std.specs.Prelude.{None, Some}
use Rattle.std.specs.List.{list_any}
use Rattle.rc_model.specs.Mirrors.Reading.{zero_line}

past : (line c : ℕ) (cs : List ℕ) (v : Bool) → (c == 0) ≡ v → v || list_any (λ b. b == 0) cs ≡ false →
    ((n : ℕ) → list_any (λ b. b == 0) cs ≡ false → zero_line n cs ≡ None) → zero_line line (c ∷ cs) ≡ None
past line c cs true e h more = absurd cc
past line c cs false e h more =
    ap (λ v. cond v (Some line) (zero_line (cond (c == 10) (suc line) line) cs)) e ∙ more (cond (c == 10) (suc line) line) h

pub no_zero : (line : ℕ) (text : List ℕ) → list_any (λ b. b == 0) text ≡ false → zero_line line text ≡ None
no_zero line [] h = refl
no_zero line (c ∷ cs) h = past line c cs (c == 0) refl h (λ n. no_zero n cs)
