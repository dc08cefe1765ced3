-- The decoding of bytes, in the words of two crates, and bytes without a 0.
use Rattle.std.proofs.Common.{◌≡◌, ℕ, Bool, true, false, cond, not, List, [], ◌∷◌, ◌++◌, refl, ap, sym, ◌∙◌}
use Rattle.std.proofs.lemmas.Grind.{common_steps}
use Rattle.std.specs.Prelude.{◌==◌, ◌||◌, filter}
use Rattle.std.specs.List.{list_any}
use Rattle.std.specs.Str.{IsUtf8}
use Rattle.std.specs.Str.Lossy.{utf8_lossy}
use Rattle.std.proofs.lemmas.Str.{utf8_lossy-IsUtf8}
use Rattle.rc_model.specs.Run.Acts.{output_text}
use Rattle.bstr.proofs.lemmas.LossyLemmas.{lossy_chars-utf8_lossy}

pub ruleset decoding = (lossy_chars-utf8_lossy, common_steps)

-- what is written after nothing
pub written_after : (new old added whole : List ℕ) → new ≡ old ++ added → old ≡ [] → added ≡ whole → new ≡ whole
written_after new old added whole n o a = n ∙ ap (λ t. t ++ added) o ∙ a

-- where no byte is 0, all are kept
kept_by : (b : ℕ) (bs kept : List ℕ) (is_zero is_among : Bool) → (is_among ≡ false → kept ≡ bs) → (is_zero || is_among) ≡ false
    → cond (not is_zero) (b ∷ kept) kept ≡ b ∷ bs
kept_by b bs kept true is_among rest h = absurd (let n : ⊥ = cc in n)
kept_by b bs kept false is_among rest h = ap (λ cs. b ∷ cs) (rest h)

pub all_kept : (bytes : List ℕ) → list_any (λ b. b == 0) bytes ≡ false → filter (λ b. not (b == 0)) bytes ≡ bytes
all_kept [] h = refl
all_kept (b ∷ bs) h = kept_by b bs (filter (λ c. not (c == 0)) bs) (b == 0) (list_any (λ c. c == 0) bs) (all_kept bs) h

-- bytes that are a text without a byte 0 are that text
pub whole_text : (bytes : List ℕ) → list_any (λ b. b == 0) bytes ≡ false → IsUtf8 bytes → bytes ≡ output_text bytes
whole_text bytes none text = sym (ap utf8_lossy (all_kept bytes none) ∙ utf8_lossy-IsUtf8 bytes text)
