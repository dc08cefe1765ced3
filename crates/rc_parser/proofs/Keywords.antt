-- Words that are no keywords: they have another length, or begin with another byte.
use Rattle.std.proofs.Common.{◌≡◌, ℕ, ◌⊎◌, inl, inr, Bool, true, false, List, [], ◌∷◌, length, get_or, refl, sym, subst, ◌∙◌, arith}
use Rattle.std.proofs.lemmas.Slice.Eq.{bytes_eq-Decides}
use Rattle.std.specs.Prelude.{bytes_eq, codes}
use Rattle.rc_model.specs.Syntax.Grammar.{keyword}
use Rattle.rc_model.specs.declared.syntax.Keyword.TheVariants.{Plain}
use Rattle.rc_parser.specs.Keywords.{begins_keyword}

-- a word that has another length, or begins with another byte, differs
other : (word text : List ℕ) → begins_keyword (length text) (get_or text 0 0) ≡ true → begins_keyword (length word) (get_or word 0 0) ≡ false → bytes_eq word text ≡ false
other word text has lacks = by (bytes_eq word text) refl
  where
    by : (b : Bool) → bytes_eq word text ≡ b → b ≡ false
    by true e = sym has ∙ subst (λ w. begins_keyword (length w) (get_or w 0 0) ≡ false) ((bytes_eq-Decides word text).0 e) lacks
    by false e = refl

pub no_first : (word : List ℕ) → ((length word ≡ 0) ⊎ (begins_keyword (length word) (get_or word 0 0) ≡ false)) → keyword word ≡ Plain
no_first [] h = refl
no_first (b ∷ bs) (inl e) = absurd (omega (arith, e))
no_first (b ∷ bs) (inr e) =
    rw (
      other (b ∷ bs) (codes "for") refl e,
      other (b ∷ bs) (codes "in") refl e,
      other (b ∷ bs) (codes "while") refl e,
      other (b ∷ bs) (codes "if") refl e,
      other (b ∷ bs) (codes "not") refl e,
      other (b ∷ bs) (codes "switch") refl e,
      other (b ∷ bs) (codes "fn") refl e,
      other (b ∷ bs) (codes "~") refl e,
      other (b ∷ bs) (codes "!") refl e,
      other (b ∷ bs) (codes "@") refl e,
    ) refl
