-- The characters of a word as text.
use Rattle.std.proofs.Common.{◌≡◌, ℕ, ◌+◌, ◌<◌, Bool, List, [], ◌∷◌, ◌++◌, length, map, take, get_or, sym, ap, ◌∙◌, append_assoc}
use Rattle.std.proofs.lemmas.List.{take_more, map-append, append-nil}
use Rattle.std.proofs.lemmas.Str.{encodes-append}
use Rattle.std.specs.Char.{encode_utf8}
use Rattle.std.specs.Str.{encode_utf8_all}
use Rattle.rc_text.specs.declared.words.literal.Ch.{Ch}
use Rattle.rc_text.specs.Literals.{mark_of, marks}
use Rattle.rc_glob.specs.Characters.{characters}

module _ (word : List Ch) (i : ℕ) (d : Ch) (l : i < length word) where
  one_more : characters (take (i + 1) word) ≡ characters (take i word) ++ (get_or word i d).c ∷ []
  one_more =
      ap characters (take_more word i d l)
      ∙ (ap (map (λ (m : ℕ × Bool). m.0)) (map-append mark_of (take i word) (get_or word i d ∷ []))
      ∙ map-append (λ (m : ℕ × Bool). m.0) (marks (take i word)) (marks (get_or word i d ∷ [])))

  spelled : encode_utf8_all (characters (take (i + 1) word)) ≡ encode_utf8_all (characters (take i word)) ++ encode_utf8 (get_or word i d).c
  spelled =
      ap encode_utf8_all one_more
      ∙ (encodes-append (characters (take i word)) ((get_or word i d).c ∷ [])
      ∙ ap (λ t. encode_utf8_all (characters (take i word)) ++ t) (append-nil (encode_utf8 (get_or word i d).c)))

  pub pushed_step : (start old new : List ℕ) → new ≡ old ++ encode_utf8 (get_or word i d).c → old ≡ start ++ encode_utf8_all (characters (take i word)) →
      new ≡ start ++ encode_utf8_all (characters (take (i + 1) word))
  pushed_step start old new h k =
      h ∙ ap (λ t. t ++ encode_utf8 (get_or word i d).c) k
      ∙ append_assoc start (encode_utf8_all (characters (take i word))) (encode_utf8 (get_or word i d).c)
      ∙ ap (λ t. start ++ t) (sym spelled)
