-- Words that are cut at slashes.
use Rattle.std.proofs.Common.{◌≡◌, ℕ, ◌+◌, ◌<◌, ◌==◌, Bool, true, false, cond, ◌||◌, List, [], ◌∷◌, ◌++◌, length, map, take, drop, get_or, refl, sym, ap, ◌∙◌, append_assoc, drop-cons, add-one, eq-eqb, lit<, Option, Some, subst}
use Rattle.std.proofs.lemmas.Bool.{ne_eqb, eqb-true}
use Rattle.std.proofs.lemmas.List.{take_more, map-append, append-nil}
use Rattle.std.specs.Prelude.{codes, IfSome}
use Rattle.std.specs.Borrow.{Bor}
use Rattle.std.specs.List.{list_any, onto_first, join_with_byte}
use Rattle.std.specs.Char.{encode_utf8}
use Rattle.std.proofs.lemmas.Str.{encode_ascii}
use Rattle.rc_model.specs.Syntax.Words.{Word, has_pattern, word_text}
use Rattle.rc_model.specs.Run.FileNames.{components, if_there, listed, paths_of, step, walk}
use Rattle.law_values.proofs.Found.{components_pattern}
use Rattle.rc_text.specs.declared.words.literal.Ch.{Ch}
use Rattle.rc_text.specs.Literals.{mark_of, marks}
use Rattle.rc_glob.specs.Paths.{paths_from}

-- characters before the first component
abbrev pub onto : Word → List Word → List Word
onto front [] = []
onto front (c ∷ cs) = (front ++ c) ∷ cs

-- a word has a first component
first_by : (b : Bool) (m : ℕ × Bool) (ps : List Word) → (c : Word) × (cs : List Word) × (cond b ([] ∷ ps) (onto_first m ps) ≡ c ∷ cs)
first_by true m ps = ([], ps, refl)
first_by false m [] = (m ∷ [], [], refl)
first_by false m (p ∷ ps) = (m ∷ p, ps, refl)

pub first_of_all : (w : Word) → (c : Word) × (cs : List Word) × (components w ≡ c ∷ cs)
first_of_all [] = ([], [], refl)
first_of_all (m ∷ w) = first_by (m.0 == 47) m (components w)

-- ** the loop that looks for a slash

onto_more : (front : Word) (m : ℕ × Bool) (c : Word) (ps : List Word) (cs : List Word) → ps ≡ c ∷ cs → onto front (onto_first m ps) ≡ onto (front ++ m ∷ []) ps
onto_more front m c ps cs h =
    ap (λ z. onto front (onto_first m z)) h ∙ (ap (λ z. z ∷ cs) (sym (append_assoc front (m ∷ []) c)) ∙ ap (onto (front ++ m ∷ [])) (sym h))

module _ (word : List Ch) (i : ℕ) (d : Ch) (l : i < length word) where
  split_here : components (marks (drop i word)) ≡ components (mark_of (get_or word i d) ∷ marks (drop (i + 1) word))
  split_here = ap (λ w. components (marks w)) (drop-cons word i d l) ∙ ap (λ n. components (mark_of (get_or word i d) ∷ marks (drop n word))) (sym (add-one i))

  pub no_slash : ((get_or word i d).c ≡ 47 → ⊥) → components (marks word) ≡ onto (marks (take i word)) (components (marks (drop i word))) →
      components (marks word) ≡ onto (marks (take (i + 1) word)) (components (marks (drop (i + 1) word)))
  no_slash n so_far =
      let rest = components (marks (drop (i + 1) word)) in
      let f = first_of_all (marks (drop (i + 1) word)) in
      so_far
      ∙ (ap (onto (marks (take i word))) (split_here ∙ ap (λ b. cond b ([] ∷ rest) (onto_first (mark_of (get_or word i d)) rest)) (ne_eqb (get_or word i d).c 47 n))
      ∙ (onto_more (marks (take i word)) (mark_of (get_or word i d)) f.0 rest f.1 f.2
      ∙ ap (λ w. onto w rest) (sym (ap marks (take_more word i d l) ∙ map-append mark_of (take i word) (get_or word i d ∷ [])))))

  pub slash : (get_or word i d).c ≡ 47 → components (marks word) ≡ onto (marks (take i word)) (components (marks (drop i word))) →
      components (marks word) ≡ marks (take i word) ∷ components (marks (drop (i + 1) word))
  slash h so_far =
      let rest = components (marks (drop (i + 1) word)) in
      so_far
      ∙ (ap (onto (marks (take i word))) (split_here ∙ ap (λ b. cond b ([] ∷ rest) (onto_first (mark_of (get_or word i d)) rest)) (eq-eqb (get_or word i d).c 47 h))
      ∙ ap (λ w. w ∷ rest) (append-nil (marks (take i word))))

-- ** past the components without one

rest_has : (w c : Word) (cs : List Word) → components w ≡ c ∷ cs → has_pattern w ≡ true → has_pattern c ≡ false → list_any has_pattern cs ≡ true
rest_has w c cs e h k =
    ap (λ b. b || list_any has_pattern cs) (sym k) ∙ (ap (list_any has_pattern) (sym e) ∙ (components_pattern w ∙ h))

pub here : (w c : Word) (cs : List Word) (path : List ℕ) (b : Bool) → components w ≡ c ∷ cs → b ≡ has_pattern c → b ≡ true → paths_from (components w) path ≡ listed c (walk cs) path
here w c cs path b e h k = ap (λ l. paths_from l path) e ∙ ap (λ x. cond x (listed c (walk cs) path) (walk cs (path ++ word_text c))) (sym h ∙ k)

pub nowhere : {A : Type 0} (w c : Word) (cs : List Word) (b : Bool) → components w ≡ c ∷ cs → cs ≡ [] → b ≡ has_pattern c → b ≡ false → has_pattern w ≡ true → A
nowhere w c cs b e n h k p = let x : false ≡ true = ap (list_any has_pattern) (sym n) ∙ rest_has w c cs e p (sym h ∙ k) in absurd cc

pub further_has : (w c : Word) (cs : List Word) (v : Word) (b : Bool) → components w ≡ c ∷ cs → cs ≡ components v → b ≡ has_pattern c → b ≡ false → has_pattern w ≡ true → has_pattern v ≡ true
further_has w c cs v b e n h k p = sym (components_pattern v) ∙ (ap (list_any has_pattern) (sym n) ∙ rest_has w c cs e p (sym h ∙ k))

walk_from : (v d : Word) (ds : List Word) (path : List ℕ) → components v ≡ d ∷ ds →
    list_any has_pattern (components v) ≡ true → walk (components v) path
    ≡ paths_from (components v) (path ++ codes "/")
walk_from v d ds path e h =
    ap (λ l. walk l path) e
    ∙ (ap (λ b. cond b (step d (walk ds) (path ++ codes "/")) (if_there (path ++ 47 ∷ join_with_byte 47 (map word_text (d ∷ ds))))) (ap (list_any has_pattern) (sym e) ∙ h)
    ∙ ap (λ l. paths_from l (path ++ codes "/")) (sym e))

pub walk_pattern : (v : Word) (path : List ℕ) → has_pattern v ≡ true → walk (components v) path ≡ paths_from (components v) (path ++ codes "/")
walk_pattern v path h = let f = first_of_all v in walk_from v f.0 f.1 path f.2 (components_pattern v ∙ h)

pub further : (w c : Word) (cs : List Word) (v : Word) (path new newer : List ℕ) (b : Bool) → components w ≡ c ∷ cs → cs ≡ components v → b ≡ has_pattern c → b ≡ false → has_pattern w ≡ true →
    new ≡ path ++ word_text c → newer ≡ new ++ 47 ∷ [] → paths_from (components w) path ≡ paths_from (components v) newer
further w c cs v path new newer b e n h k p q r =
    ap (λ l. paths_from l path) e
    ∙ (ap (λ x. cond x (listed c (walk cs) path) (walk cs (path ++ word_text c))) (sym h ∙ k)
    ∙ (ap (λ l. walk l (path ++ word_text c)) n
    ∙ (walk_pattern v (path ++ word_text c) (further_has w c cs v b e n h k p)
    ∙ ap (paths_from (components v)) (ap (λ t. t ++ codes "/") (sym q) ∙ sym r))))

-- ** a word without one

join_onto : (m : ℕ × Bool) (c : Word) (cs : List Word) → join_with_byte 47 (map word_text ((m ∷ c) ∷ cs)) ≡ encode_utf8 m.0 ++ join_with_byte 47 (map word_text (c ∷ cs))
join_onto m c [] = refl
join_onto m c (d ∷ ds) = append_assoc (encode_utf8 m.0) (word_text c) (47 ∷ join_with_byte 47 (map word_text (d ∷ ds)))

text_by : (b : Bool) (m : ℕ × Bool) (w c : Word) (cs ps : List Word) → (m.0 == 47) ≡ b → ps ≡ c ∷ cs → join_with_byte 47 (map word_text ps) ≡ word_text w →
    join_with_byte 47 (map word_text (cond b ([] ∷ ps) (onto_first m ps))) ≡ encode_utf8 m.0 ++ word_text w
text_by true m w c cs ps h e k =
    ap (λ l. join_with_byte 47 (map word_text ([] ∷ l))) e
    ∙ (ap (λ l. 47 ∷ join_with_byte 47 (map word_text l)) (sym e)
    ∙ (ap (λ t. 47 ∷ t) k
    ∙ ap (λ t. t ++ word_text w) (sym (ap encode_utf8 (eqb-true m.0 47 h) ∙ encode_ascii 47 (lit< tt)))))
text_by false m w c cs ps h e k =
    ap (λ l. join_with_byte 47 (map word_text (onto_first m l))) e
    ∙ (join_onto m c cs ∙ ap (λ t. encode_utf8 m.0 ++ t) (ap (λ l. join_with_byte 47 (map word_text l)) (sym e) ∙ k))

text_of_all : (w : Word) → join_with_byte 47 (map word_text (components w)) ≡ word_text w
text_of_all [] = refl
text_of_all (m ∷ w) = let f = first_of_all w in text_by (m.0 == 47) m w f.0 f.1 (components w) refl f.2 (text_of_all w)

walk_rest : (v d : Word) (ds : List Word) (path : List ℕ) → components v ≡ d ∷ ds → has_pattern v ≡ false → walk (components v) path ≡ if_there (path ++ 47 ∷ word_text v)
walk_rest v d ds path e h =
    ap (λ l. walk l path) e
    ∙ (ap (λ b. cond b (step d (walk ds) (path ++ codes "/")) (if_there (path ++ 47 ∷ join_with_byte 47 (map word_text (d ∷ ds))))) (ap (list_any has_pattern) (sym e) ∙ (components_pattern v ∙ h))
    ∙ ap (λ t. if_there (path ++ 47 ∷ t)) (ap (λ l. join_with_byte 47 (map word_text l)) (sym e) ∙ text_of_all v))

pub walk_plain : (v : Word) (path new newer : List ℕ) (b : Bool) → b ≡ has_pattern v → b ≡ false → new ≡ path ++ 47 ∷ [] → newer ≡ new ++ word_text v → walk (components v) path ≡ if_there newer
walk_plain v path new newer b h k p q =
    let f = first_of_all v in
    walk_rest v f.0 f.1 path f.2 (sym h ∙ k)
    ∙ ap if_there (sym (q ∙ (ap (λ t. t ++ word_text v) p ∙ append_assoc path (47 ∷ []) (word_text v))))

-- the first component of a whole word
pub whole : (w : Word) → paths_of (components w) ≡ paths_from (components w) []
whole w = let f = first_of_all w in ap paths_of f.2 ∙ ap (λ l. paths_from l []) (sym f.2)

pub with_slash : (path new : List ℕ) → new ≡ path ++ encode_utf8 47 → new ≡ path ++ 47 ∷ []
with_slash path new h = h ∙ ap (λ t. path ++ t) (encode_ascii 47 (lit< tt))

pub shorter_at : (o : Option (Bor (List Ch))) (r : Bor (List Ch)) (n : ℕ) → o ≡ Some r → IfSome o (λ r. length r.now < n) → length r.now < n
shorter_at o r n h l = subst (λ o. IfSome o (λ r. length r.now < n)) h l
