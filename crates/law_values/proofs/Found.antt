-- What is found is what the word stands for.
use Rattle.std.proofs.Common.{◌≡◌, ◌≢◌, ℕ, Bool, true, false, cond, List, [], ◌∷◌, ◌++◌, map, refl, sym, ap, subst, ◌∙◌, inl, inr, ◌&&◌, ◌||◌, not, append_assoc}
use Rattle.std.specs.Prelude.{◌==◌, codes}
use Rattle.std.specs.List.{list_any, join_with_byte, onto_first}
use Rattle.std.specs.Str.{chars}
use Rattle.std.proofs.lemmas.List.{append-nil}
use Rattle.std.proofs.lemmas.Bool.{eqb-true, not-true, not_from_false, or_parts, and_parts}
use Rattle.rc_model.specs.Syntax.Words.{Word, word_text, has_pattern, is_pattern, is_pattern_char}
use Rattle.rc_model.specs.Run.Patterns.{matches}
use Rattle.rc_model.specs.Run.Calls.{Call, Answer, list_names, as_names}
use Rattle.rc_model.specs.Run.FileNames.{components, is_no_name, ordered, directory, fitting_names, or_itself, names_of}
use Rattle.rc_model.specs.Run.PathNames.{IsIn, names_in, is_there, StandsFor, IsChosen, Chosen, ends_plain, Named, Expands, found, itself}
use Rattle.law_values.proofs.Computed.{matches-is}
use Rattle.law_values.proofs.Sorted.{ordered_sorted, from_ordered, to_ordered, from_filter, to_filter, from_flat, to_flat}
use Rattle.law_values.proofs.Walking.{Gives, names_found, found_step, found_there, found_from, found_of, gives_names}
use Rattle.law_values.proofs.Steps.{no_way}

-- texts after a slash each
abbrev tail : List (List ℕ) → List ℕ
tail [] = []
tail (t ∷ ts) = 47 ∷ (t ++ tail ts)

join_tail : (t : List ℕ) (ts : List (List ℕ)) → join_with_byte 47 (t ∷ ts) ≡ t ++ tail ts
join_tail t [] = sym (append-nil t)
join_tail t (u ∷ ts) = ap (λ z. t ++ (47 ∷ z)) (join_tail u ts)

module _ (answers : Call → Answer) where
  -- after a path with no final slash
  record From (cs : List Word) (path p : List ℕ) : Type 0 where
    pub texts : List (List ℕ)
    pub chosen : Chosen answers (path ++ codes "/") cs texts
    pub joined : p ≡ path ++ tail texts
    pub checked : ends_plain cs ≡ true → is_there answers p ≡ true

  record Step (c : Word) (cs : List Word) (path p : List ℕ) : Type 0 where
    pub text : List ℕ
    pub first : IsChosen answers path c text
    pub rest : From cs (path ++ text) p

  fitting_to : (c : Word) (path n : List ℕ) → IsIn n (fitting_names c (as_names (answers (list_names (directory path))))) → StandsFor answers path c n
  fitting_to c path n x =
      let f = from_filter (λ m. not (is_no_name m) && matches c (chars m) true) n (names_in answers path) (from_ordered n _ x) in
      let b = and_parts (not (is_no_name n)) (matches c (chars n) true) f.1 in
      record { listed = f.0; a_name = not-true (is_no_name n) b.0; matches = (matches-is true c (chars n)).0 b.1 }

  fitting_from : (c : Word) (path n : List ℕ) → StandsFor answers path c n → IsIn n (fitting_names c (as_names (answers (list_names (directory path)))))
  fitting_from c path n x =
      to_ordered n _ (to_filter (λ m. not (is_no_name m) && matches c (chars m) true) n (names_in answers path) x.listed
      (ap (λ b. b && matches c (chars n) true) (not_from_false (is_no_name n) x.a_name) ∙ (matches-is true c (chars n)).1 x.matches))

  abbrev To : List Word → Type 0
  To cs = (path p : List ℕ) → IsIn p (found_from answers cs path) → From cs path p

  abbrev Back : List Word → Type 0
  Back cs = (path p : List ℕ) → From cs path p → IsIn p (found_from answers cs path)

  step_to : (c : Word) (cs : List Word) (path p : List ℕ) (b : Bool) → has_pattern c ≡ b → To cs →
      IsIn p (cond b (names_found answers c (found_from answers cs) path) (found_from answers cs (path ++ word_text c))) → Step c cs path p
  step_to c cs path p true h hyp x =
      let f = from_flat (λ n. found_from answers cs (path ++ n)) p (fitting_names c (as_names (answers (list_names (directory path))))) x in
      record { text = f.0; first = record { itself = λ k. no_way (sym k ∙ h); pattern = λ k. fitting_to c path f.0 f.1 }; rest = hyp (path ++ f.0) p f.2 }
  step_to c cs path p false h hyp x =
      record { text = word_text c; first = record { itself = λ k. refl; pattern = λ k. no_way (sym h ∙ k) }; rest = hyp (path ++ word_text c) p x }

  step_back : (c : Word) (cs : List Word) (path p : List ℕ) (b : Bool) → has_pattern c ≡ b → Back cs → Step c cs path p →
      IsIn p (cond b (names_found answers c (found_from answers cs) path) (found_from answers cs (path ++ word_text c)))
  step_back c cs path p true h hyp x =
      to_flat (λ n. found_from answers cs (path ++ n)) x.text p (fitting_names c (as_names (answers (list_names (directory path)))))
      (fitting_from c path x.text (x.first.pattern h)) (hyp (path ++ x.text) p x.rest)
  step_back c cs path p false h hyp x = subst (λ t. IsIn p (found_from answers cs (path ++ t))) (x.first.itself h) (hyp (path ++ x.text) p x.rest)

  -- a pattern character in the components: the last one decides
  ends_more : (c : Word) (cs : List Word) → list_any has_pattern (c ∷ cs) ≡ true → ends_plain (c ∷ cs) ≡ ends_plain cs
  ends_more c [] h = ap not (last_one (has_pattern c) h)
    where
      last_one : (b : Bool) → (b || false) ≡ true → b ≡ true
      last_one true k = refl
      last_one false k = k
  ends_more c (d ∷ cs) h = refl

  ends_none : (c : Word) (cs : List Word) → list_any has_pattern (c ∷ cs) ≡ false → ends_plain (c ∷ cs) ≡ true
  ends_none c [] h = not_from_false (has_pattern c) (or_parts (has_pattern c) false h).0
  ends_none c (d ∷ cs) h = ends_none d cs (or_parts (has_pattern c) (list_any has_pattern (d ∷ cs)) h).1

  all_plain : (cs : List Word) (path : List ℕ) → list_any has_pattern cs ≡ false → Chosen answers path cs (map word_text cs)
  all_plain [] path h = tt
  all_plain (c ∷ cs) path h =
      let b = or_parts (has_pattern c) (list_any has_pattern cs) h in
      (record { itself = λ k. refl; pattern = λ k. no_way (sym b.0 ∙ k) }, all_plain cs ((path ++ word_text c) ++ codes "/") b.1)

  only_plain : (cs : List Word) (path : List ℕ) (ts : List (List ℕ)) → list_any has_pattern cs ≡ false → Chosen answers path cs ts → ts ≡ map word_text cs
  only_plain [] path [] h x = refl
  only_plain [] path (t ∷ ts) h x = absurd x
  only_plain (c ∷ cs) path [] h x = absurd x
  only_plain (c ∷ cs) path (t ∷ ts) h x =
      let b = or_parts (has_pattern c) (list_any has_pattern cs) h in
      ap (λ z. z ∷ ts) (x.0.itself b.0) ∙ ap (λ z. word_text c ∷ z) (only_plain cs ((path ++ t) ++ codes "/") ts b.1 x.1)

  from_step : (c : Word) (cs : List Word) (path p : List ℕ) → list_any has_pattern (c ∷ cs) ≡ true → Step c cs (path ++ codes "/") p → From (c ∷ cs) path p
  from_step c cs path p h x = record {
    texts = x.text ∷ x.rest.texts;
    chosen = (x.first, x.rest.chosen);
    joined = x.rest.joined ∙ append_assoc (path ++ codes "/") x.text (tail x.rest.texts) ∙ append_assoc path (codes "/") (x.text ++ tail x.rest.texts);
    checked = λ k. x.rest.checked (sym (ends_more c cs h) ∙ k);
  }

  step_from : (c : Word) (cs : List Word) (path p : List ℕ) (ts : List (List ℕ)) → list_any has_pattern (c ∷ cs) ≡ true
      → Chosen answers (path ++ codes "/") (c ∷ cs) ts → p ≡ path ++ tail ts → (ends_plain (c ∷ cs) ≡ true → is_there answers p ≡ true) →
      Step c cs (path ++ codes "/") p
  step_from c cs path p [] h x q k = absurd x
  step_from c cs path p (t ∷ ts) h x q k = record {
    text = t;
    first = x.0;
    rest = record {
      texts = ts;
      chosen = x.1;
      joined = q ∙ sym (append_assoc (path ++ codes "/") t (tail ts) ∙ append_assoc path (codes "/") (t ++ tail ts));
      checked = λ e. k (ends_more c cs h ∙ e);
    };
  }

  there_to : (p q : List ℕ) (b : Bool) → is_there answers q ≡ b → IsIn p (cond b (q ∷ []) []) → (q ≡ p) × (is_there answers q ≡ true)
  there_to p q true h (inl x) = (x, h)
  there_to p q true h (inr x) = absurd x
  there_to p q false h x = absurd x

  there_from : (p q : List ℕ) → q ≡ p → is_there answers q ≡ true → IsIn p (found_there answers q)
  there_from p q e h = subst (λ b. IsIn p (cond b (q ∷ []) [])) (sym h) (inl e)

  found_to_by : (c : Word) (cs : List Word) (path p : List ℕ) (b : Bool) → list_any has_pattern (c ∷ cs) ≡ b → To cs →
      IsIn p (cond b (found_step answers c (found_from answers cs) (path ++ codes "/")) (found_there answers (path ++ 47 ∷ join_with_byte 47 (map word_text (c ∷ cs))))) → From (c ∷ cs) path p
  found_to_by c cs path p true h hyp x = from_step c cs path p h (step_to c cs (path ++ codes "/") p (has_pattern c) refl hyp x)
  found_to_by c cs path p false h hyp x =
      let t = there_to p (path ++ 47 ∷ join_with_byte 47 (map word_text (c ∷ cs))) (is_there answers (path ++ 47 ∷ join_with_byte 47 (map word_text (c ∷ cs)))) refl x in
      record {
        texts = map word_text (c ∷ cs);
        chosen = all_plain (c ∷ cs) (path ++ codes "/") h;
        joined = sym t.0 ∙ ap (λ z. path ++ (47 ∷ z)) (join_tail (word_text c) (map word_text cs));
        checked = λ k. subst (λ z. is_there answers z ≡ true) t.0 t.1;
      }

  found_to : (cs : List Word) → To cs
  found_to [] path p (inl q) = record { texts = []; chosen = tt; joined = sym q ∙ sym (append-nil path); checked = λ k. no_way k }
  found_to [] path p (inr x) = absurd x
  found_to (c ∷ cs) path p x = found_to_by c cs path p (list_any has_pattern (c ∷ cs)) refl (found_to cs) x

  found_back_by : (c : Word) (cs : List Word) (path p : List ℕ) (b : Bool) → list_any has_pattern (c ∷ cs) ≡ b → Back cs → From (c ∷ cs) path p →
      IsIn p (cond b (found_step answers c (found_from answers cs) (path ++ codes "/")) (found_there answers (path ++ 47 ∷ join_with_byte 47 (map word_text (c ∷ cs)))))
  found_back_by c cs path p true h hyp x = step_back c cs (path ++ codes "/") p (has_pattern c) refl hyp (step_from c cs path p x.texts h x.chosen x.joined x.checked)
  found_back_by c cs path p false h hyp x =
      let e : path ++ 47 ∷ join_with_byte 47 (map word_text (c ∷ cs)) ≡ p =
      ap (λ z. path ++ (47 ∷ z)) (join_tail (word_text c) (map word_text cs)) ∙ ap (λ z. path ++ tail z) (sym (only_plain (c ∷ cs) (path ++ codes "/") x.texts h x.chosen)) ∙ sym x.joined in
      there_from p (path ++ 47 ∷ join_with_byte 47 (map word_text (c ∷ cs))) e (subst (λ z. is_there answers z ≡ true) (sym e) (x.checked (ends_none c cs h)))

  empty_back : (path p : List ℕ) (ts : List (List ℕ)) → Chosen answers (path ++ codes "/") [] ts → p ≡ path ++ tail ts → IsIn p (path ∷ [])
  empty_back path p [] x q = inl (sym (q ∙ append-nil path))
  empty_back path p (t ∷ ts) x q = absurd x

  found_back : (cs : List Word) → Back cs
  found_back [] path p x = empty_back path p x.texts x.chosen x.joined
  found_back (c ∷ cs) path p x = found_back_by c cs path p (list_any has_pattern (c ∷ cs)) refl (found_back cs) x

  -- the components of a word with a pattern character
  record Whole (cs : List Word) (p : List ℕ) : Type 0 where
    pub texts : List (List ℕ)
    pub chosen : Chosen answers [] cs texts
    pub joined : p ≡ join_with_byte 47 texts
    pub checked : ends_plain cs ≡ true → is_there answers p ≡ true

  whole_to : (cs : List Word) (p : List ℕ) → list_any has_pattern cs ≡ true → IsIn p (found_of answers cs) → Whole cs p
  whole_to [] p h x = absurd x
  whole_to (c ∷ cs) p h x =
      let s = step_to c cs [] p (has_pattern c) refl (found_to cs) x in
      record {
        texts = s.text ∷ s.rest.texts;
        chosen = (s.first, s.rest.chosen);
        joined = s.rest.joined ∙ sym (join_tail s.text s.rest.texts);
        checked = λ k. s.rest.checked (sym (ends_more c cs h) ∙ k);
      }

  whole_step : (c : Word) (cs : List Word) (p : List ℕ) (ts : List (List ℕ)) → list_any has_pattern (c ∷ cs) ≡ true → Chosen answers [] (c ∷ cs) ts
      → p ≡ join_with_byte 47 ts → (ends_plain (c ∷ cs) ≡ true → is_there answers p ≡ true) → Step c cs [] p
  whole_step c cs p [] h x q k = absurd x
  whole_step c cs p (t ∷ ts) h x q k = record { text = t; first = x.0; rest = record { texts = ts; chosen = x.1; joined = q ∙ join_tail t ts; checked = λ e. k (ends_more c cs h ∙ e) } }

  whole_back : (cs : List Word) (p : List ℕ) → list_any has_pattern cs ≡ true → Whole cs p → IsIn p (found_of answers cs)
  whole_back [] p h x = no_way h
  whole_back (c ∷ cs) p h x = step_back c cs [] p (has_pattern c) refl (found_back cs) (whole_step c cs p x.texts h x.chosen x.joined x.checked)

both_false : (b : Bool) → cond b false false ≡ false
both_false true = refl
both_false false = refl

or_assoc : (a b c : Bool) → ((a || b) || c) ≡ (a || (b || c))
or_assoc true b c = refl
or_assoc false b c = refl

-- a word's pattern characters are those of its components
slash_plain : (m : ℕ × Bool) → (m.0 == 47) ≡ true → is_pattern m ≡ false
slash_plain m h = ap (λ c. cond m.1 (is_pattern_char c) false) (eqb-true m.0 47 h) ∙ both_false m.1

first_pattern : (x : ℕ × Bool) (parts : List Word) → list_any has_pattern (onto_first x parts) ≡ (is_pattern x || list_any has_pattern parts)
first_pattern x [] = or_assoc (is_pattern x) false false
first_pattern x (w ∷ ws) = or_assoc (is_pattern x) (has_pattern w) (list_any has_pattern ws)

components_by : (m : ℕ × Bool) (w : Word) (b : Bool) → (m.0 == 47) ≡ b → list_any has_pattern (components w) ≡ has_pattern w →
    list_any has_pattern (cond b ([] ∷ components w) (onto_first m (components w))) ≡ (is_pattern m || has_pattern w)
components_by m w true h k = k ∙ ap (λ b. b || has_pattern w) (sym (slash_plain m h))
components_by m w false h k = first_pattern m (components w) ∙ ap (λ b. is_pattern m || b) k

pub components_pattern : (w : Word) → list_any has_pattern (components w) ≡ has_pattern w
components_pattern [] = refl
components_pattern (m ∷ w) = components_by m w (m.0 == 47) refl (components_pattern w)

expands_by : (answers : Call → Answer) (w : Word) → has_pattern w ≡ true → (l : List (List ℕ)) → found_of answers (components w) ≡ l → Expands answers w (or_itself w l)
expands_by answers w h [] q =
    itself
    (λ p x. nothing_in p (whole_back answers (components w) p (components_pattern w ∙ h) (record { texts = x.texts; chosen = x.chosen; joined = x.joined; checked = x.checked })))
  where
    nothing_in : (p : List ℕ) → IsIn p (found_of answers (components w)) → ⊥
    nothing_in p y = subst (IsIn p) q y
expands_by answers w h (p ∷ ps) q = found (ordered (p ∷ ps)) (λ r. (to_named r, from_named r)) (ordered_sorted (p ∷ ps)) filled
  where
    to_named : (r : List ℕ) → IsIn r (ordered (p ∷ ps)) → Named answers w r
    to_named r x =
        let y = whole_to answers (components w) r (components_pattern w ∙ h) (subst (IsIn r) (sym q) (from_ordered r (p ∷ ps) x)) in
        record { texts = y.texts; chosen = y.chosen; joined = y.joined; checked = y.checked }

    from_named : (r : List ℕ) → Named answers w r → IsIn r (ordered (p ∷ ps))
    from_named r x =
        to_ordered r (p ∷ ps) (subst (IsIn r) q
        (whole_back answers (components w) r (components_pattern w ∙ h) (record { texts = x.texts; chosen = x.chosen; joined = x.joined; checked = x.checked })))

    filled : ordered (p ∷ ps) ≢ []
    filled e = subst (IsIn p) e (to_ordered p (p ∷ ps) (inl refl))

-- where each call has one answer, the calls of expansion give what the word stands for
pub expansion-is : (answers : Call → Answer) (w : Word) → has_pattern w ≡ true
    → Gives answers (names_of w) (or_itself w (found_of answers (components w))) × Expands answers w (or_itself w (found_of answers (components w)))
expansion-is answers w h = (gives_names answers w, expands_by answers w h (found_of answers (components w)) refl)
