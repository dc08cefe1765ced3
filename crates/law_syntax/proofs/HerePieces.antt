-- The pieces that are computed of the body of a here document are those of the rule, and no others are.
use Rattle.std.proofs.Common.{◌≡◌, refl, sym, ap, subst, ◌∙◌, ℕ, zero, suc, ◌≤◌, ◌<◌, Bool, true, false, ◌==◌, List, [], ◌∷◌, ◌++◌, length, arith, append_assoc, append-nil}
use Rattle.std.specs.Prelude.{if◌then◌else◌}
use Rattle.std.specs.List.{list_all}
use Rattle.std.specs.Char.{encode_utf8}
use Rattle.std.specs.Str.{chars, encode_utf8_all}
use Rattle.std.proofs.lemmas.Bool.{and_parts, and_from, eqb-true}
use Rattle.std.proofs.lemmas.Str.{length-le-encodes}
use Rattle.rc_model.specs.Syntax.Tokens.{is_name_char}
use Rattle.rc_model.specs.Syntax.Tree.{Node, Many, none, more, snoc}
use Rattle.rc_model.specs.Syntax.Tree as t
use Rattle.rc_model.specs.Syntax.HereDocs.{Plain, Dollar, Naming, with_text, piece_begun_by, pieces_from}
use Rattle.rc_model.specs.Syntax.HerePieces.{goes_on_name, begins_dollar, ends_text, past_caret, StandFor, ended, itself, doubled, alone, HavePieces, end, a_text, a_name, HerePiecesByRule}

-- pieces after others
abbrev joined : Many t.piece → Many t.piece → Many t.piece
joined none qs = qs
joined (more p ps) qs = more p (joined ps qs)

joined_snoc : (ps : Many t.piece) (p : Node t.piece) (qs : Many t.piece) → joined (snoc ps p) qs ≡ joined ps (more p qs)
joined_snoc none p qs = refl
joined_snoc (more q ps) p qs = ap (λ z. more q z) (joined_snoc ps p qs)

joined_none : (ps : Many t.piece) → joined ps none ≡ ps
joined_none none = refl
joined_none (more p ps) = ap (λ z. more p z) (joined_none ps)

-- one character after another
plain_other : (bs : List ℕ) (before : Many t.piece) (c : ℕ) (cs : List ℕ) → (c == 36) ≡ false → pieces_from (Plain bs) before (c ∷ cs) ≡ pieces_from (Plain (bs ++ encode_utf8 c)) before cs
plain_other bs before c cs h = ap (λ b. pieces_from (if b then Dollar bs else Plain (bs ++ encode_utf8 c)) before cs) h

dollar_alone : (bs : List ℕ) (before : Many t.piece) (cs : List ℕ) → goes_on_name cs ≡ false → begins_dollar cs ≡ false
    → pieces_from (Dollar bs) before cs ≡ pieces_from (Plain (bs ++ 36 ∷ [])) before cs
dollar_alone bs before [] h k = refl
dollar_alone bs before (c ∷ cs) h k =
    ap (λ b. pieces_from (if b then Naming (encode_utf8 c) else (if c == 36 then Plain (bs ++ 36 ∷ []) else Plain (bs ++ 36 ∷ encode_utf8 c))) (if b then with_text before bs else before) cs) h
    ∙ ap (λ b. pieces_from (if b then Plain (bs ++ 36 ∷ []) else Plain (bs ++ 36 ∷ encode_utf8 c)) before cs) k
    ∙ ap (λ z. pieces_from (Plain z) before cs) (sym (append_assoc bs (36 ∷ []) (encode_utf8 c)))
    ∙ sym (plain_other (bs ++ 36 ∷ []) before c cs k)

stand_for : (rest cs text : List ℕ) → StandFor rest cs text → (bs : List ℕ) (before : Many t.piece) → pieces_from (Plain bs) before cs ≡ pieces_from (Plain (bs ++ encode_utf8_all text)) before rest
unfolding encode_utf8
stand_for rest cs text ended bs before = ap (λ z. pieces_from (Plain z) before rest) (sym (append-nil bs))
stand_for rest cs text (itself c cs' text' h k) bs before =
    plain_other bs before c cs' h ∙ stand_for rest cs' text' k (bs ++ encode_utf8 c) before
    ∙ ap (λ z. pieces_from (Plain z) before rest) (append_assoc bs (encode_utf8 c) (encode_utf8_all text'))
stand_for rest cs text (doubled cs' text' k) bs before =
    stand_for rest cs' text' k (bs ++ 36 ∷ []) before ∙ ap (λ z. pieces_from (Plain z) before rest) (append_assoc bs (36 ∷ []) (encode_utf8_all text'))
stand_for rest cs text (alone cs' text' h d k) bs before =
    dollar_alone bs before cs' h d ∙ stand_for rest cs' text' k (bs ++ 36 ∷ []) before
    ∙ ap (λ z. pieces_from (Plain z) before rest) (append_assoc bs (36 ∷ []) (encode_utf8_all text'))

-- names
name_begins : (bs : List ℕ) (before : Many t.piece) (c d : ℕ) (cs : List ℕ) → (c == 36) ≡ true → is_name_char d ≡ true
    → pieces_from (Plain bs) before (c ∷ d ∷ cs) ≡ pieces_from (Naming (encode_utf8 d)) (with_text before bs) cs
name_begins bs before c d cs h k =
    ap (λ b. pieces_from (if b then Dollar bs else Plain (bs ++ encode_utf8 c)) before (d ∷ cs)) h
    ∙ ap (λ b. pieces_from (if b then Naming (encode_utf8 d) else (if d == 36 then Plain (bs ++ 36 ∷ []) else Plain (bs ++ 36 ∷ encode_utf8 d))) (if b then with_text before bs else before) cs) k

naming : (name : List ℕ) → list_all is_name_char name ≡ true → (bs : List ℕ) (before : Many t.piece) (rest : List ℕ)
    → pieces_from (Naming bs) before (name ++ rest) ≡ pieces_from (Naming (bs ++ encode_utf8_all name)) before rest
naming [] h bs before rest = ap (λ z. pieces_from (Naming z) before rest) (sym (append-nil bs))
naming (c ∷ name) h bs before rest =
    let k = and_parts (is_name_char c) (list_all is_name_char name) h in
    ap (λ b. pieces_from (if b then Naming (bs ++ encode_utf8 c) else (if c == 94 then Plain [] else piece_begun_by c)) (if b then before else snoc before (t.Name bs)) (name ++ rest)) k.0
    ∙ naming name k.1 (bs ++ encode_utf8 c) before rest
    ∙ ap (λ z. pieces_from (Naming z) before rest) (append_assoc bs (encode_utf8 c) (encode_utf8_all name))

after_caret : (before : Many t.piece) (c : ℕ) (cs : List ℕ) (b : Bool) → pieces_from (if b then Plain [] else piece_begun_by c) before cs ≡ pieces_from (Plain []) before (if b then cs else c ∷ cs)
after_caret before c cs true = refl
after_caret before c cs false = refl

name_ends : (bs : List ℕ) (before : Many t.piece) (rest : List ℕ) → goes_on_name rest ≡ false → pieces_from (Naming bs) before rest ≡ pieces_from (Plain []) (snoc before (t.Name bs)) (past_caret rest)
name_ends bs before [] h = refl
name_ends bs before (c ∷ cs) h =
    ap (λ b. pieces_from (if b then Naming (bs ++ encode_utf8 c) else (if c == 94 then Plain [] else piece_begun_by c)) (if b then before else snoc before (t.Name bs)) cs) h
    ∙ after_caret (snoc before (t.Name bs)) c cs (c == 94)

-- the end of a text
text_ends : (bs : List ℕ) (before : Many t.piece) (rest : List ℕ) → ends_text rest ≡ true → pieces_from (Plain bs) before rest ≡ pieces_from (Plain []) (with_text before bs) rest
text_ends bs before [] h = refl
text_ends bs before (c ∷ []) h = let k = (and_parts (c == 36) false h).1 in absurd cc
text_ends bs before (c ∷ d ∷ cs) h =
    let k = and_parts (c == 36) (is_name_char d) h in
    name_begins bs before c d cs k.0 k.1 ∙ sym (name_begins [] (with_text before bs) c d cs k.0 k.1)

some_text : (before : Many t.piece) (bs : List ℕ) → 0 < length bs → with_text before bs ≡ snoc before (t.Text bs)
some_text before [] h = absurd (omega (arith, h))
some_text before (b ∷ bs) h = refl

not_empty : (c : ℕ) (text : List ℕ) → 0 < length (encode_utf8_all (c ∷ text))
not_empty c text = let h = length-le-encodes (c ∷ text) in omega (arith, h)

-- what has pieces by the rule is computed to have them
by_rule : (cs : List ℕ) (ps : Many t.piece) → HavePieces cs ps → (before : Many t.piece) → pieces_from (Plain []) before cs ≡ joined before ps
by_rule cs ps end before = sym (joined_none before)
by_rule cs ps (a_text cs' rest c text qs s e k) before =
    stand_for rest cs (c ∷ text) s [] before ∙ text_ends (encode_utf8_all (c ∷ text)) before rest e
    ∙ ap (λ z. pieces_from (Plain []) z rest) (some_text before (encode_utf8_all (c ∷ text)) (not_empty c text))
    ∙ by_rule rest qs k (snoc before (t.Text (encode_utf8_all (c ∷ text)))) ∙ joined_snoc before (t.Text (encode_utf8_all (c ∷ text))) qs
by_rule cs ps (a_name cs' rest c name qs is all stops k) before =
    let parts = and_parts (is_name_char c) (list_all is_name_char name) all in
    ap (λ z. pieces_from (Plain []) before z) is ∙ name_begins [] before 36 c (name ++ rest) refl parts.0
    ∙ naming name parts.1 (encode_utf8 c) before rest ∙ name_ends (encode_utf8_all (c ∷ name)) before rest stops
    ∙ by_rule (past_caret rest) qs k (snoc before (t.Name (encode_utf8_all (c ∷ name)))) ∙ joined_snoc before (t.Name (encode_utf8_all (c ∷ name))) qs

-- ** all characters have pieces

-- a text comes first, which may be empty
record BeginsText (cs : List ℕ) : Type 0 where
  rest : List ℕ
  text : List ℕ
  ps : Many t.piece
  stands : StandFor rest cs text
  ends : ends_text rest ≡ true
  pieces : HavePieces rest ps

-- the rest of a name comes first, which may be empty
record BeginsName (cs : List ℕ) : Type 0 where
  name : List ℕ
  rest : List ℕ
  ps : Many t.piece
  is : cs ≡ name ++ rest
  all : list_all is_name_char name ≡ true
  stops : goes_on_name rest ≡ false
  pieces : HavePieces (past_caret rest) ps

abbrev Some_ : List ℕ → Type 0
Some_ cs = (ps : Many t.piece) × HavePieces cs ps

stands_for_nothing : (rest cs text : List ℕ) → StandFor rest cs text → text ≡ [] → rest ≡ cs
stands_for_nothing rest cs text ended e = refl
stands_for_nothing rest cs text (itself c cs' text' h k) e = absurd cc
stands_for_nothing rest cs text (doubled cs' text' k) e = absurd cc
stands_for_nothing rest cs text (alone cs' text' h d k) e = absurd cc

some_by : (cs rest text : List ℕ) (ps : Many t.piece) → StandFor rest cs text → ends_text rest ≡ true → HavePieces rest ps → Some_ cs
some_by cs rest [] ps s e k = (ps, subst (λ z. HavePieces z ps) (stands_for_nothing rest cs [] s refl) k)
some_by cs rest (c ∷ text) ps s e k = (more (t.Text (encode_utf8_all (c ∷ text))) ps, a_text cs rest c text ps s e k)

some : (cs : List ℕ) → BeginsText cs → Some_ cs
some cs b = some_by cs b.rest b.text b.ps b.stands b.ends b.pieces

nothing_left : BeginsText []
nothing_left = record { rest = []; text = []; ps = none; stands = ended; ends = refl; pieces = end }

text_other : (c : ℕ) (cs : List ℕ) → (c == 36) ≡ false → BeginsText cs → BeginsText (c ∷ cs)
text_other c cs h b = record { rest = b.rest; text = c ∷ b.text; ps = b.ps; stands = itself c cs b.text h b.stands; ends = b.ends; pieces = b.pieces }

text_alone : (c : ℕ) (cs : List ℕ) → (c == 36) ≡ true → goes_on_name cs ≡ false → begins_dollar cs ≡ false → BeginsText cs → BeginsText (c ∷ cs)
text_alone c cs h n d b =
    let at : 36 ≡ c = sym (eqb-true c 36 h) in
    record { rest = b.rest; text = 36 ∷ b.text; ps = b.ps; stands = subst (λ z. StandFor b.rest (z ∷ cs) (36 ∷ b.text)) at (alone cs b.text n d b.stands); ends = b.ends; pieces = b.pieces }

text_doubled : (c d : ℕ) (cs : List ℕ) → (c == 36) ≡ true → (d == 36) ≡ true → BeginsText cs → BeginsText (c ∷ d ∷ cs)
text_doubled c d cs h k b =
    let one : 36 ≡ c = sym (eqb-true c 36 h) in
    let two : 36 ≡ d = sym (eqb-true d 36 k) in
    record {
      rest = b.rest;
      text = 36 ∷ b.text;
      ps = b.ps;
      stands = subst (λ z. StandFor b.rest (z ∷ d ∷ cs) (36 ∷ b.text)) one (subst (λ z. StandFor b.rest (36 ∷ z ∷ cs) (36 ∷ b.text)) two (doubled cs b.text b.stands));
      ends = b.ends;
      pieces = b.pieces;
    }

text_before_name : (c d : ℕ) (cs : List ℕ) → (c == 36) ≡ true → is_name_char d ≡ true → BeginsName cs → BeginsText (c ∷ d ∷ cs)
text_before_name c d cs h k b =
    let at : c ≡ 36 = eqb-true c 36 h in
    record {
      rest = c ∷ d ∷ cs;
      text = [];
      ps = more (t.Name (encode_utf8_all (d ∷ b.name))) b.ps;
      stands = ended;
      ends = and_from (c == 36) (is_name_char d) h k;
      pieces = a_name (c ∷ d ∷ cs) b.rest d b.name b.ps (ap (λ z. z ∷ d ∷ cs) at ∙ ap (λ z. 36 ∷ d ∷ z) b.is) (and_from (is_name_char d) (list_all is_name_char b.name) k b.all) b.stops b.pieces;
    }

after_dollar : (c d : ℕ) (cs : List ℕ) (n m : Bool) → is_name_char d ≡ n → (d == 36) ≡ m → (c == 36) ≡ true → BeginsText (d ∷ cs) → BeginsText cs → BeginsName cs → BeginsText (c ∷ d ∷ cs)
after_dollar c d cs true m en em h one two name = text_before_name c d cs h en name
after_dollar c d cs false true en em h one two name = text_doubled c d cs h em two
after_dollar c d cs false false en em h one two name = text_alone c (d ∷ cs) h en em one

text_pair : (c d : ℕ) (cs : List ℕ) (b : Bool) → (c == 36) ≡ b → BeginsText (d ∷ cs) → BeginsText cs → BeginsName cs → BeginsText (c ∷ d ∷ cs)
text_pair c d cs true h one two name = after_dollar c d cs (is_name_char d) (d == 36) refl refl h one two name
text_pair c d cs false h one two name = text_other c (d ∷ cs) h one

text_last : (c : ℕ) (b : Bool) → (c == 36) ≡ b → BeginsText (c ∷ [])
text_last c true h = text_alone c [] h refl refl nothing_left
text_last c false h = text_other c [] h nothing_left

no_name : BeginsName []
no_name = record { name = []; rest = []; ps = none; is = refl; all = refl; stops = refl; pieces = end }

past : (c : ℕ) (cs : List ℕ) (b : Bool) → BeginsText (c ∷ cs) → BeginsText cs → Some_ (if b then cs else c ∷ cs)
past c cs true one two = some cs two
past c cs false one two = some (c ∷ cs) one

name_step : (c : ℕ) (cs : List ℕ) (b : Bool) → is_name_char c ≡ b → BeginsText (c ∷ cs) → BeginsText cs → BeginsName cs → BeginsName (c ∷ cs)
name_step c cs true h one two name =
    record {
      name = c ∷ name.name;
      rest = name.rest;
      ps = name.ps;
      is = ap (λ z. c ∷ z) name.is;
      all = and_from (is_name_char c)
          (list_all is_name_char name.name) h name.all;
      stops = name.stops;
      pieces = name.pieces;
    }
name_step c cs false h one two name =
    let p = past c cs (c == 94) one two in
    record { name = []; rest = c ∷ cs; ps = p.0; is = refl; all = refl; stops = h; pieces = p.1 }

record Begins (cs : List ℕ) : Type 0 where
  text : BeginsText cs
  name : BeginsName cs

begins_by : (c : ℕ) (cs : List ℕ) → BeginsText (c ∷ cs) → Begins cs → Begins (c ∷ cs)
begins_by c cs one b = record { text = one; name = name_step c cs (is_name_char c) refl one b.text b.name }

begins : (n : ℕ) (cs : List ℕ) → length cs ≤ n → Begins cs
begins n [] l = record { text = nothing_left; name = no_name }
begins zero (c ∷ cs) l = absurd (omega (arith, l))
begins (suc n) (c ∷ []) l = begins_by c [] (text_last c (c == 36) refl) (record { text = nothing_left; name = no_name })
begins (suc n) (c ∷ d ∷ cs) l =
    let one = begins n (d ∷ cs) (omega (arith, l)) in
    let two = begins n cs (omega (arith, l)) in
    begins_by c (d ∷ cs) (text_pair c d cs (c == 36) refl one.text two.text two.name) one

have : (cs : List ℕ) → HavePieces cs (pieces_from (Plain []) none cs)
have cs =
    let k = some cs (begins (length cs) cs (omega arith)).text in
    subst (HavePieces cs) (sym (by_rule cs k.0 k.1 none)) k.1

pub pieces_by_rule : HerePiecesByRule
pieces_by_rule true [] ps = (λ h. h, λ h. h)
pieces_by_rule true (b ∷ bs) ps = (λ h. h, λ h. h)
pieces_by_rule false body ps = (λ h. subst (HavePieces (chars body)) (sym h) (have (chars body)), λ k. sym (by_rule (chars body) ps k none))
