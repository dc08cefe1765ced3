-- A text that ends with a newline token is read apart from what follows it.
use Rattle.std.proofs.Common.{◌≡◌, ℕ, Bool, true, false, not, ◌==◌, if◌then◌else◌, List, [], ◌∷◌, ◌++◌, inl, inr, refl, sym, ap, subst, ◌∙◌, append-nil, length, arith}
use Rattle.std.specs.Prelude.{Result, Ok, Err, IsUtf8}
use Rattle.std.specs.Str.{chars}
use Rattle.std.proofs.lemmas.Str.{chars-append, encodes-chars, IsUtf8-append}
use Rattle.std.proofs.lemmas.Bool.{and_parts, and_from}
use Rattle.rc_model.specs.Syntax.Accepted.{lexemes}
use Rattle.rc_model.specs.Syntax.Text.{without_zero}
use Rattle.rc_model.specs.Syntax.Tokens as t
use Rattle.rc_model.specs.Syntax.Tokens.{Lexeme, Newline, Token, PendingHereDoc, Outcome, Cuts, Lexes, filled}
use Rattle.rc_model.specs.Mirrors.Reading as r
use Rattle.rc_model.specs.Mirrors.Reading.{LexerState, AfterCharacter, follow, finish}
use Rattle.rc_model.specs.declared.fault.SyntaxFault.{SyntaxFault}
use Rattle.rc_model.specs.declared.syntax.Place.{Place}
use Rattle.rc_model.specs.declared.syntax.Previous.TheVariants as previous
use Rattle.law_syntax.specs.ByteReading as bytes
use Rattle.law_syntax.specs.ByteReading.{after_bytes, through}
use Rattle.law_syntax.specs.Parts.{last_of, last_after, JoinsParts, SplitsParts}
use Rattle.law_syntax.proofs.CutRuns.{Cuts-run}
use Rattle.law_syntax.proofs.Total.{total}
use Rattle.law_syntax.proofs.Texts.{clean_back}
use Rattle.law_syntax.proofs.Cutting.{one_cut}
use Rattle.law_syntax.proofs.OfChars as of_chars
use Rattle.law_syntax.proofs.InPieces as in_pieces
use Rattle.law_syntax.proofs.Elsewhere.{Alike, elsewhere, lexemes_append}
use Rattle.law_syntax.proofs.Counts.{counts, heres, filled_apart, filled_lexemes, lexemes_filled}
use Rattle.law_syntax.proofs.LineEnds.{IsSettled, Settles, line_through}

-- a text with these tokens
record HasCut (text : List ℕ) (ts : List Token) : Type 0 where
  pub tokens : List Token
  pub bodies : List (List ℕ)
  pub clean : without_zero (chars text) ≡ true
  pub cut : Cuts previous.Apart [] t.first_place (chars text) (Ok (tokens, bodies))
  pub are : filled tokens bodies ≡ ts

tokens_or : Result (List Token) SyntaxFault → List Token → List Token
tokens_or (Ok ts) other = ts
tokens_or (Err f) other = other

cut_of : {text : List ℕ} {read : Result (List Token) SyntaxFault} → Lexes text read → (ts : List Token) → read ≡ Ok ts → HasCut text ts
unfolding tokens_or
cut_of (t.zero_byte cs rest h k) ts e = absurd cc
cut_of (t.cut (Ok x) h c) ts e = record { tokens = x.0; bodies = x.1; clean = h; cut = c; are = ap (λ z. tokens_or z ts) e }
cut_of (t.cut (Err f) h c) ts e = absurd cc

-- the bytes of a text are read as its characters are
run_bytes : (text : List ℕ) (s : LexerState) (due : List PendingHereDoc) (p : Place) → IsUtf8 text → bytes.run s due p text ≡ r.run s due p (chars text)
run_bytes text s due p u = ap (bytes.run s due p) (sym (encodes-chars text u)) ∙ of_chars.law s due p (chars text)

clean_both : (xs ys : List ℕ) → without_zero xs ≡ true → without_zero ys ≡ true → without_zero (xs ++ ys) ≡ true
clean_both [] ys h k = k
clean_both (x ∷ xs) ys h k = let p = and_parts (not (x == 0)) (without_zero xs) h in and_from (not (x == 0)) (without_zero (xs ++ ys)) p.0 (clean_both xs ys p.1 k)

-- ** the last token

last_append : (m : Lexeme) (ls : List Lexeme) (l : Lexeme) → last_after m (ls ++ l ∷ []) ≡ l
last_append m [] l = refl
last_append m (x ∷ ls) l = last_append x ls l

-- a `<<` without a mark stays the last one
last_filled : (m : Lexeme) (ls : List Lexeme) (bs : List (List ℕ)) → last_after m (filled_lexemes (ls ++ t.BareHere ∷ []) bs) ≡ t.BareHere
last_filled m [] [] = refl
last_filled m [] (b ∷ bs) = refl
last_filled m (x ∷ ls) [] = last_append x ls t.BareHere
last_filled m (x ∷ ls) (b ∷ bs) = by (t.is_here x) (last_filled (t.with_body x b) ls bs) (last_filled x ls (b ∷ bs))
  where
    by : (v : Bool) → last_after (t.with_body x b) (filled_lexemes (ls ++ t.BareHere ∷ []) bs) ≡ t.BareHere → last_after x (filled_lexemes (ls ++ t.BareHere ∷ []) (b ∷ bs)) ≡ t.BareHere →
        last_after m (if v then t.with_body x b ∷ filled_lexemes (ls ++ t.BareHere ∷ []) bs else x ∷ filled_lexemes (ls ++ t.BareHere ∷ []) (b ∷ bs)) ≡ t.BareHere
    by true f g = f
    by false f g = g

bare_is_last : (ts us : List Token) (u : Token) (bs : List (List ℕ)) → us ≡ u ∷ [] → u.lexeme ≡ t.BareHere → last_of (lexemes (filled (ts ++ us) bs)) ≡ t.BareHere
bare_is_last ts us u bs e h =
    ap (λ z. last_of (lexemes (filled (ts ++ z) bs))) e
    ∙ ap last_of (lexemes_filled (ts ++ u ∷ []) bs)
    ∙ ap (λ z. last_of (filled_lexemes z bs)) (lexemes_append ts (u ∷ []))
    ∙ ap (λ z. last_of (filled_lexemes (lexemes ts ++ z ∷ []) bs)) h
    ∙ last_filled t.BareHere (lexemes ts) bs

-- ** the reading of the first part

-- what a first part comes to, and what the reading of the whole goes on with
record Ends (w : AfterCharacter) (x : List Token × List (List ℕ)) : Type 0 where
  pub is : w ≡ Ok (x.0, x.1, r.Between previous.Apart, [])

ok_parts : (ts us : List Token) (bs cs : List (List ℕ)) → ◌≡◌ {A = Outcome} (Ok (ts, bs)) (Ok (us, cs)) → (ts ≡ us) × (bs ≡ cs)
ok_parts ts us bs cs h = (ap (λ o. first_or o ts) h, ap (λ o. second_or o bs) h)
  where
    first_or : Outcome → List Token → List Token
    first_or (Ok x) d = x.0
    first_or (Err f) d = d

    second_or : Outcome → List (List ℕ) → List (List ℕ)
    second_or (Ok x) d = x.1
    second_or (Err f) d = d

ends_by : (w : AfterCharacter) (q : Place) (tokens : List Token) (bodies : List (List ℕ)) → IsSettled w → follow w (λ s due. finish s due q) ≡ Ok (tokens, bodies) →
    last_of (lexemes (filled tokens bodies)) ≡ Newline → Ends w (tokens, bodies)
ends_by (Err f) q tokens bodies h e l = absurd cc
ends_by (Ok x) q tokens bodies h e l = by (finish x.2 x.3 q) (h q) e
  where
    by : (o : Outcome) → Settles x.2 x.3 o → t.join x.0 x.1 o ≡ Ok (tokens, bodies) → Ends (Ok x) (tokens, bodies)
    by (Err f) k e = absurd cc
    by (Ok y) (inl k) e =
        let p = ok_parts (x.0 ++ y.0) tokens (x.1 ++ y.1) bodies e in
        let ts : x.0 ≡ tokens = sym (append-nil x.0) ∙ ap (λ z. x.0 ++ z) (sym k.2) ∙ p.0 in
        let bs : x.1 ≡ bodies = sym (append-nil x.1) ∙ ap (λ z. x.1 ++ z) (sym k.3) ∙ p.1 in
        record { is = four ts bs k.0 k.1 }
      where
        four : {ts' us' : List Token} {bs' cs' : List (List ℕ)} {s s' : LexerState} {d d' : List PendingHereDoc} → ts' ≡ us' → bs' ≡ cs' → s ≡ s' → d ≡ d' →
            ◌≡◌ {A = AfterCharacter} (Ok (ts', bs', s, d)) (Ok (us', cs', s', d'))
        four a b c d = cc
    by (Ok y) (inr k) e =
        let p = ok_parts (x.0 ++ y.0) tokens (x.1 ++ y.1) bodies e in
        let last = bare_is_last x.0 y.0 k.0 bodies k.1 k.2 in
        let same : Newline ≡ t.BareHere = sym l ∙ ap (λ z. last_of (lexemes (filled z bodies))) (sym p.0) ∙ last in
        absurd cc

-- ** both parts

record Whole (text : List ℕ) (ms : List Lexeme) : Type 0 where
  pub tokens : List Token
  pub cut : Lexes text (Ok tokens)
  pub are : lexemes tokens ≡ ms

-- a text whose reading is known
lexes_by : (text : List ℕ) (o : Outcome) → without_zero (chars text) ≡ true → r.run (r.Between previous.Apart) [] t.first_place (chars text) ≡ o → Lexes text (t.result_of o)
lexes_by text o h e =
    let x = total (chars text) previous.Apart [] t.first_place in
    subst (λ z. Lexes text (t.result_of z)) (sym (Cuts-run x.cut) ∙ e) (t.cut x.outcome h x.cut)

alike_ok : (x : List Token × List (List ℕ)) (o : Outcome) → Alike (Ok x) o → (y : List Token) × (o ≡ Ok (y, x.1)) × (lexemes y ≡ lexemes x.0)
alike_ok x (Ok y) a = (y.0, ap (λ z. Ok (y.0, z)) (sym a.1), sym a.0)
alike_ok x (Err f) a = absurd a

-- the reading of a first part, and that of the whole by the reading of the rest
record FirstRead (first second : List ℕ) (tokens : List Token) (bodies : List (List ℕ)) (q : Place) : Type 0 where
  pub run : r.run (r.Between previous.Apart) [] t.first_place (chars (first ++ second)) ≡ t.join tokens bodies (r.run (r.Between previous.Apart) [] q (chars second))

first_read : (front second : List ℕ) (ts : List Token) → IsUtf8 (front ++ 10 ∷ []) → IsUtf8 second → (a : HasCut (front ++ 10 ∷ []) ts) → last_of (lexemes ts) ≡ Newline →
    FirstRead (front ++ 10 ∷ []) second a.tokens a.bodies (after_bytes t.first_place (front ++ 10 ∷ []))
first_read front second ts u v a l =
    let first = front ++ 10 ∷ [] in
    let s0 : LexerState = r.Between previous.Apart in
    let q = after_bytes t.first_place first in
    let w = through s0 [] t.first_place first in
    let alone : follow w (λ s due. finish s due q) ≡ Ok (a.tokens, a.bodies) =
    sym (in_pieces.law s0 [] t.first_place first []) ∙ ap (bytes.run s0 [] t.first_place) (append-nil first) ∙ run_bytes first s0 [] t.first_place u ∙ Cuts-run a.cut in
    let ends = ends_by w q a.tokens a.bodies (line_through front s0 [] t.first_place) alone (ap (λ z. last_of (lexemes z)) a.are ∙ l) in
    record {
      run =
          sym (run_bytes (first ++ second) s0 [] t.first_place (IsUtf8-append first second u v)) ∙ in_pieces.law s0 [] t.first_place first second
          ∙ ap (λ z. follow z (λ s due. bytes.run s due q second)) ends.is ∙ ap (t.join a.tokens a.bodies) (run_bytes second s0 [] q v);
    }

whole_of : (front second : List ℕ) (ts us : List Token) → IsUtf8 (front ++ 10 ∷ []) → IsUtf8 second → HasCut (front ++ 10 ∷ []) ts → last_of (lexemes ts) ≡ Newline → HasCut second us →
    Whole ((front ++ 10 ∷ []) ++ second) (lexemes ts ++ lexemes us)
whole_of front second ts us u v a l b =
    let first = front ++ 10 ∷ [] in
    let q = after_bytes t.first_place first in
    let there = elsewhere b.cut t.first_place t.first_place [] q tt in
    let y = alike_ok (b.tokens, b.bodies) there.outcome there.alike in
    let o : Outcome = Ok (a.tokens ++ y.0, a.bodies ++ b.bodies) in
    let run : r.run (r.Between previous.Apart) [] t.first_place (chars (first ++ second)) ≡ o =
    (first_read front second ts u v a l).run ∙ ap (t.join a.tokens a.bodies) (Cuts-run there.cut ∙ y.1) in
    let clean : without_zero (chars (first ++ second)) ≡ true = ap without_zero (chars-append first second u) ∙ clean_both (chars first) (chars second) a.clean b.clean in
    let count : length a.bodies ≡ heres a.tokens = let k = counts a.cut in omega arith in
    record {
      tokens = filled (a.tokens ++ y.0) (a.bodies ++ b.bodies);
      cut = lexes_by (first ++ second) o clean run;
      are =
          ap lexemes (filled_apart a.tokens y.0 a.bodies b.bodies count) ∙ lexemes_append (filled a.tokens a.bodies) (filled y.0 b.bodies)
          ∙ ap (λ z. lexemes z ++ lexemes (filled y.0 b.bodies)) a.are
          ∙ ap (λ z. lexemes ts ++ z) (lexemes_filled y.0 b.bodies ∙ ap (λ z. filled_lexemes z b.bodies) y.2 ∙ sym (lexemes_filled b.tokens b.bodies) ∙ ap lexemes b.are);
    }

pub joined : JoinsParts
joined front second ts us u v a l b =
    let w = whole_of front second ts us u v (cut_of a ts refl) l (cut_of b us refl) in (w.tokens, w.cut, w.are)

-- ** the second part of a whole

refused_whole : (front second : List ℕ) (ts vs : List Token) (f : SyntaxFault) → IsUtf8 (front ++ 10 ∷ []) → IsUtf8 second → (a : HasCut (front ++ 10 ∷ []) ts) → last_of (lexemes ts) ≡ Newline →
    HasCut ((front ++ 10 ∷ []) ++ second) vs → Cuts previous.Apart [] t.first_place (chars second) (Err f) → ⊥
refused_whole front second ts vs f u v a l w c =
    let q = after_bytes t.first_place (front ++ 10 ∷ []) in
    let there = elsewhere c t.first_place t.first_place [] q tt in
    by there.outcome there.alike (sym (Cuts-run w.cut) ∙ (first_read front second ts u v a l).run ∙ ap (t.join a.tokens a.bodies) (Cuts-run there.cut))
  where
    by : (o : Outcome) → Alike (Err f) o → Ok (w.tokens, w.bodies) ≡ t.join a.tokens a.bodies o → ⊥
    by (Ok y) k e = k
    by (Err g) k e = cc

pub split : SplitsParts
split front second ts vs u v a l c =
    let first = front ++ 10 ∷ [] in
    let w = cut_of c vs refl in
    let clean : without_zero (chars second) ≡ true = clean_back (chars first) (chars second) (ap without_zero (sym (chars-append first second u)) ∙ w.clean) in
    let x = total (chars second) previous.Apart [] t.first_place in
    by x.outcome w clean x.cut
  where
    by : (o : Outcome) → HasCut ((front ++ 10 ∷ []) ++ second) vs → without_zero (chars second) ≡ true → Cuts previous.Apart [] t.first_place (chars second) o →
        (us : List Token) × Lexes second (Ok us) × (lexemes vs ≡ lexemes ts ++ lexemes us)
    by (Ok x) w clean k =
        let us = filled x.0 x.1 in
        let cut : Lexes second (Ok us) = t.cut (Ok x) clean k in
        let both = joined front second ts us u v a l cut in
        (us, cut, ap lexemes (one_cut c both.1) ∙ both.2)
    by (Err f) w clean k = absurd (refused_whole front second ts vs f u v (cut_of a ts refl) l w k)
