-- The lexemes of a text are spelled as lexemes are.
use Rattle.std.proofs.Common.{◌≡◌, refl, ap, sym, ◌∙◌, subst, ℕ, Bool, true, false, not, ◌==◌, if◌then◌else◌, List, [], ◌∷◌}
use Rattle.std.proofs.Common.{◌++◌, Some, Result, Ok, Err, rules}
use Rattle.std.specs.Prelude.{option_map, find, bytes_eq}
use Rattle.std.specs.List.{list_all}
use Rattle.std.specs.Str.{chars}
use Rattle.std.proofs.lemmas.Bool.{and_parts, and_from}
use Rattle.std.proofs.lemmas.Str.{chars-encodes, scalars-chars}
use lib.Utf8.{scalar, scalars, encodes}
use Rattle.rc_model.specs.Syntax.Accepted.{lexemes}
use Rattle.rc_model.specs.Syntax.Text.{without_zero}
use Rattle.rc_model.specs.Syntax.Tokens.{Lexeme, Token, IsLexeme, Cuts, Lexes, Outcome, IsLongestRun, InQuotes, Bodies, word_goes_on}
use Rattle.rc_model.specs.Syntax.Tokens.{name_goes_on, is_in_word, class_of, is_name_char}
use Rattle.rc_model.specs.Syntax.Tokens.{doubled_quotes, unquoted_text, meant, names, wants_caret, tokens_of, token, join, filled}
use Rattle.rc_model.specs.Syntax.Tokens.{with_body, result_of, operators}
use Rattle.rc_model.specs.Syntax.Tokens as k
use Rattle.rc_model.specs.Mirrors.Spelling.{IsSpelled, AreSpelled, IsText, SpellingLaw}
use Rattle.law_syntax.proofs.Texts.{text_of, some_text, scalars_front, scalars_back, clean_front, clean_back, name_encodes}
use Rattle.law_syntax.proofs.Quotes.{quoted_text_chars, unquoted}
use Rattle.rc_model.specs.declared.fault.SyntaxFault.{SyntaxFault}
use Rattle.rc_model.specs.declared.syntax.Place.{Place}
use Rattle.rc_model.specs.declared.syntax.Previous.{Previous}
use Rattle.rc_model.specs.declared.syntax.Class.{Class}
use Rattle.rc_model.specs.declared.syntax.Previous.TheVariants as previous
use Rattle.rc_model.specs.declared.syntax.Class.TheVariants as class

in_word_off : (c : Class) (run rest : List ℕ) → is_in_word c (run ++ rest) ≡ true → is_in_word c (run ++ []) ≡ true
in_word_off class.Ordinary run rest h = refl
in_word_off class.Backslash [] rest h = refl
in_word_off class.Backslash (d ∷ run) rest h = h
in_word_off class.Operates run rest h = h
in_word_off class.Blank run rest h = h
in_word_off class.LineEnd run rest h = h
in_word_off class.Hash run rest h = h
in_word_off class.Quote run rest h = h

run_off : (cs rest : List ℕ) → IsLongestRun word_goes_on cs rest → IsLongestRun word_goes_on cs []
run_off [] rest r = k.stop [] refl
run_off (c ∷ cs) rest (k.next _ _ _ h r) = k.next c cs [] (in_word_off (class_of c) cs rest h) (run_off cs rest r)

names_run : (cs rest : List ℕ) → IsLongestRun name_goes_on cs rest → list_all is_name_char cs ≡ true
names_run [] rest r = refl
names_run (c ∷ cs) rest (k.next _ _ _ h r) = rw h (names_run cs rest r)

-- what stands between quotes is a text with its quotes doubled
record Undoubled (cs : List ℕ) : Type 0 where
  inner : List ℕ
  doubled : doubled_quotes inner ≡ cs
  scalar : scalars inner ≡ true
  clean : without_zero inner ≡ true

undoubled : (cs : List ℕ) → InQuotes cs → scalars cs ≡ true → without_zero cs ≡ true → Undoubled cs
undoubled [] k.nothing s z = record { inner = []; doubled = refl; scalar = refl; clean = refl }
undoubled (c ∷ cs) (k.plain _ _ e q) s z =
    let p = and_parts (scalar c) (scalars cs) s in
    let o = and_parts (not (c == 0)) (without_zero cs) z in
    let u = undoubled cs q p.1 o.1 in
    record {
      inner = c ∷ u.inner;
      doubled = rw e (ap (λ l. c ∷ l) u.doubled);
      scalar = and_from (scalar c) (scalars u.inner) p.0 u.scalar;
      clean = and_from (not (c == 0)) (without_zero u.inner) o.0 u.clean;
    }
undoubled (_ ∷ _ ∷ cs) (k.doubled _ q) s z =
    let u = undoubled cs q s z in
    record { inner = 39 ∷ u.inner; doubled = ap (λ l. 39 ∷ 39 ∷ l) u.doubled; scalar = u.scalar; clean = u.clean }

-- so is each operator
abbrev AreSpelledOperators : List (List ℕ × Lexeme) → Type 0
AreSpelledOperators [] = Unit {0}
AreSpelledOperators (o ∷ os) = IsSpelled o.1 × AreSpelledOperators os

found_spelled : (cs : List ℕ) (l : Lexeme) (os : List (List ℕ × Lexeme)) → AreSpelledOperators os →
    option_map (λ o. o.1) (find (λ o. bytes_eq o.0 cs) os) ≡ Some l → IsSpelled l
found_spelled cs l [] w e = cc
found_spelled cs l (o ∷ os) w e = go (bytes_eq o.0 cs) e (λ f. found_spelled cs l os w.1 f)
  where
    go : (q : Bool) → option_map (λ o. o.1) (if q then Some o else find (λ o. bytes_eq o.0 cs) os) ≡ Some l →
        (option_map (λ o. o.1) (find (λ o. bytes_eq o.0 cs) os) ≡ Some l → IsSpelled l) → IsSpelled l
    go true e then' = let same : o.1 ≡ l = cc in subst IsSpelled same w.0
    go false e then' = then' e

either_spelled : (q : Bool) (a b : Lexeme) → IsSpelled a → IsSpelled b → IsSpelled (if q then a else b)
either_spelled true a b v w = v
either_spelled false a b v w = w

meant_spelled : (prev : Previous) (rest : List ℕ) (l : Lexeme) → IsSpelled l → IsSpelled (meant prev rest l)
meant_spelled previous.Name rest k.LeftParen w = tt
meant_spelled prev rest k.Dollar w = either_spelled (names rest) k.Dollar k.BareDollar tt tt
meant_spelled prev rest k.DollarCount w = either_spelled (names rest) k.DollarCount k.BareDollar tt tt
meant_spelled prev rest k.DollarFlat w = either_spelled (names rest) k.DollarFlat k.BareDollar tt tt
meant_spelled prev rest l w = w

operators_spelled : AreSpelledOperators operators
operators_spelled = search rules depth 40

lexeme_spelled : (prev : Previous) (cs rest : List ℕ) (l : Lexeme) → IsLexeme prev cs rest l → scalars cs ≡ true → without_zero cs ≡ true → IsSpelled l
lexeme_spelled _ _ _ _ (k.word prev c cs rest b r) s z =
    let w : IsLongestRun word_goes_on (chars (encodes (c ∷ cs))) [] = subst (λ x. IsLongestRun word_goes_on x []) (sym (chars-encodes (c ∷ cs) s)) (run_off (c ∷ cs) rest r) in
    (text_of (c ∷ cs) s z, (some_text c cs s, w))
lexeme_spelled _ _ _ _ (k.name c cs rest r) s z =
    let e = names_run (c ∷ cs) rest r in
    (some_text c cs s, subst (λ x. list_all is_name_char x ≡ true) (sym (name_encodes (c ∷ cs) e)) e)
lexeme_spelled _ _ _ _ (k.quoted prev cs rest q b) s z =
    let u = undoubled cs q (scalars_front cs (39 ∷ []) s) (clean_front cs (39 ∷ []) z) in
    let same : unquoted_text (encodes (39 ∷ cs ++ 39 ∷ [])) ≡ encodes u.inner =
    ap (λ x. unquoted_text (encodes (39 ∷ x ++ 39 ∷ []))) (sym u.doubled) ∙ ap unquoted_text (quoted_text_chars u.inner) ∙ unquoted (encodes u.inner) in
    subst IsText (sym same) (text_of u.inner u.scalar u.clean)
lexeme_spelled _ _ _ _ (k.operated prev cs rest l a o n g) s z =
    meant_spelled prev rest l (found_spelled cs l operators operators_spelled o)

spelled_append : (xs ys : List Token) → AreSpelled (lexemes xs) → AreSpelled (lexemes ys) → AreSpelled (lexemes (xs ++ ys))
spelled_append [] ys w v = v
spelled_append (x ∷ xs) ys w v = (w.0, spelled_append xs ys w.1 v)

as_mark_spelled : (l : Lexeme) → IsSpelled (k.as_mark l)
as_mark_spelled (k.Quoted text) = text_of [] refl refl
as_mark_spelled _ = text_of [] refl refl

caret_spelled : (q : Bool) (p : Place) → AreSpelled (lexemes (if q then token k.FreeCaret p p ∷ [] else []))
caret_spelled true p = (tt, tt)
caret_spelled false p = tt

tokens_spelled : (prev : Previous) (l : Lexeme) (p q : Place) → IsSpelled l → AreSpelled (lexemes (tokens_of prev l p q))
tokens_spelled (previous.Here begin end) l p q w = (as_mark_spelled l, tt)
tokens_spelled previous.Apart l p q w = spelled_append (k.caret previous.Apart l p) (token l p q ∷ []) (caret_spelled (wants_caret previous.Apart l) p) (w, tt)
tokens_spelled previous.Word l p q w = spelled_append (k.caret previous.Word l p) (token l p q ∷ []) (caret_spelled (wants_caret previous.Word l) p) (w, tt)
tokens_spelled previous.Quoted l p q w = spelled_append (k.caret previous.Quoted l p) (token l p q ∷ []) (caret_spelled (wants_caret previous.Quoted l) p) (w, tt)
tokens_spelled previous.Name l p q w = spelled_append (k.caret previous.Name l p) (token l p q ∷ []) (caret_spelled (wants_caret previous.Name l) p) (w, tt)
tokens_spelled previous.Dollar l p q w = spelled_append (k.caret previous.Dollar l p) (token l p q ∷ []) (caret_spelled (wants_caret previous.Dollar l) p) (w, tt)

-- bodies are texts
abbrev AreTexts : List (List ℕ) → Type 0
AreTexts [] = Unit {0}
AreTexts (body ∷ bodies) = IsText body × AreTexts bodies

texts_append : (xs ys : List (List ℕ)) → AreTexts xs → AreTexts ys → AreTexts (xs ++ ys)
texts_append [] ys w v = v
texts_append (x ∷ xs) ys w v = (w.0, texts_append xs ys w.1 v)

bodies_texts : {due : List k.PendingHereDoc} {cs rest : List ℕ} {bodies : List (List ℕ)} → Bodies due cs rest bodies → scalars cs ≡ true → without_zero cs ≡ true → AreTexts bodies
bodies_texts (k.all _) s z = tt
bodies_texts (k.one d due body end cs rest bodies b r) s z =
    let text = text_of body (scalars_front body end (scalars_front (body ++ end) cs s)) (clean_front body end (clean_front (body ++ end) cs z)) in
    (text, bodies_texts r (scalars_back (body ++ end) cs s) (clean_back (body ++ end) cs z))

abbrev IsSpelledOutcome : Outcome → Type 0
IsSpelledOutcome (Ok read) = AreSpelled (lexemes read.0) × AreTexts read.1
IsSpelledOutcome (Err f) = Unit {0}

join_spelled : (ts : List Token) (bodies : List (List ℕ)) (o : Outcome) → AreSpelled (lexemes ts) → AreTexts bodies → IsSpelledOutcome o → IsSpelledOutcome (join ts bodies o)
join_spelled ts bodies (Ok read) w b v = (spelled_append ts read.0 w v.0, texts_append bodies read.1 b v.1)
join_spelled ts bodies (Err f) w b v = tt

cut_spelled : {prev : Previous} {due : List k.PendingHereDoc} {p : Place} {cs : List ℕ} {o : Outcome} → Cuts prev due p cs o → scalars cs ≡ true →
    without_zero cs ≡ true → IsSpelledOutcome o
cut_spelled (k.finish _ _ _) s z = (tt, tt)
cut_spelled (k.open_here _ _ _ _ _) s z = tt
cut_spelled (k.blank _ _ _ c cs _ _ r) s z = cut_spelled r (scalars_back (c ∷ []) cs s) (clean_back (c ∷ []) cs z)
cut_spelled (k.continued _ _ _ cs _ r) s z = cut_spelled r (scalars_back (92 ∷ 10 ∷ []) cs s) (clean_back (92 ∷ 10 ∷ []) cs z)
cut_spelled (k.comment _ _ _ cs rest _ _ _ r) s z = cut_spelled r (scalars_back (35 ∷ cs) rest s) (clean_back (35 ∷ cs) rest z)
cut_spelled (k.lexeme prev due p cs rest l o q r) s z =
    join_spelled (tokens_of prev l p (k.after_chars p cs)) [] o
    (tokens_spelled prev l p (k.after_chars p cs) (lexeme_spelled prev cs rest l q (scalars_front cs rest s) (clean_front cs rest z))) tt
    (cut_spelled r (scalars_back cs rest s) (clean_back cs rest z))
cut_spelled (k.open_quote _ _ _ _ _) s z = tt
cut_spelled (k.bad_descriptor _ _ _ _ _ _ _ _ _ _) s z = tt
cut_spelled (k.here _ _ _ cs rest _ _ _ _ r) s z = cut_spelled r (scalars_back cs rest s) (clean_back cs rest z)
cut_spelled (k.no_mark begin end due p text o _ r) s z = join_spelled (token k.BareHere begin end ∷ []) [] o (tt, tt) tt (cut_spelled r s z)
cut_spelled (k.newline prev due p cs rest bodies o _ b r) s z =
    join_spelled (token k.Newline p (k.after_char p 10) ∷ []) bodies o (tt, tt) (bodies_texts b (scalars_front cs rest s) (clean_front cs rest z))
    (cut_spelled r (scalars_back (10 ∷ cs) rest s) (clean_back (10 ∷ cs) rest z))
cut_spelled (k.open_body _ _ _ _ _ _ _) s z = tt

-- so is a here document with its body, and nothing else changes
body_spelled : (l : Lexeme) (body : List ℕ) → IsText body → IsSpelled l → IsSpelled (with_body l body)
body_spelled (k.HereDoc q b) body text w = text
body_spelled l body text w = w

filled_spelled : (ts : List Token) (bodies : List (List ℕ)) → AreSpelled (lexemes ts) → AreTexts bodies → AreSpelled (lexemes (filled ts bodies))
filled_spelled [] bodies w b = tt
filled_spelled (t ∷ ts) [] w b = w
filled_spelled (t ∷ ts) (body ∷ bodies) w b = go (k.is_here t.lexeme) (filled_spelled ts bodies w.1 b.1) (filled_spelled ts (body ∷ bodies) w.1 b)
  where
    go : (q : Bool) → AreSpelled (lexemes (filled ts bodies)) → AreSpelled (lexemes (filled ts (body ∷ bodies))) →
        AreSpelled (lexemes (if q then record { lexeme = with_body t.lexeme body; start = t.start; stop = t.stop; line = t.line } ∷ filled ts bodies
        else t ∷ filled ts (body ∷ bodies)))
    go true here other = (body_spelled t.lexeme body b.0 w.0, here)
    go false here other = (w.0, other)

abbrev IsSpelledResult : Result (List Token) SyntaxFault → Type 0
IsSpelledResult (Ok ts) = AreSpelled (lexemes ts)
IsSpelledResult (Err f) = Unit {0}

result_spelled : (o : Outcome) → IsSpelledOutcome o → IsSpelledResult (result_of o)
result_spelled (Ok read) w = filled_spelled read.0 read.1 w.0 w.1
result_spelled (Err f) w = tt

read_spelled : (text : List ℕ) {r : Result (List Token) SyntaxFault} → Lexes text r → scalars (chars text) ≡ true → IsSpelledResult r
read_spelled text (k.zero_byte _ _ _ _) s = tt
read_spelled text (k.cut o z c) s = result_spelled o (cut_spelled c s z)

pub spelled_tokens : SpellingLaw
spelled_tokens text tokens u r = read_spelled text r (scalars-chars text u)
