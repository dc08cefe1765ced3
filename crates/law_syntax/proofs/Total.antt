-- Each text is cut somehow.
use Rattle.std.proofs.Common.{◌≡◌, ◌≢◌, ℕ, zero, suc, ◌≤◌, ◌<◌, Bool, true, false, not, ◌==◌, List, [], ◌∷◌, ◌++◌, length, refl, sym, ap, subst, ◌∙◌, append_assoc, ◌⊎◌, inl, inr, arith, length-append}
use Rattle.std.specs.Prelude.{Option, Some, None, Ok, Err, ◌&&◌}
use Rattle.std.proofs.lemmas.List.{append-nil}
use Rattle.std.proofs.lemmas.Bool.{eqb-true, eqb-false, not-false}
use Rattle.std.proofs.lemmas.Slice.Eq.{bytes_eq-Decides}
use Rattle.std.specs.Str.{bytes_eq, encode_utf8_all}
use Rattle.rc_model.specs.Syntax.Text.{begins_with}
use Rattle.rc_model.specs.Syntax.Tokens as t
use Rattle.rc_model.specs.Syntax.Tokens.{Lexeme, PendingHereDoc, Outcome}
use Rattle.law_syntax.proofs.Steps.{quote_is, line_end_is, hash_is, backslash_is, operates_is}
use Rattle.law_syntax.proofs.Runs.{run_stops}
use Rattle.rc_model.specs.declared.fault.FaultKind.TheVariants.{BadDescriptor, OpenHere, OpenQuote}
use Rattle.rc_model.specs.declared.syntax.Place.{Place}
use Rattle.rc_model.specs.declared.syntax.Previous.{Previous}
use Rattle.rc_model.specs.declared.syntax.Class.{Class}
use Rattle.rc_model.specs.declared.syntax.Previous.TheVariants as previous
use Rattle.rc_model.specs.declared.syntax.Class.TheVariants as class

-- how a text is split
pub record Split (P : List ℕ → List ℕ → Type 0) (text : List ℕ) : Type 0 where
  pub front : List ℕ
  pub rest : List ℕ
  pub is : text ≡ front ++ rest
  pub has : P front rest

-- the longest run
run_of : (more : List ℕ → Bool) → more [] ≡ false → (text : List ℕ) → Split (t.IsLongestRun more) text
run_of more h [] = record { front = []; rest = []; is = refl; has = t.stop [] h }
run_of more h (c ∷ cs) = by (more (c ∷ cs)) refl (run_of more h cs)
  where
    by : (b : Bool) → more (c ∷ cs) ≡ b → Split (t.IsLongestRun more) cs → Split (t.IsLongestRun more) (c ∷ cs)
    by false e s = record { front = []; rest = c ∷ cs; is = refl; has = t.stop (c ∷ cs) e }
    by true e s = record { front = c ∷ s.front; rest = s.rest; is = ap (λ z. c ∷ z) s.is; has = t.next c s.front s.rest (ap more (ap (λ z. c ∷ z) (sym s.is)) ∙ e) s.has }

run_from : (more : List ℕ → Bool) → more [] ≡ false → (c : ℕ) (cs : List ℕ) → more (c ∷ cs) ≡ true → Split (λ front rest. t.IsLongestRun more (c ∷ front) rest) cs
run_from more h c cs e = let s = run_of more h cs in record { front = s.front; rest = s.rest; is = s.is; has = t.next c s.front s.rest (ap more (ap (λ z. c ∷ z) (sym s.is)) ∙ e) s.has }

-- a quoted word, or one that is open
pub record QuotedAt (front rest : List ℕ) : Type 0 where
  pub after : List ℕ
  pub is : rest ≡ 39 ∷ after
  pub inside : t.InQuotes front
  pub ends : begins_with (39 ∷ []) after ≡ false

abbrev QuotedOrOpen : List ℕ → Type 0
QuotedOrOpen cs = Split QuotedAt cs ⊎ t.InQuotes cs

eq_flip : (a b : ℕ) → (a == b) ≡ false → (b == a) ≡ false
eq_flip a b h = by (b == a) refl
  where
    by : (v : Bool) → (b == a) ≡ v → (b == a) ≡ false
    by true e = absurd (eqb-false a b h (sym (eqb-true b a e)))
    by false e = e

plain_at : (c : ℕ) (cs : List ℕ) → (c == 39) ≡ false → QuotedOrOpen cs → QuotedOrOpen (c ∷ cs)
plain_at c cs e (inl s) =
    inl
    (record { front = c ∷ s.front; rest = s.rest; is = ap (λ z. c ∷ z) s.is; has = record { after = s.has.after; is = s.has.is; inside = t.plain c s.front e s.has.inside; ends = s.has.ends } })
plain_at c cs e (inr i) = inr (t.plain c cs e i)

doubled_at : (cs : List ℕ) → QuotedOrOpen cs → QuotedOrOpen (39 ∷ 39 ∷ cs)
doubled_at cs (inl s) =
    inl
    (record {
      front = 39 ∷ 39 ∷ s.front;
      rest = s.rest;
      is = ap (λ z. 39 ∷ 39 ∷ z) s.is;
      has = record { after = s.has.after; is = s.has.is; inside = t.doubled s.front s.has.inside; ends = s.has.ends };
    })
doubled_at cs (inr i) = inr (t.doubled cs i)

quoted_or_open : (cs : List ℕ) → QuotedOrOpen cs
quoted_or_open [] = inr t.nothing
quoted_or_open (c ∷ []) = by (c == 39) refl
  where
    by : (b : Bool) → (c == 39) ≡ b → QuotedOrOpen (c ∷ [])
    by true e = inl (record { front = []; rest = c ∷ []; is = refl; has = record { after = []; is = ap (λ z. z ∷ []) (eqb-true c 39 e); inside = t.nothing; ends = refl } })
    by false e = inr (t.plain c [] e t.nothing)
quoted_or_open (c ∷ d ∷ ds) = by (c == 39) (d == 39) refl refl (quoted_or_open (d ∷ ds)) (quoted_or_open ds)
  where
    by : (a b : Bool) → (c == 39) ≡ a → (d == 39) ≡ b → QuotedOrOpen (d ∷ ds) → QuotedOrOpen ds → QuotedOrOpen (c ∷ d ∷ ds)
    by false b e f next nextnext = plain_at c (d ∷ ds) e next
    by true true e f next nextnext = subst QuotedOrOpen (sym (ap (λ z. z ∷ d ∷ ds) (eqb-true c 39 e) ∙ ap (λ z. 39 ∷ z ∷ ds) (eqb-true d 39 f))) (doubled_at ds nextnext)
    by true false e f next nextnext =
        inl (record {
          front = [];
          rest = c ∷ d ∷ ds;
          is = refl;
          has = record { after = d ∷ ds; is = ap (λ z. z ∷ d ∷ ds) (eqb-true c 39 e); inside = t.nothing; ends = ap (λ v. v && true) (eq_flip d 39 f) };
        })

-- the longest beginning of an operator
pub record Longest (acc front rest : List ℕ) : Type 0 where
  pub begins : t.begins_operator (acc ++ front) ≡ true
  pub ends : t.goes_on (acc ++ front) rest ≡ false

operator_of : (acc text : List ℕ) → t.begins_operator acc ≡ true → Split (Longest acc) text
operator_of acc [] h = record { front = []; rest = []; is = refl; has = record { begins = ap t.begins_operator (append-nil acc) ∙ h; ends = refl } }
operator_of acc (c ∷ cs) h = by (t.begins_operator (acc ++ c ∷ [])) refl (operator_of (acc ++ c ∷ []) cs)
  where
    by : (b : Bool) → t.begins_operator (acc ++ c ∷ []) ≡ b → (t.begins_operator (acc ++ c ∷ []) ≡ true → Split (Longest (acc ++ c ∷ [])) cs) → Split (Longest acc) (c ∷ cs)
    by true e s =
        let s' = s e in
        record {
          front = c ∷ s'.front;
          rest = s'.rest;
          is = ap (λ z. c ∷ z) s'.is;
          has = record {
            begins = ap t.begins_operator (sym (append_assoc acc (c ∷ []) s'.front)) ∙ s'.has.begins;
            ends = ap (λ z. t.goes_on z s'.rest) (sym (append_assoc acc (c ∷ []) s'.front)) ∙ s'.has.ends;
          };
        }
    by false e s = record { front = []; rest = c ∷ cs; is = refl; has = record { begins = ap t.begins_operator (append-nil acc) ∙ h; ends = ap (λ z. t.goes_on z (c ∷ cs)) (append-nil acc) ∙ e } }

-- a body and its end, or none
pub record BodyAt (mark text : List ℕ) : Type 0 where
  pub body : List ℕ
  pub end : List ℕ
  pub rest : List ℕ
  pub is : text ≡ body ++ end ++ rest
  pub has : t.Body mark body end rest

abbrev BodyOrNone : List ℕ → List ℕ → Type 0
BodyOrNone mark text = BodyAt mark text ⊎ t.NoBody mark text

by_mark : (mark line : List ℕ) {P : Type 0} → (line ≡ mark → P) → (line ≢ mark → P) → P
by_mark mark line {P = P} f g = by (bytes_eq line mark) refl
  where
    by : (b : Bool) → bytes_eq line mark ≡ b → P
    by true e = f ((bytes_eq-Decides line mark).0 e)
    by false e = g (λ h. let e' : true ≡ false = sym ((bytes_eq-Decides line mark).1 h) ∙ e in absurd cc)

last_line : (mark line : List ℕ) → t.IsLongestRun t.line_goes_on line [] → BodyOrNone mark line
last_line mark [] r = inr t.nothing
last_line mark (c ∷ cs) r =
    by_mark mark (encode_utf8_all (c ∷ cs))
    (λ e. inl (record { body = []; end = c ∷ cs; rest = []; is = sym (append-nil (c ∷ cs)); has = t.marked_last (c ∷ cs) r (λ z. absurd cc) e }))
    (λ h. inr (t.other_last (c ∷ cs) r (λ z. absurd cc) h))

other_line : (mark line rest : List ℕ) → t.IsLongestRun t.line_goes_on line (10 ∷ rest) → encode_utf8_all line ≢ mark → BodyOrNone mark rest → BodyOrNone mark (line ++ 10 ∷ rest)
other_line mark line rest r h (inl b) = inl (record {
  body = line ++ 10 ∷ b.body;
  end = b.end;
  rest = b.rest;
  is = ap (λ z. line ++ 10 ∷ z) b.is ∙ sym (ap (λ z. z ++ b.rest) (append_assoc line (10 ∷ b.body) b.end) ∙ append_assoc line (10 ∷ b.body ++ b.end) b.rest);
  has = t.other line b.body b.end b.rest (subst (λ z. t.IsLongestRun t.line_goes_on line (10 ∷ z)) b.is r) h b.has;
})
other_line mark line rest r h (inr n) = inr (t.other line rest r h n)

one_line : (mark line rest : List ℕ) → t.IsLongestRun t.line_goes_on line (10 ∷ rest) → BodyOrNone mark rest → BodyOrNone mark (line ++ 10 ∷ rest)
one_line mark line rest r o =
    by_mark mark (encode_utf8_all line)
    (λ e. inl (record { body = []; end = line ++ 10 ∷ []; rest = rest; is = sym (append_assoc line (10 ∷ []) rest); has = t.marked line rest r e }))
    (λ h. other_line mark line rest r h o)

stops_at : (c : ℕ) (cs : List ℕ) → t.line_goes_on (c ∷ cs) ≡ false → c ≡ 10
stops_at c cs h = eqb-true c 10 (not-false (c == 10) h)

body_split : (mark text : List ℕ) → ((rest : List ℕ) → length rest < length text → BodyOrNone mark rest) → (line rest : List ℕ) → text ≡ line ++ rest → t.IsLongestRun t.line_goes_on line rest →
    BodyOrNone mark text
body_split mark text ih line [] e r = subst (BodyOrNone mark) (sym (e ∙ append-nil line)) (last_line mark line r)
body_split mark text ih line (c ∷ rest) e r =
    let c10 = stops_at c rest (run_stops r) in
    let e' : text ≡ line ++ 10 ∷ rest = e ∙ ap (λ z. line ++ z ∷ rest) c10 in
    subst (BodyOrNone mark) (sym e')
    (one_line mark line rest (subst (λ z. t.IsLongestRun t.line_goes_on line (z ∷ rest)) c10 r) (ih rest (omega (arith, ap length e', length-append line (10 ∷ rest)))))

body_or_none : (n : ℕ) (mark text : List ℕ) → length text ≤ n → BodyOrNone mark text
body_or_none n mark [] h = inr t.nothing
body_or_none zero mark (c ∷ cs) h = absurd (omega arith)
body_or_none (suc n) mark (c ∷ cs) h =
    let s = run_of t.line_goes_on refl (c ∷ cs) in
    body_split mark (c ∷ cs) (λ rest h'. body_or_none n mark rest (omega arith)) s.front s.rest s.is s.has

-- all bodies that are due, or the first that is open
pub record BodiesAt (due : List PendingHereDoc) (text : List ℕ) : Type 0 where
  pub front : List ℕ
  pub rest : List ℕ
  pub bodies : List (List ℕ)
  pub is : text ≡ front ++ rest
  pub has : t.Bodies due front rest bodies

pub record OpenAt (due : List PendingHereDoc) (text : List ℕ) : Type 0 where
  pub line : ℕ
  pub has : t.OpenBody due text line

bodies_or_open : (due : List PendingHereDoc) (text : List ℕ) → BodiesAt due text ⊎ OpenAt due text
bodies_or_open [] text = inl (record { front = []; rest = text; bodies = []; is = refl; has = t.all text })
bodies_or_open (d ∷ due) text = by (body_or_none (length text) d.mark text (omega arith)) (bodies_or_open due)
  where
    more : (b : BodyAt d.mark text) → BodiesAt due b.rest ⊎ OpenAt due b.rest → BodiesAt (d ∷ due) text ⊎ OpenAt (d ∷ due) text
    more b (inl s) = inl (record {
      front = b.body ++ b.end ++ s.front;
      rest = s.rest;
      bodies = encode_utf8_all b.body ∷ s.bodies;
      is = b.is ∙ ap (λ z. b.body ++ b.end ++ z) s.is ∙ sym (append_assoc (b.body ++ b.end) s.front s.rest);
      has = t.one d due b.body b.end s.front s.rest s.bodies (subst (t.Body d.mark b.body b.end) s.is b.has) s.has;
    })
    more b (inr o) = inr (record { line = o.line; has = subst (λ z. t.OpenBody (d ∷ due) z o.line) (sym b.is) (t.later d due b.body b.end b.rest o.line b.has o.has) })

    by : BodyOrNone d.mark text → ((text' : List ℕ) → BodiesAt due text' ⊎ OpenAt due text') → BodiesAt (d ∷ due) text ⊎ OpenAt (d ∷ due) text
    by (inl b) ih = more b (ih b.rest)
    by (inr n) ih = inr (record { line = d.line; has = t.first d due text n })

-- some cut of a text
pub record CutAt (prev : Previous) (due : List PendingHereDoc) (p : Place) (text : List ℕ) : Type 0 where
  pub outcome : Outcome
  pub cut : t.Cuts prev due p text outcome

abbrev Shorter : ℕ → Type 0
Shorter n = (text : List ℕ) → length text ≤ n → (prev : Previous) (due : List PendingHereDoc) (p : Place) → CutAt prev due p text

shorter_rest : (n : ℕ) (cs front rest : List ℕ) → cs ≡ front ++ rest → length cs ≤ n → length rest ≤ n
shorter_rest n cs front rest e h = omega (arith, ap length e, length-append front rest)

lexeme_at : (n : ℕ) → Shorter n → (prev : Previous) (due : List PendingHereDoc) (p : Place) (c : ℕ) (cs front rest : List ℕ) (l : Lexeme) → cs ≡ front ++ rest → length cs ≤ n →
    t.IsLexeme prev (c ∷ front) rest l → CutAt prev due p (c ∷ cs)
lexeme_at n ih prev due p c cs front rest l e h s =
    let x = ih rest (shorter_rest n cs front rest e h) (t.after_token prev l) (t.pending_after prev l due) (t.after_chars p (c ∷ front)) in
    subst (λ z. CutAt prev due p (c ∷ z)) (sym e)
    (record { outcome = t.join (t.tokens_of prev l p (t.after_chars p (c ∷ front))) [] x.outcome; cut = t.lexeme prev due p (c ∷ front) rest l x.outcome s x.cut })

word_at : (n : ℕ) → Shorter n → (prev : Previous) (due : List PendingHereDoc) (p : Place) (c : ℕ) (cs : List ℕ) → length cs ≤ n
    → t.begins_name prev c ≡ false → t.word_goes_on (c ∷ cs) ≡ true → CutAt prev due p (c ∷ cs)
word_at n ih prev due p c cs h b g =
    let s = run_from t.word_goes_on refl c cs g in
    lexeme_at n ih prev due p c cs s.front s.rest (t.Word (encode_utf8_all (c ∷ s.front))) s.is h (t.word prev c s.front s.rest b s.has)

name_at : (n : ℕ) → Shorter n → (due : List PendingHereDoc) (p : Place) (c : ℕ) (cs : List ℕ) → length cs ≤ n → t.is_name_char c ≡ true → CutAt previous.Dollar due p (c ∷ cs)
name_at n ih due p c cs h g =
    let s = run_from t.name_goes_on refl c cs g in
    lexeme_at n ih previous.Dollar due p c cs s.front s.rest (t.Name (encode_utf8_all (c ∷ s.front))) s.is h (t.name c s.front s.rest s.has)

ordinary_at : (n : ℕ) → Shorter n → (prev : Previous) (due : List PendingHereDoc) (p : Place) (c : ℕ) (cs : List ℕ) → length cs ≤ n
    → t.word_goes_on (c ∷ cs) ≡ true → (b : Bool) → t.begins_name prev c ≡ b →
    CutAt prev due p (c ∷ cs)
ordinary_at n ih prev due p c cs h g false e = word_at n ih prev due p c cs h e g
ordinary_at n ih previous.Dollar due p c cs h g true e = name_at n ih due p c cs h e
ordinary_at n ih previous.Apart due p c cs h g true e = absurd cc
ordinary_at n ih previous.Word due p c cs h g true e = absurd cc
ordinary_at n ih previous.Quoted due p c cs h g true e = absurd cc
ordinary_at n ih previous.Name due p c cs h g true e = absurd cc
ordinary_at n ih (previous.Here begin' end) due p c cs h g true e = absurd cc

backslash_at : (n : ℕ) → Shorter n → (prev : Previous) (due : List PendingHereDoc) (p : Place) (cs : List ℕ) → length cs ≤ n → (b : Bool) → t.at_newline cs ≡ b → CutAt prev due p (92 ∷ cs)
backslash_at n ih prev due p cs h false e = word_at n ih prev due p 92 cs h (no_name prev) (ap not e)
  where
    no_name : (prev' : Previous) → t.begins_name prev' 92 ≡ false
    no_name previous.Dollar = refl
    no_name prev' = refl
backslash_at n ih prev due p [] h true e = absurd cc
backslash_at n ih prev due p (c ∷ cs) h true e =
    let x = ih cs (omega arith) (t.after_blank prev) due (t.after_chars p (92 ∷ 10 ∷ [])) in
    subst (λ z. CutAt prev due p (92 ∷ z ∷ cs)) (sym (eqb-true c 10 e)) (record { outcome = x.outcome; cut = t.continued prev due p cs x.outcome x.cut })

quote_at : (n : ℕ) → Shorter n → (prev : Previous) (due : List PendingHereDoc) (p : Place) (cs : List ℕ) → length cs ≤ n → CutAt prev due p (39 ∷ cs)
quote_at n ih prev due p cs h = by (quoted_or_open cs)
  where
    by : QuotedOrOpen cs → CutAt prev due p (39 ∷ cs)
    by (inr i) = record { outcome = Err (t.fault OpenQuote p.line); cut = t.open_quote prev due p cs i }
    by (inl s) =
        let q = s.has in
        lexeme_at n ih prev due p 39 cs (s.front ++ 39 ∷ []) q.after (t.Quoted (t.unquoted_text (encode_utf8_all (39 ∷ s.front ++ 39 ∷ []))))
        (s.is ∙ ap (λ z. s.front ++ z) q.is ∙ sym (append_assoc s.front (39 ∷ []) q.after)) h (t.quoted prev s.front q.after q.inside q.ends)

comment_at : (n : ℕ) → Shorter n → (prev : Previous) (due : List PendingHereDoc) (p : Place) (cs : List ℕ) → length cs ≤ n → t.awaits_mark prev ≡ false → CutAt prev due p (35 ∷ cs)
comment_at n ih prev due p cs h a =
    let s = run_of t.line_goes_on refl cs in
    let x = ih s.rest (shorter_rest n cs s.front s.rest s.is h) previous.Apart due (t.after_chars p (35 ∷ s.front)) in
    subst (λ z. CutAt prev due p (35 ∷ z)) (sym s.is) (record { outcome = x.outcome; cut = t.comment prev due p s.front s.rest x.outcome a s.has x.cut })

newline_at : (n : ℕ) → Shorter n → (prev : Previous) (due : List PendingHereDoc) (p : Place) (cs : List ℕ) → length cs ≤ n → t.awaits_mark prev ≡ false → CutAt prev due p (10 ∷ cs)
newline_at n ih prev due p cs h a = by (bodies_or_open due cs)
  where
    by : BodiesAt due cs ⊎ OpenAt due cs → CutAt prev due p (10 ∷ cs)
    by (inr o) = record { outcome = Err (t.fault OpenHere o.line); cut = t.open_body prev due p cs o.line a o.has }
    by (inl s) =
        let x = ih s.rest (shorter_rest n cs s.front s.rest s.is h) previous.Apart [] (t.after_chars p (10 ∷ s.front)) in
        subst (λ z. CutAt prev due p (10 ∷ z)) (sym s.is)
        (record { outcome = t.join (t.token t.Newline p (t.after_char p 10) ∷ []) s.bodies x.outcome; cut = t.newline prev due p s.front s.rest s.bodies x.outcome a s.has x.cut })

operator_lexeme : (n : ℕ) → Shorter n → (prev : Previous) (due : List PendingHereDoc) (p : Place) (c : ℕ) (cs front rest : List ℕ) → cs ≡ front ++ rest → length cs ≤ n → t.awaits_mark prev ≡ false →
    t.begins_operator (c ∷ front) ≡ true → t.goes_on (c ∷ front) rest ≡ false → (o : Option Lexeme) → t.operator (c ∷ front) ≡ o → CutAt prev due p (c ∷ cs)
operator_lexeme n ih prev due p c cs front rest e h a b g None o =
    subst (λ z. CutAt prev due p (c ∷ z)) (sym e) (record { outcome = Err (t.fault BadDescriptor p.line); cut = t.bad_descriptor prev due p c front rest a b o g })
operator_lexeme n ih prev due p c cs front rest e h a b g (Some t.BareHere) o =
    let q = t.after_chars p (c ∷ front) in
    let x = ih rest (shorter_rest n cs front rest e h) (previous.Here p q) due q in
    subst (λ z. CutAt prev due p (c ∷ z)) (sym e) (record { outcome = x.outcome; cut = t.here prev due p (c ∷ front) rest x.outcome a o g x.cut })
operator_lexeme n ih prev due p c cs front rest e h a b g (Some l) o =
    lexeme_at n ih prev due p c cs front rest (t.meant prev rest l) e h (t.operated prev (c ∷ front) rest l a o (λ z. absurd cc) g)

operator_at : (n : ℕ) → Shorter n → (prev : Previous) (due : List PendingHereDoc) (p : Place) (c : ℕ) (cs : List ℕ) → length cs ≤ n
    → t.awaits_mark prev ≡ false → t.begins_operator (c ∷ []) ≡ true → CutAt prev due p (c ∷ cs)
operator_at n ih prev due p c cs h a b =
    let s = operator_of (c ∷ []) cs b in
    operator_lexeme n ih prev due p c cs s.front s.rest s.is h a s.has.begins s.has.ends (t.operator (c ∷ s.front)) refl

-- at a character, where a mark is looked for only if one may begin
char_at : (n : ℕ) → Shorter n → (prev : Previous) (due : List PendingHereDoc) (p : Place) (c : ℕ) (cs : List ℕ) → length cs ≤ n → (k : Class)
    → t.class_of c ≡ k → (t.awaits_mark prev ≡ false) ⊎ (t.is_mark k ≡ true) →
    CutAt prev due p (c ∷ cs)
char_at n ih prev due p c cs h class.Blank e m = let x = ih cs h (t.after_blank prev) due (t.after_char p c) in record { outcome = x.outcome; cut = t.blank prev due p c cs x.outcome e x.cut }
char_at n ih prev due p c cs h class.Ordinary e m = ordinary_at n ih prev due p c cs h (ap (λ k. t.is_in_word k cs) e) (t.begins_name prev c) refl
char_at n ih prev due p c cs h class.Backslash e m = subst (λ z. CutAt prev due p (z ∷ cs)) (sym (backslash_is c e)) (backslash_at n ih prev due p cs h (t.at_newline cs) refl)
char_at n ih prev due p c cs h class.Quote e m = subst (λ z. CutAt prev due p (z ∷ cs)) (sym (quote_is c e)) (quote_at n ih prev due p cs h)
char_at n ih prev due p c cs h class.Hash e (inl a) = subst (λ z. CutAt prev due p (z ∷ cs)) (sym (hash_is c e)) (comment_at n ih prev due p cs h a)
char_at n ih prev due p c cs h class.LineEnd e (inl a) = subst (λ z. CutAt prev due p (z ∷ cs)) (sym (line_end_is c e)) (newline_at n ih prev due p cs h a)
char_at n ih prev due p c cs h class.Operates e (inl a) = operator_at n ih prev due p c cs h a (operates_is c e)
char_at n ih prev due p c cs h class.Hash e (inr m) = absurd cc
char_at n ih prev due p c cs h class.LineEnd e (inr m) = absurd cc
char_at n ih prev due p c cs h class.Operates e (inr m) = absurd cc

end_at : (prev : Previous) (due : List PendingHereDoc) (p : Place) → t.awaits_mark prev ≡ false → CutAt prev due p []
end_at prev [] p a = record { outcome = Ok ([], []); cut = t.finish prev p a }
end_at prev (d ∷ due) p a = record { outcome = Err (t.fault OpenHere d.line); cut = t.open_here prev d due p a }

without_mark : (begin' end : Place) (due : List PendingHereDoc) (p : Place) (text : List ℕ) → t.mark_goes_on text ≡ false
    → CutAt previous.Apart due p text → CutAt (previous.Here begin' end) due p text
without_mark begin' end due p text h x = record { outcome = t.join (t.token t.BareHere begin' end ∷ []) [] x.outcome; cut = t.no_mark begin' end due p text x.outcome h x.cut }

cut_at : (n : ℕ) → Shorter n → (c : ℕ) (cs : List ℕ) → length cs ≤ n → (prev : Previous) (due : List PendingHereDoc) (p : Place) → (b : Bool) → t.mark_goes_on (c ∷ cs) ≡ b → CutAt prev due p (c ∷ cs)
cut_at n ih c cs h prev due p true e = char_at n ih prev due p c cs h (t.class_of c) refl (inr e)
cut_at n ih c cs h (previous.Here begin' end) due p false e = without_mark begin' end due p (c ∷ cs) e (char_at n ih previous.Apart due p c cs h (t.class_of c) refl (inl refl))
cut_at n ih c cs h prev due p false e = char_at n ih prev due p c cs h (t.class_of c) refl (inl refl)

cut_of : (n : ℕ) → Shorter n
cut_of n [] h (previous.Here begin' end) due p = without_mark begin' end due p [] refl (end_at previous.Apart due p refl)
cut_of n [] h prev due p = end_at prev due p refl
cut_of zero (c ∷ cs) h prev due p = absurd (omega arith)
cut_of (suc n) (c ∷ cs) h prev due p = cut_at n (cut_of n) c cs (omega arith) prev due p (t.mark_goes_on (c ∷ cs)) refl

-- each text is cut somehow
pub total : (text : List ℕ) (prev : Previous) (due : List PendingHereDoc) (p : Place) → CutAt prev due p text
total text = cut_of (length text) text (omega arith)
