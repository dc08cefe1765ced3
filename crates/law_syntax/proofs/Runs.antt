-- The machine reads each piece of a cut.
use Rattle.std.proofs.Common.{◌≡◌, ◌≢◌, ℕ, Bool, true, false, cond, ◌==◌, List, [], ◌∷◌, ◌++◌, refl, sym, ap, ◌∙◌, append_assoc, lit<}
use Rattle.std.specs.Prelude.{◌&&◌}
use Rattle.rc_model.specs.Syntax.Text.{begins_with}
use Rattle.std.proofs.lemmas.List.{append-nil}
use Rattle.std.proofs.lemmas.Bool.{eqb-true, eqb-false, not-false, not-true}
use Rattle.std.proofs.lemmas.Str.{encode_ascii}
use Rattle.std.specs.Char.{encode_utf8}
use Rattle.std.specs.Str.{encode_utf8_all}
use Rattle.rc_model.specs.Syntax.Tokens as t
use Rattle.rc_model.specs.Syntax.Tokens.{Lexeme, PendingHereDoc}
use Rattle.rc_model.specs.Mirrors.Reading.{Between, Backslash, WordBackslash, Word, Name, Quoted, Closed, goes, bare_here, begin, ends, closed, ended, follow, run}
use Rattle.law_syntax.proofs.Steps.{run_at, join_nil, follow_emit, join_closed, quote_is, line_end_is, backslash_is}
use Rattle.rc_model.specs.declared.syntax.Place.{Place}
use Rattle.rc_model.specs.declared.syntax.Previous.{Previous}
use Rattle.rc_model.specs.declared.syntax.Class.{Class}
use Rattle.rc_model.specs.declared.syntax.Previous.TheVariants as previous
use Rattle.rc_model.specs.declared.syntax.Class.TheVariants as class

pub newline_class : (c : ℕ) → (c == 10) ≡ true → t.class_of c ≡ class.LineEnd
newline_class c h = ap t.class_of (eqb-true c 10 h)

-- what a lexeme is followed by, at the end and at a character
pub ended_at : (prev : Previous) (l : Lexeme) (q : Place) (due : List PendingHereDoc) (p : Place) → bare_here (t.after_token prev l) ≡ [] →
    ended prev l q due p ≡ t.join (t.tokens_of prev l q p) [] (run (Between (t.after_token prev l)) (t.pending_after prev l due) p [])
ended_at prev l q due p h =
    ap (λ ts. closed ts [] (t.pending_after prev l due)) (sym (append-nil (t.tokens_of prev l q p)))
    ∙ ap (λ ts. closed (t.tokens_of prev l q p ++ ts) [] (t.pending_after prev l due)) (sym h)
    ∙ sym (join_closed (t.tokens_of prev l q p) (bare_here (t.after_token prev l)) [] (t.pending_after prev l due))

pub ends_at : (prev : Previous) (l : Lexeme) (q : Place) (due : List PendingHereDoc) (p : Place) (c : ℕ) (cs : List ℕ) (k : Class) →
    follow (ends prev l q due p c k) (λ s' due'. run s' due' (t.after_char p c) cs)
    ≡ t.join (t.tokens_of prev l q p) [] (run_at (Between (t.after_token prev l)) (t.pending_after prev l due) p c cs k)
ends_at prev l q due p c cs k = follow_emit (t.tokens_of prev l q p) (begin (t.after_token prev l) (t.pending_after prev l due) p c k) (λ s' due'. run s' due' (t.after_char p c) cs)

no_here_after_word : (prev : Previous) (text : List ℕ) → bare_here (t.after_token prev (t.Word text)) ≡ []
no_here_after_word prev text = elim prev as (λ b. bare_here (t.after_token b (t.Word text)) ≡ []) [ previous.Here begin end ↦ refl | _ ↦ refl ]

blank_after_word : (prev : Previous) (text : List ℕ) → t.after_blank (t.after_token prev (t.Word text)) ≡ previous.Apart
blank_after_word prev text = elim prev as (λ b. t.after_blank (t.after_token b (t.Word text)) ≡ previous.Apart) [ previous.Here begin end ↦ refl | _ ↦ refl ]

-- a backslash before a newline ends a word
word_before_newline : (prev : Previous) (q : Place) (text : List ℕ) (due : List PendingHereDoc) (p : Place) (c : ℕ) (cs : List ℕ) → t.at_newline cs ≡ true →
    run_at (Word prev q text) due p c cs class.Backslash
    ≡ t.join (t.tokens_of prev (t.Word text) q p) [] (run_at (Between (t.after_token prev (t.Word text))) (t.pending_after prev (t.Word text) due) p c cs class.Backslash)
word_before_newline prev q text due p c [] h = absurd cc
word_before_newline prev q text due p c (d ∷ ds) h =
    let p' = t.after_char p c in
    let due' = t.pending_after prev (t.Word text) due in
    join_nil (run (WordBackslash prev q text p) due p' (d ∷ ds))
    ∙ ap (run_at (WordBackslash prev q text p) due p' d ds) (newline_class d h)
    ∙ ap (t.join (t.tokens_of prev (t.Word text) q p) [])
    (ap (λ b. run (Between b) due' (t.after_char p' d) ds) (sym (blank_after_word prev text))
    ∙ sym (join_nil (run (Between (t.after_blank (t.after_token prev (t.Word text)))) due' (t.after_char p' d) ds))
    ∙ sym (ap (run_at (Backslash (t.after_token prev (t.Word text)) p) due' p' d ds) (newline_class d h))
    ∙ sym (join_nil (run (Backslash (t.after_token prev (t.Word text)) p) due' p' (d ∷ ds))))

word_ends_by : (prev : Previous) (q : Place) (text : List ℕ) (due : List PendingHereDoc) (p : Place) (c : ℕ) (cs : List ℕ) (k : Class) → t.is_in_word k cs ≡ false →
    run_at (Word prev q text) due p c cs k
    ≡ t.join (t.tokens_of prev (t.Word text) q p) [] (run_at (Between (t.after_token prev (t.Word text))) (t.pending_after prev (t.Word text) due) p c cs k)
word_ends_by prev q text due p c cs class.Ordinary h = absurd cc
word_ends_by prev q text due p c cs class.Backslash h = word_before_newline prev q text due p c cs (not-false (t.at_newline cs) h)
word_ends_by prev q text due p c cs class.Operates h = ends_at prev (t.Word text) q due p c cs class.Operates
word_ends_by prev q text due p c cs class.Blank h = ends_at prev (t.Word text) q due p c cs class.Blank
word_ends_by prev q text due p c cs class.LineEnd h = ends_at prev (t.Word text) q due p c cs class.LineEnd
word_ends_by prev q text due p c cs class.Hash h = ends_at prev (t.Word text) q due p c cs class.Hash
word_ends_by prev q text due p c cs class.Quote h = ends_at prev (t.Word text) q due p c cs class.Quote

pub word_ends : (prev : Previous) (q : Place) (text : List ℕ) (due : List PendingHereDoc) (p : Place) (rest : List ℕ) → t.word_goes_on rest ≡ false →
    run (Word prev q text) due p rest
    ≡ t.join (t.tokens_of prev (t.Word text) q p) [] (run (Between (t.after_token prev (t.Word text))) (t.pending_after prev (t.Word text) due) p rest)
word_ends prev q text due p [] h = ended_at prev (t.Word text) q due p (no_here_after_word prev text)
word_ends prev q text due p (c ∷ cs) h = word_ends_by prev q text due p c cs (t.class_of c) h

-- a backslash before anything else is a character of the word
after_backslash_by : (prev : Previous) (q : Place) (text : List ℕ) (end : Place) (due : List PendingHereDoc) (p : Place) (c : ℕ) (cs : List ℕ) (k : Class) → k ≢ class.LineEnd →
    run_at (WordBackslash prev q text end) due p c cs k ≡ run_at (Word prev q (text ++ 92 ∷ [])) due p c cs k
after_backslash_by prev q text end due p c cs class.LineEnd h = absurd (h refl)
after_backslash_by prev q text end due p c cs k h = refl

after_backslash : (prev : Previous) (q : Place) (text : List ℕ) (end : Place) (due : List PendingHereDoc) (p : Place) (rest : List ℕ) → t.at_newline rest ≡ false →
    run (WordBackslash prev q text end) due p rest ≡ run (Word prev q (text ++ 92 ∷ [])) due p rest
after_backslash prev q text end due p [] h = refl
after_backslash prev q text end due p (c ∷ cs) h = after_backslash_by prev q text end due p c cs (t.class_of c) (λ e. eqb-false c 10 h (line_end_is c e))

word_goes_by : (prev : Previous) (q : Place) (text : List ℕ) (due : List PendingHereDoc) (p : Place) (c : ℕ) (rest : List ℕ) (k : Class) → t.class_of c ≡ k → t.is_in_word k rest ≡ true →
    run_at (Word prev q text) due p c rest k ≡ run (Word prev q (text ++ encode_utf8 c)) due (t.after_char p c) rest
word_goes_by prev q text due p c rest class.Ordinary e h = join_nil (run (Word prev q (text ++ encode_utf8 c)) due (t.after_char p c) rest)
word_goes_by prev q text due p c rest class.Backslash e h =
    join_nil (run (WordBackslash prev q text p) due (t.after_char p c) rest)
    ∙ after_backslash prev q text p due (t.after_char p c) rest (not-true (t.at_newline rest) h)
    ∙ ap (λ bs. run (Word prev q (text ++ bs)) due (t.after_char p c) rest) (sym (encode_ascii 92 (lit< tt)) ∙ ap encode_utf8 (sym (backslash_is c e)))
word_goes_by prev q text due p c rest class.Operates e h = absurd cc
word_goes_by prev q text due p c rest class.Blank e h = absurd cc
word_goes_by prev q text due p c rest class.LineEnd e h = absurd cc
word_goes_by prev q text due p c rest class.Hash e h = absurd cc
word_goes_by prev q text due p c rest class.Quote e h = absurd cc

-- a word begins
begun_backslash_by : (prev : Previous) (q : Place) (due : List PendingHereDoc) (p : Place) (c : ℕ) (cs : List ℕ) (k : Class) → k ≢ class.LineEnd →
    run_at (Backslash prev q) due p c cs k ≡ run_at (Word prev q (92 ∷ [])) due p c cs k
begun_backslash_by prev q due p c cs class.LineEnd h = absurd (h refl)
begun_backslash_by prev q due p c cs k h = refl

begun_backslash : (prev : Previous) (q : Place) (due : List PendingHereDoc) (p : Place) (rest : List ℕ) → t.at_newline rest ≡ false →
    run (Backslash prev q) due p rest ≡ run (Word prev q (92 ∷ [])) due p rest
begun_backslash prev q due p [] h = refl
begun_backslash prev q due p (c ∷ cs) h = begun_backslash_by prev q due p c cs (t.class_of c) (λ e. eqb-false c 10 h (line_end_is c e))

pub word_begun_by : (prev : Previous) (due : List PendingHereDoc) (p : Place) (c : ℕ) (rest : List ℕ) (k : Class) → t.class_of c ≡ k → t.begins_name prev c ≡ false → t.is_in_word k rest ≡ true →
    run_at (Between prev) due p c rest k ≡ run (Word prev p (encode_utf8 c)) due (t.after_char p c) rest
word_begun_by prev due p c rest class.Ordinary e n h =
    ap (λ b. follow (goes [] (cond b (Name p (encode_utf8 c)) (Word prev p (encode_utf8 c))) due) (λ s' due'. run s' due' (t.after_char p c) rest)) n
    ∙ join_nil (run (Word prev p (encode_utf8 c)) due (t.after_char p c) rest)
word_begun_by prev due p c rest class.Backslash e n h =
    join_nil (run (Backslash prev p) due (t.after_char p c) rest)
    ∙ begun_backslash prev p due (t.after_char p c) rest (not-true (t.at_newline rest) h)
    ∙ ap (λ bs. run (Word prev p bs) due (t.after_char p c) rest) (sym (encode_ascii 92 (lit< tt)) ∙ ap encode_utf8 (sym (backslash_is c e)))
word_begun_by prev due p c rest class.Operates e n h = absurd cc
word_begun_by prev due p c rest class.Blank e n h = absurd cc
word_begun_by prev due p c rest class.LineEnd e n h = absurd cc
word_begun_by prev due p c rest class.Hash e n h = absurd cc
word_begun_by prev due p c rest class.Quote e n h = absurd cc

-- a word is read
pub word_runs : {cs rest : List ℕ} → t.IsLongestRun t.word_goes_on cs rest → (prev : Previous) (q : Place) (text : List ℕ) (due : List PendingHereDoc) (p : Place) →
    run (Word prev q text) due p (cs ++ rest) ≡ run (Word prev q (text ++ encode_utf8_all cs)) due (t.after_chars p cs) rest
word_runs (t.stop rest h) prev q text due p = ap (λ z. run (Word prev q z) due p rest) (sym (append-nil text))
word_runs (t.next c cs rest h r) prev q text due p =
    word_goes_by prev q text due p c (cs ++ rest) (t.class_of c) refl h
    ∙ word_runs r prev q (text ++ encode_utf8 c) due (t.after_char p c)
    ∙ ap (λ z. run (Word prev q z) due (t.after_chars (t.after_char p c) cs) rest) (append_assoc text (encode_utf8 c) (encode_utf8_all cs))

pub run_stops : {more : List ℕ → Bool} {cs rest : List ℕ} → t.IsLongestRun more cs rest → more rest ≡ false
run_stops (t.stop rest h) = h
run_stops (t.next c cs rest h r) = run_stops r

-- a name is read, and ends
pub name_ends : (q : Place) (text : List ℕ) (due : List PendingHereDoc) (p : Place) (rest : List ℕ) → t.name_goes_on rest ≡ false →
    run (Name q text) due p rest ≡ t.join (t.tokens_of previous.Dollar (t.Name text) q p) [] (run (Between previous.Name) due p rest)
name_ends q text due p [] h = ended_at previous.Dollar (t.Name text) q due p refl
name_ends q text due p (c ∷ cs) h =
    ap (λ b. follow (cond b (goes [] (Name q (text ++ encode_utf8 c)) due) (ends previous.Dollar (t.Name text) q due p c (t.class_of c))) (λ s' due'. run s' due' (t.after_char p c) cs)) h
    ∙ ends_at previous.Dollar (t.Name text) q due p c cs (t.class_of c)

pub name_runs : {cs rest : List ℕ} → t.IsLongestRun t.name_goes_on cs rest → (q : Place) (text : List ℕ) (due : List PendingHereDoc) (p : Place) →
    run (Name q text) due p (cs ++ rest) ≡ run (Name q (text ++ encode_utf8_all cs)) due (t.after_chars p cs) rest
name_runs (t.stop rest h) q text due p = ap (λ z. run (Name q z) due p rest) (sym (append-nil text))
name_runs (t.next c cs rest h r) q text due p =
    ap (λ b. follow (cond b (goes [] (Name q (text ++ encode_utf8 c)) due) (ends previous.Dollar (t.Name text) q due p c (t.class_of c))) (λ s' due'. run s' due' (t.after_char p c) (cs ++ rest))) h
    ∙ join_nil (run (Name q (text ++ encode_utf8 c)) due (t.after_char p c) (cs ++ rest))
    ∙ name_runs r q (text ++ encode_utf8 c) due (t.after_char p c)
    ∙ ap (λ z. run (Name q z) due (t.after_chars (t.after_char p c) cs) rest) (append_assoc text (encode_utf8 c) (encode_utf8_all cs))

-- a quoted word is read
quoted_by : (prev : Previous) (q : Place) (text : List ℕ) (due : List PendingHereDoc) (p : Place) (c : ℕ) (cs : List ℕ) (k : Class) → k ≢ class.Quote →
    run_at (Quoted prev q text) due p c cs k ≡ run (Quoted prev q (text ++ encode_utf8 c)) due (t.after_char p c) cs
quoted_by prev q text due p c cs class.Quote h = absurd (h refl)
quoted_by prev q text due p c cs k h = join_nil (run (Quoted prev q (text ++ encode_utf8 c)) due (t.after_char p c) cs)

no_quote : (c : ℕ) → (c == 39) ≡ false → t.class_of c ≢ class.Quote
no_quote c h e = eqb-false c 39 h (quote_is c e)

pub quoted_runs : {cs : List ℕ} → t.InQuotes cs → (prev : Previous) (q : Place) (text : List ℕ) (due : List PendingHereDoc) (p : Place) (rest : List ℕ) →
    run (Quoted prev q text) due p (cs ++ rest) ≡ run (Quoted prev q (text ++ encode_utf8_all cs)) due (t.after_chars p cs) rest
quoted_runs t.nothing prev q text due p rest = ap (λ z. run (Quoted prev q z) due p rest) (sym (append-nil text))
quoted_runs (t.plain c cs h r) prev q text due p rest =
    quoted_by prev q text due p c (cs ++ rest) (t.class_of c) (no_quote c h)
    ∙ quoted_runs r prev q (text ++ encode_utf8 c) due (t.after_char p c) rest
    ∙ ap (λ z. run (Quoted prev q z) due (t.after_chars (t.after_char p c) cs) rest) (append_assoc text (encode_utf8 c) (encode_utf8_all cs))
quoted_runs (t.doubled cs r) prev q text due p rest =
    let p1 = t.after_char p 39 in
    join_nil (run (Closed prev q (text ++ encode_utf8 39)) due p1 (39 ∷ cs ++ rest))
    ∙ join_nil (run (Quoted prev q ((text ++ encode_utf8 39) ++ encode_utf8 39)) due (t.after_char p1 39) (cs ++ rest))
    ∙ quoted_runs r prev q ((text ++ encode_utf8 39) ++ encode_utf8 39) due (t.after_char p1 39) rest
    ∙ ap (λ z. run (Quoted prev q z) due (t.after_chars (t.after_char p1 39) cs) rest)
    (append_assoc (text ++ encode_utf8 39) (encode_utf8 39) (encode_utf8_all cs) ∙ append_assoc text (encode_utf8 39) (encode_utf8 39 ++ encode_utf8_all cs))

no_here_after_quoted : (prev : Previous) (text : List ℕ) → bare_here (t.after_token prev (t.Quoted text)) ≡ []
no_here_after_quoted prev text = elim prev as (λ b. bare_here (t.after_token b (t.Quoted text)) ≡ []) [ previous.Here begin end ↦ refl | _ ↦ refl ]

closed_ends_by : (prev : Previous) (q : Place) (text : List ℕ) (due : List PendingHereDoc) (p : Place) (c : ℕ) (cs : List ℕ) (k : Class) → k ≢ class.Quote →
    run_at (Closed prev q text) due p c cs k
    ≡ t.join (t.tokens_of prev (t.Quoted (t.unquoted_text text)) q p) []
    (run_at (Between (t.after_token prev (t.Quoted (t.unquoted_text text)))) (t.pending_after prev (t.Quoted (t.unquoted_text text)) due) p c cs k)
closed_ends_by prev q text due p c cs class.Quote h = absurd (h refl)
closed_ends_by prev q text due p c cs k h = ends_at prev (t.Quoted (t.unquoted_text text)) q due p c cs k

pub closed_ends : (prev : Previous) (q : Place) (text : List ℕ) (due : List PendingHereDoc) (p : Place) (rest : List ℕ) → begins_with (39 ∷ []) rest ≡ false →
    run (Closed prev q text) due p rest
    ≡ t.join (t.tokens_of prev (t.Quoted (t.unquoted_text text)) q p) []
    (run (Between (t.after_token prev (t.Quoted (t.unquoted_text text)))) (t.pending_after prev (t.Quoted (t.unquoted_text text)) due) p rest)
closed_ends prev q text due p [] h = ended_at prev (t.Quoted (t.unquoted_text text)) q due p (no_here_after_quoted prev (t.unquoted_text text))
closed_ends prev q text due p (c ∷ cs) h = closed_ends_by prev q text due p c cs (t.class_of c) (λ e. no (39 == c) h (ap (λ z. 39 == z) (quote_is c e)))
  where
    no : (b : Bool) → (b && true) ≡ false → b ≡ true → ⊥
    no true h' e = absurd cc
    no false h' e = absurd cc
