-- The machine finds what a text is cut into.
use Rattle.std.proofs.Common.{◌≡◌, ◌≢◌, ℕ, Bool, true, false, cond, not, ◌==◌, ◌||◌, List, [], ◌∷◌, ◌++◌, refl, sym, ap, ◌∙◌, append_assoc}
use Rattle.std.specs.Prelude.{Some, None, Err, ◌&&◌}
use Rattle.std.specs.List.{list_any, list_all}
use Rattle.rc_model.specs.Syntax.Text.{begins_with}
use Rattle.std.proofs.lemmas.List.{append-nil}
use Rattle.std.proofs.lemmas.Bool.{eqb-true, eqb-false, or_from, not-false, not-true}
use Rattle.std.proofs.lemmas.Str.{encodes-append}
use Rattle.std.specs.Char.{encode_utf8}
use Rattle.std.specs.Str.{encode_utf8_all}
use Rattle.rc_model.specs.Syntax.Tokens as t
use Rattle.rc_model.specs.Syntax.Tokens.{Lexeme, Token, PendingHereDoc, Outcome}
use Rattle.rc_model.specs.Mirrors.Reading.{Between, Comment, Backslash, Word, Name, Quoted, Closed, Operator, goes, bare_here, closed, follow, run}
use Rattle.law_syntax.proofs.Steps.{run_at, join_nil, join_join, join_closed, after_append, line_end_is}
use Rattle.law_syntax.proofs.Runs.{word_ends, word_runs, name_ends, name_runs, quoted_runs, closed_ends, run_stops, newline_class, word_begun_by}
use Rattle.law_syntax.proofs.Operators.{operated_run, operator_begins, operator_begun, LexemeEnds, plain_ends}
use Rattle.law_syntax.proofs.Dollars.{dollar_ends, count_ends, flat_ends}
use Rattle.law_syntax.proofs.BodyRuns.{line_run, begin_line_runs, bodies_run, open_body_runs}
use Rattle.rc_model.specs.declared.fault.FaultKind.TheVariants.{BadDescriptor}
use Rattle.rc_model.specs.declared.syntax.Place.{Place}
use Rattle.rc_model.specs.declared.syntax.Previous.{Previous}
use Rattle.rc_model.specs.declared.syntax.Class.{Class}
use Rattle.rc_model.specs.declared.syntax.Previous.TheVariants as previous
use Rattle.rc_model.specs.declared.syntax.Class.TheVariants as class

no_here : (prev : Previous) → t.awaits_mark prev ≡ false → bare_here prev ≡ []
no_here (previous.Here begin' end) h = absurd cc
no_here prev h = refl

-- what is known of a lexeme that is spelled
abbrev Reads : Previous → List PendingHereDoc → Place → List ℕ → List ℕ → Lexeme → Type 0
Reads prev due p cs rest l = run (Between prev) due p (cs ++ rest)
    ≡ t.join (t.tokens_of prev l p (t.after_chars p cs)) [] (run (Between (t.after_token prev l)) (t.pending_after prev l due) (t.after_chars p cs) rest)

goes_on_first : (c : ℕ) (cs rest : List ℕ) {more : List ℕ → Bool} → t.IsLongestRun more (c ∷ cs) rest → more (c ∷ cs ++ rest) ≡ true
goes_on_first c cs rest (t.next _ _ _ h r) = h

run_tail : (c : ℕ) (cs rest : List ℕ) {more : List ℕ → Bool} → t.IsLongestRun more (c ∷ cs) rest → t.IsLongestRun more cs rest
run_tail c cs rest (t.next _ _ _ h r) = r

-- no character of a name begins anything but a word
abbrev begins_no_name : List ℕ → Bool
begins_no_name [] = true
begins_no_name (c ∷ cs) = not (t.is_name_char c)

differs : (c s : ℕ) → t.is_name_char c ≡ true → t.is_name_char s ≡ false → (c == s) ≡ false
differs c s h n = by (c == s) refl
  where
    by : (b : Bool) → (c == s) ≡ b → (c == s) ≡ false
    by true e = let e' = eqb-true c s e in let f : true ≡ false = sym h ∙ ap t.is_name_char e' ∙ n in absurd cc
    by false e = e

begins_none : (c : ℕ) → t.is_name_char c ≡ true → (os : List (List ℕ × Lexeme)) → list_all (λ o. begins_no_name o.0) os ≡ true → list_any (λ o. begins_with (c ∷ []) o.0) os ≡ false
begins_none c h [] a = refl
begins_none c h (o ∷ os) a = by o.0 (begins_none c h os) a
  where
    by : (cs : List ℕ) → (list_all (λ p. begins_no_name p.0) os ≡ true → list_any (λ p. begins_with (c ∷ []) p.0) os ≡ false) →
        (begins_no_name cs && list_all (λ p. begins_no_name p.0) os) ≡ true → (begins_with (c ∷ []) cs || list_any (λ p. begins_with (c ∷ []) p.0) os) ≡ false
    by [] g a' = g a'
    by (x ∷ xs) g a' = more (t.is_name_char x) refl a'
      where
        more : (b : Bool) → t.is_name_char x ≡ b → (not b && list_all (λ p. begins_no_name p.0) os) ≡ true →
            (((c == x) && true) || list_any (λ p. begins_with (c ∷ []) p.0) os) ≡ false
        more true e a'' = absurd cc
        more false e a'' = ap (λ v. (v && true) || list_any (λ p. begins_with (c ∷ []) p.0) os) (differs c x h e) ∙ g a''

ordinary_by : (a b c d e f : Bool) → a ≡ false → b ≡ false → c ≡ false → d ≡ false → e ≡ false → f ≡ false →
    cond a class.Operates (cond b class.Blank (cond c class.LineEnd (cond d class.Hash (cond e class.Quote (cond f class.Backslash class.Ordinary))))) ≡ class.Ordinary
ordinary_by false false false false false false g h i j k l = refl
ordinary_by true b c d e f g h i j k l = absurd cc
ordinary_by false true c d e f g h i j k l = absurd cc
ordinary_by false false true d e f g h i j k l = absurd cc
ordinary_by false false false true e f g h i j k l = absurd cc
ordinary_by false false false false true f g h i j k l = absurd cc
ordinary_by false false false false false true g h i j k l = absurd cc

pub name_class : (c : ℕ) → t.is_name_char c ≡ true → t.class_of c ≡ class.Ordinary
name_class c h =
    ordinary_by (t.begins_operator (c ∷ [])) ((c == 32) || (c == 9)) (c == 10) (c == 35) (c == 39) (c == 92)
    (begins_none c h t.operators refl) (or_from (c == 32) (c == 9) (differs c 32 h refl) (differs c 9 h refl)) (differs c 10 h refl) (differs c 35 h refl) (differs c 39 h refl) (differs c 92 h refl)

name_begun : (due : List PendingHereDoc) (p : Place) (c : ℕ) (rest : List ℕ) → t.is_name_char c ≡ true →
    run (Between previous.Dollar) due p (c ∷ rest) ≡ run (Name p (encode_utf8 c)) due (t.after_char p c) rest
name_begun due p c rest h =
    ap (run_at (Between previous.Dollar) due p c rest) (name_class c h)
    ∙ ap (λ b. follow (goes [] (cond b (Name p (encode_utf8 c)) (Word previous.Dollar p (encode_utf8 c))) due) (λ s' due'. run s' due' (t.after_char p c) rest)) h
    ∙ join_nil (run (Name p (encode_utf8 c)) due (t.after_char p c) rest)

comment_runs : {cs rest : List ℕ} → t.IsLongestRun t.line_goes_on cs rest → (due : List PendingHereDoc) (p : Place) →
    run Comment due p (cs ++ rest) ≡ run (Between previous.Apart) due (t.after_chars p cs) rest
comment_runs (t.stop rest h) due p = at_end rest h
  where
    at_end : (text : List ℕ) → t.line_goes_on text ≡ false → run Comment due p text ≡ run (Between previous.Apart) due p text
    at_end [] e = refl
    at_end (c ∷ cs) e = let k = newline_class c (not-false (c == 10) e) in ap (run_at Comment due p c cs) k ∙ sym (ap (run_at (Between previous.Apart) due p c cs) k)
comment_runs (t.next c cs rest h r) due p = by (t.class_of c) (λ e. eqb-false c 10 (not-true (c == 10) h) (line_end_is c e)) ∙ comment_runs r due (t.after_char p c)
  where
    by : (k : Class) → k ≢ class.LineEnd → run_at Comment due p c (cs ++ rest) k ≡ run Comment due (t.after_char p c) (cs ++ rest)
    by class.LineEnd e = absurd (e refl)
    by k e = join_nil (run Comment due (t.after_char p c) (cs ++ rest))

no_operator : (prev : Previous) (dollars : List Token) (q : Place) (due : List PendingHereDoc) (p : Place) (rest : List ℕ)
    → operated_run prev dollars q None due p rest ≡ Err (t.fault BadDescriptor q.line)
no_operator prev dollars q due p [] = refl
no_operator prev dollars q due p (c ∷ cs) = refl

here_run : (prev : Previous) (q : Place) (due : List PendingHereDoc) (p : Place) (rest : List ℕ) → t.awaits_mark prev ≡ false →
    operated_run prev [] q (Some t.BareHere) due p rest ≡ run (Between (previous.Here q p)) due p rest
here_run (previous.Here begin' end) q due p rest a = absurd cc
here_run prev q due p [] a = refl
here_run prev q due p (c ∷ cs) a = refl

no_mark_run : (begin' end : Place) (due : List PendingHereDoc) (p : Place) (c : ℕ) (cs : List ℕ) (k : Class) → t.is_mark k ≡ false →
    run_at (Between (previous.Here begin' end)) due p c cs k ≡ t.join (t.token t.BareHere begin' end ∷ []) [] (run_at (Between previous.Apart) due p c cs k)
no_mark_run begin' end due p c cs class.Operates h = ap (t.join (t.token t.BareHere begin' end ∷ []) []) (sym (join_nil (run (Operator previous.Apart [] p (c ∷ [])) due (t.after_char p c) cs)))
no_mark_run begin' end due p c cs class.Hash h = ap (t.join (t.token t.BareHere begin' end ∷ []) []) (sym (join_nil (run Comment due (t.after_char p c) cs)))
no_mark_run begin' end due p c cs class.LineEnd h =
    begin_line_runs (t.token t.BareHere begin' end ∷ t.token t.Newline p (t.after_char p c) ∷ []) [] due (t.after_char p c) cs
    ∙ join_join (t.token t.BareHere begin' end ∷ []) (t.token t.Newline p (t.after_char p c) ∷ []) [] [] (line_run due (t.after_char p c) cs)
    ∙ ap (t.join (t.token t.BareHere begin' end ∷ []) []) (sym (begin_line_runs (t.token t.Newline p (t.after_char p c) ∷ []) [] due (t.after_char p c) cs))
no_mark_run begin' end due p c cs class.Blank h = absurd cc
no_mark_run begin' end due p c cs class.Quote h = absurd cc
no_mark_run begin' end due p c cs class.Backslash h = absurd cc
no_mark_run begin' end due p c cs class.Ordinary h = absurd cc

newline_run : (prev : Previous) (due : List PendingHereDoc) (p : Place) (rest : List ℕ) → t.awaits_mark prev ≡ false →
    run (Between prev) due p (10 ∷ rest) ≡ t.join (t.token t.Newline p (t.after_char p 10) ∷ []) [] (line_run due (t.after_char p 10) rest)
newline_run prev due p rest a =
    begin_line_runs (bare_here prev ++ t.token t.Newline p (t.after_char p 10) ∷ []) [] due (t.after_char p 10) rest
    ∙ ap (λ ts. t.join (ts ++ t.token t.Newline p (t.after_char p 10) ∷ []) [] (line_run due (t.after_char p 10) rest)) (no_here prev a)

operated_lexeme : (prev : Previous) (l : Lexeme) (q : Place) (due : List PendingHereDoc) (p : Place) (rest : List ℕ) → t.awaits_mark prev ≡ false → l ≢ t.BareHere →
    LexemeEnds prev (t.meant prev rest l) q due p rest (operated_run prev [] q (Some l) due p rest)
operated_lexeme prev t.Dollar q due p rest a h = dollar_ends prev q due p rest a
operated_lexeme prev t.DollarCount q due p rest a h = count_ends prev q due p rest a
operated_lexeme prev t.DollarFlat q due p rest a h = flat_ends prev q due p rest a
operated_lexeme prev t.BareHere q due p rest a h = absurd (h refl)
operated_lexeme prev l q due p rest a h = plain_ends prev q l due p rest a refl

spelled : {prev : Previous} {cs rest : List ℕ} {l : Lexeme} → t.IsLexeme prev cs rest l → (due : List PendingHereDoc) (p : Place) → Reads prev due p cs rest l
spelled (t.word prev c cs rest n r) due p =
    word_begun_by prev due p c (cs ++ rest) (t.class_of c) refl n (goes_on_first c cs rest r)
    ∙ word_runs (run_tail c cs rest r) prev p (encode_utf8 c) due (t.after_char p c)
    ∙ word_ends prev p (encode_utf8_all (c ∷ cs)) due (t.after_chars p (c ∷ cs)) rest (run_stops r)
spelled (t.name c cs rest r) due p =
    name_begun due p c (cs ++ rest) (goes_on_first c cs rest r)
    ∙ name_runs (run_tail c cs rest r) p (encode_utf8 c) due (t.after_char p c)
    ∙ name_ends p (encode_utf8_all (c ∷ cs)) due (t.after_chars p (c ∷ cs)) rest (run_stops r)
spelled (t.quoted prev cs rest i h) due p =
    ap (λ z. run (Between prev) due p (39 ∷ z)) (append_assoc cs (39 ∷ []) rest)
    ∙ join_nil (run (Quoted prev p (encode_utf8 39)) due (t.after_char p 39) (cs ++ 39 ∷ rest))
    ∙ quoted_runs i prev p (encode_utf8 39) due (t.after_char p 39) (39 ∷ rest)
    ∙ join_nil (run (Closed prev p (encode_utf8_all (39 ∷ cs) ++ encode_utf8 39)) due (t.after_char (t.after_chars p (39 ∷ cs)) 39) rest)
    ∙ ap (λ z. run (Closed prev p z) due (t.after_char (t.after_chars p (39 ∷ cs)) 39) rest) (text cs)
    ∙ ap (λ z. run (Closed prev p (encode_utf8_all (39 ∷ cs ++ 39 ∷ []))) due z rest) (sym (after_append p (39 ∷ cs) (39 ∷ [])))
    ∙ closed_ends prev p (encode_utf8_all (39 ∷ cs ++ 39 ∷ [])) due (t.after_chars p (39 ∷ cs ++ 39 ∷ [])) rest h
  where
    text : (xs : List ℕ) → encode_utf8_all (39 ∷ xs) ++ encode_utf8 39 ≡ encode_utf8_all (39 ∷ xs ++ 39 ∷ [])
    text xs = sym (encodes-append (39 ∷ xs) (39 ∷ []) ∙ ap (λ z. encode_utf8_all (39 ∷ xs) ++ z) (append-nil (encode_utf8 39)))
spelled (t.operated prev [] rest l a o h g) due p = absurd cc
spelled (t.operated prev (c ∷ cs) rest l a o h g) due p =
    operator_begun prev due p c cs rest a (operator_begins (c ∷ cs) l o) g
    ∙ ap (λ z. operated_run prev [] p z due (t.after_chars p (c ∷ cs)) rest) o
    ∙ operated_lexeme prev l p due (t.after_chars p (c ∷ cs)) rest a h

pub Cuts-run : {prev : Previous} {due : List PendingHereDoc} {p : Place} {text : List ℕ} {o : Outcome} → t.Cuts prev due p text o → run (Between prev) due p text ≡ o
Cuts-run (t.finish prev p a) = ap (λ ts. closed ts [] []) (no_here prev a)
Cuts-run (t.open_here prev d due p a) = refl
Cuts-run (t.blank prev due p c cs o k r) =
    ap (run_at (Between prev) due p c cs) k ∙ join_nil (run (Between (t.after_blank prev)) due (t.after_char p c) cs) ∙ Cuts-run r
Cuts-run (t.continued prev due p cs o r) =
    join_nil (run (Backslash prev p) due (t.after_char p 92) (10 ∷ cs))
    ∙ join_nil (run (Between (t.after_blank prev)) due (t.after_chars p (92 ∷ 10 ∷ [])) cs) ∙ Cuts-run r
Cuts-run (t.comment prev due p cs rest o a r c) =
    ap (λ ts. t.join ts [] (run Comment due (t.after_char p 35) (cs ++ rest))) (no_here prev a)
    ∙ join_nil (run Comment due (t.after_char p 35) (cs ++ rest)) ∙ comment_runs r due (t.after_char p 35) ∙ Cuts-run c
Cuts-run (t.lexeme prev due p cs rest l o s c) = spelled s due p ∙ ap (t.join (t.tokens_of prev l p (t.after_chars p cs)) []) (Cuts-run c)
Cuts-run (t.open_quote prev due p cs i) =
    join_nil (run (Quoted prev p (encode_utf8 39)) due (t.after_char p 39) cs)
    ∙ ap (run (Quoted prev p (encode_utf8 39)) due (t.after_char p 39)) (sym (append-nil cs))
    ∙ quoted_runs i prev p (encode_utf8 39) due (t.after_char p 39) []
Cuts-run (t.bad_descriptor prev due p c cs rest a b o g) =
    operator_begun prev due p c cs rest a b g
    ∙ ap (λ z. operated_run prev [] p z due (t.after_chars p (c ∷ cs)) rest) o
    ∙ no_operator prev [] p due (t.after_chars p (c ∷ cs)) rest
Cuts-run (t.here prev due p [] rest o a e g c) = absurd cc
Cuts-run (t.here prev due p (d ∷ cs) rest o a e g c) =
    operator_begun prev due p d cs rest a (operator_begins (d ∷ cs) t.BareHere e) g
    ∙ ap (λ z. operated_run prev [] p z due (t.after_chars p (d ∷ cs)) rest) e
    ∙ here_run prev p due (t.after_chars p (d ∷ cs)) rest a ∙ Cuts-run c
Cuts-run (t.no_mark begin' end due p [] o h c) =
    sym (join_closed (t.token t.BareHere begin' end ∷ []) [] [] due) ∙ ap (t.join (t.token t.BareHere begin' end ∷ []) []) (Cuts-run c)
Cuts-run (t.no_mark begin' end due p (d ∷ cs) o h c) =
    no_mark_run begin' end due p d cs (t.class_of d) h ∙ ap (t.join (t.token t.BareHere begin' end ∷ []) []) (Cuts-run c)
Cuts-run (t.newline prev due p cs rest bodies o a b c) =
    newline_run prev due p (cs ++ rest) a
    ∙ ap (t.join (t.token t.Newline p (t.after_char p 10) ∷ []) []) (bodies_run b (t.after_char p 10))
    ∙ sym (join_join (t.token t.Newline p (t.after_char p 10) ∷ []) [] [] bodies (run (Between previous.Apart) [] (t.after_chars p (10 ∷ cs)) rest))
    ∙ ap (t.join (t.token t.Newline p (t.after_char p 10) ∷ []) bodies) (Cuts-run c)
Cuts-run (t.open_body prev due p rest line a o) =
    newline_run prev due p rest a ∙ ap (t.join (t.token t.Newline p (t.after_char p 10) ∷ []) []) (open_body_runs o (t.after_char p 10))
