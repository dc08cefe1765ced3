-- The machine reads the bodies of here documents.
use Rattle.std.proofs.Common.{◌≡◌, ◌≢◌, ℕ, Bool, true, false, cond, ◌==◌, List, [], ◌∷◌, ◌++◌, length, refl, sym, ap, ◌∙◌, append_assoc, arith, length-append}
use Rattle.std.specs.Prelude.{Err}
use Rattle.std.proofs.lemmas.List.{append-nil}
use Rattle.std.proofs.lemmas.Bool.{eqb-false, not-true}
use Rattle.std.proofs.lemmas.Slice.Eq.{bytes_eq-Decides}
use Rattle.std.proofs.lemmas.Str.{encodes-append, length-encode, len_utf8_bounds}
use Rattle.std.specs.Char.{encode_utf8}
use Rattle.std.specs.Str.{bytes_eq, encode_utf8_all}
use Rattle.rc_model.specs.Syntax.Tokens as t
use Rattle.rc_model.specs.Syntax.Tokens.{PendingHereDoc, Outcome, Token}
use Rattle.rc_model.specs.Mirrors.Reading.{Between, Body, goes, begin_line, closed, finish, follow, run}
use Rattle.law_syntax.proofs.Steps.{run_at, join_nil, join_join, after_append, line_end_is}
use Rattle.rc_model.specs.declared.fault.FaultKind.TheVariants.{OpenHere}
use Rattle.rc_model.specs.declared.syntax.Place.{Place}
use Rattle.rc_model.specs.declared.syntax.Class.{Class}
use Rattle.rc_model.specs.declared.syntax.Previous.TheVariants as previous
use Rattle.rc_model.specs.declared.syntax.Class.TheVariants as class

-- the run at the beginning of a line, with these bodies due
abbrev pub line_run : List PendingHereDoc → Place → List ℕ → Outcome
line_run [] p rest = run (Between previous.Apart) [] p rest
line_run (d ∷ due) p rest = run (Body d [] []) due p rest

pub begin_line_runs : (ts : List Token) (bodies : List (List ℕ)) (due : List PendingHereDoc) (p : Place) (rest : List ℕ) →
    follow (begin_line ts bodies due) (λ s' due'. run s' due' p rest) ≡ t.join ts bodies (line_run due p rest)
begin_line_runs ts bodies [] p rest = refl
begin_line_runs ts bodies (d ∷ due) p rest = refl

-- a line is read
line_by : (d : PendingHereDoc) (body line : List ℕ) (due : List PendingHereDoc) (p : Place) (c : ℕ) (cs : List ℕ) (k : Class) → k ≢ class.LineEnd →
    run_at (Body d body line) due p c cs k ≡ run (Body d body (line ++ encode_utf8 c)) due (t.after_char p c) cs
line_by d body line due p c cs class.LineEnd h = absurd (h refl)
line_by d body line due p c cs k h = join_nil (run (Body d body (line ++ encode_utf8 c)) due (t.after_char p c) cs)

line_runs : {cs rest : List ℕ} → t.IsLongestRun t.line_goes_on cs rest → (d : PendingHereDoc) (body line : List ℕ) (due : List PendingHereDoc) (p : Place) →
    run (Body d body line) due p (cs ++ rest) ≡ run (Body d body (line ++ encode_utf8_all cs)) due (t.after_chars p cs) rest
line_runs (t.stop rest h) d body line due p = ap (λ z. run (Body d body z) due p rest) (sym (append-nil line))
line_runs (t.next c cs rest h r) d body line due p =
    line_by d body line due p c (cs ++ rest) (t.class_of c) (λ e. eqb-false c 10 (not-true (c == 10) h) (line_end_is c e))
    ∙ line_runs r d body (line ++ encode_utf8 c) due (t.after_char p c)
    ∙ ap (λ z. run (Body d body z) due (t.after_chars (t.after_char p c) cs) rest) (append_assoc line (encode_utf8 c) (encode_utf8_all cs))

is_mark : (xs ys : List ℕ) → xs ≡ ys → bytes_eq xs ys ≡ true
is_mark xs ys e = (bytes_eq-Decides xs ys).1 e

is_other : (xs ys : List ℕ) → xs ≢ ys → bytes_eq xs ys ≡ false
is_other xs ys h = by (bytes_eq xs ys) refl
  where
    by : (b : Bool) → bytes_eq xs ys ≡ b → bytes_eq xs ys ≡ false
    by true e = absurd (h ((bytes_eq-Decides xs ys).0 e))
    by false e = e

-- a newline after a line that is the mark, and after another
at_mark : (d : PendingHereDoc) (body line : List ℕ) (due : List PendingHereDoc) (p : Place) (rest : List ℕ) → line ≡ d.mark →
    run (Body d body line) due p (10 ∷ rest) ≡ t.join [] (body ∷ []) (line_run due (t.after_char p 10) rest)
at_mark d body line due p rest e =
    ap (λ b. follow (cond b (begin_line [] (body ∷ []) due) (goes [] (Body d (body ++ line ++ encode_utf8 10) []) due)) (λ s' due'. run s' due' (t.after_char p 10) rest)) (is_mark line d.mark e)
    ∙ begin_line_runs [] (body ∷ []) due (t.after_char p 10) rest

at_other : (d : PendingHereDoc) (body line : List ℕ) (due : List PendingHereDoc) (p : Place) (rest : List ℕ) → line ≢ d.mark →
    run (Body d body line) due p (10 ∷ rest) ≡ run (Body d (body ++ line ++ encode_utf8 10) []) due (t.after_char p 10) rest
at_other d body line due p rest h =
    ap (λ b. follow (cond b (begin_line [] (body ∷ []) due) (goes [] (Body d (body ++ line ++ encode_utf8 10) []) due)) (λ s' due'. run s' due' (t.after_char p 10) rest)) (is_other line d.mark h)
    ∙ join_nil (run (Body d (body ++ line ++ encode_utf8 10) []) due (t.after_char p 10) rest)

-- the end after a line
some_bytes : (cs : List ℕ) → cs ≢ [] → encode_utf8_all cs ≢ []
some_bytes [] h e = h refl
some_bytes (c ∷ cs) h e = absurd (omega (arith, ap length e, length-append (encode_utf8 c) (encode_utf8_all cs), length-encode c, (len_utf8_bounds c).0))

finish_line : (d : PendingHereDoc) (body line : List ℕ) (due : List PendingHereDoc) (p : Place) → line ≢ [] →
    finish (Body d body line) due p ≡ cond (bytes_eq line d.mark) (closed [] (body ∷ []) due) (Err (t.fault OpenHere d.line))
finish_line d body [] due p h = absurd (h refl)
finish_line d body (b ∷ line) due p h = refl

last_body : (body : List ℕ) (due : List PendingHereDoc) (p : Place) → closed [] (body ∷ []) due ≡ t.join [] (body ∷ []) (line_run due p [])
last_body body [] p = refl
last_body body (d ∷ due) p = refl

pub body_runs : {mark body end rest : List ℕ} → t.Body mark body end rest → (d : PendingHereDoc) → mark ≡ d.mark → (acc : List ℕ) (due : List PendingHereDoc) (p : Place) →
    run (Body d acc []) due p (body ++ end ++ rest) ≡ t.join [] ((acc ++ encode_utf8_all body) ∷ []) (line_run due (t.after_chars p (body ++ end)) rest)
body_runs (t.marked line rest r e) d m acc due p =
    ap (run (Body d acc []) due p) (append_assoc line (10 ∷ []) rest)
    ∙ line_runs r d acc [] due p
    ∙ at_mark d acc (encode_utf8_all line) due (t.after_chars p line) rest (e ∙ m)
    ∙ ap (λ z. t.join [] (z ∷ []) (line_run due (t.after_char (t.after_chars p line) 10) rest)) (sym (append-nil acc))
    ∙ ap (λ z. t.join [] ((acc ++ []) ∷ []) (line_run due z rest)) (sym (after_append p line (10 ∷ [])))
body_runs (t.marked_last line r ne e) d m acc due p =
    line_runs r d acc [] due p
    ∙ finish_line d acc (encode_utf8_all line) due (t.after_chars p line) (some_bytes line ne)
    ∙ ap (λ b. cond b (closed [] (acc ∷ []) due) (Err (t.fault OpenHere d.line))) (is_mark (encode_utf8_all line) d.mark (e ∙ m))
    ∙ last_body acc due (t.after_chars p line)
    ∙ ap (λ z. t.join [] (z ∷ []) (line_run due (t.after_chars p line) [])) (sym (append-nil acc))
body_runs (t.other line body end rest r ne b) d m acc due p =
    let p1 = t.after_char (t.after_chars p line) 10 in
    let acc' = acc ++ encode_utf8_all line ++ encode_utf8 10 in
    ap (λ z. run (Body d acc []) due p (z ++ rest)) (append_assoc line (10 ∷ body) end)
    ∙ ap (run (Body d acc []) due p) (append_assoc line (10 ∷ body ++ end) rest)
    ∙ line_runs r d acc [] due p
    ∙ at_other d acc (encode_utf8_all line) due (t.after_chars p line) (body ++ end ++ rest) (λ e. ne (e ∙ sym m))
    ∙ body_runs b d m acc' due p1
    ∙ ap (λ z. t.join [] (z ∷ []) (line_run due (t.after_chars p1 (body ++ end)) rest))
    (append_assoc (acc ++ encode_utf8_all line) (encode_utf8 10) (encode_utf8_all body) ∙ append_assoc acc (encode_utf8_all line) (encode_utf8 10 ++ encode_utf8_all body)
    ∙ ap (λ z. acc ++ z) (sym (encodes-append line (10 ∷ body))))
    ∙ ap (λ z. t.join [] ((acc ++ encode_utf8_all (line ++ 10 ∷ body)) ∷ []) (line_run due z rest))
    (sym (ap (t.after_chars p) (append_assoc line (10 ∷ body) end) ∙ after_append p line (10 ∷ body ++ end)))

pub no_body_runs : {mark text : List ℕ} → t.NoBody mark text → (d : PendingHereDoc) → mark ≡ d.mark → (acc : List ℕ) (due : List PendingHereDoc) (p : Place) →
    run (Body d acc []) due p text ≡ Err (t.fault OpenHere d.line)
no_body_runs t.nothing d m acc due p = refl
no_body_runs (t.other_last line r ne h) d m acc due p =
    ap (run (Body d acc []) due p) (sym (append-nil line))
    ∙ line_runs r d acc [] due p
    ∙ finish_line d acc (encode_utf8_all line) due (t.after_chars p line) (some_bytes line ne)
    ∙ ap (λ b. cond b (closed [] (acc ∷ []) due) (Err (t.fault OpenHere d.line))) (is_other (encode_utf8_all line) d.mark (λ e. h (e ∙ sym m)))
no_body_runs (t.other line rest r h n) d m acc due p =
    line_runs r d acc [] due p
    ∙ at_other d acc (encode_utf8_all line) due (t.after_chars p line) rest (λ e. h (e ∙ sym m))
    ∙ no_body_runs n d m (acc ++ encode_utf8_all line ++ encode_utf8 10) due (t.after_char (t.after_chars p line) 10)

pub bodies_run : {due : List PendingHereDoc} {cs rest : List ℕ} {bodies : List (List ℕ)} → t.Bodies due cs rest bodies → (p : Place) →
    line_run due p (cs ++ rest) ≡ t.join [] bodies (run (Between previous.Apart) [] (t.after_chars p cs) rest)
bodies_run (t.all rest) p = sym (join_nil (run (Between previous.Apart) [] p rest))
bodies_run (t.one d due body end cs rest bodies b bs) p =
    ap (run (Body d [] []) due p) (append_assoc (body ++ end) cs rest)
    ∙ body_runs b d refl [] due p
    ∙ ap (t.join [] (encode_utf8_all body ∷ [])) (bodies_run bs (t.after_chars p (body ++ end)))
    ∙ sym (join_join [] [] (encode_utf8_all body ∷ []) bodies (run (Between previous.Apart) [] (t.after_chars (t.after_chars p (body ++ end)) cs) rest))
    ∙ ap (λ z. t.join [] (encode_utf8_all body ∷ bodies) (run (Between previous.Apart) [] z rest)) (sym (after_append p (body ++ end) cs))

pub open_body_runs : {due : List PendingHereDoc} {text : List ℕ} {line : ℕ} → t.OpenBody due text line → (p : Place) → line_run due p text ≡ Err (t.fault OpenHere line)
open_body_runs (t.first d due text n) p = no_body_runs n d refl [] due p
open_body_runs (t.later d due body end text line b o) p = body_runs b d refl [] due p ∙ ap (t.join [] (encode_utf8_all body ∷ [])) (open_body_runs o (t.after_chars p (body ++ end)))
