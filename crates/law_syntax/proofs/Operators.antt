-- The machine reads an operator, and the `$`s before a name.
use Rattle.std.proofs.Common.{◌≡◌, ℕ, Bool, true, false, cond, ◌==◌, ◌||◌, eq-eqb, List, [], ◌∷◌, ◌++◌, refl, sym, ap, subst, ◌∙◌, append_assoc}
use Rattle.std.specs.Prelude.{Option, Some, ◌&&◌, find, option_map}
use Rattle.std.proofs.lemmas.List.{append-nil}
use Rattle.std.proofs.lemmas.Slice.Eq.{bytes_eq-Decides}
use Rattle.std.specs.List.{list_any}
use Rattle.std.specs.Str.{bytes_eq}
use Rattle.rc_model.specs.Syntax.Text.{begins_with}
use Rattle.rc_model.specs.Syntax.Tokens as t
use Rattle.rc_model.specs.Syntax.Tokens.{Lexeme, Token, PendingHereDoc, Outcome}
use Rattle.rc_model.specs.Mirrors.Reading.{Between, Operator, goes, bare_here, ends, end_operator, closed, finish_operator, follow, run}
use Rattle.law_syntax.proofs.Steps.{run_at, join_nil}
use Rattle.law_syntax.proofs.Runs.{ended_at, ends_at}
use Rattle.rc_model.specs.declared.syntax.Place.{Place}
use Rattle.rc_model.specs.declared.syntax.Previous.{Previous}
use Rattle.rc_model.specs.declared.syntax.Class.{Class}
use Rattle.rc_model.specs.declared.syntax.Previous.TheVariants as previous
use Rattle.rc_model.specs.declared.syntax.Class.TheVariants as class

any_weaker : {A : Type 0} (p q : A → Bool) → ((a : A) → p a ≡ true → q a ≡ true) → (xs : List A) → list_any p xs ≡ true → list_any q xs ≡ true
any_weaker p q f [] h = h
any_weaker p q f (x ∷ xs) h = by (p x) (list_any p xs) (q x) (list_any q xs) h (f x) (any_weaker p q f xs)
  where
    by : (a b c d : Bool) → (a || b) ≡ true → (a ≡ true → c ≡ true) → (b ≡ true → d ≡ true) → (c || d) ≡ true
    by true b c d h' f' g = ap (λ z. z || d) (f' refl)
    by false true true d h' f' g = refl
    by false true false d h' f' g = g refl
    by false false c d h' f' g = absurd cc

begins_with-front : (xs ys text : List ℕ) → begins_with (xs ++ ys) text ≡ true → begins_with xs text ≡ true
begins_with-front [] ys text h = refl
begins_with-front (x ∷ xs) ys [] h = absurd cc
begins_with-front (x ∷ xs) ys (c ∷ text) h = by (x == c) (begins_with (xs ++ ys) text) (begins_with xs text) h (begins_with-front xs ys text)
  where
    by : (a b d : Bool) → (a && b) ≡ true → (b ≡ true → d ≡ true) → (a && d) ≡ true
    by true b d h' f = f h'
    by false b d h' f = absurd cc

begins_with-refl : (xs : List ℕ) → begins_with xs xs ≡ true
begins_with-refl [] = refl
begins_with-refl (x ∷ xs) = ap (λ b. b && begins_with xs xs) (eq-eqb x x refl) ∙ begins_with-refl xs

-- what begins an operator begins with what begins one, and an operator begins as it is
pub begins-front : (xs ys : List ℕ) → t.begins_operator (xs ++ ys) ≡ true → t.begins_operator xs ≡ true
begins-front xs ys h = any_weaker (λ (o : List ℕ × Lexeme). begins_with (xs ++ ys) o.0) (λ (o : List ℕ × Lexeme). begins_with xs o.0) (λ o. begins_with-front xs ys o.0) t.operators h

find_any : {A B : Type 0} (p : A → Bool) (f : A → B) (xs : List A) (b : B) → option_map f (find p xs) ≡ Some b → list_any p xs ≡ true
find_any p f [] b h = absurd cc
find_any p f (x ∷ xs) b h = by (p x) h (find_any p f xs b)
  where
    by : (v : Bool) → option_map f (cond v (Some x) (find p xs)) ≡ Some b → (option_map f (find p xs) ≡ Some b → list_any p xs ≡ true) → (v || list_any p xs) ≡ true
    by true h' g = refl
    by false h' g = g h'

pub operator_begins : (cs : List ℕ) (l : Lexeme) → t.operator cs ≡ Some l → t.begins_operator cs ≡ true
operator_begins cs l h =
    any_weaker (λ (o : List ℕ × Lexeme). bytes_eq o.0 cs) (λ (o : List ℕ × Lexeme). begins_with cs o.0)
    (λ o e. subst (λ z. begins_with cs z ≡ true) (sym ((bytes_eq-Decides o.0 cs).0 e)) (begins_with-refl cs)) t.operators
    (find_any (λ (o : List ℕ × Lexeme). bytes_eq o.0 cs) (λ o. o.1) t.operators l h)

-- an operator is read
pub operator_runs : (prev : Previous) (dollars : List Token) (q : Place) (acc : List ℕ) (due : List PendingHereDoc) (cs rest : List ℕ) (p : Place) → t.begins_operator (acc ++ cs) ≡ true →
    run (Operator prev dollars q acc) due p (cs ++ rest) ≡ run (Operator prev dollars q (acc ++ cs)) due (t.after_chars p cs) rest
operator_runs prev dollars q acc due [] rest p h = ap (λ z. run (Operator prev dollars q z) due p rest) (sym (append-nil acc))
operator_runs prev dollars q acc due (c ∷ cs) rest p h =
    let e = append_assoc acc (c ∷ []) cs in
    let h' : t.begins_operator ((acc ++ c ∷ []) ++ cs) ≡ true = ap t.begins_operator e ∙ h in
    ap (λ b. follow (cond b (goes [] (Operator prev dollars q (acc ++ c ∷ [])) due) (end_operator prev dollars q (t.operator acc) due p c (t.class_of c)))
    (λ s' due'. run s' due' (t.after_char p c) (cs ++ rest)))
    (begins-front (acc ++ c ∷ []) cs h')
    ∙ join_nil (run (Operator prev dollars q (acc ++ c ∷ [])) due (t.after_char p c) (cs ++ rest))
    ∙ operator_runs prev dollars q (acc ++ c ∷ []) due cs rest (t.after_char p c) h'
    ∙ ap (λ z. run (Operator prev dollars q z) due (t.after_chars (t.after_char p c) cs) rest) e

-- what an operator is followed by
abbrev pub operated_run : Previous → List Token → Place → Option Lexeme → List PendingHereDoc → Place → List ℕ → Outcome
operated_run prev dollars q o due p [] = finish_operator prev dollars q o due p
operated_run prev dollars q o due p (c ∷ cs) = follow (end_operator prev dollars q o due p c (t.class_of c)) (λ s' due'. run s' due' (t.after_char p c) cs)

pub operator_ends : (prev : Previous) (dollars : List Token) (q : Place) (acc : List ℕ) (due : List PendingHereDoc) (p : Place) (rest : List ℕ) → t.goes_on acc rest ≡ false →
    run (Operator prev dollars q acc) due p rest ≡ operated_run prev dollars q (t.operator acc) due p rest
operator_ends prev dollars q acc due p [] h = refl
operator_ends prev dollars q acc due p (c ∷ cs) h =
    ap (λ b. follow (cond b (goes [] (Operator prev dollars q (acc ++ c ∷ [])) due) (end_operator prev dollars q (t.operator acc) due p c (t.class_of c)))
    (λ s' due'. run s' due' (t.after_char p c) cs)) h

-- from its first character on
pub operator_begun : (prev : Previous) (due : List PendingHereDoc) (p : Place) (c : ℕ) (cs rest : List ℕ) → t.awaits_mark prev ≡ false
    → t.begins_operator (c ∷ cs) ≡ true → t.goes_on (c ∷ cs) rest ≡ false →
    run (Between prev) due p (c ∷ cs ++ rest) ≡ operated_run prev [] p (t.operator (c ∷ cs)) due (t.after_chars p (c ∷ cs)) rest
operator_begun prev due p c cs rest a h g =
    ap (λ b. run_at (Between prev) due p c (cs ++ rest)
    (cond b class.Operates (cond ((c == 32) || (c == 9)) class.Blank
    (cond (c == 10) class.LineEnd (cond (c == 35) class.Hash (cond (c == 39) class.Quote (cond (c == 92) class.Backslash class.Ordinary)))))))
    (begins-front (c ∷ []) cs h)
    ∙ begun prev a
    ∙ operator_runs prev [] p (c ∷ []) due cs rest (t.after_char p c) h
    ∙ operator_ends prev [] p (c ∷ cs) due (t.after_chars p (c ∷ cs)) rest g
  where
    begun : (b : Previous) → t.awaits_mark b ≡ false → run_at (Between b) due p c (cs ++ rest) class.Operates ≡ run (Operator b [] p (c ∷ [])) due (t.after_char p c) (cs ++ rest)
    begun (previous.Here begin' end) e = absurd cc
    begun b e = join_nil (run (Operator b [] p (c ∷ [])) due (t.after_char p c) (cs ++ rest))

-- an operator that is neither a `$` nor a `<<` is a lexeme
abbrev is_plain_lexeme : Lexeme → Bool
is_plain_lexeme t.Dollar = false
is_plain_lexeme t.DollarCount = false
is_plain_lexeme t.DollarFlat = false
is_plain_lexeme t.BareHere = false
is_plain_lexeme _ = true

plain_operated : (prev : Previous) (dollars : List Token) (q : Place) (l : Lexeme) (due : List PendingHereDoc) (p : Place) (c : ℕ) (k : Class) → is_plain_lexeme l ≡ true →
    end_operator prev dollars q (Some l) due p c k ≡ ends prev (t.meant prev [] l) q due p c k
plain_operated prev dollars q t.Dollar due p c k h = absurd cc
plain_operated prev dollars q t.DollarCount due p c k h = absurd cc
plain_operated prev dollars q t.DollarFlat due p c k h = absurd cc
plain_operated prev dollars q t.BareHere due p c k h = absurd cc
plain_operated prev dollars q l due p c k h = refl

plain_meant : (prev : Previous) (rest : List ℕ) (l : Lexeme) → is_plain_lexeme l ≡ true → t.meant prev rest l ≡ t.meant prev [] l
plain_meant previous.Name rest t.Dollar h = absurd cc
plain_meant prev rest t.Dollar h = absurd cc
plain_meant previous.Name rest t.DollarCount h = absurd cc
plain_meant prev rest t.DollarCount h = absurd cc
plain_meant previous.Name rest t.DollarFlat h = absurd cc
plain_meant prev rest t.DollarFlat h = absurd cc
plain_meant previous.Name rest t.LeftParen h = refl
plain_meant previous.Name rest l h = refl
plain_meant prev rest t.LeftParen h = refl
plain_meant prev rest l h = refl

no_here_after : (prev : Previous) (l : Lexeme) → bare_here (t.after_token prev l) ≡ []
no_here_after (previous.Here begin' end) l = refl
no_here_after previous.Dollar (t.Quoted text) = refl
no_here_after previous.Dollar (t.Word text) = refl
no_here_after previous.Dollar (t.Name text) = refl
no_here_after previous.Dollar t.Dollar = refl
no_here_after previous.Dollar l = refl
no_here_after previous.Apart (t.Word text) = refl
no_here_after previous.Apart l = refl
no_here_after previous.Word (t.Word text) = refl
no_here_after previous.Word l = refl
no_here_after previous.Quoted (t.Word text) = refl
no_here_after previous.Quoted l = refl
no_here_after previous.Name (t.Word text) = refl
no_here_after previous.Name l = refl

pub same_due : (prev : Previous) (l : Lexeme) (due : List PendingHereDoc) → t.awaits_mark prev ≡ false → t.pending_after prev l due ≡ due
same_due (previous.Here begin' end) l due h = absurd cc
same_due prev l due h = refl

-- what is read where a lexeme ends
abbrev pub LexemeEnds : Previous → Lexeme → Place → List PendingHereDoc → Place → List ℕ → Outcome → Type 0
LexemeEnds prev l q due p rest o = o ≡ t.join (t.tokens_of prev l q p) [] (run (Between (t.after_token prev l)) (t.pending_after prev l due) p rest)

pub plain_ends : (prev : Previous) (q : Place) (l : Lexeme) (due : List PendingHereDoc) (p : Place) (rest : List ℕ) → t.awaits_mark prev ≡ false → is_plain_lexeme l ≡ true →
    LexemeEnds prev (t.meant prev rest l) q due p rest (operated_run prev [] q (Some l) due p rest)
plain_ends prev q l due p [] a h =
    ap (λ z. closed (t.tokens_of prev (t.meant prev [] l) q p) [] z) (sym (same_due prev (t.meant prev [] l) due a))
    ∙ ended_at prev (t.meant prev [] l) q due p (no_here_after prev (t.meant prev [] l))
plain_ends prev q l due p (c ∷ cs) a h =
    ap (λ x. follow x (λ s' due'. run s' due' (t.after_char p c) cs)) (plain_operated prev [] q l due p c (t.class_of c) h)
    ∙ ends_at prev (t.meant prev [] l) q due p c cs (t.class_of c)
    ∙ ap (λ m. t.join (t.tokens_of prev m q p) [] (run (Between (t.after_token prev m)) (t.pending_after prev m due) p (c ∷ cs))) (sym (plain_meant prev (c ∷ cs) l h))
