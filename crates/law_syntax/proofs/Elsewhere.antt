-- A text has the same lexemes and bodies wherever it stands.
use Rattle.std.proofs.Common.{◌≡◌, ℕ, Bool, true, false, if◌then◌else◌, List, [], ◌∷◌, ◌++◌, refl, sym, ap, subst, ◌∙◌}
use Rattle.std.specs.Prelude.{Ok, Err}
use Rattle.rc_model.specs.Syntax.Accepted.{lexemes}
use Rattle.rc_model.specs.Syntax.Tokens as t
use Rattle.rc_model.specs.Syntax.Tokens.{Lexeme, Token, PendingHereDoc, Outcome, Cuts, IsLexeme, Bodies, OpenBody}
use Rattle.rc_model.specs.declared.syntax.Place.{Place}
use Rattle.rc_model.specs.declared.syntax.Previous.{Previous}
use Rattle.rc_model.specs.declared.syntax.Previous.TheVariants as previous

-- ** contexts, with a `<<` between these places

abbrev pub moved : Place → Place → Previous → Previous
moved p q (previous.Here begin end) = previous.Here p q
moved p q prev = prev

awaits_moved : (p q : Place) (prev : Previous) → t.awaits_mark (moved p q prev) ≡ t.awaits_mark prev
awaits_moved p q (previous.Here begin end) = refl
awaits_moved p q prev = refl

blank_moved : (p q : Place) (prev : Previous) → moved p q (t.after_blank prev) ≡ t.after_blank (moved p q prev)
blank_moved p q (previous.Here begin end) = refl
blank_moved p q prev = refl

begins_moved : (p q : Place) (prev : Previous) (c : ℕ) → t.begins_name (moved p q prev) c ≡ t.begins_name prev c
begins_moved p q (previous.Here begin end) c = refl
begins_moved p q prev c = refl

after_moved : (p q : Place) (prev : Previous) (m : Lexeme) → moved p q (t.after_token prev m) ≡ t.after_token (moved p q prev) m
after_moved p q (previous.Here begin end) m = refl
after_moved p q previous.Dollar (t.Quoted text) = refl
after_moved p q previous.Dollar m = refl
after_moved p q previous.Apart (t.Quoted text) = refl
after_moved p q previous.Apart m = refl
after_moved p q previous.Word (t.Quoted text) = refl
after_moved p q previous.Word m = refl
after_moved p q previous.Quoted (t.Quoted text) = refl
after_moved p q previous.Quoted m = refl
after_moved p q previous.Name (t.Quoted text) = refl
after_moved p q previous.Name m = refl

meant_moved : (p q : Place) (prev : Previous) (rest : List ℕ) (m : Lexeme) → t.meant (moved p q prev) rest m ≡ t.meant prev rest m
meant_moved p q (previous.Here begin end) rest t.LeftParen = refl
meant_moved p q (previous.Here begin end) rest m = refl
meant_moved p q prev rest m = refl

lexeme_moved : {prev : Previous} {cs rest : List ℕ} {m : Lexeme} → (p q : Place) → IsLexeme prev cs rest m → IsLexeme (moved p q prev) cs rest m
lexeme_moved p q (t.word prev c cs rest h r) = t.word (moved p q prev) c cs rest (begins_moved p q prev c ∙ h) r
lexeme_moved p q (t.name c cs rest r) = t.name c cs rest r
lexeme_moved p q (t.quoted prev cs rest i h) = t.quoted (moved p q prev) cs rest i h
lexeme_moved p q (t.operated prev cs rest m a o n h) =
    subst (λ z. IsLexeme (moved p q prev) cs rest z) (meant_moved p q prev rest m) (t.operated (moved p q prev) cs rest m (awaits_moved p q prev ∙ a) o n h)

-- ** the tokens of a lexeme

pub lexemes_append : (ts us : List Token) → lexemes (ts ++ us) ≡ lexemes ts ++ lexemes us
lexemes_append [] us = refl
lexemes_append (x ∷ ts) us = ap (λ z. x.lexeme ∷ z) (lexemes_append ts us)

caret_moved : (b : Bool) (m : Lexeme) (p q p' q' : Place) →
    lexemes ((if b then t.token t.FreeCaret p p ∷ [] else []) ++ t.token m p q ∷ []) ≡ lexemes ((if b then t.token t.FreeCaret p' p' ∷ [] else []) ++ t.token m p' q' ∷ [])
caret_moved true m p q p' q' = refl
caret_moved false m p q p' q' = refl

tokens_moved : (p q : Place) (prev : Previous) (m : Lexeme) (a b a' b' : Place) → lexemes (t.tokens_of prev m a b) ≡ lexemes (t.tokens_of (moved p q prev) m a' b')
tokens_moved p q (previous.Here begin end) m a b a' b' = refl
tokens_moved p q previous.Apart m a b a' b' = caret_moved (t.wants_caret previous.Apart m) m a b a' b'
tokens_moved p q previous.Word m a b a' b' = caret_moved (t.wants_caret previous.Word m) m a b a' b'
tokens_moved p q previous.Quoted m a b a' b' = caret_moved (t.wants_caret previous.Quoted m) m a b a' b'
tokens_moved p q previous.Name m a b a' b' = caret_moved (t.wants_caret previous.Name m) m a b a' b'
tokens_moved p q previous.Dollar m a b a' b' = caret_moved (t.wants_caret previous.Dollar m) m a b a' b'

-- ** here documents that are due, with the same marks

abbrev pub SameMarks : List PendingHereDoc → List PendingHereDoc → Type 0
SameMarks [] [] = Unit {0}
SameMarks (d ∷ ds) (e ∷ es) = (d.mark ≡ e.mark) × SameMarks ds es
SameMarks ds es = ⊥

marks_append : (ds es : List PendingHereDoc) (d e : PendingHereDoc) → d.mark ≡ e.mark → SameMarks ds es → SameMarks (ds ++ d ∷ []) (es ++ e ∷ [])
marks_append [] [] d e h s = (h, tt)
marks_append [] (y ∷ es) d e h s = absurd s
marks_append (x ∷ ds) [] d e h s = absurd s
marks_append (x ∷ ds) (y ∷ es) d e h s = (s.0, marks_append ds es d e h s.1)

pending_moved : (p q : Place) (prev : Previous) (m : Lexeme) (ds es : List PendingHereDoc) → SameMarks ds es → SameMarks (t.pending_after prev m ds) (t.pending_after (moved p q prev) m es)
pending_moved p q (previous.Here begin end) m ds es s = marks_append ds es _ _ refl s
pending_moved p q previous.Apart m ds es s = s
pending_moved p q previous.Word m ds es s = s
pending_moved p q previous.Quoted m ds es s = s
pending_moved p q previous.Name m ds es s = s
pending_moved p q previous.Dollar m ds es s = s

bodies_moved : {ds : List PendingHereDoc} {cs rest : List ℕ} {bodies : List (List ℕ)} → Bodies ds cs rest bodies → (es : List PendingHereDoc) → SameMarks ds es → Bodies es cs rest bodies
bodies_moved (t.all rest) [] s = t.all rest
bodies_moved (t.all rest) (e ∷ es) s = absurd s
bodies_moved (t.one d due body end cs rest bodies b bs) [] s = absurd s
bodies_moved (t.one d due body end cs rest bodies b bs) (e ∷ es) s = t.one e es body end cs rest bodies (subst (λ z. t.Body z body end (cs ++ rest)) s.0 b) (bodies_moved bs es s.1)

-- ** outcomes with the same lexemes and bodies, or with faults

abbrev pub Alike : Outcome → Outcome → Type 0
Alike (Ok x) (Ok y) = (lexemes x.0 ≡ lexemes y.0) × (x.1 ≡ y.1)
Alike (Ok x) (Err f) = ⊥
Alike (Err f) (Ok x) = ⊥
Alike (Err f) (Err g) = Unit {0}

join_alike : (ts us : List Token) (bodies : List (List ℕ)) (o o' : Outcome) → lexemes ts ≡ lexemes us → Alike o o' → Alike (t.join ts bodies o) (t.join us bodies o')
join_alike ts us bodies (Ok x) (Ok y) h a =
    (lexemes_append ts x.0 ∙ ap (λ z. z ++ lexemes x.0) h ∙ ap (λ z. lexemes us ++ z) a.0 ∙ sym (lexemes_append us y.0), ap (λ z. bodies ++ z) a.1)
join_alike ts us bodies (Ok x) (Err f) h a = absurd a
join_alike ts us bodies (Err f) (Ok y) h a = absurd a
join_alike ts us bodies (Err f) (Err g) h a = tt

-- the text at another place
pub record Elsewhere (prev : Previous) (due : List PendingHereDoc) (p : Place) (text : List ℕ) (o : Outcome) : Type 0 where
  pub outcome : Outcome
  pub cut : Cuts prev due p text outcome
  pub alike : Alike o outcome

open_moved : {ds : List PendingHereDoc} {text : List ℕ} {line : ℕ} → OpenBody ds text line → (es : List PendingHereDoc) → SameMarks ds es → (n : ℕ) × OpenBody es text n
open_moved (t.first d due text n) [] s = absurd s
open_moved (t.first d due text n) (e ∷ es) s = (e.line, t.first e es text (subst (λ z. t.NoBody z text) s.0 n))
open_moved (t.later d due body end text line b o) [] s = absurd s
open_moved (t.later d due body end text line b o) (e ∷ es) s =
    let x = open_moved o es s.1 in (x.0, t.later e es body end text x.0 (subst (λ z. t.Body z body end text) s.0 b) x.1)

pub elsewhere : {prev : Previous} {due : List PendingHereDoc} {p : Place} {text : List ℕ} {o : Outcome} → Cuts prev due p text o →
    (a b : Place) (es : List PendingHereDoc) (q : Place) → SameMarks due es → Elsewhere (moved a b prev) es q text o
elsewhere (t.finish prev p h) a b [] q s = record { outcome = Ok ([], []); cut = t.finish (moved a b prev) q (awaits_moved a b prev ∙ h); alike = (refl, refl) }
elsewhere (t.finish prev p h) a b (e ∷ es) q s = absurd s
elsewhere (t.open_here prev d due p h) a b [] q s = absurd s
elsewhere (t.open_here prev d due p h) a b (e ∷ es) q s = record { outcome = Err _; cut = t.open_here (moved a b prev) e es q (awaits_moved a b prev ∙ h); alike = tt }
elsewhere (t.blank prev due p c cs o h k) a b es q s =
    let x = elsewhere k a b es (t.after_char q c) s in
    record { outcome = x.outcome; cut = t.blank (moved a b prev) es q c cs x.outcome h (subst (λ z. Cuts z es (t.after_char q c) cs x.outcome) (blank_moved a b prev) x.cut); alike = x.alike }
elsewhere (t.continued prev due p cs o k) a b es q s =
    let q' = t.after_chars q (92 ∷ 10 ∷ []) in
    let x = elsewhere k a b es q' s in
    record { outcome = x.outcome; cut = t.continued (moved a b prev) es q cs x.outcome (subst (λ z. Cuts z es q' cs x.outcome) (blank_moved a b prev) x.cut); alike = x.alike }
elsewhere (t.comment prev due p cs rest o h r k) a b es q s =
    let x = elsewhere k a b es (t.after_chars q (35 ∷ cs)) s in
    record { outcome = x.outcome; cut = t.comment (moved a b prev) es q cs rest x.outcome (awaits_moved a b prev ∙ h) r x.cut; alike = x.alike }
elsewhere (t.lexeme prev due p cs rest m o i k) a b es q s =
    let q' = t.after_chars q cs in
    let es' = t.pending_after (moved a b prev) m es in
    let x = elsewhere k a b es' q' (pending_moved a b prev m due es s) in
    record {
      outcome = t.join (t.tokens_of (moved a b prev) m q q') [] x.outcome;
      cut = t.lexeme (moved a b prev) es q cs rest m x.outcome (lexeme_moved a b i) (subst (λ z. Cuts z es' q' rest x.outcome) (after_moved a b prev m) x.cut);
      alike = join_alike _ _ [] o x.outcome (tokens_moved a b prev m p (t.after_chars p cs) q q') x.alike;
    }
elsewhere (t.open_quote prev due p cs i) a b es q s = record { outcome = Err _; cut = t.open_quote (moved a b prev) es q cs i; alike = tt }
elsewhere (t.bad_descriptor prev due p c cs rest h i j k) a b es q s = record { outcome = Err _; cut = t.bad_descriptor (moved a b prev) es q c cs rest (awaits_moved a b prev ∙ h) i j k; alike = tt }
elsewhere (t.here prev due p cs rest o h i j k) a b es q s =
    let q' = t.after_chars q cs in
    let x = elsewhere k q q' es q' s in
    record { outcome = x.outcome; cut = t.here (moved a b prev) es q cs rest x.outcome (awaits_moved a b prev ∙ h) i j x.cut; alike = x.alike }
elsewhere (t.no_mark begin' end due p text o h k) a b es q s =
    let x = elsewhere k a b es q s in
    record { outcome = t.join (t.token t.BareHere a b ∷ []) [] x.outcome; cut = t.no_mark a b es q text x.outcome h x.cut; alike = join_alike (t.token t.BareHere begin' end ∷ []) (t.token t.BareHere a b ∷ []) [] o x.outcome refl x.alike }
elsewhere (t.newline prev due p cs rest bodies o h bs k) a b es q s =
    let x = elsewhere k a b [] (t.after_chars q (10 ∷ cs)) tt in
    record {
      outcome = t.join (t.token t.Newline q (t.after_char q 10) ∷ []) bodies x.outcome;
      cut = t.newline (moved a b prev) es q cs rest bodies x.outcome (awaits_moved a b prev ∙ h) (bodies_moved bs es s) x.cut;
      alike = join_alike (t.token t.Newline p (t.after_char p 10) ∷ []) (t.token t.Newline q (t.after_char q 10) ∷ []) bodies o x.outcome refl x.alike;
    }
elsewhere (t.open_body prev due p rest line h i) a b es q s = let x = open_moved i es s in record { outcome = Err _; cut = t.open_body (moved a b prev) es q rest x.0 (awaits_moved a b prev ∙ h) x.1; alike = tt }
