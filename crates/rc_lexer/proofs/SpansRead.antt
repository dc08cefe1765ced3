-- The machine over spans does what the machine over bytes does.
use Rattle.std.proofs.Common.{◌≡◌, ℕ, ◌+◌, ◌-◌, ◌≤◌, Bool, true, false, cond, ◌==◌, ◌||◌, List, [], ◌∷◌, ◌++◌, map, take, drop, refl, sym, ap, ◌∙◌, arith}
use Rattle.std.specs.Prelude.{Option, Some, None, option_map, Ok, Err, slice_range}
use Rattle.std.specs.Str.{bytes_eq}
use Rattle.std.proofs.Math.Seq.{take-add}
use Rattle.std.proofs.lemmas.List.{append-nil, map-append, drop-drop}
use Rattle.rc_model.specs.Syntax.Tokens as t
use Rattle.rc_model.specs.Syntax.Tokens.{PendingHereDoc}
use Rattle.rc_model.specs.Mirrors.Reading as r
use Rattle.law_syntax.specs.ByteReading as bytes
use Rattle.law_syntax.specs.ByteReading.{after_byte}
use Rattle.law_syntax.proofs.Ascii.{apart}
use Rattle.law_syntax.proofs.Operators.{same_due}
use Rattle.std.proofs.lemmas.Bool.{eqb-true}
use Rattle.rc_lexer.specs.Spans as spans
use Rattle.rc_lexer.specs.Spans.{AfterByte, shape, meaning, token, starts}
use Rattle.rc_lexer.specs.SpanLaws.{state_of, due_of, Stands, seen, StandsAt, SpansLaw}
use Rattle.rc_lexer.specs.Trie.{spelled, first_op, next_op, op_kind}
use Rattle.rc_lexer.specs.Views.{slice_at, token_of, tokens_of, lexeme_of}
use Rattle.rc_lexer.proofs.Meanings.{wants_same, after_same, meaning_same}
use Rattle.rc_lexer.proofs.ClassOf.{seen_class, Fits, class_is, alone_same}
use Rattle.rc_lexer.proofs.TrieIs.{kind_is, NextIs, goes, ends, next_is}
use Rattle.rc_model.specs.declared.syntax.Place.{Place}
use Rattle.rc_model.specs.declared.syntax.Previous.{Previous}
use Rattle.rc_model.specs.declared.syntax.Previous.TheVariants as previous
use Rattle.rc_lexer.specs.declared.Span.{Span}
use Rattle.rc_lexer.specs.declared.Token.{Token}
use Rattle.rc_lexer.specs.declared.TokenKind.{TokenKind}
use Rattle.rc_lexer.specs.declared.TokenKind.TheVariants as tk
use Rattle.rc_lexer.specs.declared.operators.Op.{Op}
use Rattle.rc_lexer.specs.declared.lexer_state.LexerState.{LexerState}
use Rattle.rc_lexer.specs.declared.lexer_state.LexerState.TheVariants as state
use Rattle.rc_lexer.specs.declared.lexer_state.TokenStart.{TokenStart}
use Rattle.rc_lexer.specs.declared.byte_classes.ByteClass.{ByteClass}
use Rattle.rc_lexer.specs.declared.byte_classes.ByteClass.TheVariants.{Alone, Begins, Blank, LineEnd, Hash, Quote, Backslash, Ordinary}

pub slice_empty : (xs : List ℕ) (a : ℕ) → slice_range xs a a ≡ []
slice_empty xs a = ap (λ n. take n (drop a xs)) (none a)
  where
    none : (n : ℕ) → n - n ≡ 0
    none n = omega arith

slices_join : (script : List ℕ) (a b c : ℕ) → a ≤ b → b ≤ c → slice_range script a b ++ slice_range script b c ≡ slice_range script a c
slices_join script a b c h k =
    ap (λ z. take (b - a) (drop a script) ++ take (c - b) z) (sym (drop-drop (b - a) a script ∙ ap (λ n. drop n script) (omega arith)))
    ∙ sym (take-add (b - a) (c - b) (drop a script)) ∙ ap (λ n. take n (drop a script)) (omega arith)

one_byte : (script : List ℕ) (at b : ℕ) → StandsAt script at b → slice_range script at (at + 1) ≡ b ∷ []
one_byte script at b h = h at (omega arith) ∙ ap (λ z. z ++ b ∷ []) (slice_empty script at)

ok : {ts ts' : List t.Token} {bs bs' : List (List ℕ)} {s s' : r.LexerState} {due due' : List PendingHereDoc} → ts ≡ ts' → bs ≡ bs' → s ≡ s' → due ≡ due' →
    ◌≡◌ {A = r.AfterCharacter} (Ok (ts, bs, s, due)) (Ok (ts', bs', s', due'))
ok {ts} {ts'} {bs} {bs'} {s} {s'} {due} {due'} e f g h =
    ap (λ z. Ok (z, bs, s, due)) e ∙ ap (λ z. Ok (ts', z, s, due)) f ∙ ap (λ z. Ok (ts', bs', z, due)) g ∙ ap (λ z. Ok (ts', bs', s', z)) h

pub seen_append : (script : List ℕ) (ts us : List Token) → tokens_of script (ts ++ us) ≡ tokens_of script ts ++ tokens_of script us
seen_append script ts us = map-append (token_of script) ts us

pub seen_emit : (script : List ℕ) (end : ℕ) (ts : List Token) (x : AfterByte) → seen script end (spans.emit ts x) ≡ r.emit (tokens_of script ts) (seen script end x)
seen_emit script end ts (Ok x) = ok (seen_append script ts x.0) refl refl refl
seen_emit script end ts (Err f) = refl

emits : (script : List ℕ) (end : ℕ) (ts : List Token) (us : List t.Token) (x : AfterByte) (y : r.AfterCharacter) → tokens_of script ts ≡ us → seen script end x ≡ y →
    seen script end (spans.emit ts x) ≡ r.emit us y
emits script end ts us x y e f = seen_emit script end ts x ∙ ap (λ z. r.emit z (seen script end x)) e ∙ ap (r.emit us) f

pub bare_here_seen : (script : List ℕ) (prev : Previous) → tokens_of script (spans.bare_here prev) ≡ r.bare_here prev
bare_here_seen script (previous.Here begin' end) = refl
bare_here_seen script prev = refl

caret_by : (script : List ℕ) (p : Place) (b : Bool) → tokens_of script (cond b (token tk.FreeCaret p p ∷ []) []) ≡ cond b (t.token t.FreeCaret p p ∷ []) []
caret_by script p true = refl
caret_by script p false = refl

caret_seen : (script text : List ℕ) (prev : Previous) (kind : TokenKind) (p : Place) → tokens_of script (spans.caret prev kind p) ≡ t.caret prev (lexeme_of script kind text) p
caret_seen script text prev kind p =
    caret_by script p (t.wants_caret prev (shape kind)) ∙ ap (λ v. cond v (t.token t.FreeCaret p p ∷ []) []) (sym (wants_same prev kind script text))

-- a token with the `^` before it
abbrev pub lexeme_tokens : Previous → t.Lexeme → Place → Place → List t.Token
lexeme_tokens prev l p q = t.caret prev l p ++ t.token l p q ∷ []

pub tokens_seen : (script : List ℕ) (prev : Previous) (kind : TokenKind) (p q : Place) →
    tokens_of script (spans.tokens_of prev kind p q) ≡ lexeme_tokens prev (lexeme_of script kind (slice_range script p.byte q.byte)) p q
tokens_seen script prev kind p q =
    seen_append script (spans.caret prev kind p) (token kind p q ∷ [])
    ∙ ap (λ z. z ++ t.token (lexeme_of script kind (slice_range script p.byte q.byte)) p q ∷ []) (caret_seen script (slice_range script p.byte q.byte) prev kind p)

pub tokens_apart : (prev : Previous) (l : t.Lexeme) (p q : Place) → t.awaits_mark prev ≡ false → lexeme_tokens prev l p q ≡ t.tokens_of prev l p q
tokens_apart (previous.Here b e) l p q h = absurd cc
tokens_apart prev l p q h = refl

line_seen : (script : List ℕ) (at : ℕ) (ts : List Token) (bodies : List Span) (due : List PendingHereDoc) →
    seen script at (spans.begin_line ts bodies due at) ≡ r.begin_line (tokens_of script ts) (map (slice_at script) bodies) due
line_seen script at ts bodies [] = refl
line_seen script at ts bodies (d ∷ due) =
    ok refl refl (ap (λ z. r.Body d z z) (slice_empty script at)) refl

-- what a byte begins
alone_seen : (script : List ℕ) (prev : Previous) (due : List PendingHereDoc) (p : Place) (b : ℕ) → t.awaits_mark prev ≡ false → (before : List Token) (bare' : List t.Token) → tokens_of script before ≡ bare' →
    seen script (p.byte + 1) (spans.goes (before ++ spans.tokens_of prev (meaning prev (spans.alone_kind b)) p (after_byte p b)) (state.Between (t.after_token prev (shape (meaning prev (spans.alone_kind b))))) due)
    ≡ r.emit bare' (bytes.at_once prev (t.meant prev [] (bytes.alone b)) due p b)
alone_seen script prev due p b h before bare' e =
    let kind = meaning prev (spans.alone_kind b) in
    let q = after_byte p b in
    let text = slice_range script p.byte q.byte in
    let l = t.meant prev [] (bytes.alone b) in
    let is : lexeme_of script kind text ≡ l = meaning_same prev (spans.alone_kind b) script text ∙ ap (t.meant prev []) (alone_same b script text) in
    ok (seen_append script before (spans.tokens_of prev kind p q)
    ∙ ap (λ z. z ++ tokens_of script (spans.tokens_of prev kind p q)) e
    ∙ ap (λ z. bare' ++ z) (tokens_seen script prev kind p q ∙ ap (λ z. lexeme_tokens prev z p q) is ∙ tokens_apart prev l p q h))
    refl (ap r.Between (sym (after_same prev kind script text) ∙ ap (t.after_token prev) is)) refl

begin_operator_at : (prev : Previous) (due : List PendingHereDoc) (p : Place) (b : ℕ) (v : Bool) → bytes.is_alone b ≡ v →
    cond v (bytes.at_once prev (t.meant prev [] (bytes.alone b)) due p b) (r.goes [] (r.Operator prev [] p (b ∷ [])) due) ≡ bytes.begin_operator prev due p b
begin_operator_at prev due p b v e = ap (λ z. cond z (bytes.at_once prev (t.meant prev [] (bytes.alone b)) due p b) (r.goes [] (r.Operator prev [] p (b ∷ [])) due)) (sym e)

name_begins : (script : List ℕ) (prev : Previous) (due : List PendingHereDoc) (p : Place) (b : ℕ) (v : Bool) → StandsAt script p.byte b →
    seen script (p.byte + 1) (spans.goes [] (cond v (state.Name p) (state.Word (starts prev p))) due) ≡ r.goes [] (cond v (r.Name p (b ∷ [])) (r.Word prev p (b ∷ []))) due
name_begins script prev due p b true h = ap (λ z. r.goes [] (r.Name p z) due) (one_byte script p.byte b h)
name_begins script prev due p b false h = ap (λ z. r.goes [] (r.Word prev p z) due) (one_byte script p.byte b h)

between_due : (due : List PendingHereDoc) (prev : Previous) → due_of due (state.Between prev) ≡ due
between_due [] prev = refl
between_due (d ∷ due) prev = refl

begin_seen : (script : List ℕ) (prev : Previous) (due : List PendingHereDoc) (p : Place) (b : ℕ) (k : ByteClass) → StandsAt script p.byte b → Fits k b →
    seen script (p.byte + 1) (spans.begin prev due p b k) ≡ bytes.begin prev due p b (seen_class k)
begin_seen script prev due p b Alone h f =
    alone_seen script (r.without_here prev) due p b (apart prev) (spans.bare_here prev) (r.bare_here prev) (bare_here_seen script prev)
    ∙ ap (r.emit (r.bare_here prev)) (begin_operator_at (r.without_here prev) due p b true f)
begin_seen script prev due p b Begins h f =
    ok (bare_here_seen script prev ∙ sym (append-nil (r.bare_here prev))) refl (ap (r.Operator (r.without_here prev) [] p) f.1) refl
    ∙ ap (r.emit (r.bare_here prev)) (begin_operator_at (r.without_here prev) due p b false f.0)
begin_seen script prev due p b Blank h f = refl
begin_seen script prev due p b LineEnd h f =
    line_seen script (p.byte + 1) (spans.bare_here prev ++ token tk.Newline p (after_byte p b) ∷ []) [] due
    ∙ ap (λ z. r.begin_line z [] due)
    (seen_append script (spans.bare_here prev) (token tk.Newline p (after_byte p b) ∷ [])
    ∙ ap (λ z. z ++ t.token t.Newline p (after_byte p b) ∷ []) (bare_here_seen script prev))
begin_seen script prev due p b Hash h f = ok (bare_here_seen script prev) refl refl refl
begin_seen script prev due p b Quote h f = ap (λ z. r.goes [] (r.Quoted prev p z) due) (one_byte script p.byte b h)
begin_seen script prev due p b Backslash h f = refl
begin_seen script prev due p b Ordinary h f = name_begins script prev due p b (t.begins_name prev b) h

-- a word ends
abbrev pub word_lexeme : Bool → List ℕ → t.Lexeme
word_lexeme true text = t.Quoted (t.unquoted_text text)
word_lexeme false text = t.Word text

abbrev word_kind : Bool → TokenKind
word_kind quoted = cond quoted tk.Quoted tk.Word

word_is : (script : List ℕ) (quoted : Bool) (text : List ℕ) → lexeme_of script (word_kind quoted) text ≡ word_lexeme quoted text
word_is script true text = refl
word_is script false text = refl

pub word_tokens_seen : (script : List ℕ) (quoted : Bool) (prev : Previous) (p q : Place) →
    tokens_of script (spans.word_tokens quoted prev p q) ≡ t.tokens_of prev (word_lexeme quoted (slice_range script p.byte q.byte)) p q
word_tokens_seen script true (previous.Here u v) p q = refl
word_tokens_seen script false (previous.Here u v) p q = refl
word_tokens_seen script quoted prev p q =
    tokens_seen script prev (word_kind quoted) p q ∙ ap (λ z. lexeme_tokens prev z p q) (word_is script quoted (slice_range script p.byte q.byte))

word_after_seen : (quoted : Bool) (prev : Previous) (text : List ℕ) → spans.word_after quoted prev ≡ t.after_token prev (word_lexeme quoted text)
word_after_seen quoted (previous.Here u v) text = refl
word_after_seen true prev text = sym (after_same prev tk.Quoted [] text) ∙ refl
word_after_seen false prev text = sym (after_same prev tk.Word [] text) ∙ refl

pub word_due_seen : (script : List ℕ) (quoted : Bool) (prev : Previous) (p q : Place) (due : List PendingHereDoc) →
    spans.word_due quoted script prev p q due ≡ t.pending_after prev (word_lexeme quoted (slice_range script p.byte q.byte)) due
word_due_seen script true (previous.Here u v) p q due = refl
word_due_seen script false (previous.Here u v) p q due = refl
word_due_seen script quoted prev p q due = refl

word_seen : (script : List ℕ) (quoted : Bool) (start : TokenStart) (text : List ℕ) (due : List PendingHereDoc) (p : Place) (b : ℕ) (k : ByteClass) → StandsAt script p.byte b → Fits k b →
    slice_range script start.place.byte p.byte ≡ text →
    seen script (p.byte + 1) (spans.ends_word quoted script start due p b k) ≡ bytes.ends start.previous (word_lexeme quoted text) start.place due p b (seen_class k)
word_seen script quoted start text due p b k h f e =
    emits script (p.byte + 1) (spans.word_tokens quoted start.previous start.place p) (t.tokens_of start.previous (word_lexeme quoted text) start.place p)
    (spans.begin (spans.word_after quoted start.previous) (spans.word_due quoted script start.previous start.place p due) p b k)
    (bytes.begin (t.after_token start.previous (word_lexeme quoted text)) (t.pending_after start.previous (word_lexeme quoted text) due) p b (seen_class k))
    (word_tokens_seen script quoted start.previous start.place p ∙ ap (λ z. t.tokens_of start.previous (word_lexeme quoted z) start.place p) e)
    (begin_seen script (spans.word_after quoted start.previous) (spans.word_due quoted script start.previous start.place p due) p b k h f
    ∙ ap (λ z. bytes.begin z (spans.word_due quoted script start.previous start.place p due) p b (seen_class k)) (word_after_seen quoted start.previous text)
    ∙ ap (λ z. bytes.begin (t.after_token start.previous (word_lexeme quoted text)) z p b (seen_class k))
    (word_due_seen script quoted start.previous start.place p due ∙ ap (λ z. t.pending_after start.previous (word_lexeme quoted z) due) e))

in_word_seen : (script : List ℕ) (start : TokenStart) (text : List ℕ) (due : List PendingHereDoc) (p : Place) (b : ℕ) (k : ByteClass) → StandsAt script p.byte b → Fits k b →
    start.place.byte ≤ p.byte → slice_range script start.place.byte p.byte ≡ text →
    seen script (p.byte + 1) (spans.in_word script start due p b k) ≡ bytes.in_word start.previous start.place text due p b (seen_class k)
in_word_seen script start text due p b Ordinary h f g e =
    ap (λ z. r.goes [] (r.Word start.previous start.place z) due) (h start.place.byte g ∙ ap (λ z. z ++ b ∷ []) e)
in_word_seen script start text due p b Backslash h f g e = ap (λ z. r.goes [] (r.WordBackslash start.previous start.place z p) due) e
in_word_seen script start text due p b Alone h f g e = word_seen script false start text due p b Alone h f e
in_word_seen script start text due p b Begins h f g e = word_seen script false start text due p b Begins h f e
in_word_seen script start text due p b Blank h f g e = word_seen script false start text due p b Blank h f e
in_word_seen script start text due p b LineEnd h f g e = word_seen script false start text due p b LineEnd h f e
in_word_seen script start text due p b Hash h f g e = word_seen script false start text due p b Hash h f e
in_word_seen script start text due p b Quote h f g e = word_seen script false start text due p b Quote h f e

-- `$`s
pub bare_seen : (script : List ℕ) (dollars : List Token) → tokens_of script (spans.bare dollars) ≡ r.bare (tokens_of script dollars)
bare_seen script [] = refl
bare_seen script (d ∷ ds) = ap (λ z. record { lexeme = t.BareDollar; start = d.span.start; stop = d.span.stop; line = d.line } ∷ z) (bare_seen script ds)

dollars_by : (script : List ℕ) (dollars : List Token) (due : List PendingHereDoc) (p : Place) (b : ℕ) (k : ByteClass) (v w : Bool) → StandsAt script p.byte b → Fits k b → (b == 36) ≡ w →
    seen script (p.byte + 1) (cond v (spans.emit dollars (spans.begin previous.Dollar due p b k))
    (cond w (Ok ([], [], state.Operator (starts previous.Dollar p) (first_op 36), dollars, due)) (spans.emit (spans.bare dollars) (spans.begin previous.Apart due p b k))))
    ≡ cond v (r.emit (tokens_of script dollars) (bytes.begin previous.Dollar due p b (seen_class k)))
    (cond w (r.goes [] (r.Operator previous.Dollar (tokens_of script dollars) p (b ∷ [])) due) (r.emit (r.bare (tokens_of script dollars)) (bytes.begin previous.Apart due p b (seen_class k))))
dollars_by script dollars due p b k true w h f e =
    emits script (p.byte + 1) dollars (tokens_of script dollars) (spans.begin previous.Dollar due p b k) (bytes.begin previous.Dollar due p b (seen_class k)) refl
    (begin_seen script previous.Dollar due p b k h f)
dollars_by script dollars due p b k false true h f e = ap (λ z. r.goes [] (r.Operator previous.Dollar (tokens_of script dollars) p (z ∷ [])) due) (sym (eqb-true b 36 e))
dollars_by script dollars due p b k false false h f e =
    emits script (p.byte + 1) (spans.bare dollars) (r.bare (tokens_of script dollars)) (spans.begin previous.Apart due p b k) (bytes.begin previous.Apart due p b (seen_class k))
    (bare_seen script dollars) (begin_seen script previous.Apart due p b k h f)

dollars_seen : (script : List ℕ) (dollars : List Token) (ds : List t.Token) (due : List PendingHereDoc) (p : Place) (b : ℕ) (k : ByteClass) → StandsAt script p.byte b → Fits k b →
    tokens_of script dollars ≡ ds →
    seen script (p.byte + 1) (spans.after_dollars dollars due p b k) ≡ bytes.after_dollars ds due p b (seen_class k)
dollars_seen script dollars ds due p b k h f e =
    dollars_by script dollars due p b k (t.is_name_char b || (b == 39)) (b == 36) h f refl ∙ ap (λ z. bytes.after_dollars z due p b (seen_class k)) e

sigil_seen : (script : List ℕ) (start : TokenStart) (dollars dollars' : List Token) (ds : List t.Token) (due : List PendingHereDoc) (p : Place) (b : ℕ) (k : ByteClass) →
    StandsAt script p.byte b → Fits k b → (ts : List Token) (us : List t.Token) → tokens_of script ts ≡ us → tokens_of script dollars' ≡ ds →
    seen script (p.byte + 1) (spans.emit ts (spans.after_dollars dollars' due p b k)) ≡ r.emit us (bytes.after_dollars ds due p b (seen_class k))
sigil_seen script start dollars dollars' ds due p b k h f ts us e g =
    emits script (p.byte + 1) ts us (spans.after_dollars dollars' due p b k) (bytes.after_dollars ds due p b (seen_class k)) e (dollars_seen script dollars' ds due p b k h f g)

-- an operator that is neither a `$` nor a `<<`
plain_seen : (script : List ℕ) (start : TokenStart) (kind : TokenKind) (due : List PendingHereDoc) (p : Place) (b : ℕ) (k : ByteClass) → StandsAt script p.byte b → Fits k b →
    t.awaits_mark start.previous ≡ false →
    seen script (p.byte + 1) (spans.emit (spans.tokens_of start.previous (meaning start.previous kind) start.place p) (spans.begin (t.after_token start.previous (shape (meaning start.previous kind))) due p b k))
    ≡ bytes.ends start.previous (t.meant start.previous [] (lexeme_of script kind (slice_range script start.place.byte p.byte))) start.place due p b (seen_class k)
plain_seen script start kind due p b k h f a =
    let prev = start.previous in
    let kind' = meaning prev kind in
    let text = slice_range script start.place.byte p.byte in
    let l = t.meant prev [] (lexeme_of script kind text) in
    let is : lexeme_of script kind' text ≡ l = meaning_same prev kind script text in
    emits script (p.byte + 1) (spans.tokens_of prev kind' start.place p) (t.tokens_of prev l start.place p)
    (spans.begin (t.after_token prev (shape kind')) due p b k) (bytes.begin (t.after_token prev l) (t.pending_after prev l due) p b (seen_class k))
    (tokens_seen script prev kind' start.place p ∙ ap (λ z. lexeme_tokens prev z start.place p) is ∙ tokens_apart prev l start.place p a)
    (begin_seen script (t.after_token prev (shape kind')) due p b k h f
    ∙ ap (λ z. bytes.begin z due p b (seen_class k)) (sym (after_same prev kind' script text) ∙ ap (t.after_token prev) is)
    ∙ ap (λ z. bytes.begin (t.after_token prev l) z p b (seen_class k)) (sym (same_due prev l due a)))

dollar_pushed : (script : List ℕ) (dollars : List Token) (kind : TokenKind) (p q : Place) →
    tokens_of script (dollars ++ token kind p q ∷ []) ≡ tokens_of script dollars ++ t.token (lexeme_of script kind (slice_range script p.byte q.byte)) p q ∷ []
dollar_pushed script dollars kind p q = seen_append script dollars (token kind p q ∷ [])

sigil_tokens : (script : List ℕ) (prev : Previous) (dollars : List Token) (p : Place) →
    tokens_of script (spans.caret prev tk.Dollar p ++ spans.bare dollars) ≡ t.caret prev t.Dollar p ++ r.bare (tokens_of script dollars)
sigil_tokens script prev dollars p =
    seen_append script (spans.caret prev tk.Dollar p) (spans.bare dollars) ∙ ap (λ z. z ++ tokens_of script (spans.bare dollars)) (caret_seen script [] prev tk.Dollar p)
    ∙ ap (λ z. t.caret prev t.Dollar p ++ z) (bare_seen script dollars)

ended_seen : (script : List ℕ) (start : TokenStart) (dollars : List Token) (o : Option TokenKind) (due : List PendingHereDoc) (p : Place) (b : ℕ) (k : ByteClass) → StandsAt script p.byte b → Fits k b →
    t.awaits_mark start.previous ≡ false →
    seen script (p.byte + 1) (spans.end_operator start dollars o due p b k)
    ≡ bytes.end_operator start.previous (tokens_of script dollars) start.place (option_map (λ kind. lexeme_of script kind (slice_range script start.place.byte p.byte)) o) due p b (seen_class k)
ended_seen script start dollars None due p b k h f a = refl
ended_seen script start dollars (Some tk.BareHere) due p b k h f a = begin_seen script (previous.Here start.place p) due p b k h f
ended_seen script start dollars (Some tk.Dollar) due p b k h f a =
    sigil_seen script start dollars (dollars ++ token tk.Dollar start.place p ∷ []) (tokens_of script dollars ++ t.token t.Dollar start.place p ∷ []) due p b k h f
    (spans.caret start.previous tk.Dollar start.place) (t.caret start.previous t.Dollar start.place) (caret_seen script [] start.previous tk.Dollar start.place)
    (dollar_pushed script dollars tk.Dollar start.place p)
ended_seen script start dollars (Some tk.DollarCount) due p b k h f a =
    sigil_seen script start dollars (token tk.DollarCount start.place p ∷ []) (t.token t.DollarCount start.place p ∷ []) due p b k h f
    (spans.caret start.previous tk.Dollar start.place ++ spans.bare dollars) (t.caret start.previous t.Dollar start.place ++ r.bare (tokens_of script dollars))
    (sigil_tokens script start.previous dollars start.place) refl
ended_seen script start dollars (Some tk.DollarFlat) due p b k h f a =
    sigil_seen script start dollars (token tk.DollarFlat start.place p ∷ []) (t.token t.DollarFlat start.place p ∷ []) due p b k h f
    (spans.caret start.previous tk.Dollar start.place ++ spans.bare dollars) (t.caret start.previous t.Dollar start.place ++ r.bare (tokens_of script dollars))
    (sigil_tokens script start.previous dollars start.place) refl
ended_seen script start dollars (Some kind) due p b k h f a = plain_seen script start kind due p b k h f a

operator_seen : (script : List ℕ) (start : TokenStart) (op : Op) (dollars : List Token) (o : Option Op) (due : List PendingHereDoc) (p : Place) (b : ℕ) (k : ByteClass) → StandsAt script p.byte b → Fits k b →
    t.awaits_mark start.previous ≡ false → NextIs op b o →
    seen script (p.byte + 1) (spans.in_operator start op dollars o due p b k)
    ≡ cond (t.begins_operator (spelled op ++ b ∷ [])) (r.goes [] (r.Operator start.previous (tokens_of script dollars) start.place (spelled op ++ b ∷ [])) due)
    (bytes.end_operator start.previous (tokens_of script dollars) start.place (t.operator (spelled op)) due p b (seen_class k))
operator_seen script start op dollars (Some op') due p b k h f a (goes op'' e g) =
    ap (λ z. r.goes [] (r.Operator start.previous (tokens_of script dollars) start.place z) due) (sym e)
    ∙ ap (λ v. cond v (r.goes [] (r.Operator start.previous (tokens_of script dollars) start.place (spelled op ++ b ∷ [])) due)
    (bytes.end_operator start.previous (tokens_of script dollars) start.place (t.operator (spelled op)) due p b (seen_class k))) (sym g)
operator_seen script start op dollars None due p b k h f a (ends g) =
    ended_seen script start dollars (op_kind op) due p b k h f a
    ∙ ap (λ z. bytes.end_operator start.previous (tokens_of script dollars) start.place z due p b (seen_class k)) (sym (kind_is op script (slice_range script start.place.byte p.byte)))
    ∙ ap (λ v. cond v (r.goes [] (r.Operator start.previous (tokens_of script dollars) start.place (spelled op ++ b ∷ [])) due)
    (bytes.end_operator start.previous (tokens_of script dollars) start.place (t.operator (spelled op)) due p b (seen_class k))) (sym g)

-- a name
name_seen : (script : List ℕ) (q : Place) (due : List PendingHereDoc) (p : Place) (b : ℕ) (k : ByteClass) (v : Bool) → StandsAt script p.byte b → Fits k b → q.byte ≤ p.byte →
    seen script (p.byte + 1) (cond v (spans.goes [] (state.Name q) due) (spans.emit (token tk.Name q p ∷ []) (spans.begin previous.Name due p b k)))
    ≡ cond v (r.goes [] (r.Name q (slice_range script q.byte p.byte ++ b ∷ [])) due) (bytes.ends previous.Dollar (t.Name (slice_range script q.byte p.byte)) q due p b (seen_class k))
name_seen script q due p b k true h f g = ap (λ z. r.goes [] (r.Name q z) due) (h q.byte g)
name_seen script q due p b k false h f g =
    emits script (p.byte + 1) (token tk.Name q p ∷ []) (t.token (t.Name (slice_range script q.byte p.byte)) q p ∷ []) (spans.begin previous.Name due p b k)
    (bytes.begin previous.Name due p b (seen_class k)) refl (begin_seen script previous.Name due p b k h f)

-- a body
body_line_seen : (script : List ℕ) (body line : ℕ) (d : PendingHereDoc) (due : List PendingHereDoc) (p : Place) (b : ℕ) (v : Bool) → StandsAt script p.byte b → body ≤ line → line ≤ p.byte →
    seen script (p.byte + 1) (spans.end_line v body line d due p)
    ≡ cond v (r.begin_line [] (slice_range script body line ∷ []) due) (r.goes [] (r.Body d (slice_range script body line ++ slice_range script line p.byte ++ b ∷ []) []) due)
body_line_seen script body line d due p b true h f g = line_seen script (p.byte + 1) [] (record { start = body; stop = line } ∷ []) due
body_line_seen script body line d due p b false h f g =
    ap (λ z. r.goes [] (r.Body d z (slice_range script (p.byte + 1) (p.byte + 1))) due)
    (h body (omega (arith, f, g)) ∙ ap (λ z. z ++ b ∷ []) (sym (slices_join script body line p.byte f g)))
    ∙ ap (λ z. r.goes [] (r.Body d (slice_range script body line ++ slice_range script line p.byte ++ b ∷ []) z) due) (slice_empty script (p.byte + 1))

step_seen : (script : List ℕ) (s : LexerState) (dollars : List Token) (due : List PendingHereDoc) (p : Place) (b : ℕ) (k : ByteClass) → StandsAt script p.byte b → Fits k b → Stands script p.byte s →
    seen script (p.byte + 1) (spans.step script s dollars due p b k) ≡ bytes.step (state_of script p.byte dollars due s) (due_of due s) p b (seen_class k)
step_seen script (state.Between prev) dollars due p b k h f g = begin_seen script prev due p b k h f
step_seen script state.Comment dollars due p b LineEnd h f g = begin_seen script previous.Apart due p b LineEnd h f
step_seen script state.Comment dollars due p b k h f g = refl
step_seen script (state.Backslash start) dollars due p b LineEnd h f g = refl
step_seen script (state.Backslash start) dollars due p b k h f g = in_word_seen script start (92 ∷ []) due p b k h f g.0 g.1
step_seen script (state.WordBackslash start q) dollars due p b LineEnd h f g =
    ok (word_tokens_seen script false start.previous start.place q) refl refl (word_due_seen script false start.previous start.place q due)
step_seen script (state.WordBackslash start q) dollars due p b k h f g =
    in_word_seen script start (slice_range script start.place.byte q.byte ++ 92 ∷ []) due p b k h f (omega (arith, g.0, g.1)) g.2
step_seen script (state.Word start) dollars due p b k h f g = in_word_seen script start (slice_range script start.place.byte p.byte) due p b k h f g refl
step_seen script (state.Name q) dollars due p b k h f g = name_seen script q due p b k (t.is_name_char b) h f g
step_seen script (state.Quoted start) dollars due p b Quote h f g = ap (λ z. r.goes [] (r.Closed start.previous start.place z) due) (h start.place.byte g)
step_seen script (state.Quoted start) dollars due p b k h f g = ap (λ z. r.goes [] (r.Quoted start.previous start.place z) due) (h start.place.byte g)
step_seen script (state.Closed start) dollars due p b Quote h f g = ap (λ z. r.goes [] (r.Quoted start.previous start.place z) due) (h start.place.byte g)
step_seen script (state.Closed start) dollars due p b k h f g = word_seen script true start (slice_range script start.place.byte p.byte) due p b k h f refl
step_seen script (state.Operator start op) dollars due p b k h f g = operator_seen script start op dollars (next_op op b) due p b k h f g.1 (next_is op b)
step_seen script (state.Body body line) dollars [] p b k h f g = begin_seen script previous.Apart [] p b k h f
step_seen script (state.Body body line) dollars (d ∷ due) p b LineEnd h f g =
    body_line_seen script body line d due p b (bytes_eq (slice_range script line p.byte) d.mark) h g.0 g.1
step_seen script (state.Body body line) dollars (d ∷ due) p b k h f g = ap (λ z. r.goes [] (r.Body d (slice_range script body line) z) due) (h line g.1)

pub law : SpansLaw
law script s dollars due p b h g =
    let c = class_is b in
    step_seen script s dollars due p b (spans.byte_class b) h c.fits g ∙ ap (bytes.step (state_of script p.byte dollars due s) (due_of due s) p b) c.class
