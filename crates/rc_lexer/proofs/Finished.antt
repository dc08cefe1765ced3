-- What a finished reading answers.
use Rattle.std.proofs.Common.{◌≡◌, ℕ, suc, ◌≤◌, ◌==◌, Bool, true, false, cond, List, [], ◌∷◌, ◌++◌, length, map, drop, refl, sym, ap, subst, ◌∙◌, arith}
use Rattle.std.specs.Prelude.{Option, Some, None, Result, Ok, Err, Vec}
use Rattle.std.specs.Char.{encode_utf8}
use Rattle.std.specs.Str.{IsUtf8, chars, encode_utf8_all}
use Rattle.std.proofs.Math.Seq.{drop-length}
use Rattle.std.proofs.lemmas.Bool.{ltb-true, ltb-false}
use Rattle.std.proofs.lemmas.List.{append-nil, map-append}
use Rattle.std.proofs.lemmas.Str.{encodes-chars}
use Rattle.std.proofs.Common.{ltb}
use Rattle.rc_model.specs.Syntax.Tokens as t
use Rattle.rc_model.specs.Mirrors.Reading as r
use Rattle.law_syntax.proofs.Cutting.{law as reading_law}
use Rattle.law_syntax.proofs.OfChars.{law as bytes_law}
use Rattle.law_syntax.proofs.Ascii.{ascii}
use Rattle.law_syntax.proofs.High.{Highs, one, encode_high, not_equal}
use Rattle.rc_lexer.specs.Views.{slice_at, token_of, tokens_of}
use Rattle.rc_lexer.specs.SpanLaws.{state_of, due_of}
use Rattle.rc_lexer.specs.Ends as e
use Rattle.rc_lexer.specs.Ends.{Ends, outcome_seen, after}
use Rattle.rc_lexer.specs.Answers.{IsLexed, ScriptError}
use Rattle.rc_lexer.specs.Machine.{pending_in, dollars_in}
use Rattle.rc_lexer.specs.Reads.{answers, whole, HasRead, IsReading, ReadsOn, HasOutcome}
use Rattle.law_syntax.specs.ByteReading as b
use Rattle.rc_lexer.proofs.EndsRead.{law as ends_law}
use Rattle.rc_model.specs.declared.fault.SyntaxFault.{SyntaxFault}
use Rattle.rc_model.specs.declared.fault.FaultKind.TheVariants.{ZeroByte}
use Rattle.rc_model.specs.declared.fault.InputError.TheVariants.{Fault, NoMemory}
use Rattle.rc_model.specs.declared.syntax.Place.{Place}
use Rattle.rc_model.specs.declared.syntax.Previous.TheVariants as previous
use Rattle.rc_lexer.specs.declared.Span.{Span}
use Rattle.rc_lexer.specs.declared.Token.{Token}
use Rattle.rc_lexer.specs.declared.lexer_state.LexerState.{LexerState}
use Rattle.rc_lexer.specs.declared.lexer_state.Reading.{Reading}

-- a byte 0 among bytes and among characters
zero_at : (line c : ℕ) (v w : Bool) (xs ys : List ℕ) → ((n : ℕ) → r.zero_line n xs ≡ r.zero_line n ys) →
    cond v (Some line) (r.zero_line (cond w (suc line) line) xs) ≡ cond v (Some line) (r.zero_line (cond w (suc line) line) ys)
zero_at line c true w xs ys h = refl
zero_at line c false w xs ys h = h (cond w (suc line) line)

past_high : (line b : ℕ) (bs : List ℕ) → 128 ≤ b → r.zero_line line (b ∷ bs) ≡ r.zero_line line bs
past_high line b bs h =
    ap (λ v. cond v (Some line) (r.zero_line (cond (b == 10) (suc line) line) bs)) (not_equal b 0 (omega (arith, h)))
    ∙ ap (λ v. r.zero_line (cond v (suc line) line) bs) (not_equal b 10 (omega (arith, h)))

past_highs : (line : ℕ) (bs rest : List ℕ) → Highs bs → r.zero_line line (bs ++ rest) ≡ r.zero_line line rest
past_highs line [] rest h = refl
past_highs line (b ∷ bs) rest (one b' bs' h k) = past_high line b (bs ++ rest) h ∙ past_highs line bs rest k

zero_char : (c : ℕ) (cs : List ℕ) → ((n : ℕ) → r.zero_line n (encode_utf8_all cs) ≡ r.zero_line n cs) → (line : ℕ) (v : Bool) → ltb c 128 ≡ v →
    r.zero_line line (encode_utf8 c ++ encode_utf8_all cs) ≡ r.zero_line line (c ∷ cs)
zero_char c cs ih line true h =
    ap (λ z. r.zero_line line (z ++ encode_utf8_all cs)) (ascii c (ltb-true c 128 h)).byte ∙ zero_at line c (c == 0) (c == 10) (encode_utf8_all cs) cs ih
zero_char c cs ih line false h =
    let k : 128 ≤ c = ltb-false c 128 h in
    let x = encode_high c k in
    ap (λ z. r.zero_line line (z ++ encode_utf8_all cs)) x.are ∙ past_high line x.first (x.more ++ encode_utf8_all cs) x.high
    ∙ past_highs line x.more (encode_utf8_all cs) x.highs ∙ ih line ∙ sym (past_high line c cs k)

zero_bytes : (cs : List ℕ) (line : ℕ) → r.zero_line line (encode_utf8_all cs) ≡ r.zero_line line cs
zero_bytes [] line = refl
zero_bytes (c ∷ cs) line = zero_char c cs (zero_bytes cs) line (ltb c 128) refl

-- what comes of a text
pub lexed_as : (text : List ℕ) (z : Option ℕ) (x : Result (List t.Token) SyntaxFault) → IsUtf8 text → r.zero_line 1 text ≡ z → r.unless_zero z (whole text) ≡ x → t.IsCut text x
lexed_as text z x u e f =
    let zero : r.zero_line 1 (chars text) ≡ z = sym (zero_bytes (chars text) 1) ∙ ap (r.zero_line 1) (encodes-chars text u) ∙ e in
    let run : r.run (r.Between previous.Apart) [] t.first_place (chars text) ≡ whole text =
    sym (bytes_law (r.Between previous.Apart) [] t.first_place (chars text)) ∙ ap whole (encodes-chars text u) in
    subst (λ y. t.IsCut text y) (ap (λ y. r.unless_zero y (r.run (r.Between previous.Apart) [] t.first_place (chars text))) zero ∙ ap (r.unless_zero z) run ∙ f) (reading_law text)

pub lexed_comes : {Z : Type 0} (text : List ℕ) (res : Result (Vec Token Z) ScriptError) → IsUtf8 text → r.zero_line 1 text ≡ None → HasOutcome text res → IsLexed text res
lexed_comes text (Ok tokens) u z h = lexed_as text None _ u z h
lexed_comes text (Err (Fault f)) u z h = lexed_as text None _ u z h
lexed_comes text (Err NoMemory) u z h = tt

-- the end of a reading
no_more : (text : List ℕ) (reading : Reading) (s : LexerState) (p : Place) → HasRead text reading s p → answers text reading s p ≡ whole text
no_more text reading s p has = subst (λ z. answers z reading s p ≡ whole z) (append-nil text) (has.so_far [])

drop_all : (text : List ℕ) (n : ℕ) → n ≡ length text → drop n text ≡ []
drop_all text n e = ap (λ z. drop z text) e ∙ drop-length text

after_seen : (text : List ℕ) (ts : List Token) (bodies : List Span) (x : e.Outcome) →
    t.join (tokens_of text ts) (map (slice_at text) bodies) (outcome_seen text x) ≡ outcome_seen text (after ts bodies x)
after_seen text ts bodies (Ok x) =
    ap (λ z. Ok (z, map (slice_at text) bodies ++ map (slice_at text) x.1)) (sym (map-append (token_of text) ts x.0))
    ∙ ap (λ z. Ok (tokens_of text (ts ++ x.0), z)) (sym (map-append (slice_at text) bodies x.1))
after_seen text ts bodies (Err f) = refl

at_end : (text : List ℕ) (reading : Reading) (s : LexerState) (p : Place) → HasRead text reading s p → p.byte ≡ length text →
    whole text ≡ outcome_seen text (after reading.tokens.items reading.bodies.items (e.finish text s (dollars_in s reading) (pending_in reading) p))
at_end text reading s p has h =
    let put : t.Outcome → t.Outcome = λ o. t.join (tokens_of text reading.tokens.items) (map (slice_at text) reading.bodies.items) o in
    sym (no_more text reading s p has)
    ∙ ap (λ z. put (b.run (state_of text p.byte (dollars_in s reading) (pending_in reading) s) (due_of (pending_in reading) s) p z)) (drop_all text p.byte h)
    ∙ ap put (sym (ends_law text s (dollars_in s reading) (pending_in reading) p has.stands))
    ∙ after_seen text reading.tokens.items reading.bodies.items (e.finish text s (dollars_in s reading) (pending_in reading) p)

pub finished : {Z : Type 0} (text : List ℕ) (old new : Reading) (s : LexerState) (p : Place) (tokens : Vec Token Z) → HasRead text old s p → p.byte ≡ length text →
    Ends old new (Ok tt) (e.finish text s (dollars_in s old) (pending_in old) p) →
    ((script : List ℕ) → tokens_of script tokens.items ≡ t.filled (tokens_of script new.tokens.items) (map (slice_at script) new.bodies.items)) →
    HasOutcome text (Ok tokens)
finished text old new s p tokens has h d f =
    ap t.result_of (at_end text old s p has h ∙ ap (outcome_seen text) d) ∙ ap (λ z. Ok z) (sym (f text))

pub finish_fails : {Z : Type 0} (text : List ℕ) (old new : Reading) (s : LexerState) (p : Place) (res : Result (Vec Token Z) ScriptError) (e' e'' : ScriptError) → HasRead text old s p → p.byte ≡ length text →
    res ≡ Err e'' → e'' ≡ e' → Ends old new (Err e') (e.finish text s (dollars_in s old) (pending_in old) p) → HasOutcome text res
finish_fails {Z} text old new s p res e' e'' has h f g d = subst (λ z. HasOutcome {Z = Z} text z) (sym (f ∙ ap (λ z. Err z) g)) (by e' d)
  where
    by : (x : ScriptError) → Ends old new (Err x) (e.finish text s (dollars_in s old) (pending_in old) p) → HasOutcome {Z = Z} text (Err x)
    by (Fault x) k = ap t.result_of (at_end text old s p has h ∙ ap (λ z. outcome_seen text (after old.tokens.items old.bodies.items z)) k)
    by NoMemory k = tt

pub read_fails : {Z : Type 0} (text : List ℕ) (res : Result (Vec Token Z) ScriptError) (e' e'' : ScriptError) (new : Reading) →
    res ≡ Err e'' → e'' ≡ e' → ReadsOn text new (Err e') → HasOutcome text res
read_fails {Z} text res e' e'' new f g d = subst (λ z. HasOutcome {Z = Z} text z) (sym (f ∙ ap (λ z. Err z) g)) (by e' d)
  where
    by : (x : ScriptError) → ReadsOn text new (Err x) → HasOutcome {Z = Z} text (Err x)
    by (Fault x) k = ap t.result_of (ap whole (sym (append-nil text)) ∙ k [])
    by NoMemory k = tt

-- the answers of `finish`
pub zero_finish : (Z : Type 0) (self text slice : List ℕ) (line : ℕ) (x : ScriptError) → self ≡ text → slice ≡ text → r.zero_line 1 slice ≡ Some line →
    x ≡ Fault (record { kind = ZeroByte; line = line }) → IsUtf8 self → IsLexed {Z = Z} self (Err x)
zero_finish Z self text slice line x e f h g u =
    subst (λ z. IsLexed {Z = Z} self (Err z)) (sym g) (lexed_as self (Some line) (Err (record { kind = ZeroByte; line = line })) u (ap (r.zero_line 1) (e ∙ sym f) ∙ h) refl)

pub fault_finish : (self text slice : List ℕ) (reading : Reading) (s : LexerState) (p : Place) (f : SyntaxFault) (o : Option SyntaxFault) → self ≡ text → slice ≡ text → r.zero_line 1 slice ≡ None →
    IsReading text reading s p o → o ≡ Some f → IsUtf8 self → t.IsCut self (Err f)
fault_finish self text slice reading s p f o e g h i j u =
    let k : (more : List ℕ) → whole (text ++ more) ≡ Err f = subst (λ z. IsReading text reading s p z) j i in
    lexed_as self None (Err f) u (ap (r.zero_line 1) (e ∙ sym g) ∙ h) (ap t.result_of (ap whole (e ∙ sym (append-nil text)) ∙ k []))

pub comes_finish : {Z : Type 0} (self text slice slice' : List ℕ) (res : Result (Vec Token Z) ScriptError) → self ≡ text → slice ≡ text → slice' ≡ text → r.zero_line 1 slice ≡ None →
    HasOutcome slice' res → IsUtf8 self → IsLexed self res
comes_finish {Z} self text slice slice' res e f g h k u =
    lexed_comes self res u (ap (r.zero_line 1) (e ∙ sym f) ∙ h) (subst (λ z. HasOutcome {Z = Z} z res) (g ∙ sym e) k)
