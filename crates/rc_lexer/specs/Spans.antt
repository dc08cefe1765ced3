-- The machine over bytes, as the lexer implements it: its tokens and bodies are spans of the text, and its operators
-- nodes of a trie. Of the text itself it needs the marks of here documents, and the lines of their bodies.
use Rattle.std.specs.Prelude.{◌≡◌, ◌≢◌, ℕ, ◌+◌, Bool, true, false, if◌then◌else◌, ◌==◌, ◌||◌, List, [], ◌∷◌, ◌++◌, map}
use Rattle.std.specs.Prelude.{slice_range}
use Rattle.std.specs.Prelude.{Option, Some, None, Result, Ok, Err}
use Rattle.std.specs.Str.{bytes_eq}
use Rattle.rc_model.specs.Syntax.Tokens as t
use Rattle.rc_model.specs.Syntax.Tokens.{PendingHereDoc}
use Rattle.rc_model.specs.declared.fault.SyntaxFault.{SyntaxFault}
use Rattle.rc_model.specs.Mirrors.Reading.{without_here}
use Rattle.law_syntax.specs.ByteReading.{after_byte, is_alone}
use Rattle.rc_lexer.specs.Views.{lexeme_of}
use Rattle.rc_lexer.specs.Trie.{first_op, next_op, op_kind}
use Rattle.rc_model.specs.declared.fault.FaultKind.TheVariants.{BadDescriptor}
use Rattle.rc_model.specs.declared.syntax.Place.{Place}
use Rattle.rc_model.specs.declared.syntax.Previous.{Previous}
use Rattle.rc_model.specs.declared.syntax.Previous.TheVariants as previous
use Rattle.rc_lexer.specs.declared.Span.{Span}
use Rattle.rc_lexer.specs.declared.Token.{Token}
use Rattle.rc_lexer.specs.declared.TokenKind.{TokenKind}
use Rattle.rc_lexer.specs.declared.TokenKind.TheVariants as tk
use Rattle.rc_lexer.specs.declared.operators.Op.{Op}
use Rattle.rc_lexer.specs.declared.operators.Op.TheVariants.{Dollar0}
use Rattle.rc_lexer.specs.declared.lexer_state.LexerState.{LexerState}
use Rattle.rc_lexer.specs.declared.lexer_state.LexerState.TheVariants as state
use Rattle.rc_lexer.specs.declared.lexer_state.TokenStart.{TokenStart}
use Rattle.rc_lexer.specs.declared.byte_classes.ByteClass.{ByteClass}
use Rattle.rc_lexer.specs.declared.byte_classes.ByteClass.TheVariants.{Alone, Begins, Blank, LineEnd, Hash, Quote}
use Rattle.rc_lexer.specs.declared.byte_classes.ByteClass.TheVariants.{Backslash, Ordinary}

-- the class of a byte
abbrev pub byte_class : ℕ → ByteClass
byte_class b =
    if is_alone b then Alone
    else (if (b == 38) || (b == 124) || (b == 62) || (b == 60) || (b == 36) then Begins
    else (if (b == 32) || (b == 9) then Blank
    else (if b == 10 then LineEnd else (if b == 35 then Hash else (if b == 39 then Quote
    else (if b == 92 then Backslash else Ordinary))))))

-- the token of a byte that stands alone
abbrev pub alone_kind : ℕ → TokenKind
alone_kind b =
    if b == 59 then tk.Semicolon else (if b == 94 then tk.Caret else (if b == 61 then tk.Equals
    else (if b == 40 then tk.LeftParen else (if b == 41 then tk.RightParen else (if b == 123 then tk.LeftBrace
    else (if b == 125 then tk.RightBrace else tk.Backquote))))))

-- a token between two places
abbrev pub token : TokenKind → Place → Place → Token
token kind p q = record { kind = kind; span = record { start = p.byte; stop = q.byte }; line = p.line }

-- a token without its text
abbrev pub shape : TokenKind → t.Lexeme
shape kind = lexeme_of [] kind []

-- the meaning of an operator in its context, if no name follows
abbrev pub meaning : Previous → TokenKind → TokenKind
meaning previous.Name tk.LeftParen = tk.Subscript
meaning prev tk.Dollar = tk.BareDollar
meaning prev tk.DollarCount = tk.BareDollar
meaning prev tk.DollarFlat = tk.BareDollar
meaning prev kind = kind

-- a step: the tokens and bodies that a byte ends, then the state, the `$`s whose name is still to come and the here
-- documents due; or a fault
abbrev pub AfterByte : Type 0
AfterByte = Result (List Token × List Span × LexerState × List Token × List PendingHereDoc) SyntaxFault

-- the machine goes on in this state, after these tokens
abbrev pub goes : List Token → LexerState → List PendingHereDoc → AfterByte
goes ts s due = Ok (ts, [], s, [], due)

-- a step, after these tokens
abbrev pub emit : List Token → AfterByte → AfterByte
emit ts (Ok x) = Ok (ts ++ x.0, x.1, x.2, x.3, x.4)
emit ts (Err f) = Err f

-- the token of a `<<` without a mark
abbrev pub bare_here : Previous → List Token
bare_here (previous.Here begin end) = token tk.BareHere begin end ∷ []
bare_here _ = []

-- the beginning of a line: a body, if a here document is due
abbrev pub begin_line : List Token → List Span → List PendingHereDoc → ℕ → AfterByte
begin_line ts bodies [] at = Ok (ts, bodies, state.Between previous.Apart, [], [])
begin_line ts bodies (d ∷ due) at = Ok (ts, bodies, state.Body at at, [], d ∷ due)

-- a `^` if the token wants one
abbrev pub caret : Previous → TokenKind → Place → List Token
caret prev kind p = if t.wants_caret prev (shape kind) then token tk.FreeCaret p p ∷ [] else []

-- a token between two places, after a `^` if it wants one
abbrev pub tokens_of : Previous → TokenKind → Place → Place → List Token
tokens_of prev kind p q = caret prev kind p ++ token kind p q ∷ []

-- the start of a token at this place, in this context
abbrev pub starts : Previous → Place → TokenStart
starts prev p = record { previous = prev; place = p }

-- what a byte begins, in each class
abbrev pub begin : Previous → List PendingHereDoc → Place → ℕ → ByteClass → AfterByte
begin prev due p b Alone =
    let before = without_here prev in
    let kind = meaning before (alone_kind b) in
    goes (bare_here prev ++ tokens_of before kind p (after_byte p b))
    (state.Between (t.after_token before (shape kind))) due
begin prev due p b Begins = goes (bare_here prev) (state.Operator (starts (without_here prev) p) (first_op b)) due
begin prev due p b Blank = goes [] (state.Between (t.after_blank prev)) due
begin prev due p b LineEnd = begin_line (bare_here prev ++ token tk.Newline p (after_byte p b) ∷ []) [] due (p.byte + 1)
begin prev due p b Hash = goes (bare_here prev) state.Comment due
begin prev due p b Quote = goes [] (state.Quoted (starts prev p)) due
begin prev due p b Backslash = goes [] (state.Backslash (starts prev p)) due
begin prev due p b Ordinary = goes [] (if t.begins_name prev b then state.Name p else state.Word (starts prev p)) due

-- the tokens of a word or of a quoted word between two places
abbrev pub word_tokens : Bool → Previous → Place → Place → List Token
word_tokens quoted (previous.Here begin end) p q =
    token (tk.HereDoc quoted (record { start = 0; stop = 0 })) begin q ∷ []
word_tokens quoted prev p q = tokens_of prev (if quoted then tk.Quoted else tk.Word) p q

-- the context that it leaves
abbrev pub word_after : Bool → Previous → Previous
word_after quoted (previous.Here _ _) = previous.Apart
word_after quoted prev = t.after_token prev (shape (if quoted then tk.Quoted else tk.Word))

-- the mark of a here document, as a text
abbrev pub mark_of : Bool → List ℕ → List ℕ
mark_of quoted text = if quoted then t.unquoted_text text else text

-- the here documents that are due after it
abbrev pub word_due : Bool → List ℕ → Previous → Place → Place → List PendingHereDoc → List PendingHereDoc
word_due quoted script (previous.Here begin end) p q due =
    due ++ record { mark = mark_of quoted (slice_range script p.byte q.byte); line = begin.line } ∷ []
word_due quoted script prev p q due = due

-- the byte ends a word
abbrev pub ends_word : Bool → List ℕ → TokenStart → List PendingHereDoc → Place → ℕ → ByteClass → AfterByte
ends_word quoted script start due p b k =
    emit (word_tokens quoted start.previous start.place p)
    (begin (word_after quoted start.previous) (word_due quoted script start.previous start.place p due) p b k)

-- one byte of a word, or the first after it
abbrev pub in_word : List ℕ → TokenStart → List PendingHereDoc → Place → ℕ → ByteClass → AfterByte
in_word script start due p b Ordinary = goes [] (state.Word start) due
in_word script start due p b Backslash = goes [] (state.WordBackslash start p) due
in_word script start due p b k = ends_word false script start due p b k

-- `$`s without a name
abbrev pub bare : List Token → List Token
bare dollars = map (λ d. record { kind = tk.BareDollar; span = d.span; line = d.line }) dollars

-- after `$`s: a name begins, a further `$`, or they are bare
abbrev pub after_dollars : List Token → List PendingHereDoc → Place → ℕ → ByteClass → AfterByte
after_dollars dollars due p b k =
    if t.is_name_char b || (b == 39) then emit dollars (begin previous.Dollar due p b k)
    else (if b == 36 then Ok ([], [], state.Operator (starts previous.Dollar p) Dollar0, dollars, due)
    else emit (bare dollars) (begin previous.Apart due p b k))

-- the byte ends an operator
abbrev pub end_operator : TokenStart → List Token → Option TokenKind → List PendingHereDoc → Place → ℕ → ByteClass →
    AfterByte
end_operator start dollars None due p b k = Err (t.fault BadDescriptor start.place.line)
end_operator start dollars (Some tk.BareHere) due p b k = begin (previous.Here start.place p) due p b k
end_operator start dollars (Some tk.Dollar) due p b k =
    emit (caret start.previous tk.Dollar start.place)
    (after_dollars (dollars ++ token tk.Dollar start.place p ∷ []) due p b k)
end_operator start dollars (Some tk.DollarCount) due p b k =
    emit (caret start.previous tk.Dollar start.place ++ bare dollars)
    (after_dollars (token tk.DollarCount start.place p ∷ []) due p b k)
end_operator start dollars (Some tk.DollarFlat) due p b k =
    emit (caret start.previous tk.Dollar start.place ++ bare dollars)
    (after_dollars (token tk.DollarFlat start.place p ∷ []) due p b k)
end_operator start dollars (Some kind) due p b k =
    let kind' = meaning start.previous kind in
    emit (tokens_of start.previous kind' start.place p) (begin (t.after_token start.previous (shape kind')) due p b k)

-- one byte of an operator, or the first after it
abbrev pub in_operator : TokenStart → Op → List Token → Option Op → List PendingHereDoc → Place → ℕ → ByteClass →
    AfterByte
in_operator start op dollars (Some op') due p b k = Ok ([], [], state.Operator start op', dollars, due)
in_operator start op dollars None due p b k = end_operator start dollars (op_kind op) due p b k

-- a newline in a body, whose last line is the mark, or is not
abbrev pub end_line : Bool → ℕ → ℕ → PendingHereDoc → List PendingHereDoc → Place → AfterByte
end_line is_mark body line d due p =
    if is_mark then begin_line [] (record { start = body; stop = line } ∷ []) due (p.byte + 1)
    else goes [] (state.Body body (p.byte + 1)) (d ∷ due)

-- one byte
abbrev pub step : List ℕ → LexerState → List Token → List PendingHereDoc → Place → ℕ → ByteClass → AfterByte
step script (state.Between prev) dollars due p b k = begin prev due p b k
step script state.Comment dollars due p b LineEnd = begin previous.Apart due p b LineEnd
step script state.Comment dollars due p b k = goes [] state.Comment due
step script (state.Backslash start) dollars due p b LineEnd = goes [] (state.Between (t.after_blank start.previous)) due
step script (state.Backslash start) dollars due p b k = in_word script start due p b k
step script (state.WordBackslash start end) dollars due p b LineEnd =
    goes (word_tokens false start.previous start.place end) (state.Between previous.Apart)
    (word_due false script start.previous start.place end due)
step script (state.WordBackslash start end) dollars due p b k = in_word script start due p b k
step script (state.Word start) dollars due p b k = in_word script start due p b k
step script (state.Name q) dollars due p b k =
    if t.is_name_char b then goes [] (state.Name q) due
    else emit (token tk.Name q p ∷ []) (begin previous.Name due p b k)
step script (state.Quoted start) dollars due p b Quote = goes [] (state.Closed start) due
step script (state.Quoted start) dollars due p b k = goes [] (state.Quoted start) due
step script (state.Closed start) dollars due p b Quote = goes [] (state.Quoted start) due
step script (state.Closed start) dollars due p b k = ends_word true script start due p b k
step script (state.Operator start op) dollars due p b k = in_operator start op dollars (next_op op b) due p b k
step script (state.Body body line) dollars [] p b k = begin previous.Apart [] p b k
step script (state.Body body line) dollars (d ∷ due) p b LineEnd =
    end_line (bytes_eq (slice_range script line p.byte) d.mark) body line d due p
step script (state.Body body line) dollars (d ∷ due) p b k = goes [] (state.Body body line) (d ∷ due)

-- a byte of this class ends a word
abbrev pub EndsWord : ByteClass → Type 0
EndsWord Ordinary = ⊥
EndsWord Backslash = ⊥
EndsWord _ = Unit {0}

-- an operator of this kind is a token whatever stands before and after it
abbrev pub IsWhole : TokenKind → Type 0
IsWhole tk.Ampersand = Unit {0}
IsWhole tk.AndAnd = Unit {0}
IsWhole tk.OrOr = Unit {0}
IsWhole (tk.Bar slot) = Unit {0}
IsWhole (tk.Redirection mode slot) = Unit {0}
IsWhole (tk.CopyTo to from) = Unit {0}
IsWhole _ = ⊥

-- in a quoted word, whether a quote is directly before that ends the word unless another follows
abbrev pub in_quotes : TokenStart → Bool → LexerState
in_quotes start true = state.Closed start
in_quotes start false = state.Quoted start

-- the byte after a quote that ends a quoted word
abbrev pub EndsQuoted : Bool → ℕ → Type 0
EndsQuoted is_closed b = (is_closed ≡ true) × (byte_class b ≢ Quote)
