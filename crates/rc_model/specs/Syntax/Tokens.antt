-- Tokens: the pieces of a script that the grammar describes, and how a text is cut into them.
use Rattle.std.specs.Prelude.{◌≡◌, ◌≢◌, ℕ, Bool, true, false, if◌then◌else◌, ◌==◌, ◌||◌}
use Rattle.std.specs.Prelude.{List, [], ◌∷◌, ◌++◌}
use Rattle.std.specs.Prelude.{Some, None, Result, Ok, Err}
use Rattle.std.specs.Str.{chars, encode_utf8_all}
use Rattle.rc_model.specs.Syntax.Text.{begins_with, without_zero}
pub use Rattle.rc_model.specs.Syntax.Faults.{SyntaxFault, fault, OpenQuote, OpenHere, BadDescriptor, ZeroByte}
pub use Rattle.rc_model.specs.Syntax.Lexemes.{Lexeme, Word, Quoted, Semicolon, Ampersand, Newline, AndAnd, OrOr, Bar}
pub use Rattle.rc_model.specs.Syntax.Lexemes.{Caret, FreeCaret, Equals, LeftParen, RightParen, LeftBrace, RightBrace}
pub use Rattle.rc_model.specs.Syntax.Lexemes.{Backquote, Redirection, CopyTo, HereDoc, Dollar, DollarCount}
pub use Rattle.rc_model.specs.Syntax.Lexemes.{DollarFlat, Name, Subscript, BareDollar, BareHere, Token}
pub use Rattle.rc_model.specs.Syntax.Lexemes.{first_place, after_char, after_chars, token, operators, operator}
pub use Rattle.rc_model.specs.Syntax.Lexemes.{begins_operator, goes_on}
pub use Rattle.rc_model.specs.Syntax.Lexemes.{class_of, at_newline, is_in_word, word_goes_on}
pub use Rattle.rc_model.specs.Syntax.Lexemes.{is_name_char, name_goes_on, line_goes_on, names}
use Rattle.rc_model.specs.declared.syntax.Place.{Place}
use Rattle.rc_model.specs.declared.syntax.Previous.{Previous}
use Rattle.rc_model.specs.declared.syntax.Class.{Class}
use Rattle.rc_model.specs.declared.syntax.Previous.TheVariants as previous
use Rattle.rc_model.specs.declared.syntax.Class.TheVariants as class

-- the longest run of characters that continue a piece, and what follows it
pub data IsLongestRun (more : List ℕ → Bool) : List ℕ → List ℕ → Type 0 where
  stop : (rest : List ℕ) → more rest ≡ false → IsLongestRun more [] rest
  next : (c : ℕ) (run rest : List ℕ) → more (c ∷ run ++ rest) ≡ true → IsLongestRun more run rest →
      IsLongestRun more (c ∷ run) rest

-- between quotes each quote is doubled
pub data InQuotes : List ℕ → Type 0 where
  nothing : InQuotes []
  plain : (c : ℕ) (cs : List ℕ) → (c == 39) ≡ false → InQuotes cs → InQuotes (c ∷ cs)
  doubled : (cs : List ℕ) → InQuotes cs → InQuotes (39 ∷ 39 ∷ cs)

-- a text with each quote doubled
abbrev pub doubled_quotes : List ℕ → List ℕ
doubled_quotes [] = []
doubled_quotes (b ∷ bs) = if b == 39 then 39 ∷ 39 ∷ doubled_quotes bs else b ∷ doubled_quotes bs

-- the text as a quoted word
abbrev pub quoted_text : List ℕ → List ℕ
quoted_text text = 39 ∷ doubled_quotes text ++ 39 ∷ []

-- the text of a quoted word: each doubled quote becomes one, and those at the ends are dropped
abbrev pub without_quotes : Bool → List ℕ → List ℕ
without_quotes after_quote [] = []
without_quotes true (b ∷ bs) = b ∷ without_quotes false bs
without_quotes false (b ∷ bs) = if b == 39 then without_quotes true bs else b ∷ without_quotes false bs

-- a quoted word without its quotes
abbrev pub unquoted_text : List ℕ → List ℕ
unquoted_text [] = []
unquoted_text (q ∷ bs) = without_quotes false bs

-- the mark of a here document is still to come
abbrev pub awaits_mark : Previous → Bool
awaits_mark (previous.Here p q) = true
awaits_mark _ = false

-- the context after a blank: blanks may precede a mark
abbrev pub after_blank : Previous → Previous
after_blank (previous.Here p q) = previous.Here p q
after_blank _ = previous.Apart

-- the character begins a name
abbrev pub begins_name : Previous → ℕ → Bool
begins_name previous.Dollar c = is_name_char c
begins_name _ c = false

-- a lexeme in its context: a `$` without a name is bare, and a `(` directly after a name is a subscript
abbrev pub meant : Previous → List ℕ → Lexeme → Lexeme
meant previous.Name rest LeftParen = Subscript
meant prev rest Dollar = if names rest then Dollar else BareDollar
meant prev rest DollarCount = if names rest then DollarCount else BareDollar
meant prev rest DollarFlat = if names rest then DollarFlat else BareDollar
meant prev rest l = l

-- a `$`, a quoted word or a backquote
abbrev pub begins_part : Lexeme → Bool
begins_part (Quoted text) = true
begins_part Backquote = true
begins_part Dollar = true
begins_part DollarCount = true
begins_part DollarFlat = true
begins_part BareDollar = true
begins_part _ = false

-- an unquoted word
abbrev pub is_word : Lexeme → Bool
is_word (Word text) = true
is_word _ = false

-- a `^` is inserted before this lexeme
abbrev pub wants_caret : Previous → Lexeme → Bool
wants_caret previous.Word l = begins_part l
wants_caret previous.Quoted l = begins_part l || is_word l
wants_caret previous.Name l = begins_part l || is_word l
wants_caret _ l = false

-- a word as the mark of a here document, whose body is still to come
abbrev pub as_mark : Lexeme → Lexeme
as_mark (Quoted text) = HereDoc true []
as_mark _ = HereDoc false []

-- the text of a word
abbrev pub lexeme_text : Lexeme → List ℕ
lexeme_text (Word text) = text
lexeme_text (Quoted text) = text
lexeme_text _ = []

-- a `^` if the lexeme needs one
abbrev pub caret : Previous → Lexeme → Place → List Token
caret prev l p = if wants_caret prev l then token FreeCaret p p ∷ [] else []

-- the tokens of a lexeme between two places
abbrev pub tokens_of : Previous → Lexeme → Place → Place → List Token
tokens_of (previous.Here begin end) l p q = token (as_mark l) begin q ∷ []
tokens_of prev l p q = caret prev l p ++ token l p q ∷ []

-- the context that a lexeme leaves for what follows it
abbrev pub after_token : Previous → Lexeme → Previous
after_token (previous.Here begin end) l = previous.Apart
after_token previous.Dollar (Quoted text) = previous.Name
after_token prev (Word text) = previous.Word
after_token prev (Quoted text) = previous.Quoted
after_token prev (Name text) = previous.Name
after_token prev Dollar = previous.Dollar
after_token prev DollarCount = previous.Dollar
after_token prev DollarFlat = previous.Dollar
after_token prev _ = previous.Apart

-- a here document whose body is still to come: the text of its mark, and the line of its `<<`
pub record PendingHereDoc : Type 0 where
  pub mark : List ℕ
  pub line : ℕ

-- the here documents that are pending: a mark adds one
abbrev pub pending_after : Previous → Lexeme → List PendingHereDoc → List PendingHereDoc
pending_after (previous.Here begin end) l due = due ++ record { mark = lexeme_text l; line = begin.line } ∷ []
pending_after prev l due = due

-- The characters spell this lexeme, in this context and before this text.
pub data IsLexeme : Previous → List ℕ → List ℕ → Lexeme → Type 0 where
  word : (prev : Previous) (c : ℕ) (cs rest : List ℕ) → begins_name prev c ≡ false →
      IsLongestRun word_goes_on (c ∷ cs) rest → IsLexeme prev (c ∷ cs) rest (Word (encode_utf8_all (c ∷ cs)))
  name : (c : ℕ) (cs rest : List ℕ) → IsLongestRun name_goes_on (c ∷ cs) rest →
      IsLexeme previous.Dollar (c ∷ cs) rest (Name (encode_utf8_all (c ∷ cs)))
  quoted : (prev : Previous) (cs rest : List ℕ) → InQuotes cs → begins_with (39 ∷ []) rest ≡ false →
      IsLexeme prev (39 ∷ cs ++ 39 ∷ []) rest (Quoted (unquoted_text (encode_utf8_all (39 ∷ cs ++ 39 ∷ []))))
  operated : (prev : Previous) (cs rest : List ℕ) (l : Lexeme) → awaits_mark prev ≡ false → operator cs ≡ Some l →
      l ≢ BareHere → goes_on cs rest ≡ false →
      IsLexeme prev cs rest (meant prev rest l)

-- The text begins with the body of a here document and with its end, a line that is the mark. That line may be the last
-- one, without a newline.
pub data Body (mark : List ℕ) : List ℕ → List ℕ → List ℕ → Type 0 where
  marked : (line rest : List ℕ) → IsLongestRun line_goes_on line (10 ∷ rest) → encode_utf8_all line ≡ mark →
      Body mark [] (line ++ 10 ∷ []) rest
  marked_last : (line : List ℕ) → IsLongestRun line_goes_on line [] → line ≢ [] → encode_utf8_all line ≡ mark →
      Body mark [] line []
  other : (line body end rest : List ℕ) → IsLongestRun line_goes_on line (10 ∷ body ++ end ++ rest) →
      encode_utf8_all line ≢ mark → Body mark body end rest →
      Body mark (line ++ 10 ∷ body) end rest

-- No line of the text is the mark.
pub data NoBody (mark : List ℕ) : List ℕ → Type 0 where
  nothing : NoBody mark []
  other_last : (line : List ℕ) → IsLongestRun line_goes_on line [] → line ≢ [] → encode_utf8_all line ≢ mark →
      NoBody mark line
  other : (line rest : List ℕ) → IsLongestRun line_goes_on line (10 ∷ rest) → encode_utf8_all line ≢ mark →
      NoBody mark rest → NoBody mark (line ++ 10 ∷ rest)

-- The text begins with the bodies of these here documents and their ends, one after the other.
pub data Bodies : List PendingHereDoc → List ℕ → List ℕ → List (List ℕ) → Type 0 where
  all : (rest : List ℕ) → Bodies [] [] rest []
  one : (d : PendingHereDoc) (due : List PendingHereDoc) (body end cs rest : List ℕ) (bodies : List (List ℕ)) →
      Body d.mark body end (cs ++ rest) → Bodies due cs rest bodies →
      Bodies (d ∷ due) (body ++ end ++ cs) rest (encode_utf8_all body ∷ bodies)

-- One of the bodies has no end: the first such here document begins at this line.
pub data OpenBody : List PendingHereDoc → List ℕ → ℕ → Type 0 where
  first : (d : PendingHereDoc) (due : List PendingHereDoc) (text : List ℕ) → NoBody d.mark text →
      OpenBody (d ∷ due) text d.line
  later : (d : PendingHereDoc) (due : List PendingHereDoc) (body end text : List ℕ) (line : ℕ) →
      Body d.mark body end text →
      OpenBody due text line →
      OpenBody (d ∷ due) (body ++ end ++ text) line

-- the outcome for a text: its tokens, and the bodies of its here documents in the order of their marks
abbrev pub Outcome : Type 0
Outcome = Result (List Token × List (List ℕ)) SyntaxFault

-- an outcome with these tokens and bodies before its own
abbrev pub join : List Token → List (List ℕ) → Outcome → Outcome
join ts bodies (Ok then') = Ok (ts ++ then'.0, bodies ++ then'.1)
join ts bodies (Err f) = Err f

-- a mark is next, perhaps after blanks
abbrev pub is_mark : Class → Bool
is_mark class.Blank = true
is_mark class.Quote = true
is_mark class.Backslash = true
is_mark class.Ordinary = true
is_mark _ = false

-- the text goes on with a mark
abbrev pub mark_goes_on : List ℕ → Bool
mark_goes_on [] = false
mark_goes_on (c ∷ cs) = is_mark (class_of c)

-- The text at this place, in this context and with these here documents due, is cut into longest pieces with this
-- outcome.
pub data Cuts : Previous → List PendingHereDoc → Place → List ℕ → Outcome → Type 0 where
  -- the end, with no body due, and with one
  finish : (prev : Previous) (p : Place) → awaits_mark prev ≡ false → Cuts prev [] p [] (Ok ([], []))
  open_here : (prev : Previous) (d : PendingHereDoc) (due : List PendingHereDoc) (p : Place) →
      awaits_mark prev ≡ false →
      Cuts prev (d ∷ due) p [] (Err (fault OpenHere d.line))
  -- a blank, a newline after a backslash, and a comment
  blank : (prev : Previous) (due : List PendingHereDoc) (p : Place) (c : ℕ) (cs : List ℕ) (o : Outcome) →
      class_of c ≡ class.Blank →
      Cuts (after_blank prev) due (after_char p c) cs o → Cuts prev due p (c ∷ cs) o
  continued : (prev : Previous) (due : List PendingHereDoc) (p : Place) (cs : List ℕ) (o : Outcome) →
      Cuts (after_blank prev) due (after_chars p (92 ∷ 10 ∷ [])) cs o → Cuts prev due p (92 ∷ 10 ∷ cs) o
  comment : (prev : Previous) (due : List PendingHereDoc) (p : Place) (cs rest : List ℕ) (o : Outcome) →
      awaits_mark prev ≡ false →
      IsLongestRun line_goes_on cs rest →
      Cuts previous.Apart due (after_chars p (35 ∷ cs)) rest o → Cuts prev due p (35 ∷ cs ++ rest) o
  -- a word, a quoted word, a name, an operator
  lexeme : (prev : Previous) (due : List PendingHereDoc) (p : Place) (cs rest : List ℕ) (l : Lexeme) (o : Outcome) →
      IsLexeme prev cs rest l →
      Cuts (after_token prev l) (pending_after prev l due) (after_chars p cs) rest o →
      Cuts prev due p (cs ++ rest) (join (tokens_of prev l p (after_chars p cs)) [] o)
  open_quote : (prev : Previous) (due : List PendingHereDoc) (p : Place) (cs : List ℕ) → InQuotes cs →
      Cuts prev due p (39 ∷ cs) (Err (fault OpenQuote p.line))
  bad_descriptor : (prev : Previous) (due : List PendingHereDoc) (p : Place) (c : ℕ) (cs rest : List ℕ) →
      awaits_mark prev ≡ false →
      begins_operator (c ∷ cs) ≡ true →
      operator (c ∷ cs) ≡ None →
      goes_on (c ∷ cs) rest ≡ false → Cuts prev due p (c ∷ cs ++ rest) (Err (fault BadDescriptor p.line))
  -- a `<<`, and one without a mark
  here : (prev : Previous) (due : List PendingHereDoc) (p : Place) (cs rest : List ℕ) (o : Outcome) →
      awaits_mark prev ≡ false →
      operator cs ≡ Some BareHere →
      goes_on cs rest ≡ false →
      Cuts (previous.Here p (after_chars p cs)) due (after_chars p cs) rest o → Cuts prev due p (cs ++ rest) o
  no_mark : (begin end : Place) (due : List PendingHereDoc) (p : Place) (text : List ℕ) (o : Outcome) →
      mark_goes_on text ≡ false →
      Cuts previous.Apart due p text o →
      Cuts (previous.Here begin end) due p text (join (token BareHere begin end ∷ []) [] o)
  -- a newline with the bodies that are due
  newline : (prev : Previous) (due : List PendingHereDoc) (p : Place) (cs rest : List ℕ) (bodies : List (List ℕ))
      (o : Outcome) →
      awaits_mark prev ≡ false →
      Bodies due cs rest bodies →
      Cuts previous.Apart [] (after_chars p (10 ∷ cs)) rest o →
      Cuts prev due p (10 ∷ cs ++ rest) (join (token Newline p (after_char p 10) ∷ []) bodies o)
  open_body : (prev : Previous) (due : List PendingHereDoc) (p : Place) (rest : List ℕ) (line : ℕ) →
      awaits_mark prev ≡ false →
      OpenBody due rest line →
      Cuts prev due p (10 ∷ rest) (Err (fault OpenHere line))

-- a here document with its body
abbrev pub with_body : Lexeme → List ℕ → Lexeme
with_body (HereDoc is_quoted none_yet) body = HereDoc is_quoted body
with_body l body = l

-- a here document
abbrev pub is_here : Lexeme → Bool
is_here (HereDoc is_quoted body) = true
is_here _ = false

-- the tokens with the bodies of their here documents: each takes the next one
abbrev pub filled : List Token → List (List ℕ) → List Token
filled [] bodies = []
filled (t ∷ ts) [] = t ∷ ts
filled (t ∷ ts) (body ∷ bodies) =
    if is_here t.lexeme then record { lexeme = with_body t.lexeme body; start = t.start; stop = t.stop; line = t.line }
    ∷ filled ts bodies
    else t ∷ filled ts (body ∷ bodies)

-- the tokens of an outcome, with their bodies
abbrev pub result_of : Outcome → Result (List Token) SyntaxFault
result_of (Ok read) = Ok (filled read.0 read.1)
result_of (Err f) = Err f

-- The text has these tokens, or this is its first fault. A byte 0 is looked for first.
pub data Lexes (text : List ℕ) : Result (List Token) SyntaxFault → Type 0 where
  zero_byte : (cs rest : List ℕ) → chars text ≡ cs ++ 0 ∷ rest → without_zero cs ≡ true →
      Lexes text (Err (fault ZeroByte (after_chars first_place cs).line))
  cut : (o : Outcome) → without_zero (chars text) ≡ true → Cuts previous.Apart [] first_place (chars text) o →
      Lexes text (result_of o)

-- this is what is read from the text, and nothing else is
pub record IsCut (text : List ℕ) (read : Result (List Token) SyntaxFault) : Type 0 where
  pub found : Lexes text read
  pub only : (other : Result (List Token) SyntaxFault) → Lexes text other → other ≡ read
