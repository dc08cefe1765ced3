-- Arguments and redirections that are read again where they are printed.
use Rattle.std.proofs.Common.{◌≡◌, refl, sym, subst, ap, Bool, true, false, List, ◌∷◌, ◌++◌, Some, None, append_assoc}
use Rattle.rc_model.specs.Syntax.Tokens.{Lexeme, Caret, RightParen}
use Rattle.rc_model.specs.Syntax.Tree.{Node, Many, none, more}
use Rattle.rc_model.specs.Syntax.Tree as t
use Rattle.rc_model.specs.Syntax.Grammar.{Phrase, Level, Out, past_blanks, after_caret, concat_of}
use Rattle.rc_model.specs.Syntax.Grammar.{begins_arg, begins_redir, begins_value, begins_subscript}
use Rattle.rc_model.specs.Syntax.Grammar as g
use Rattle.law_print.specs.Lexemes.{arg_lexemes, name_lexemes, redir_lexemes, args_lexemes, first_part, further_parts, redirs_lexemes}
use Rattle.law_print.proofs.Follows.{at_paren, at_close, end_apart, EndsArg, EndsStage, ArgOpens, RedirOpens, opened, quiet, arg_open, redir_open, arg_open_on, redir_open_on, blank_apart}

-- a phrase at an equal place
pub at : {l : Level} {ts us : List Lexeme} {x : Out l} {rest : List Lexeme} → ts ≡ us → Phrase l us x rest → Phrase l ts x rest
at {l} {ts} {us} {x} {rest} e p = subst (λ z. Phrase l z x rest) (sym e) p

-- a name is read again whatever follows
abbrev pub PrintsName : Node t.arg → Type 0
PrintsName n = (rest : List Lexeme) → Phrase g.name (name_lexemes n ++ rest) n rest

pub record PrintsPart (a : Node t.arg) : Type 0 where
  pub phrase : (inside : Bool) (rest : List Lexeme) → begins_subscript rest ≡ false → Phrase (g.part inside) (arg_lexemes a ++ rest) a rest
  pub opens : ArgOpens (arg_lexemes a)

pub record PrintsArg (a : Node t.arg) : Type 0 where
  pub phrase : (inside : Bool) (rest : List Lexeme) → EndsArg rest → Phrase (g.arg inside) (arg_lexemes a ++ rest) a rest
  pub opens : ArgOpens (arg_lexemes a)

pub record PrintsRedir (r : Node t.redir) : Type 0 where
  pub phrase : (rest : List Lexeme) → EndsArg rest → Phrase g.redir (redir_lexemes r ++ rest) r rest
  pub opens : RedirOpens (redir_lexemes r)

abbrev pub PrintsParts : Many t.arg → Type 0
PrintsParts none = Unit {0}
PrintsParts (more a as') = PrintsPart a × PrintsParts as'

abbrev pub PrintsArgs : Many t.arg → Type 0
PrintsArgs none = Unit {0}
PrintsArgs (more a as') = PrintsArg a × PrintsArgs as'

abbrev pub PrintsRedirs : Many t.redir → Type 0
PrintsRedirs none = Unit {0}
PrintsRedirs (more r rs) = PrintsRedir r × PrintsRedirs rs

no_caret_here : (inside : Bool) {rest : List Lexeme} → EndsArg rest → after_caret (past_blanks inside rest) ≡ None
no_caret_here inside e = rw (blank_apart inside e) e.caret

caret_here : (inside : Bool) (next : List Lexeme) → after_caret (past_blanks inside (Caret ∷ next)) ≡ Some next
caret_here true next = refl
caret_here false next = refl

subscript_apart : (as' : Many t.arg) (rest : List Lexeme) → begins_subscript rest ≡ false → begins_subscript (further_parts as' ++ rest) ≡ false
unfolding further_parts
subscript_apart none rest h = h
subscript_apart (more a as') rest h = refl

pub parts_print : (inside : Bool) (as' : Many t.arg) → PrintsParts as' → (rest : List Lexeme) → EndsArg rest →
    Phrase (g.parts inside) (further_parts as' ++ rest) as' rest
unfolding further_parts
parts_print inside none p rest e = g.no_caret (no_caret_here inside e)
parts_print inside (more a as') p rest e =
    let next : List Lexeme = arg_lexemes a ++ (further_parts as' ++ rest) in
    let part = p.0.phrase inside (further_parts as' ++ rest) (subscript_apart as' rest e.subscript) in
    let blank = blank_apart inside (opened (arg_open (arg_open_on (further_parts as' ++ rest) p.0.opens))).apart in
    at (ap (λ z. Caret ∷ z) (append_assoc (arg_lexemes a) (further_parts as') rest))
    (g.caret {inside = inside} {ts = Caret ∷ next} {next = next} (caret_here inside next) (at blank part) (parts_print inside as' p.1 rest e))

pub concat_prints : (a : Node t.arg) (as' : Many t.arg) → PrintsPart a → PrintsParts as' → PrintsArg (concat_of a as')
unfolding arg_lexemes first_part further_parts
concat_prints a none p q = record {
  phrase = λ inside rest e. g.joined (p.phrase inside rest e.subscript) (g.no_caret (no_caret_here inside e));
  opens = p.opens;
}
concat_prints a (more b bs) p q = record {
  phrase = λ inside rest e. at (append_assoc (arg_lexemes a) (further_parts (more b bs)) rest)
      (g.joined (p.phrase inside (further_parts (more b bs) ++ rest) refl) (parts_print inside (more b bs) q rest e));
  opens = arg_open_on (further_parts (more b bs)) p.opens;
}

-- what is after arguments and redirections ends those before it
pub args_apart : (as' : Many t.arg) → PrintsArgs as' → {us : List Lexeme} → EndsArg us → EndsArg (args_lexemes as' ++ us)
unfolding args_lexemes
args_apart none p e = e
args_apart (more a as') p {us} e =
    subst EndsArg (sym (append_assoc (arg_lexemes a) (args_lexemes as') us)) (opened (arg_open (arg_open_on (args_lexemes as' ++ us) p.0.opens))).apart

pub args_value : (as' : Many t.arg) → PrintsArgs as' → (us : List Lexeme) → begins_value us ≡ false → begins_value (args_lexemes as' ++ us) ≡ false
unfolding args_lexemes
args_value none p us e = e
args_value (more a as') p us e =
    subst (λ z. begins_value z ≡ false) (sym (append_assoc (arg_lexemes a) (args_lexemes as') us))
    (opened (arg_open (arg_open_on (args_lexemes as' ++ us) p.0.opens))).value

pub redirs_apart : (rs : Many t.redir) → PrintsRedirs rs → {us : List Lexeme} → EndsArg us → EndsArg (redirs_lexemes rs ++ us)
unfolding redirs_lexemes
redirs_apart none p e = e
redirs_apart (more r rs) p {us} e =
    subst EndsArg (sym (append_assoc (redir_lexemes r) (redirs_lexemes rs) us))
    (opened (redir_open false (redir_open_on (redirs_lexemes rs ++ us) p.0.opens))).apart

pub redirs_value : (rs : Many t.redir) → PrintsRedirs rs → (us : List Lexeme) → begins_value us ≡ false → begins_value (redirs_lexemes rs ++ us) ≡ false
unfolding redirs_lexemes
redirs_value none p us e = e
redirs_value (more r rs) p us e =
    subst (λ z. begins_value z ≡ false) (sym (append_assoc (redir_lexemes r) (redirs_lexemes rs) us))
    (opened (redir_open false (redir_open_on (redirs_lexemes rs ++ us) p.0.opens))).value

pub members_print : (as' : Many t.arg) → PrintsArgs as' → (rest : List Lexeme) → Phrase g.members (args_lexemes as' ++ (RightParen ∷ rest)) as' rest
unfolding args_lexemes
members_print none p rest = g.no_member
members_print (more a as') p rest =
    at (append_assoc (arg_lexemes a) (args_lexemes as') (RightParen ∷ rest))
    (g.member (p.0.phrase true (args_lexemes as' ++ (RightParen ∷ rest)) (args_apart as' p.1 (end_apart (at_close at_paren)))) (members_print as' p.1 rest))

pub words_print : (as' : Many t.arg) → PrintsArgs as' → (rest : List Lexeme) → EndsArg rest → begins_arg rest ≡ false →
    Phrase g.words (args_lexemes as' ++ rest) as' rest
unfolding args_lexemes
words_print none p rest e h = g.no_word h
words_print (more a as') p rest e h =
    at (append_assoc (arg_lexemes a) (args_lexemes as') rest)
    (g.word (p.0.phrase false (args_lexemes as' ++ rest) (args_apart as' p.1 e)) (words_print as' p.1 rest e h))

pub redirs_print : (rs : Many t.redir) → PrintsRedirs rs → (rest : List Lexeme) → EndsArg rest → begins_redir rest ≡ false →
    Phrase g.redirs (redirs_lexemes rs ++ rest) rs rest
unfolding redirs_lexemes
redirs_print none p rest e h = g.no_redir h
redirs_print (more r rs) p rest e h =
    at (append_assoc (redir_lexemes r) (redirs_lexemes rs) rest)
    (g.redir_more (p.0.phrase (redirs_lexemes rs ++ rest) (redirs_apart rs p.1 e)) (redirs_print rs p.1 rest e h))

only_redirs_print : (rs : Many t.redir) → PrintsRedirs rs → (rest : List Lexeme) → EndsStage rest →
    Phrase g.simple (redirs_lexemes rs ++ rest) (none, rs) rest
unfolding redirs_lexemes
only_redirs_print none p rest e = g.simple_end (quiet e).arg (quiet e).redir
only_redirs_print (more r rs) p rest e =
    at (append_assoc (redir_lexemes r) (redirs_lexemes rs) rest)
    (g.simple_redir (p.0.phrase (redirs_lexemes rs ++ rest) (redirs_apart rs p.1 (quiet e).apart)) (only_redirs_print rs p.1 rest e))

pub simple_print : (as' : Many t.arg) → PrintsArgs as' → (rs : Many t.redir) → PrintsRedirs rs → (rest : List Lexeme) → EndsStage rest →
    Phrase g.simple (args_lexemes as' ++ (redirs_lexemes rs ++ rest)) (as', rs) rest
unfolding args_lexemes
simple_print none p rs q rest e = only_redirs_print rs q rest e
simple_print (more a as') p rs q rest e =
    at (append_assoc (arg_lexemes a) (args_lexemes as') (redirs_lexemes rs ++ rest))
    (g.simple_word (p.0.phrase false (args_lexemes as' ++ (redirs_lexemes rs ++ rest)) (args_apart as' p.1 (redirs_apart rs q (quiet e).apart)))
    (simple_print as' p.1 rs q rest e))
