-- What phrases begin with, and what ends them.
use Rattle.std.proofs.Common.{◌≡◌, refl, ◌∙◌, sym, Bool, true, false, List, ◌++◌, append_assoc}
use Rattle.rc_model.specs.Syntax.Tokens.{Lexeme}
use Rattle.rc_model.specs.Syntax.Tree.{Node, Many, none, more}
use Rattle.rc_model.specs.Syntax.Tree as t
use Rattle.rc_model.specs.Syntax.Grammar.{Phrase, begins_first, begins_link, ends, concat_of}
use Rattle.rc_model.specs.Syntax.Grammar as g
use Rattle.rc_model.specs.Syntax.Printing.{begins_with_case}
use Rattle.law_print.specs.Lexemes.{arg_lexemes, first_part, further_parts}
use Rattle.law_print.proofs.Follows.{Opens, by_word, by_quoted, by_paren, by_backquote, by_dollar, by_count, by_flat, open_on}

-- the first word of a command is printed as it was read
part_first : {inside : Bool} {ts mid : List Lexeme} {a : Node t.arg} → Phrase (g.part inside) ts a mid → begins_first ts ≡ true → (us : List Lexeme) →
    begins_first (arg_lexemes a ++ us) ≡ true
unfolding arg_lexemes
part_first (g.word_part) h us = h
part_first (g.quoted_part) h us = refl
part_first (g.paren_part p) h us = refl
part_first (g.back_part p) h us = refl
part_first (g.var_part p k) h us = refl
part_first (g.sub_part p q) h us = refl
part_first (g.count_part p) h us = refl
part_first (g.flat_part p) h us = refl

concat_first : (a : Node t.arg) (as' : Many t.arg) → ((us : List Lexeme) → begins_first (arg_lexemes a ++ us) ≡ true) → (us : List Lexeme) →
    begins_first (arg_lexemes (concat_of a as') ++ us) ≡ true
unfolding arg_lexemes first_part
concat_first a none f us = f us
concat_first a (more b bs) f us = rw append_assoc (f (further_parts (more b bs) ++ us))

pub arg_first : {inside : Bool} {ts mid : List Lexeme} {a : Node t.arg} → Phrase (g.arg inside) ts a mid → begins_first ts ≡ true → (us : List Lexeme) →
    begins_first (arg_lexemes a ++ us) ≡ true
arg_first (g.joined {a = a} {as' = as'} p q) h us = concat_first a as' (part_first p h) us

-- a word that doesn't begin a case line
part_case : {inside : Bool} {ts mid : List Lexeme} {a : Node t.arg} → Phrase (g.part inside) ts a mid → ends true ts ≡ false → begins_with_case a ≡ false
part_case (g.word_part) h = h
part_case (g.quoted_part) h = refl
part_case (g.paren_part p) h = refl
part_case (g.back_part p) h = refl
part_case (g.var_part p k) h = refl
part_case (g.sub_part p q) h = refl
part_case (g.count_part p) h = refl
part_case (g.flat_part p) h = refl

concat_case : (a : Node t.arg) (as' : Many t.arg) → begins_with_case a ≡ begins_with_case (concat_of a as')
concat_case a none = refl
concat_case a (more b bs) = refl

pub arg_case : {inside : Bool} {ts mid : List Lexeme} {a : Node t.arg} → Phrase (g.arg inside) ts a mid → ends true ts ≡ false → begins_with_case a ≡ false
arg_case (g.joined {a = a} {as' = as'} p q) h = sym (concat_case a as') ∙ part_case p h

part_calm : {inside : Bool} {ts mid : List Lexeme} {a : Node t.arg} → Phrase (g.part inside) ts a mid → begins_with_case a ≡ false → Opens true (arg_lexemes a)
unfolding arg_lexemes
part_calm (g.word_part) h = by_word h
part_calm (g.quoted_part) h = by_quoted
part_calm (g.paren_part p) h = by_paren
part_calm (g.back_part p) h = by_backquote
part_calm (g.var_part p k) h = by_dollar
part_calm (g.sub_part p q) h = by_dollar
part_calm (g.count_part p) h = by_count
part_calm (g.flat_part p) h = by_flat

concat_calm : (a : Node t.arg) (as' : Many t.arg) → Opens true (arg_lexemes a) → Opens true (arg_lexemes (concat_of a as'))
unfolding arg_lexemes first_part
concat_calm a none o = o
concat_calm a (more b bs) o = open_on (further_parts (more b bs)) o

pub arg_calm : {inside : Bool} {ts mid : List Lexeme} {a : Node t.arg} → Phrase (g.arg inside) ts a mid → begins_with_case a ≡ false → Opens true (arg_lexemes a)
arg_calm (g.joined {a = a} {as' = as'} p q) h = concat_calm a as' (part_calm p (concat_case a as' ∙ h))

-- no link follows the body of a control form
links_end : {ts rest : List Lexeme} {ls : Many t.link} → Phrase g.links ts ls rest → begins_link rest ≡ false
links_end (g.no_link h) = h
links_end (g.and_link p q) = links_end q
links_end (g.or_link p q) = links_end q

command_end : {after_if : Bool} {ts rest : List Lexeme} {c : Node t.cmd} → Phrase (g.command after_if) ts c rest → begins_link rest ≡ false
command_end (g.linked p q) = links_end q

pub body_end : {ts rest : List Lexeme} {c : Node t.cmd} → Phrase g.body ts c rest → begins_link rest ≡ false
body_end (g.no_body h k) = k
body_end (g.one_body p) = command_end p
