-- What is left after a phrase is the end of its tokens.
use Rattle.std.proofs.Common.{◌≡◌, Bool, true, false, List, [], ◌∷◌, ◌++◌, Some, refl, sym, ap, ◌∙◌, append_assoc}
use Rattle.std.proofs.lemmas.Option.{same_Some}
use Rattle.rc_model.specs.Syntax.Tokens.{Lexeme, Newline, FreeCaret, Caret}
use Rattle.rc_model.specs.Syntax.Grammar.{Phrase, Level, Out, past_newlines, past_blanks, past_caret, after_caret}
use Rattle.rc_model.specs.Syntax.Grammar as g
use Rattle.law_syntax.specs.Parts.{IsTail}

pub all : (ts : List Lexeme) → IsTail ts ts
all ts = ([], refl)

pub later : (t : Lexeme) {ts us : List Lexeme} → IsTail us ts → IsTail us (t ∷ ts)
later t a = (t ∷ a.0, ap (λ z. t ∷ z) a.1)

pub then' : {ts us vs : List Lexeme} → IsTail us ts → IsTail vs us → IsTail vs ts
then' {ts = ts} {us = us} {vs = vs} a b = (a.0 ++ b.0, a.1 ∙ ap (λ z. a.0 ++ z) b.1 ∙ sym (append_assoc a.0 b.0 vs))

from_same : {ts us vs : List Lexeme} → us ≡ vs → IsTail us ts → IsTail vs ts
from_same e a = (a.0, a.1 ∙ ap (λ z. a.0 ++ z) e)

newlines : (ts : List Lexeme) → IsTail (past_newlines ts) ts
newlines (Newline ∷ ts) = later Newline (newlines ts)
newlines ts = all _

blanks : (inside : Bool) (ts : List Lexeme) → IsTail (past_blanks inside ts) ts
blanks true ts = newlines ts
blanks false ts = all ts

caret : (ts : List Lexeme) → IsTail (past_caret ts) ts
caret (FreeCaret ∷ ts) = later FreeCaret (all ts)
caret ts = all _

after : (ts next : List Lexeme) → after_caret ts ≡ Some next → IsTail next ts
after (Caret ∷ ts) next h = from_same (same_Some ts next h) (later Caret (all ts))
after (FreeCaret ∷ ts) next h = from_same (same_Some ts next h) (later FreeCaret (all ts))
after ts next h = absurd cc

newlines_then : (ts next : List Lexeme) (t : Lexeme) → past_newlines ts ≡ t ∷ next → IsTail next ts
newlines_then ts next t h = then' (newlines ts) (from_same' h)
  where
    from_same' : {us : List Lexeme} → us ≡ t ∷ next → IsTail next us
    from_same' e = (t ∷ [], e)

caret_then : (ts next : List Lexeme) (t : Lexeme) → past_caret ts ≡ t ∷ next → IsTail next ts
caret_then ts next t h = then' (caret ts) (from_same' h)
  where
    from_same' : {us : List Lexeme} → us ≡ t ∷ next → IsTail next us
    from_same' e = (t ∷ [], e)

-- after a token that ends a phrase
past : (t : Lexeme) {ts us : List Lexeme} → IsTail (t ∷ us) ts → IsTail us ts
past t a = then' a (t ∷ [], refl)

pub tail : {l : Level} {ts : List Lexeme} {x : Out l} {rest : List Lexeme} → Phrase l ts x rest → IsTail rest ts
tail g.bare_name = later _ (all _)
tail g.quoted_name = later _ (all _)
tail (g.named_name p) = later _ (tail p)
tail g.word_part = later _ (all _)
tail g.quoted_part = later _ (all _)
tail (g.paren_part p) = later _ (tail p)
tail (g.back_part {inside = inside} {ts = ts} p) = later _ (then' (blanks inside ts) (tail p))
tail (g.var_part p h) = later _ (tail p)
tail (g.sub_part p q) = later _ (then' (past _ (tail p)) (tail q))
tail (g.count_part p) = later _ (tail p)
tail (g.flat_part p) = later _ (tail p)
tail (g.joined p q) = then' (tail p) (tail q)
tail (g.no_caret h) = all _
tail (g.caret {inside = inside} {ts = ts} {next = next} h p q) =
    then' (blanks inside ts) (then' (after (past_blanks inside ts) next h) (then' (blanks inside next) (then' (tail p) (tail q))))
tail g.no_member = later _ (all _)
tail (g.blank_member p) = later _ (tail p)
tail (g.member p q) = then' (tail p) (tail q)
tail (g.no_word h) = all _
tail (g.word p q) = then' (tail p) (tail q)
tail (g.open_redir p) = later _ (tail p)
tail g.copy_redir = later _ (all _)
tail g.here_redir = later _ (all _)
tail (g.no_redir h) = all _
tail (g.redir_more p q) = then' (tail p) (tail q)
tail (g.simple_end h k) = all _
tail (g.simple_word p q) = then' (tail p) (tail q)
tail (g.simple_redir p q) = then' (tail p) (tail q)
tail (g.braced p) = later _ (past _ (tail p))
tail (g.parenthesised p) = later _ (past _ (tail p))
tail (g.simple_stage h p k q) = then' (tail p) (tail q)
tail (g.brace_stage p q) = then' (tail p) (tail q)
tail (g.switch_stage {ts = ts} {mid = mid} {inner = inner} h p k q r) =
    later _ (then' (caret ts) (then' (tail p) (then' (newlines_then mid inner _ k) (then' (past _ (tail q)) (tail r)))))
tail (g.match_stage {ts = ts} h p q) = later _ (then' (caret ts) (then' (tail p) (tail q)))
tail (g.define_stage {ts = ts} h p q r) = later _ (then' (caret ts) (then' (tail p) (then' (tail q) (tail r))))
tail (g.undefine_stage {ts = ts} h p q k) = later _ (then' (caret ts) (then' (tail p) (tail q)))
tail (g.piped p q) = then' (tail p) (tail q)
tail (g.no_bar h) = all _
tail (g.bar_stage {ts = ts} p q) = later _ (then' (newlines ts) (then' (tail p) (tail q)))
tail (g.bar_leading {ts = ts} p) = later _ (then' (newlines ts) (tail p))
tail (g.bar_assigned {ts = ts} p) = later _ (then' (newlines ts) (tail p))
tail (g.not_leading {ts = ts} h p) = later _ (then' (caret ts) (tail p))
tail (g.subshell_leading {ts = ts} h p) = later _ (then' (caret ts) (tail p))
tail (g.redir_leading p q r) = then' (tail p) (then' (tail q) (tail r))
tail (g.if_leading {ts = ts} h p q) = later _ (then' (caret ts) (then' (tail p) (tail q)))
tail (g.while_leading {ts = ts} h p q) = later _ (then' (caret ts) (then' (tail p) (tail q)))
tail (g.if_not_leading {ts = ts} {next = next} h k m p) = later _ (then' (caret_then ts next _ k) (then' (caret next) (tail p)))
tail (g.for_all_leading {ts = ts} {head = head} {mid = mid} {next = next} h k p m q) =
    later _ (then' (caret_then ts head _ k) (then' (newlines head) (then' (tail p) (then' (newlines_then mid next _ m) (tail q)))))
tail (g.for_leading {ts = ts} {head = head} {mid = mid} {list = list} h k p m n q r) =
    later _ (then' (caret_then ts head _ k) (then' (newlines head) (then' (tail p) (then' (newlines_then mid list _ m) (then' (caret list) (then' (tail q) (tail r)))))))
tail (g.assignment h p q r) = then' (past _ (tail p)) (then' (tail q) (tail r))
tail (g.another_value h p q r) = then' (past _ (tail p)) (then' (tail q) (tail r))
tail (g.values_alone h) = all _
tail (g.values_leading p) = tail p
tail (g.values_pipe p) = tail p
tail (g.leading_operand p) = tail p
tail (g.assigned_operand p) = tail p
tail (g.pipe_operand p) = tail p
tail (g.no_operand h) = all _
tail (g.one_operand p) = tail p
tail (g.linked p q) = then' (tail p) (tail q)
tail (g.no_link h) = all _
tail (g.and_link {ts = ts} p q) = later _ (then' (newlines ts) (then' (tail p) (tail q)))
tail (g.or_link {ts = ts} p q) = later _ (then' (newlines ts) (then' (tail p) (tail q)))
tail (g.no_body {ts = ts} h k) = newlines ts
tail (g.one_body {ts = ts} p) = then' (newlines ts) (tail p)
tail (g.no_item h) = all _
tail (g.semicolon_item p) = later _ (tail p)
tail (g.newline_item p) = later _ (tail p)
tail (g.one_item h p q) = then' (tail p) (tail q)
tail (g.after_last h) = all _
tail (g.after_semicolon p) = later _ (tail p)
tail (g.after_newline p) = later _ (tail p)
tail (g.after_background p) = later _ (tail p)
tail g.no_branch = all _
tail (g.semicolon_branch p) = later _ (tail p)
tail (g.newline_branch p) = later _ (tail p)
tail (g.one_branch {ts = ts} h p k q r) = later _ (then' (caret ts) (then' (tail p) (then' (tail q) (tail r))))
