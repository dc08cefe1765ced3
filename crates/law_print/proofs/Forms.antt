-- Each form of a command is read again where it is printed.
use Rattle.std.proofs.Common.{◌≡◌, refl, sym, subst, ap, ◌∙◌, Bool, true, false, List, [], ◌∷◌, ◌++◌, append_assoc, append-nil, codes, inl, inr}
use Rattle.rc_model.specs.Syntax.Tokens.{Lexeme, Word, LeftParen, RightParen, LeftBrace, RightBrace, Equals, AndAnd, OrOr}
use Rattle.rc_model.specs.Syntax.Tree.{Node, Many, none, more}
use Rattle.rc_model.specs.declared.syntax.Logic.TheVariants.{And, Or}
use Rattle.rc_model.specs.Syntax.Tree as t
use Rattle.rc_model.specs.Syntax.Grammar.{Phrase, past_newlines, past_caret, and_or, begins_first, begins_command, begins_link}
use Rattle.rc_model.specs.Syntax.Grammar as g
use Rattle.law_print.specs.Lexemes.{cmd_lexemes, arg_lexemes, args_lexemes, pairs_lexemes, links_lexemes}
use Rattle.law_print.proofs.Follows.{at_paren, at_close, end_apart, brace_apart, word_apart, Ends, EndsOperand, EndsArg, quiet, at_operand_end, Fits, as_end, as_operand, fits_operand, fits_end}
use Rattle.law_print.proofs.Follows.{end_link, at_and, at_or, at_command_end, Opens, by_word, open_on, opened, arg_open_on, arg_open, arg_redir}
use Rattle.law_print.proofs.Arguments.{at, PrintsArg, PrintsArgs, args_apart, words_print, members_print}
use Rattle.law_print.proofs.Commands.{PrintsBrace, PrintsParen, PrintsStage, Prints, AsLeading, AsAssigned, AsPipe, AsOperand, redir_on}
use Rattle.law_print.proofs.Operands.{free_arg, keyword_calm, stage_pipe}

-- stages that take no redirections
pub match_prints : (begins : Bool) (ts : List Lexeme) (a : Node t.arg) (as' : Many t.arg) → PrintsArg a → PrintsArgs as' → PrintsStage begins ts (t.Match a as')
unfolding cmd_lexemes
match_prints begins ts a as' p q = record {
  phrase = λ rest e.
      let mid : List Lexeme = args_lexemes as' ++ rest in
      at (ap (λ z. Word (codes "~") ∷ z) (append_assoc (arg_lexemes a) (args_lexemes as') rest))
      (g.match_stage {ts = arg_lexemes a ++ mid} refl (at (free_arg a p mid) (p.phrase false mid (args_apart as' q (quiet e).apart)))
      (words_print as' q rest (quiet e).apart (quiet e).arg));
  opens = by_word (keyword_calm begins (codes "~") refl);
  redir = λ h. refl;
  firm = λ h. absurd cc;
}

pub define_prints : (begins : Bool) (ts : List Lexeme) (a : Node t.arg) (as' : Many t.arg) (c : Node t.cmd) → PrintsArg a → PrintsArgs as' → PrintsBrace c →
    PrintsStage begins ts (t.Define (more a as') c)
unfolding cmd_lexemes args_lexemes
define_prints begins ts a as' c p q b = record {
  phrase = λ rest e.
      let next : List Lexeme = LeftBrace ∷ (cmd_lexemes c false ++ (RightBrace ∷ rest)) in
      let mid : List Lexeme = args_lexemes as' ++ next in
      at (ap (λ z. Word (codes "fn") ∷ z)
      (append_assoc (args_lexemes (more a as')) (LeftBrace ∷ (cmd_lexemes c false ++ RightBrace ∷ [])) rest
      ∙ ap (λ z. args_lexemes (more a as') ++ (LeftBrace ∷ z)) (append_assoc (cmd_lexemes c false) (RightBrace ∷ []) rest)
      ∙ append_assoc (arg_lexemes a) (args_lexemes as') next))
      (g.define_stage {ts = arg_lexemes a ++ mid} refl (at (free_arg a p mid) (p.phrase false mid (args_apart as' q brace_apart)))
      (words_print as' q next brace_apart refl) (b rest));
  opens = by_word (keyword_calm begins (codes "fn") refl);
  redir = λ h. refl;
  firm = λ h. absurd cc;
}

pub undefine_prints : (begins : Bool) (ts : List Lexeme) (a : Node t.arg) (as' : Many t.arg) → PrintsArg a → PrintsArgs as' →
    PrintsStage begins ts (t.Undefine (more a as'))
unfolding cmd_lexemes args_lexemes
undefine_prints begins ts a as' p q = record {
  phrase = λ rest e.
      let mid : List Lexeme = args_lexemes as' ++ rest in
      at (ap (λ z. Word (codes "fn") ∷ z) (append_assoc (arg_lexemes a) (args_lexemes as') rest))
      (g.undefine_stage {ts = arg_lexemes a ++ mid} refl (at (free_arg a p mid) (p.phrase false mid (args_apart as' q (quiet e).apart)))
      (words_print as' q rest (quiet e).apart (quiet e).arg) (quiet e).brace);
  opens = by_word (keyword_calm begins (codes "fn") refl);
  redir = λ h. refl;
  firm = λ h. absurd cc;
}

-- the body of a control form
pub record PrintsBody (d : Node t.cmd) : Type 0 where
  pub phrase : (us : List Lexeme) → Ends us → Phrase g.body (cmd_lexemes d false ++ us) d us
  pub free : (us : List Lexeme) → Ends us → past_caret (cmd_lexemes d false ++ us) ≡ cmd_lexemes d false ++ us

pub record PrintsCommand (after_if begins : Bool) (c : Node t.cmd) : Type 0 where
  pub phrase : (us : List Lexeme) → Ends us → Phrase (g.command after_if) (cmd_lexemes c begins ++ us) c us
  pub opens : Opens begins (cmd_lexemes c begins)

pub no_body_prints : PrintsBody t.Empty
unfolding cmd_lexemes
no_body_prints = record { phrase = empty; free = λ us e. (quiet (at_operand_end (at_command_end e))).free }
  where
    empty : (us : List Lexeme) → Ends us → Phrase g.body us t.Empty us
    empty us e =
        let q = quiet (at_operand_end (at_command_end e)) in
        let same = q.apart.newlines in
        subst (λ z. Phrase g.body us t.Empty z) same
        (g.no_body (subst (λ z. begins_command z ≡ false) (sym same) q.command) (subst (λ z. begins_link z ≡ false) (sym same) (end_link e)))

pub one_body_prints : {c : Node t.cmd} → PrintsCommand false false c → PrintsBody c
one_body_prints p = record {
  phrase = λ us e. g.one_body (at (opened (open_on us p.opens)).apart.newlines (p.phrase us e));
  free = λ us e. (opened (open_on us p.opens)).free;
}

-- `!` and `@`
pub not_prints : (after_if begins : Bool) (ts : List Lexeme) {us rest : List Lexeme} {c : Node t.cmd} → Prints (AsOperand false) false us rest c →
    Prints (AsLeading after_if) begins ts rest (t.Not c)
unfolding cmd_lexemes
not_prints after_if begins ts p = record {
  phrase = λ us f. inl (g.not_leading refl (at (opened (open_on us p.opens)).free (p.phrase us f)));
  opens = by_word (keyword_calm begins (codes "!") refl);
  redir = λ h. refl;
  firm = λ h. absurd cc;
}

pub subshell_prints : (after_if begins : Bool) (ts : List Lexeme) {us rest : List Lexeme} {c : Node t.cmd} → Prints (AsOperand false) false us rest c →
    Prints (AsLeading after_if) begins ts rest (t.Subshell c)
unfolding cmd_lexemes
subshell_prints after_if begins ts p = record {
  phrase = λ us f. inl (g.subshell_leading refl (at (opened (open_on us p.opens)).free (p.phrase us f)));
  opens = by_word (keyword_calm begins (codes "@") refl);
  redir = λ h. refl;
  firm = λ h. absurd cc;
}

-- control forms
condition_row : (c d : Node t.cmd) (us : List Lexeme) →
    (cmd_lexemes c false ++ (RightParen ∷ cmd_lexemes d false)) ++ us ≡ cmd_lexemes c false ++ (RightParen ∷ (cmd_lexemes d false ++ us))
condition_row c d us = append_assoc (cmd_lexemes c false) (RightParen ∷ cmd_lexemes d false) us

pub if_prints : (after_if begins : Bool) (ts : List Lexeme) {rest : List Lexeme} (c d : Node t.cmd) → begins_link rest ≡ false → PrintsParen c → PrintsBody d →
    Prints (AsLeading after_if) begins ts rest (t.If c d)
unfolding cmd_lexemes
if_prints after_if begins ts c d h p q = record {
  phrase = λ us f. inl (at (ap (λ z. Word (codes "if") ∷ LeftParen ∷ z) (condition_row c d us))
      (g.if_leading {ts = LeftParen ∷ (cmd_lexemes c false ++ (RightParen ∷ (cmd_lexemes d false ++ us)))} refl
      (p (cmd_lexemes d false ++ us)) (q.phrase us (fits_end h f))));
  opens = by_word (keyword_calm begins (codes "if") refl);
  redir = λ k. refl;
  firm = λ k. absurd cc;
}

pub while_prints : (after_if begins : Bool) (ts : List Lexeme) {rest : List Lexeme} (c d : Node t.cmd) → begins_link rest ≡ false → PrintsParen c → PrintsBody d →
    Prints (AsLeading after_if) begins ts rest (t.While c d)
unfolding cmd_lexemes
while_prints after_if begins ts c d h p q = record {
  phrase = λ us f. inl (at (ap (λ z. Word (codes "while") ∷ LeftParen ∷ z) (condition_row c d us))
      (g.while_leading {ts = LeftParen ∷ (cmd_lexemes c false ++ (RightParen ∷ (cmd_lexemes d false ++ us)))} refl
      (p (cmd_lexemes d false ++ us)) (q.phrase us (fits_end h f))));
  opens = by_word (keyword_calm begins (codes "while") refl);
  redir = λ k. refl;
  firm = λ k. absurd cc;
}

pub if_not_prints : (begins : Bool) (ts : List Lexeme) {rest : List Lexeme} (d : Node t.cmd) → begins_link rest ≡ false → PrintsBody d →
    Prints (AsLeading true) begins ts rest (t.IfNot d)
unfolding cmd_lexemes
if_not_prints begins ts d h q = record {
  phrase = λ us f. inl (g.if_not_leading {ts = Word (codes "not") ∷ (cmd_lexemes d false ++ us)} {next = cmd_lexemes d false ++ us} refl refl refl
      (at (q.free us (fits_end h f)) (q.phrase us (fits_end h f))));
  opens = by_word (keyword_calm begins (codes "if") refl);
  redir = λ k. refl;
  firm = λ k. absurd cc;
}

for_row : (a : Node t.arg) (d : Node t.cmd) (us : List Lexeme) →
    (arg_lexemes a ++ (RightParen ∷ cmd_lexemes d false)) ++ us ≡ arg_lexemes a ++ (RightParen ∷ (cmd_lexemes d false ++ us))
for_row a d us = append_assoc (arg_lexemes a) (RightParen ∷ cmd_lexemes d false) us

no_blank : (a : Node t.arg) → PrintsArg a → (us : List Lexeme) → past_newlines (arg_lexemes a ++ us) ≡ arg_lexemes a ++ us
no_blank a p us = (opened (arg_open (arg_open_on us p.opens))).apart.newlines

pub for_all_prints : (after_if begins : Bool) (ts : List Lexeme) {rest : List Lexeme} (a : Node t.arg) (d : Node t.cmd) → begins_link rest ≡ false → PrintsArg a →
    PrintsBody d → Prints (AsLeading after_if) begins ts rest (t.ForAll a d)
unfolding cmd_lexemes
for_all_prints after_if begins ts a d h p q = record {
  phrase = λ us f.
      let next : List Lexeme = cmd_lexemes d false ++ us in
      inl (at (ap (λ z. Word (codes "for") ∷ LeftParen ∷ z) (for_row a d us))
      (g.for_all_leading {ts = LeftParen ∷ (arg_lexemes a ++ (RightParen ∷ next))} {head = arg_lexemes a ++ (RightParen ∷ next)} {mid = RightParen ∷ next}
      refl refl (at (no_blank a p (RightParen ∷ next)) (p.phrase true (RightParen ∷ next) (end_apart (at_close at_paren)))) refl (q.phrase us (fits_end h f))));
  opens = by_word (keyword_calm begins (codes "for") refl);
  redir = λ k. refl;
  firm = λ k. absurd cc;
}

pub free_args : (as' : Many t.arg) → PrintsArgs as' → (us : List Lexeme) → past_caret us ≡ us → past_caret (args_lexemes as' ++ us) ≡ args_lexemes as' ++ us
unfolding args_lexemes
free_args none p us h = h
free_args (more a as') p us h = rw append_assoc (free_arg a p.0 (args_lexemes as' ++ us))

pub for_prints : (after_if begins : Bool) (ts : List Lexeme) {rest : List Lexeme} (a : Node t.arg) (as' : Many t.arg) (d : Node t.cmd) → begins_link rest ≡ false →
    PrintsArg a → PrintsArgs as' → PrintsBody d → Prints (AsLeading after_if) begins ts rest (t.For a as' d)
unfolding cmd_lexemes
for_prints after_if begins ts a as' d h p w q = record {
  phrase = λ us f.
      let next : List Lexeme = cmd_lexemes d false ++ us in
      let list : List Lexeme = args_lexemes as' ++ (RightParen ∷ next) in
      let mid : List Lexeme = Word (codes "in") ∷ list in
      inl (at (ap (λ z. Word (codes "for") ∷ LeftParen ∷ z)
      (append_assoc (arg_lexemes a) (Word (codes "in") ∷ (args_lexemes as' ++ (RightParen ∷ cmd_lexemes d false))) us
      ∙ ap (λ z. arg_lexemes a ++ (Word (codes "in") ∷ z)) (append_assoc (args_lexemes as') (RightParen ∷ cmd_lexemes d false) us)))
      (g.for_leading {ts = LeftParen ∷ (arg_lexemes a ++ mid)} {head = arg_lexemes a ++ mid} {mid = mid} {list = list} {next = next}
      refl refl (at (no_blank a p mid) (p.phrase true mid word_apart)) refl refl (at (free_args as' w (RightParen ∷ next) refl) (members_print as' w next))
      (q.phrase us (fits_end h f))));
  opens = by_word (keyword_calm begins (codes "for") refl);
  redir = λ k. refl;
  firm = λ k. absurd cc;
}

-- assignments
pub record PrintsValues (rest : List Lexeme) (x : Many t.pair × Node t.cmd) : Type 0 where
  pub phrase : (us : List Lexeme) → Fits rest us → Phrase g.values (pairs_lexemes x.0 ++ (cmd_lexemes x.1 false ++ us)) x us
  pub apart : (us : List Lexeme) → EndsOperand us → EndsArg (pairs_lexemes x.0 ++ (cmd_lexemes x.1 false ++ us))

pub no_values : (rest : List Lexeme) → PrintsValues rest (none, t.Empty)
unfolding cmd_lexemes pairs_lexemes
no_values rest = record {
  phrase = λ us f. g.values_alone (quiet (at_operand_end (fits_operand f))).command;
  apart = λ us e. (quiet (at_operand_end e)).apart;
}

pub leading_values : {ts rest : List Lexeme} (c : Node t.cmd) → Prints (AsLeading false) false ts rest c → PrintsValues rest (none, c)
unfolding pairs_lexemes
leading_values c p = record { phrase = λ us f. go (fits_operand f) (p.phrase us f); apart = λ us e. (opened (open_on us p.opens)).apart }
  where
    go : {ts us : List Lexeme} → EndsOperand us → AsLeading false ts c us → Phrase g.values ts (none, c) us
    go e (inl q) = g.values_leading q
    go e (inr q) = g.values_pipe (stage_pipe e q)

pub pipe_values : {ts rest : List Lexeme} (c : Node t.cmd) → Prints AsPipe false ts rest c → PrintsValues rest (none, c)
unfolding pairs_lexemes
pipe_values c p = record { phrase = λ us f. g.values_pipe (p.phrase us f); apart = λ us e. (opened (open_on us p.opens)).apart }

equals_apart : {us : List Lexeme} → EndsArg (Equals ∷ us)
equals_apart = record { newlines = refl; caret = refl; subscript = refl }

pair_row : (a v ps us : List Lexeme) → ((a ++ (Equals ∷ v)) ++ ps) ++ us ≡ a ++ (Equals ∷ (v ++ (ps ++ us)))
pair_row a v ps us = append_assoc (a ++ (Equals ∷ v)) ps us ∙ append_assoc a (Equals ∷ v) (ps ++ us)

pub more_values : {rest : List Lexeme} (a v : Node t.arg) (x : Many t.pair × Node t.cmd) → ((us : List Lexeme) → begins_first (arg_lexemes a ++ us) ≡ true) →
    PrintsArg a → PrintsArg v → PrintsValues rest x → PrintsValues rest (more (t.Pair a v) x.0, x.1)
unfolding pairs_lexemes
more_values a v x first p w q = record {
  phrase = λ us f.
      let follow : List Lexeme = cmd_lexemes x.1 false ++ us in
      let mid : List Lexeme = pairs_lexemes x.0 ++ follow in
      let next : List Lexeme = arg_lexemes v ++ mid in
      at (pair_row (arg_lexemes a) (arg_lexemes v) (pairs_lexemes x.0) follow)
      (g.another_value (first (Equals ∷ next)) (p.phrase false (Equals ∷ next) equals_apart) (w.phrase false mid (q.apart us (fits_operand f))) (q.phrase us f));
  apart = λ us e.
      let follow : List Lexeme = cmd_lexemes x.1 false ++ us in
      subst EndsArg (sym (pair_row (arg_lexemes a) (arg_lexemes v) (pairs_lexemes x.0) follow))
      (opened (arg_open (arg_open_on (Equals ∷ (arg_lexemes v ++ (pairs_lexemes x.0 ++ follow))) p.opens))).apart;
}

assign_lexemes : (ps : Many t.pair) (c : Node t.cmd) (begins : Bool) → cmd_lexemes (t.Assign ps c) begins ≡ pairs_lexemes ps ++ cmd_lexemes c false
unfolding cmd_lexemes
assign_lexemes ps t.Empty begins = sym (append-nil (pairs_lexemes ps))
assign_lexemes ps _ begins = refl

pub assign_prints : (begins : Bool) (ts : List Lexeme) {rest : List Lexeme} (a v : Node t.arg) (x : Many t.pair × Node t.cmd) →
    ((us : List Lexeme) → begins_first (arg_lexemes a ++ us) ≡ true) → Opens begins (arg_lexemes a) → PrintsArg a → PrintsArg v → PrintsValues rest x →
    Prints AsAssigned begins ts rest (t.Assign (more (t.Pair a v) x.0) x.1)
unfolding pairs_lexemes
assign_prints begins ts a v x first o p w q =
    let value : List Lexeme = Equals ∷ arg_lexemes v in
    let o1 = open_on value o in
    let o2 = open_on (pairs_lexemes x.0) o1 in
    let e = assign_lexemes (more (t.Pair a v) x.0) x.1 begins in
    record {
      phrase = λ us f.
          let follow : List Lexeme = cmd_lexemes x.1 false ++ us in
          let mid : List Lexeme = pairs_lexemes x.0 ++ follow in
          let next : List Lexeme = arg_lexemes v ++ mid in
          at (ap (λ z. z ++ us) e ∙ append_assoc (pairs_lexemes (more (t.Pair a v) x.0)) (cmd_lexemes x.1 false) us
          ∙ pair_row (arg_lexemes a) (arg_lexemes v) (pairs_lexemes x.0) follow)
          (g.assignment (first (Equals ∷ next)) (p.phrase false (Equals ∷ next) equals_apart) (w.phrase false mid (q.apart us (fits_operand f))) (q.phrase us f));
      opens = rw e (open_on (cmd_lexemes x.1 false) o2);
      redir = λ h. rw e (redir_on o2 (cmd_lexemes x.1 false) ∙ redir_on o1 (pairs_lexemes x.0) ∙ redir_on o value ∙ arg_redir p.opens);
      firm = λ h. absurd cc;
    }

-- links and commands
pub record PrintsLinks (ts : List Lexeme) (ls : Many t.link) : Type 0 where
  pub phrase : (us : List Lexeme) → Ends us → Phrase g.links (links_lexemes ls ++ us) ls us
  pub fits : (us : List Lexeme) → Ends us → Fits ts (links_lexemes ls ++ us)

pub no_links : (ts : List Lexeme) → PrintsLinks ts none
unfolding links_lexemes
no_links ts = record { phrase = λ us e. g.no_link (end_link e); fits = λ us e. as_end e }

pub and_links : (ts us : List Lexeme) {mid : List Lexeme} (c : Node t.cmd) (ls : Many t.link) → Prints (AsOperand false) false us mid c → PrintsLinks mid ls →
    PrintsLinks (AndAnd ∷ ts) (more (t.Link And c) ls)
unfolding links_lexemes
and_links ts us c ls p q = record {
  phrase = λ us e.
      let follow : List Lexeme = links_lexemes ls ++ us in
      at (ap (λ z. AndAnd ∷ z) (append_assoc (cmd_lexemes c false) (links_lexemes ls) us))
      (g.and_link {ts = cmd_lexemes c false ++ follow} (at (opened (open_on follow p.opens)).apart.newlines (p.phrase follow (q.fits us e))) (q.phrase us e));
  fits = λ us e. as_operand refl at_and;
}

pub or_links : (ts us : List Lexeme) {mid : List Lexeme} (c : Node t.cmd) (ls : Many t.link) → Prints (AsOperand false) false us mid c → PrintsLinks mid ls →
    PrintsLinks (OrOr ∷ ts) (more (t.Link Or c) ls)
unfolding links_lexemes
or_links ts us c ls p q = record {
  phrase = λ us e.
      let follow : List Lexeme = links_lexemes ls ++ us in
      at (ap (λ z. OrOr ∷ z) (append_assoc (cmd_lexemes c false) (links_lexemes ls) us))
      (g.or_link {ts = cmd_lexemes c false ++ follow} (at (opened (open_on follow p.opens)).apart.newlines (p.phrase follow (q.fits us e))) (q.phrase us e));
  fits = λ us e. as_operand refl at_or;
}

and_or_lexemes : (c : Node t.cmd) (ls : Many t.link) (begins : Bool) → cmd_lexemes (and_or c ls) begins ≡ cmd_lexemes c begins ++ links_lexemes ls
unfolding cmd_lexemes
and_or_lexemes c none begins = sym (append-nil (cmd_lexemes c begins))
and_or_lexemes c (more l ls) begins = refl

pub command_prints : (after_if begins : Bool) {ts mid : List Lexeme} (c : Node t.cmd) (ls : Many t.link) → Prints (AsOperand after_if) begins ts mid c →
    PrintsLinks mid ls → PrintsCommand after_if begins (and_or c ls)
command_prints after_if begins c ls p q =
    let same = and_or_lexemes c ls begins in
    record {
      phrase = λ us e. at (ap (λ z. z ++ us) same ∙ append_assoc (cmd_lexemes c begins) (links_lexemes ls) us)
          (g.linked (p.phrase (links_lexemes ls ++ us) (q.fits us e)) (q.phrase us e));
      opens = rw same (open_on (links_lexemes ls) p.opens);
    }
