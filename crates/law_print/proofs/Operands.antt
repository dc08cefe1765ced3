-- Pipelines, operands and commands that are read again where they are printed.
use Rattle.std.proofs.Common.{◌≡◌, refl, sym, ap, ◌∙◌, ℕ, Bool, true, false, ◌&&◌, List, [], ◌∷◌, ◌++◌, append_assoc, append-nil, codes}
use Rattle.std.proofs.Common.{inl, inr}
use Rattle.rc_model.specs.Syntax.Tokens.{Lexeme, Word, Bar, LeftBrace, RightBrace}
use Rattle.rc_model.specs.Syntax.Tree.{Node, Many, none, more}
use Rattle.rc_model.specs.Syntax.Tree as t
use Rattle.rc_model.specs.Syntax.Grammar.{Phrase, past_newlines, past_caret, stages_of, last_of, pipeline, is_case}
use Rattle.rc_model.specs.Syntax.Grammar.{begins_redir}
use Rattle.rc_model.specs.Syntax.Grammar as g
use Rattle.rc_model.specs.Syntax.Printing.{stands_first}
use Rattle.law_print.specs.Lexemes.{cmd_lexemes, arg_lexemes, redir_lexemes, redirs_lexemes, stages_lexemes, listed, branch_lines}
use Rattle.law_print.proofs.Follows.{EndsOperand, EndsStage, EndsArg, quiet, at_bar, at_operand_end, Fits, fits_operand}
use Rattle.law_print.proofs.Follows.{operand_bar, Opens, by_word, by_brace, open_on, redir_open, redir_open_on, opened}
use Rattle.law_print.proofs.Follows.{arg_open_on, arg_open, brace_apart}
use Rattle.law_print.proofs.Arguments.{at, PrintsArg, PrintsRedirs, redirs_apart, redirs_print}
use Rattle.law_print.proofs.Commands.{PrintsBrace, PrintsBranches, Firm, PrintsStage, Prints, AsLeading, AsAssigned, AsPipe, AsOperand, redir_on}
use Rattle.law_print.proofs.Commands.{before_lexemes, stands_anywhere, stage_prints}

-- a keyword doesn't begin a case line
pub keyword_calm : (begins : Bool) (text : List ℕ) → is_case text ≡ false → (begins && is_case text) ≡ false
keyword_calm true text h = h
keyword_calm false text h = refl

-- braces and a switch take redirections after them
pub brace_firm : (c : Node t.cmd) → PrintsBrace c → Firm (t.Brace c)
unfolding cmd_lexemes
brace_firm c p = record {
  extends = λ rs r rest e.
      at (ap (λ z. LeftBrace ∷ z) (append_assoc (cmd_lexemes c false) (RightBrace ∷ []) (redirs_lexemes rs ++ rest)))
      (g.brace_stage (p (redirs_lexemes rs ++ rest)) (redirs_print rs r rest (quiet e).apart (quiet e).redir));
  calm = λ begins h. by_brace;
  redir = refl;
}

switch_lexemes : (a : Node t.arg) (bs : Many t.branch) (us : List Lexeme) → cmd_lexemes (t.Switch a bs) false ++ us
    ≡ Word (codes "switch") ∷ (arg_lexemes a ++ (LeftBrace ∷ (listed (branch_lines bs) ++ (RightBrace ∷ us))))
unfolding cmd_lexemes
switch_lexemes a bs us =
    ap (λ z. Word (codes "switch") ∷ z)
    (append_assoc (arg_lexemes a) (LeftBrace ∷ (listed (branch_lines bs) ++ RightBrace ∷ [])) us
    ∙ ap (λ z. arg_lexemes a ++ (LeftBrace ∷ z)) (append_assoc (listed (branch_lines bs)) (RightBrace ∷ []) us))

-- a caret that would be dropped isn't there
pub free_arg : (a : Node t.arg) → PrintsArg a → (us : List Lexeme) → past_caret (arg_lexemes a ++ us) ≡ arg_lexemes a ++ us
free_arg a p us = (opened (arg_open (arg_open_on us p.opens))).free

pub switch_firm : (a : Node t.arg) (bs : Many t.branch) → PrintsArg a → PrintsBranches bs → Firm (t.Switch a bs)
unfolding cmd_lexemes
switch_firm a bs p q = record {
  extends = λ rs r rest e.
      let us : List Lexeme = redirs_lexemes rs ++ rest in
      let inner : List Lexeme = listed (branch_lines bs) ++ (RightBrace ∷ us) in
      at (switch_lexemes a bs us)
      (g.switch_stage {ts = arg_lexemes a ++ (LeftBrace ∷ inner)} {mid = LeftBrace ∷ inner} {inner = inner} refl
      (at (free_arg a p (LeftBrace ∷ inner)) (p.phrase false (LeftBrace ∷ inner) brace_apart)) refl (q us)
      (redirs_print rs r rest (quiet e).apart (quiet e).redir));
  calm = λ begins h. by_word (keyword_calm begins (codes "switch") refl);
  redir = refl;
}

-- the bars of a pipeline and the stages after them
abbrev pub bars_lexemes : Many t.stage → List Lexeme
bars_lexemes none = []
bars_lexemes (more (t.Stage c slot) ss) = (Bar slot ∷ cmd_lexemes c false) ++ bars_lexemes ss

stages_row : (c : Node t.cmd) (s : Node t.stage) (ss : Many t.stage) (begins : Bool) →
    stages_lexemes (stages_of c (more s ss)) begins ++ cmd_lexemes (last_of c (more s ss)) false ≡ cmd_lexemes c begins ++ bars_lexemes (more s ss)
unfolding stages_lexemes
stages_row c (t.Stage d slot) none begins =
    append_assoc (cmd_lexemes c begins) (Bar slot ∷ []) (cmd_lexemes d false)
    ∙ ap (λ z. cmd_lexemes c begins ++ (Bar slot ∷ z)) (sym (append-nil (cmd_lexemes d false)))
stages_row c (t.Stage d slot) (more s ss) begins =
    append_assoc (cmd_lexemes c begins) (Bar slot ∷ stages_lexemes (stages_of d (more s ss)) false) (cmd_lexemes (last_of d (more s ss)) false)
    ∙ ap (λ z. cmd_lexemes c begins ++ (Bar slot ∷ z)) (stages_row d s ss false)

pipeline_lexemes : (c : Node t.cmd) (ss : Many t.stage) (begins : Bool) →
    cmd_lexemes (pipeline c ss) begins ≡ cmd_lexemes c begins ++ bars_lexemes ss
unfolding cmd_lexemes
pipeline_lexemes c none begins = sym (append-nil (cmd_lexemes c begins))
pipeline_lexemes c (more s ss) begins = stages_row c s ss begins

pub record PrintsBars (rest : List Lexeme) (ss : Many t.stage) : Type 0 where
  pub phrase : (us : List Lexeme) → Fits rest us → Phrase g.bars (bars_lexemes ss ++ us) ss us

bars_end : (ss : Many t.stage) (us : List Lexeme) → EndsOperand us → EndsStage (bars_lexemes ss ++ us)
bars_end none us e = at_operand_end e
bars_end (more (t.Stage c slot) ss) us e = at_bar

pub no_bars : (rest : List Lexeme) → PrintsBars rest none
no_bars rest = record { phrase = λ us f. g.no_bar (operand_bar (fits_operand f)) }

pub more_bars : (slot : ℕ) (c : Node t.cmd) (ss : Many t.stage) {ts rest : List Lexeme} → PrintsStage false ts c → PrintsBars rest ss →
    PrintsBars rest (more (t.Stage c slot) ss)
more_bars slot c ss p q = record {
  phrase = λ us f.
      let then' : List Lexeme = bars_lexemes ss ++ us in
      at (ap (λ z. Bar slot ∷ z) (append_assoc (cmd_lexemes c false) (bars_lexemes ss) us))
      (g.bar_stage {ts = cmd_lexemes c false ++ then'} (at (opened (open_on then' p.opens)).apart.newlines
      (p.phrase then' (bars_end ss us (fits_operand f)))) (q.phrase us f));
}

-- what stands alone after the last bar
alone : (slot : ℕ) (c : Node t.cmd) (us : List Lexeme) → bars_lexemes (more (t.Stage c slot) none) ++ us ≡ Bar slot ∷ (cmd_lexemes c false ++ us)
alone slot c us = ap (λ z. (Bar slot ∷ z) ++ us) (append-nil (cmd_lexemes c false))

pub leading_bar : (slot : ℕ) (c : Node t.cmd) {ts rest : List Lexeme} → Prints (AsLeading false) false ts rest c → PrintsBars rest (more (t.Stage c slot) none)
leading_bar slot c p = record {
  phrase = λ us f. at (alone slot c us) (go us (fits_operand f) (opened (open_on us p.opens)).apart.newlines (p.phrase us f));
}
  where
    go : (us : List Lexeme) → EndsOperand us → past_newlines (cmd_lexemes c false ++ us) ≡ cmd_lexemes c false ++ us →
        AsLeading false (cmd_lexemes c false ++ us) c us →
        Phrase g.bars (Bar slot ∷ (cmd_lexemes c false ++ us)) (more (t.Stage c slot) none) us
    go us e k (inl q) = g.bar_leading (at k q)
    go us e k (inr q) = g.bar_stage (at k q) (g.no_bar (operand_bar e))

pub assigned_bar : (slot : ℕ) (c : Node t.cmd) {ts rest : List Lexeme} → Prints AsAssigned false ts rest c → PrintsBars rest (more (t.Stage c slot) none)
assigned_bar slot c p = record {
  phrase = λ us f. at (alone slot c us) (g.bar_assigned (at (opened (open_on us p.opens)).apart.newlines (p.phrase us f)));
}

pipeline_firm : (c : Node t.cmd) (ss : Many t.stage) → (stands_first c false ≡ true → Firm c) → stands_first (pipeline c ss) false ≡ true → Firm (pipeline c ss)
pipeline_firm c none f h = f h
pipeline_firm c (more s ss) f h = absurd cc

pub pipe_prints : (begins : Bool) (c : Node t.cmd) (ss : Many t.stage) {ts rest : List Lexeme} → PrintsStage begins ts c → PrintsBars rest ss →
    Prints AsPipe begins ts rest (pipeline c ss)
pipe_prints begins c ss {ts} {rest} p q = record {
  phrase = λ us f. at (ap (λ z. z ++ us) (pipeline_lexemes c ss begins) ∙ append_assoc (cmd_lexemes c begins) (bars_lexemes ss) us)
      (g.piped (p.phrase (bars_lexemes ss ++ us) (bars_end ss us (fits_operand f))) (q.phrase us f));
  opens = rw (pipeline_lexemes c ss begins) (open_on (bars_lexemes ss) p.opens);
  redir = λ h. rw (pipeline_lexemes c ss begins) (redir_on p.opens (bars_lexemes ss) ∙ p.redir h);
  firm = pipeline_firm c ss p.firm;
}

-- operands
pub stage_pipe : {ts us : List Lexeme} {c : Node t.cmd} → EndsOperand us → Phrase g.stage ts c us → Phrase g.pipe ts c us
stage_pipe e p = g.piped p (g.no_bar (operand_bar e))

pub leading_prints : (after_if begins : Bool) {ts rest : List Lexeme} {c : Node t.cmd} → Prints (AsLeading after_if) begins ts rest c →
    Prints (AsOperand after_if) begins ts rest c
leading_prints after_if begins {c = c} p = record { phrase = λ us f. go (fits_operand f) (p.phrase us f); opens = p.opens; redir = p.redir; firm = p.firm }
  where
    go : {ts us : List Lexeme} → EndsOperand us → AsLeading after_if ts c us → Phrase (g.operand after_if) ts c us
    go e (inl q) = g.leading_operand q
    go e (inr q) = g.pipe_operand (stage_pipe e q)

pub assigned_prints : (after_if begins : Bool) {ts rest : List Lexeme} {c : Node t.cmd} → Prints AsAssigned begins ts rest c →
    Prints (AsOperand after_if) begins ts rest c
assigned_prints after_if begins p = record { phrase = λ us f. g.assigned_operand (p.phrase us f); opens = p.opens; redir = p.redir; firm = p.firm }

pub piped_prints : (after_if begins : Bool) {ts rest : List Lexeme} {c : Node t.cmd} → Prints AsPipe begins ts rest c →
    Prints (AsOperand after_if) begins ts rest c
piped_prints after_if begins p = record { phrase = λ us f. g.pipe_operand (p.phrase us f); opens = p.opens; redir = p.redir; firm = p.firm }

-- an operand that may be absent
pub record PrintsOptional (ts rest : List Lexeme) (c : Node t.cmd) : Type 0 where
  pub phrase : (us : List Lexeme) → Fits rest us → Phrase g.optional (cmd_lexemes c false ++ us) c us
  pub apart : (us : List Lexeme) → EndsOperand us → EndsArg (cmd_lexemes c false ++ us)
  pub redir : begins_redir ts ≡ false → (us : List Lexeme) → EndsOperand us → begins_redir (cmd_lexemes c false ++ us) ≡ false
  pub firm : stands_first c false ≡ true → Firm c

pub no_operand_prints : (ts rest : List Lexeme) → PrintsOptional ts rest t.Empty
unfolding cmd_lexemes
no_operand_prints ts rest = record {
  phrase = λ us f. g.no_operand (quiet (at_operand_end (fits_operand f))).command;
  apart = λ us e. (quiet (at_operand_end e)).apart;
  redir = λ h us e. (quiet (at_operand_end e)).redir;
  firm = λ h. absurd cc;
}

pub operand_prints : {ts rest : List Lexeme} {c : Node t.cmd} → Prints (AsOperand false) false ts rest c → PrintsOptional ts rest c
operand_prints p = record {
  phrase = λ us f. g.one_operand (p.phrase us f);
  apart = λ us e. (opened (open_on us p.opens)).apart;
  redir = λ h us e. redir_on p.opens us ∙ p.redir h;
  firm = p.firm;
}

-- redirections that were read before a command are printed before it, or after it
record Moved (after_if begins : Bool) (rest : List Lexeme) (c : Node t.cmd) : Type 0 where
  phrase : (us : List Lexeme) → Fits rest us → AsLeading after_if (cmd_lexemes c begins ++ us) c us
  opens : Opens begins (cmd_lexemes c begins)

redirs_before : (after_if begins : Bool) (r : Node t.redir) (rs : Many t.redir) (c : Node t.cmd) {next rest : List Lexeme} → begins_redir next ≡ false →
    PrintsRedirs (more r rs) → PrintsOptional next rest c → stands_first c begins ≡ false → Moved after_if begins rest (t.Redirect (more r rs) c)
unfolding redirs_lexemes
redirs_before after_if begins r rs c k p q s =
    let e = before_lexemes c begins (more r rs) s in
    record {
      phrase = λ us f.
          let body : List Lexeme = cmd_lexemes c false ++ us in
          let u = fits_operand f in
          inl (at (ap (λ z. z ++ us) e ∙ append_assoc (redirs_lexemes (more r rs)) (cmd_lexemes c false) us
          ∙ append_assoc (redir_lexemes r) (redirs_lexemes rs) body)
          (g.redir_leading (p.0.phrase (redirs_lexemes rs ++ body) (redirs_apart rs p.1 (q.apart us u)))
          (redirs_print rs p.1 body (q.apart us u) (q.redir k us u)) (q.phrase us f)));
      opens = rw e (open_on (cmd_lexemes c false) (redir_open begins (redir_open_on (redirs_lexemes rs) p.0.opens)));
    }

moved : (after_if begins : Bool) (r : Node t.redir) (rs : Many t.redir) (c : Node t.cmd) {next rest : List Lexeme} → begins_redir next ≡ false →
    PrintsRedirs (more r rs) → PrintsOptional next rest c → (b : Bool) → stands_first c begins ≡ b → Moved after_if begins rest (t.Redirect (more r rs) c)
moved after_if begins r rs c k p q false s = redirs_before after_if begins r rs c k p q s
moved after_if begins r rs c {next = next} k p q true s =
    let stage = stage_prints begins next c (more r rs) s (q.firm (stands_anywhere c begins s)) p in
    record { phrase = λ us f. inr (stage.phrase us (at_operand_end (fits_operand f))); opens = stage.opens }

pub redir_prints : (after_if begins : Bool) (r : Node t.redir) (rs : Many t.redir) (c : Node t.cmd) {ts next rest : List Lexeme} → begins_redir ts ≡ true →
    begins_redir next ≡ false → PrintsRedirs (more r rs) → PrintsOptional next rest c → Prints (AsLeading after_if) begins ts rest (t.Redirect (more r rs) c)
redir_prints after_if begins r rs c h k p q =
    let m = moved after_if begins r rs c k p q (stands_first c begins) refl in
    record { phrase = m.phrase; opens = m.opens; redir = λ j. absurd cc; firm = λ j. absurd cc }
