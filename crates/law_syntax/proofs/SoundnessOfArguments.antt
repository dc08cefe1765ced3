-- What the descent reads is a phrase, for names, arguments, redirections, the words of a simple command and lists in brackets.
use Rattle.std.proofs.Common.{◌≡◌, ℕ, zero, suc, ◌≤◌, Bool, true, false, List, [], ◌∷◌, length, Option, Some, None, Ok, Err, ◌⊎◌, inl, inr, refl, sym, ap, subst, ◌∙◌, arith}
use Rattle.rc_model.specs.Syntax.Tokens.{Lexeme, Word, Quoted, Newline, LeftParen, RightParen, LeftBrace, RightBrace, Backquote, Redirection, CopyTo}
use Rattle.rc_model.specs.Syntax.Tokens.{HereDoc, Dollar, DollarCount, DollarFlat, Name, Subscript}
use Rattle.rc_model.specs.Syntax.Tree.{Node, Many, none, more, snoc}
use Rattle.rc_model.specs.Syntax.Tree as t
use Rattle.rc_model.specs.Syntax.Grammar.{Phrase, Level, Out, past_blanks, after_caret, concat_of, begins_arg, begins_redir}
use Rattle.rc_model.specs.Syntax.Grammar as g
use Rattle.rc_model.specs.Mirrors.Descent as d
use Rattle.rc_model.specs.Mirrors.Descent.{Read, Reader, Readers}
use Rattle.law_syntax.proofs.Shorter.{Phrase-shorter, past_blanks-shorter, after_caret-shorter}
use Rattle.law_syntax.proofs.Lists.{append, append_snoc, append_none, done, ok_same, bind_ok, if_ok, Adds, adds_none, adds_more, adds_same, all_added}

-- what follows a bar
abbrev pub IsPiped : List Lexeme → Node t.cmd → Bool → List Lexeme → Type 0
IsPiped ts c true rest = Phrase g.stage ts c rest
IsPiped ts c false rest = Phrase (g.leading false) ts c rest ⊎ Phrase g.assigned ts c rest

-- what is read one level deeper is a phrase
pub record Sound (r : Readers) : Type 0 where
  pub name : (ts : List Lexeme) (x : Node t.arg × List Lexeme) → r d.a_name ts ≡ Ok x → Phrase g.name ts x.0 x.1
  pub part : (inside : Bool) (ts : List Lexeme) (x : Node t.arg × List Lexeme) → r (d.a_part inside) ts ≡ Ok x → Phrase (g.part inside) ts x.0 x.1
  pub operand : (ts : List Lexeme) (x : Node t.cmd × List Lexeme) → r d.an_operand ts ≡ Ok x → Phrase (g.operand false) ts x.0 x.1
  pub piped : (ts : List Lexeme) (x : (Node t.cmd × Bool) × List Lexeme) → r d.a_piped ts ≡ Ok x → IsPiped ts x.0.0 x.0.1 x.1
  pub command : (f : Bool) (ts : List Lexeme) (x : Node t.cmd × List Lexeme) → r (d.a_command f) ts ≡ Ok x → Phrase (g.command f) ts x.0 x.1
  pub list : (s : Bool) (ts : List Lexeme) (x : Many t.item × List Lexeme) → r (d.a_list s) ts ≡ Ok x → Phrase (g.items s false) ts x.0 x.1

abbrev SoundPart : (inside : Bool) → Reader (Node t.arg) → Type 0
SoundPart inside p = (ts : List Lexeme) (x : Node t.arg × List Lexeme) → p ts ≡ Ok x → Phrase (g.part inside) ts x.0 x.1

-- the phrase of what was read at last
pub found : (l : Level) (ts : List Lexeme) (y x : Out l × List Lexeme) → Phrase l ts y.0 y.1 → done y ≡ Ok x → Phrase l ts x.0 x.1
found l ts y x p h = subst (λ z. Phrase l ts z.0 z.1) (ok_same y x h) p

pub name_sound : (r : Readers) → Sound r → (ts : List Lexeme) (x : Node t.arg × List Lexeme) → d.name_by r ts ≡ Ok x → Phrase g.name ts x.0 x.1
unfolding d.name_by
name_sound r s (Name text ∷ ts) x h = found g.name (Name text ∷ ts) (t.Lit text false, ts) x g.bare_name h
name_sound r s (Quoted text ∷ ts) x h = found g.name (Quoted text ∷ ts) (t.Lit text true, ts) x g.quoted_name h
name_sound r s (Dollar ∷ ts) x h =
    let w = bind_ok (r d.a_name ts) _ x h in
    found g.name (Dollar ∷ ts) (t.Var w.0.0, w.0.1) x (g.named_name (s.name ts w.0 w.1)) w.2
name_sound r s ts x h = absurd cc

-- lists that are read in turns
abbrev AddsParts : (inside : Bool) → List Lexeme → Many t.arg → (Many t.arg × List Lexeme) → Type 0
AddsParts inside ts front x = Adds (λ as' rest. Phrase (g.parts inside) ts as' rest) front x

no_more : (inside : Bool) → after_caret (past_blanks inside []) ≡ None
no_more true = refl
no_more false = refl

parts_turn_sound : (p : Reader (Node t.arg)) (inside : Bool) → SoundPart inside p → (k : ℕ) (go_on : Many t.arg → Reader (Many t.arg))
    (goes : (front : Many t.arg) (ts : List Lexeme) (x : Many t.arg × List Lexeme) → length ts ≤ k → go_on front ts ≡ Ok x → AddsParts inside ts front x)
    (front : Many t.arg) (ts : List Lexeme) (o : Option (List Lexeme)) (x : Many t.arg × List Lexeme) → length ts ≤ suc k → after_caret (past_blanks inside ts) ≡ o →
    d.parts_turn p inside go_on front ts o ≡ Ok x → AddsParts inside ts front x
parts_turn_sound p inside s k go_on goes front ts None x le e h = adds_none _ front ts x (g.no_caret e) h
parts_turn_sound p inside s k go_on goes front ts (Some next) x le e h =
    let w = bind_ok (p (past_blanks inside next)) _ x h in
    let a = s (past_blanks inside next) w.0 w.1 in
    let shorter = Phrase-shorter a in
    let after = after_caret-shorter (past_blanks inside ts) next e in
    let b = past_blanks-shorter inside ts in
    let c = past_blanks-shorter inside next in
    adds_more (λ as' rest. Phrase (g.parts inside) ts as' rest) (λ as' rest. Phrase (g.parts inside) w.0.1 as' rest) front w.0.0 x (λ as' q. g.caret e a q)
    (goes (snoc front w.0.0) w.0.1 x (omega arith) w.2)

parts_sound : (p : Reader (Node t.arg)) (inside : Bool) → SoundPart inside p → (k : ℕ) (front : Many t.arg) (ts : List Lexeme) (x : Many t.arg × List Lexeme) → length ts ≤ k →
    d.parts_from p inside k front ts ≡ Ok x → AddsParts inside ts front x
unfolding d.parts_from
parts_sound p inside s zero front [] x le h = adds_none _ front [] x (g.no_caret (no_more inside)) h
parts_sound p inside s zero front (l ∷ ts) x le h = absurd (omega arith)
parts_sound p inside s (suc k) front ts x le h =
    parts_turn_sound p inside s k (λ as' u. d.parts_from p inside k as' u) (parts_sound p inside s k) front ts (after_caret (past_blanks inside ts)) x le refl h

pub arg_sound : (p : Reader (Node t.arg)) (inside : Bool) → SoundPart inside p → (ts : List Lexeme) (x : Node t.arg × List Lexeme) → d.arg_by p inside ts ≡ Ok x → Phrase (g.arg inside) ts x.0 x.1
unfolding d.arg_by d.parts_by
arg_sound p inside s ts x h =
    let w = bind_ok (p ts) _ x h in
    let v = bind_ok (d.parts_by p inside w.0.1) _ x w.2 in
    let q = all_added (λ as' rest. Phrase (g.parts inside) w.0.1 as' rest) v.0 (parts_sound p inside s (length w.0.1) none w.0.1 v.0 (omega arith) v.1) in
    found (g.arg inside) ts (concat_of w.0.0 v.0.0, v.0.1) x (g.joined (s ts w.0 w.1) q) v.2

members_from_sound : (p : Reader (Node t.arg)) → SoundPart true p → (k : ℕ) (front : Many t.arg) (ts : List Lexeme) (x : Many t.arg × List Lexeme) → d.members_from p k front ts ≡ Ok x →
    Adds (λ as' rest. Phrase g.members ts as' rest) front x
unfolding d.members_from
members_from_sound p s zero front ts x h = absurd cc
members_from_sound p s (suc k) front (RightParen ∷ ts) x h = adds_none _ front ts x g.no_member h
members_from_sound p s (suc k) front (Newline ∷ ts) x h = adds_same _ _ front x (λ as' q. g.blank_member q) (members_from_sound p s k front ts x h)
members_from_sound p s (suc k) front ts x h =
    let w = bind_ok (d.arg_by p true ts) _ x h in
    adds_more _ _ front w.0.0 x (λ as' q. g.member (arg_sound p true s ts w.0 w.1) q) (members_from_sound p s k (snoc front w.0.0) w.0.1 x w.2)

pub members_sound : (p : Reader (Node t.arg)) → SoundPart true p → (ts : List Lexeme) (x : Many t.arg × List Lexeme) → d.members_by p ts ≡ Ok x → Phrase g.members ts x.0 x.1
unfolding d.members_by
members_sound p s ts x h = all_added (λ as' rest. Phrase g.members ts as' rest) x (members_from_sound p s (length ts) none ts x h)

words_from_sound : (p : Reader (Node t.arg)) → SoundPart false p → (k : ℕ) (front : Many t.arg) (ts : List Lexeme) (x : Many t.arg × List Lexeme) → length ts ≤ k →
    d.words_from p k front ts ≡ Ok x → Adds (λ as' rest. Phrase g.words ts as' rest) front x
unfolding d.words_from
words_from_sound p s zero front [] x le h = adds_none _ front [] x (g.no_word refl) h
words_from_sound p s zero front (l ∷ ts) x le h = absurd (omega arith)
words_from_sound p s (suc k) front ts x le h = elim (if_ok (begins_arg ts) _ _ x h) [
  | inl b ↦ (let w = bind_ok (d.arg_by p false ts) _ x b.1 in
      let a = arg_sound p false s ts w.0 w.1 in
      let shorter = Phrase-shorter a in
      adds_more _ _ front w.0.0 x (λ as' q. g.word a q) (words_from_sound p s k (snoc front w.0.0) w.0.1 x (omega arith) w.2))
  | inr b ↦ adds_none _ front ts x (g.no_word b.0) b.1
]

pub words_sound : (p : Reader (Node t.arg)) → SoundPart false p → (ts : List Lexeme) (x : Many t.arg × List Lexeme) → d.words_by p ts ≡ Ok x → Phrase g.words ts x.0 x.1
unfolding d.words_by
words_sound p s ts x h = all_added (λ as' rest. Phrase g.words ts as' rest) x (words_from_sound p s (length ts) none ts x (omega arith) h)

pub redir_sound : (p : Reader (Node t.arg)) → SoundPart false p → (ts : List Lexeme) (x : Node t.redir × List Lexeme) → d.redir_by p ts ≡ Ok x → Phrase g.redir ts x.0 x.1
unfolding d.redir_by
redir_sound p s (Redirection mode slot ∷ ts) x h =
    let w = bind_ok (d.arg_by p false ts) _ x h in
    found g.redir (Redirection mode slot ∷ ts) (t.Open mode slot w.0.0, w.0.1) x (g.open_redir (arg_sound p false s ts w.0 w.1)) w.2
redir_sound p s (CopyTo to from ∷ ts) x h = found g.redir (CopyTo to from ∷ ts) (t.Copy to from, ts) x g.copy_redir h
redir_sound p s (HereDoc quoted text ∷ ts) x h = found g.redir (HereDoc quoted text ∷ ts) _ x g.here_redir h
redir_sound p s ts x h = absurd cc

redirs_from_sound : (p : Reader (Node t.arg)) → SoundPart false p → (k : ℕ) (front : Many t.redir) (ts : List Lexeme) (x : Many t.redir × List Lexeme) → length ts ≤ k →
    d.redirs_from p k front ts ≡ Ok x → Adds (λ rs rest. Phrase g.redirs ts rs rest) front x
unfolding d.redirs_from
redirs_from_sound p s zero front [] x le h = adds_none _ front [] x (g.no_redir refl) h
redirs_from_sound p s zero front (l ∷ ts) x le h = absurd (omega arith)
redirs_from_sound p s (suc k) front ts x le h = elim (if_ok (begins_redir ts) _ _ x h) [
  | inl b ↦ (let w = bind_ok (d.redir_by p ts) _ x b.1 in
      let a = redir_sound p s ts w.0 w.1 in
      let shorter = Phrase-shorter a in
      adds_more _ _ front w.0.0 x (λ rs q. g.redir_more a q) (redirs_from_sound p s k (snoc front w.0.0) w.0.1 x (omega arith) w.2))
  | inr b ↦ adds_none _ front ts x (g.no_redir b.0) b.1
]

pub redirs_sound : (p : Reader (Node t.arg)) → SoundPart false p → (ts : List Lexeme) (x : Many t.redir × List Lexeme) → d.redirs_by p ts ≡ Ok x → Phrase g.redirs ts x.0 x.1
unfolding d.redirs_by
redirs_sound p s ts x h = all_added (λ rs rest. Phrase g.redirs ts rs rest) x (redirs_from_sound p s (length ts) none ts x (omega arith) h)

-- words and redirections are in front, and then those of a phrase
record AddsSimple (ts : List Lexeme) (as' : Many t.arg) (rs : Many t.redir) (x : (Many t.arg × Many t.redir) × List Lexeme) : Type 0 where
  added : Many t.arg × Many t.redir
  words : x.0.0 ≡ append as' added.0
  redirs : x.0.1 ≡ append rs added.1
  phrase : Phrase g.simple ts added x.1

simple_none : (ts : List Lexeme) (as' : Many t.arg) (rs : Many t.redir) (x : (Many t.arg × Many t.redir) × List Lexeme) → begins_arg ts ≡ false → begins_redir ts ≡ false →
    done ((as', rs), ts) ≡ Ok x → AddsSimple ts as' rs x
simple_none ts as' rs x a b h =
    let e = ok_same ((as', rs), ts) x h in
    record {
      added = (none, none);
      words = sym (ap (λ z. z.0.0) e) ∙ sym (append_none as');
      redirs = sym (ap (λ z. z.0.1) e) ∙ sym (append_none rs);
      phrase = subst (λ z. Phrase g.simple ts (none, none) z.1) e (g.simple_end a b);
    }

simple_from_sound : (p : Reader (Node t.arg)) → SoundPart false p → (k : ℕ) (as' : Many t.arg) (rs : Many t.redir) (ts : List Lexeme) (x : (Many t.arg × Many t.redir) × List Lexeme) →
    length ts ≤ k → d.simple_from p k as' rs ts ≡ Ok x → AddsSimple ts as' rs x
unfolding d.simple_from
simple_from_sound p s zero as' rs [] x le h = simple_none [] as' rs x refl refl h
simple_from_sound p s zero as' rs (l ∷ ts) x le h = absurd (omega arith)
simple_from_sound p s (suc k) as' rs ts x le h = elim (if_ok (begins_arg ts) _ _ x h) [
  | inl b ↦ (let w = bind_ok (d.arg_by p false ts) _ x b.1 in
      let a = arg_sound p false s ts w.0 w.1 in
      let shorter = Phrase-shorter a in
      let q = simple_from_sound p s k (snoc as' w.0.0) rs w.0.1 x (omega arith) w.2 in
      record {
        added = (more w.0.0 q.added.0, q.added.1);
        words = q.words ∙ append_snoc as' w.0.0 q.added.0;
        redirs = q.redirs;
        phrase = g.simple_word a q.phrase;
      })
  | inr b ↦ elim (if_ok (begins_redir ts) _ _ x b.1) [
    | inl c ↦ (let w = bind_ok (d.redir_by p ts) _ x c.1 in
        let a = redir_sound p s ts w.0 w.1 in
        let shorter = Phrase-shorter a in
        let q = simple_from_sound p s k as' (snoc rs w.0.0) w.0.1 x (omega arith) w.2 in
        record {
          added = (q.added.0, more w.0.0 q.added.1);
          words = q.words;
          redirs = q.redirs ∙ append_snoc rs w.0.0 q.added.1;
          phrase = g.simple_redir a q.phrase;
        })
    | inr c ↦ simple_none ts as' rs x b.0 c.0 c.1
  ]
]

pub simple_sound : (p : Reader (Node t.arg)) → SoundPart false p → (ts : List Lexeme) (x : (Many t.arg × Many t.redir) × List Lexeme) → d.simple_by p ts ≡ Ok x → Phrase g.simple ts x.0 x.1
unfolding d.simple_by
simple_sound p s ts x h =
    let q = simple_from_sound p s (length ts) none none ts x (omega arith) h in
    let e : (q.added.0, q.added.1) ≡ x.0 = λ i. (sym q.words i, sym q.redirs i) in
    subst (λ z. Phrase g.simple ts z x.1) e q.phrase

-- a list in braces, and one in parentheses
closed_by_brace_ok : (o : Read (Many t.item)) (x : Node t.cmd × List Lexeme) → d.closed_by_brace o ≡ Ok x → (is : Many t.item) × (o ≡ Ok (is, RightBrace ∷ x.1)) × (x.0 ≡ t.Seq is)
closed_by_brace_ok (Ok (is, RightBrace ∷ ts)) x h =
    let e = ok_same (t.Seq is, ts) x h in
    (is, ap (λ z. Ok (is, RightBrace ∷ z.1)) e, sym (ap (λ z. z.0) e))
closed_by_brace_ok (Ok y) x h = absurd cc
closed_by_brace_ok (Err e) x h = absurd cc

closed_by_paren_ok : (o : Read (Many t.item)) (x : Node t.cmd × List Lexeme) → d.closed_by_paren o ≡ Ok x → (is : Many t.item) × (o ≡ Ok (is, RightParen ∷ x.1)) × (x.0 ≡ t.Seq is)
closed_by_paren_ok (Ok (is, RightParen ∷ ts)) x h =
    let e = ok_same (t.Seq is, ts) x h in
    (is, ap (λ z. Ok (is, RightParen ∷ z.1)) e, sym (ap (λ z. z.0) e))
closed_by_paren_ok (Ok y) x h = absurd cc
closed_by_paren_ok (Err e) x h = absurd cc

pub brace_sound : (r : Readers) → Sound r → (ts : List Lexeme) (x : Node t.cmd × List Lexeme) → d.brace_by r ts ≡ Ok x → Phrase g.brace ts x.0 x.1
unfolding d.brace_by
brace_sound r s (LeftBrace ∷ ts) x h =
    let w = closed_by_brace_ok (r (d.a_list false) ts) x h in
    subst (λ z. Phrase g.brace (LeftBrace ∷ ts) z x.1) (sym w.2) (g.braced (s.list false ts (w.0, RightBrace ∷ x.1) w.1))
brace_sound r s ts x h = absurd cc

pub paren_sound : (r : Readers) → Sound r → (ts : List Lexeme) (x : Node t.cmd × List Lexeme) → d.paren_by r ts ≡ Ok x → Phrase g.paren ts x.0 x.1
unfolding d.paren_by
paren_sound r s (LeftParen ∷ ts) x h =
    let w = closed_by_paren_ok (r (d.a_list false) ts) x h in
    subst (λ z. Phrase g.paren (LeftParen ∷ ts) z x.1) (sym w.2) (g.parenthesised (s.list false ts (w.0, RightParen ∷ x.1) w.1))
paren_sound r s ts x h = absurd cc

-- a part of an argument
value_sound : (r : Readers) → Sound r → (inside : Bool) (ts : List Lexeme) (n : Node t.arg) (mid : List Lexeme) (x : Node t.arg × List Lexeme) → Phrase g.name ts n mid → d.value_by r n mid ≡ Ok x →
    Phrase (g.part inside) (Dollar ∷ ts) x.0 x.1
value_sound r s inside ts n (Subscript ∷ mid) x p h =
    let w = bind_ok (d.members_by (r (d.a_part true)) mid) _ x h in
    found (g.part inside) (Dollar ∷ ts) (t.Sub n w.0.0, w.0.1) x (g.sub_part p (members_sound (r (d.a_part true)) (s.part true) mid w.0 w.1)) w.2
value_sound r s inside ts n mid x p h = found (g.part inside) (Dollar ∷ ts) (t.Var n, mid) x (g.var_part p refl) h

pub part_sound : (r : Readers) → Sound r → (inside : Bool) (ts : List Lexeme) (x : Node t.arg × List Lexeme) → d.part_by r inside ts ≡ Ok x → Phrase (g.part inside) ts x.0 x.1
unfolding d.part_by d.dollar_by
part_sound r s inside (Word text ∷ ts) x h = found (g.part inside) (Word text ∷ ts) (t.Lit text false, ts) x g.word_part h
part_sound r s inside (Quoted text ∷ ts) x h = found (g.part inside) (Quoted text ∷ ts) (t.Lit text true, ts) x g.quoted_part h
part_sound r s inside (LeftParen ∷ ts) x h =
    let w = bind_ok (d.members_by (r (d.a_part true)) ts) _ x h in
    found (g.part inside) (LeftParen ∷ ts) (t.Paren w.0.0, w.0.1) x (g.paren_part (members_sound (r (d.a_part true)) (s.part true) ts w.0 w.1)) w.2
part_sound r s inside (Backquote ∷ ts) x h =
    let w = bind_ok (d.brace_by r (past_blanks inside ts)) _ x h in
    found (g.part inside) (Backquote ∷ ts) (t.Back w.0.0, w.0.1) x (g.back_part (brace_sound r s (past_blanks inside ts) w.0 w.1)) w.2
part_sound r s inside (Dollar ∷ ts) x h =
    let w = bind_ok (r d.a_name ts) _ x h in
    value_sound r s inside ts w.0.0 w.0.1 x (s.name ts w.0 w.1) w.2
part_sound r s inside (DollarCount ∷ ts) x h =
    let w = bind_ok (r d.a_name ts) _ x h in
    found (g.part inside) (DollarCount ∷ ts) (t.Count w.0.0, w.0.1) x (g.count_part (s.name ts w.0 w.1)) w.2
part_sound r s inside (DollarFlat ∷ ts) x h =
    let w = bind_ok (r d.a_name ts) _ x h in
    found (g.part inside) (DollarFlat ∷ ts) (t.Flat w.0.0, w.0.1) x (g.flat_part (s.name ts w.0 w.1)) w.2
part_sound r s inside ts x h = absurd cc
