-- Stages and pipelines have one tree.
use Rattle.std.proofs.Common.{◌≡◌, ℕ, true, false, List, ◌∷◌, refl, ap, ◌∙◌}
use Rattle.rc_model.specs.Syntax.Tokens.{Lexeme, Word, LeftParen, RightParen, LeftBrace, RightBrace, Equals, Bar}
use Rattle.rc_model.specs.Syntax.Tree.{Node, Many, none, more}
use Rattle.rc_model.specs.Syntax.Tree as t
use Rattle.rc_model.specs.Syntax.Grammar.{keyword, is_plain, past_newlines, past_caret}
use Rattle.rc_model.specs.declared.syntax.Keyword.{Keyword}
use Rattle.rc_model.specs.Syntax.Grammar.{redirect, pipeline, begins_first, begins_brace, begins_bar, begins_value}
use Rattle.rc_model.specs.Syntax.Grammar as g
use Rattle.law_syntax.proofs.Beginnings.{brace_begins}
use Rattle.law_syntax.proofs.Same.{Alike, Apart, One, keyword_at, leads, first_plain, first_no_brace}
use Rattle.law_syntax.proofs.Same.{brace_word, stage_leads, assigned_leads, leading_leads, through, tail}
use Rattle.rc_model.specs.declared.syntax.Keyword.TheVariants.{Fn as FnWord, Match as MatchWord, Plain as NoKeyword, Switch as SwitchWord}

-- lists in braces and parentheses
pub braced : {ts rest : List Lexeme} {is : Many t.item} → One (g.items false false) ts is (RightBrace ∷ rest) → Alike g.brace (LeftBrace ∷ ts) (t.Seq is) rest
braced o us y s (g.braced q) e = let m = o.same _ _ _ q (tail e) in record { tree = ap t.Seq m.tree; rest = tail m.rest }

pub parenthesised : {ts rest : List Lexeme} {is : Many t.item} → One (g.items false false) ts is (RightParen ∷ rest) →
    Alike g.paren (LeftParen ∷ ts) (t.Seq is) rest
parenthesised o us y s (g.parenthesised q) e = let m = o.same _ _ _ q (tail e) in record { tree = ap t.Seq m.tree; rest = tail m.rest }

-- stages
pub simple_stage : (ts : List Lexeme) {mid rest : List Lexeme} {a : Node t.arg} {x : Many t.arg × Many t.redir} → begins_first ts ≡ true →
    One (g.arg false) ts a mid → One g.simple mid x rest →
    Alike g.stage ts (redirect x.1 (t.Simple (more a x.0))) rest
simple_stage ts {x = x} h o p us y s (g.simple_stage {a = b} k q w r) e =
    let m = o.same _ _ _ q e in let n = p.same _ _ _ r m.rest in
    record { tree = ap (λ z. redirect x.1 (t.Simple (more z x.0))) m.tree ∙ ap (λ z. redirect z.1 (t.Simple (more b z.0))) n.tree; rest = n.rest }
simple_stage ts h o p us y s (g.brace_stage q r) e = let i = through begins_brace e (first_no_brace ts h) (brace_begins q) in absurd cc
simple_stage ts h o p us y s (g.switch_stage k q j r w) e = let i = through keyword_at e (first_plain ts h) k in absurd cc
simple_stage ts h o p us y s (g.match_stage k q r) e = let i = through keyword_at e (first_plain ts h) k in absurd cc
simple_stage ts h o p us y s (g.define_stage k q r w) e = let i = through keyword_at e (first_plain ts h) k in absurd cc
simple_stage ts h o p us y s (g.undefine_stage k q r j) e = let i = through keyword_at e (first_plain ts h) k in absurd cc

pub brace_stage : {ts mid rest : List Lexeme} {c : Node t.cmd} {rs : Many t.redir} → begins_brace ts ≡ true → keyword_at ts ≡ NoKeyword →
    One g.brace ts c mid → One g.redirs mid rs rest →
    Alike g.stage ts (redirect rs (t.Brace c)) rest
brace_stage h v o p us y s (g.simple_stage k q w r) e = let i = through begins_brace e h (first_no_brace us k) in absurd cc
brace_stage {rs = rs} h v o p us y s (g.brace_stage {c = d} q r) e =
    let m = o.same _ _ _ q e in let n = p.same _ _ _ r m.rest in
    record { tree = ap (λ z. redirect rs (t.Brace z)) m.tree ∙ ap (λ z. redirect z (t.Brace d)) n.tree; rest = n.rest }
brace_stage h v o p us y s (g.switch_stage k q j r w) e = let i = through keyword_at e v k in absurd cc
brace_stage h v o p us y s (g.match_stage k q r) e = let i = through keyword_at e v k in absurd cc
brace_stage h v o p us y s (g.define_stage k q r w) e = let i = through keyword_at e v k in absurd cc
brace_stage h v o p us y s (g.undefine_stage k q r j) e = let i = through keyword_at e v k in absurd cc

pub switch_stage : (text : List ℕ) {ts mid inner next rest : List Lexeme} {a : Node t.arg} {bs : Many t.branch} {rs : Many t.redir} →
    keyword text ≡ SwitchWord →
    One (g.arg false) (past_caret ts) a mid → past_newlines mid ≡ LeftBrace ∷ inner → One g.branches inner bs (RightBrace ∷ next) → One g.redirs next rs rest →
    Alike g.stage (Word text ∷ ts) (redirect rs (t.Switch a bs)) rest
switch_stage text {a = a} {bs = bs} {rs = rs} h o f p v us y s (g.switch_stage {a = b} {bs = cs} k q j r w) e =
    let m = o.same _ _ _ q (ap past_caret (tail e)) in
    let n = p.same _ _ _ r (tail (through past_newlines m.rest f j)) in
    let l = v.same _ _ _ w (tail n.rest) in
    record {
      tree = ap (λ z. redirect rs (t.Switch z bs)) m.tree ∙ ap (λ z. redirect rs (t.Switch b z)) n.tree ∙ ap (λ z. redirect z (t.Switch b cs)) l.tree;
      rest = l.rest;
    }
switch_stage text h o f p v us y s (g.simple_stage k q w r) e = let i = through keyword_at e h (first_plain us k) in absurd cc
switch_stage text h o f p v us y s (g.brace_stage q r) e = let i = through keyword_at e h (brace_word q) in absurd cc
switch_stage text h o f p v us y s (g.match_stage k q r) e = let i = through keyword_at e h k in absurd cc
switch_stage text h o f p v us y s (g.define_stage k q r w) e = let i = through keyword_at e h k in absurd cc
switch_stage text h o f p v us y s (g.undefine_stage k q r j) e = let i = through keyword_at e h k in absurd cc

pub match_stage : (text : List ℕ) {ts mid rest : List Lexeme} {a : Node t.arg} {as' : Many t.arg} → keyword text ≡ MatchWord →
    One (g.arg false) (past_caret ts) a mid →
    One g.words mid as' rest → Alike g.stage (Word text ∷ ts) (t.Match a as') rest
match_stage text {as' = as'} h o p us y s (g.match_stage {a = b} k q r) e =
    let m = o.same _ _ _ q (ap past_caret (tail e)) in let n = p.same _ _ _ r m.rest in
    record { tree = ap (λ z. t.Match z as') m.tree ∙ ap (t.Match b) n.tree; rest = n.rest }
match_stage text h o p us y s (g.simple_stage k q w r) e = let i = through keyword_at e h (first_plain us k) in absurd cc
match_stage text h o p us y s (g.brace_stage q r) e = let i = through keyword_at e h (brace_word q) in absurd cc
match_stage text h o p us y s (g.switch_stage k q j r w) e = let i = through keyword_at e h k in absurd cc
match_stage text h o p us y s (g.define_stage k q r w) e = let i = through keyword_at e h k in absurd cc
match_stage text h o p us y s (g.undefine_stage k q r j) e = let i = through keyword_at e h k in absurd cc

pub define_stage : (text : List ℕ) {ts mid next rest : List Lexeme} {a : Node t.arg} {as' : Many t.arg} {c : Node t.cmd} → keyword text ≡ FnWord →
    One (g.arg false) (past_caret ts) a mid → One g.words mid as' next → begins_brace next ≡ true → One g.brace next c rest →
    Alike g.stage (Word text ∷ ts) (t.Define (more a as') c) rest
define_stage text {as' = as'} {c = c} h o p b v us y s (g.define_stage {a = a} {as' = bs} k q r w) e =
    let m = o.same _ _ _ q (ap past_caret (tail e)) in let n = p.same _ _ _ r m.rest in let l = v.same _ _ _ w n.rest in
    record { tree = ap (λ z. t.Define (more z as') c) m.tree ∙ ap (λ z. t.Define (more a z) c) n.tree ∙ ap (t.Define (more a bs)) l.tree; rest = l.rest }
define_stage text h o p b v us y s (g.undefine_stage k q r j) e =
    let m = o.same _ _ _ q (ap past_caret (tail e)) in let n = p.same _ _ _ r m.rest in let i = through begins_brace n.rest b j in absurd cc
define_stage text h o p b v us y s (g.simple_stage k q w r) e = let i = through keyword_at e h (first_plain us k) in absurd cc
define_stage text h o p b v us y s (g.brace_stage q r) e = let i = through keyword_at e h (brace_word q) in absurd cc
define_stage text h o p b v us y s (g.switch_stage k q j r w) e = let i = through keyword_at e h k in absurd cc
define_stage text h o p b v us y s (g.match_stage k q r) e = let i = through keyword_at e h k in absurd cc

pub undefine_stage : (text : List ℕ) {ts mid rest : List Lexeme} {a : Node t.arg} {as' : Many t.arg} → keyword text ≡ FnWord →
    One (g.arg false) (past_caret ts) a mid →
    One g.words mid as' rest → begins_brace rest ≡ false → Alike g.stage (Word text ∷ ts) (t.Undefine (more a as')) rest
undefine_stage text h o p b us y s (g.define_stage k q r w) e =
    let m = o.same _ _ _ q (ap past_caret (tail e)) in let n = p.same _ _ _ r m.rest in let i = through begins_brace n.rest b (brace_begins w) in absurd cc
undefine_stage text {as' = as'} h o p b us y s (g.undefine_stage {a = a} k q r j) e =
    let m = o.same _ _ _ q (ap past_caret (tail e)) in let n = p.same _ _ _ r m.rest in
    record { tree = ap (λ z. t.Undefine (more z as')) m.tree ∙ ap (λ z. t.Undefine (more a z)) n.tree; rest = n.rest }
undefine_stage text h o p b us y s (g.simple_stage k q w r) e = let i = through keyword_at e h (first_plain us k) in absurd cc
undefine_stage text h o p b us y s (g.brace_stage q r) e = let i = through keyword_at e h (brace_word q) in absurd cc
undefine_stage text h o p b us y s (g.switch_stage k q j r w) e = let i = through keyword_at e h k in absurd cc
undefine_stage text h o p b us y s (g.match_stage k q r) e = let i = through keyword_at e h k in absurd cc

-- stages and assignments
pub simple_apart : {ts mid : List Lexeme} {a : Node t.arg} → One (g.arg false) ts a mid → begins_value mid ≡ false → Apart g.stage ts
simple_apart o v us c r (g.assignment h q p w) e = let m = o.same _ _ _ q e in let i = through begins_value m.rest v refl in absurd cc

pub brace_apart : {ts : List Lexeme} → begins_brace ts ≡ true → Apart g.stage ts
brace_apart b us c r (g.assignment h q p w) e = let i = through begins_brace e b (first_no_brace us h) in absurd cc

pub word_apart : (text : List ℕ) {ts : List Lexeme} (k : Keyword) → keyword text ≡ k → is_plain k ≡ false → Apart g.stage (Word text ∷ ts)
word_apart text k h f us c r (g.assignment j q p w) e = let i = ap is_plain (through keyword_at e h (first_plain us j)) in absurd cc

pub assigned_apart : (ts : List Lexeme) {next : List Lexeme} {a : Node t.arg} → begins_first ts ≡ true → One (g.arg false) ts a (Equals ∷ next) →
    Apart g.assigned ts
assigned_apart ts h o us c r (g.simple_stage k q w j) e = let m = o.same _ _ _ q e in let i = through begins_value m.rest refl w in absurd cc
assigned_apart ts h o us c r (g.brace_stage q j) e = let i = through begins_brace e (first_no_brace ts h) (brace_begins q) in absurd cc
assigned_apart ts h o us c r (g.switch_stage k q j l w) e = let i = through keyword_at e (first_plain ts h) k in absurd cc
assigned_apart ts h o us c r (g.match_stage k q l) e = let i = through keyword_at e (first_plain ts h) k in absurd cc
assigned_apart ts h o us c r (g.define_stage k q l w) e = let i = through keyword_at e (first_plain ts h) k in absurd cc
assigned_apart ts h o us c r (g.undefine_stage k q l j) e = let i = through keyword_at e (first_plain ts h) k in absurd cc

-- pipelines
pub piped : {ts mid rest : List Lexeme} {c : Node t.cmd} {ss : Many t.stage} → One g.stage ts c mid → One g.bars mid ss rest →
    Alike g.pipe ts (pipeline c ss) rest
piped {ss = ss} o p us y s (g.piped {c = d} q r) e =
    let m = o.same _ _ _ q e in let n = p.same _ _ _ r m.rest in
    record { tree = ap (λ z. pipeline z ss) m.tree ∙ ap (pipeline d) n.tree; rest = n.rest }

pub no_bar : (rest : List Lexeme) → begins_bar rest ≡ false → Alike g.bars rest none rest
no_bar rest h us y s (g.no_bar k) e = record { tree = refl; rest = e }
no_bar rest h us y s (g.bar_stage q r) e = let i = through begins_bar e h refl in absurd cc
no_bar rest h us y s (g.bar_leading q) e = let i = through begins_bar e h refl in absurd cc
no_bar rest h us y s (g.bar_assigned q) e = let i = through begins_bar e h refl in absurd cc

same_stage : {slot other : ℕ} {ts us : List Lexeme} {c d : Node t.cmd} {ss rs : Many t.stage} → Bar slot ∷ ts ≡ Bar other ∷ us → c ≡ d → ss ≡ rs →
    ◌≡◌ {A = Many t.stage} (more (t.Stage c slot) ss) (more (t.Stage d other) rs)
same_stage e f h = cc

pub bar_stage : (slot : ℕ) (ts : List Lexeme) {mid rest : List Lexeme} {c : Node t.cmd} {ss : Many t.stage} → leads (past_newlines ts) ≡ false →
    One g.stage (past_newlines ts) c mid →
    One g.bars mid ss rest → Alike g.bars (Bar slot ∷ ts) (more (t.Stage c slot) ss) rest
bar_stage slot ts l o p us y s (g.no_bar k) e = let i = through begins_bar e refl k in absurd cc
bar_stage slot ts l o p us y s (g.bar_stage q r) e =
    let m = o.same _ _ _ q (ap past_newlines (tail e)) in let n = p.same _ _ _ r m.rest in record { tree = same_stage e m.tree n.tree; rest = n.rest }
bar_stage slot ts l o p us y s (g.bar_leading q) e = let i = through leads (ap past_newlines (tail e)) l (leading_leads q) in absurd cc
bar_stage slot ts l o p us y s (g.bar_assigned q) e = absurd (o.apart _ _ _ q (ap past_newlines (tail e)))

pub bar_leading : (slot : ℕ) (ts : List Lexeme) {rest : List Lexeme} {c : Node t.cmd} → leads (past_newlines ts) ≡ true →
    One (g.leading false) (past_newlines ts) c rest →
    Alike g.bars (Bar slot ∷ ts) (more (t.Stage c slot) none) rest
bar_leading slot ts l o us y s (g.no_bar k) e = let i = through begins_bar e refl k in absurd cc
bar_leading slot ts l o us y s (g.bar_stage q r) e = let i = through leads (ap past_newlines (tail e)) l (stage_leads q) in absurd cc
bar_leading slot ts l o us y s (g.bar_leading q) e =
    let m = o.same _ _ _ q (ap past_newlines (tail e)) in record { tree = same_stage e m.tree refl; rest = m.rest }
bar_leading slot ts l o us y s (g.bar_assigned q) e = let i = through leads (ap past_newlines (tail e)) l (assigned_leads q) in absurd cc

pub bar_assigned : (slot : ℕ) (ts : List Lexeme) {rest : List Lexeme} {c : Node t.cmd} → leads (past_newlines ts) ≡ false →
    One g.assigned (past_newlines ts) c rest →
    Alike g.bars (Bar slot ∷ ts) (more (t.Stage c slot) none) rest
bar_assigned slot ts l o us y s (g.no_bar k) e = let i = through begins_bar e refl k in absurd cc
bar_assigned slot ts l o us y s (g.bar_stage q r) e = absurd (o.apart _ _ _ q (ap past_newlines (tail e)))
bar_assigned slot ts l o us y s (g.bar_leading q) e = let i = through leads (ap past_newlines (tail e)) l (leading_leads q) in absurd cc
bar_assigned slot ts l o us y s (g.bar_assigned q) e =
    let m = o.same _ _ _ q (ap past_newlines (tail e)) in record { tree = same_stage e m.tree refl; rest = m.rest }
