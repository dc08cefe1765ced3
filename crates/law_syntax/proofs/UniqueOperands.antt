-- Operands, and commands that they make, have one tree.
use Rattle.std.proofs.Common.{◌≡◌, ℕ, Bool, true, false, List, ◌∷◌, refl, ap, ◌∙◌}
use Rattle.rc_model.specs.Syntax.Tokens.{Lexeme, Word, LeftParen, RightParen, AndAnd, OrOr, Equals}
use Rattle.rc_model.specs.Syntax.Tree.{Node, Many, none, more}
use Rattle.rc_model.specs.Syntax.Tree as t
use Rattle.rc_model.specs.Syntax.Grammar.{keyword, past_newlines, past_caret, and_or, begins_first, begins_command, begins_link}
use Rattle.rc_model.specs.Syntax.Grammar as g
use Rattle.law_syntax.proofs.Same.{Alike, Apart, One, keyword_at, leads, redir_word, paren_word, pipe_leads, assigned_leads, leading_leads}
use Rattle.law_syntax.proofs.Same.{first_leads, through, tail}
use Rattle.law_syntax.proofs.Beginnings.{arg_starts, pipe_commands, leading_commands, operand_commands, command_commands}
use Rattle.rc_model.specs.declared.syntax.Keyword.TheVariants.{At as AtWord, Bang as BangWord, For as ForWord, If as IfWord, Not as NotWord, Plain as NoKeyword, While as WhileWord}
use Rattle.rc_model.specs.declared.syntax.Logic.TheVariants.{And, Or}

-- operands that begin with a keyword
pub not_leading : (after_if : Bool) (text : List ℕ) {ts rest : List Lexeme} {c : Node t.cmd} → keyword text ≡ BangWord →
    One (g.operand false) (past_caret ts) c rest →
    Alike (g.leading after_if) (Word text ∷ ts) (t.Not c) rest
not_leading f text h o us y s (g.not_leading k q) e = let m = o.same _ _ _ q (ap past_caret (tail e)) in record { tree = ap t.Not m.tree; rest = m.rest }
not_leading f text h o us y s (g.subshell_leading k q) e = let x = through keyword_at e h k in absurd cc
not_leading f text h o us y s (g.if_leading k q r) e = let x = through keyword_at e h k in absurd cc
not_leading f text h o us y s (g.while_leading k q r) e = let x = through keyword_at e h k in absurd cc
not_leading f text h o us y s (g.if_not_leading k j i r) e = let x = through keyword_at e h k in absurd cc
not_leading f text h o us y s (g.for_all_leading k j q i r) e = let x = through keyword_at e h k in absurd cc
not_leading f text h o us y s (g.for_leading k j q i w r v) e = let x = through keyword_at e h k in absurd cc
not_leading f text h o us y s (g.redir_leading q r w) e = let x = through keyword_at e h (redir_word q) in absurd cc

pub subshell_leading : (after_if : Bool) (text : List ℕ) {ts rest : List Lexeme} {c : Node t.cmd} → keyword text ≡ AtWord →
    One (g.operand false) (past_caret ts) c rest →
    Alike (g.leading after_if) (Word text ∷ ts) (t.Subshell c) rest
subshell_leading f text h o us y s (g.subshell_leading k q) e =
    let m = o.same _ _ _ q (ap past_caret (tail e)) in record { tree = ap t.Subshell m.tree; rest = m.rest }
subshell_leading f text h o us y s (g.not_leading k q) e = let x = through keyword_at e h k in absurd cc
subshell_leading f text h o us y s (g.if_leading k q r) e = let x = through keyword_at e h k in absurd cc
subshell_leading f text h o us y s (g.while_leading k q r) e = let x = through keyword_at e h k in absurd cc
subshell_leading f text h o us y s (g.if_not_leading k j i r) e = let x = through keyword_at e h k in absurd cc
subshell_leading f text h o us y s (g.for_all_leading k j q i r) e = let x = through keyword_at e h k in absurd cc
subshell_leading f text h o us y s (g.for_leading k j q i w r v) e = let x = through keyword_at e h k in absurd cc
subshell_leading f text h o us y s (g.redir_leading q r w) e = let x = through keyword_at e h (redir_word q) in absurd cc

pub if_leading : (after_if : Bool) (text : List ℕ) (ts : List Lexeme) {mid rest : List Lexeme} {c d : Node t.cmd} → keyword text ≡ IfWord →
    keyword_at (past_caret ts) ≡ NoKeyword →
    One g.paren (past_caret ts) c mid → One g.body mid d rest → Alike (g.leading after_if) (Word text ∷ ts) (t.If c d) rest
if_leading f text ts {d = d} h l o p us y s (g.if_leading {c = c} k q r) e =
    let m = o.same _ _ _ q (ap past_caret (tail e)) in let n = p.same _ _ _ r m.rest in
    record { tree = ap (λ z. t.If z d) m.tree ∙ ap (t.If c) n.tree; rest = n.rest }
if_leading f text ts h l o p us y s (g.if_not_leading k j i r) e = let x = through keyword_at (ap past_caret (tail e)) l (ap keyword_at j ∙ i) in absurd cc
if_leading f text ts h l o p us y s (g.not_leading k q) e = let x = through keyword_at e h k in absurd cc
if_leading f text ts h l o p us y s (g.subshell_leading k q) e = let x = through keyword_at e h k in absurd cc
if_leading f text ts h l o p us y s (g.while_leading k q r) e = let x = through keyword_at e h k in absurd cc
if_leading f text ts h l o p us y s (g.for_all_leading k j q i r) e = let x = through keyword_at e h k in absurd cc
if_leading f text ts h l o p us y s (g.for_leading k j q i w r v) e = let x = through keyword_at e h k in absurd cc
if_leading f text ts h l o p us y s (g.redir_leading q r w) e = let x = through keyword_at e h (redir_word q) in absurd cc

pub while_leading : (after_if : Bool) (text : List ℕ) (ts : List Lexeme) {mid rest : List Lexeme} {c d : Node t.cmd} → keyword text ≡ WhileWord →
    keyword_at (past_caret ts) ≡ NoKeyword →
    One g.paren (past_caret ts) c mid → One g.body mid d rest → Alike (g.leading after_if) (Word text ∷ ts) (t.While c d) rest
while_leading f text ts {d = d} h l o p us y s (g.while_leading {c = c} k q r) e =
    let m = o.same _ _ _ q (ap past_caret (tail e)) in let n = p.same _ _ _ r m.rest in
    record { tree = ap (λ z. t.While z d) m.tree ∙ ap (t.While c) n.tree; rest = n.rest }
while_leading f text ts h l o p us y s (g.not_leading k q) e = let x = through keyword_at e h k in absurd cc
while_leading f text ts h l o p us y s (g.subshell_leading k q) e = let x = through keyword_at e h k in absurd cc
while_leading f text ts h l o p us y s (g.if_leading k q r) e = let x = through keyword_at e h k in absurd cc
while_leading f text ts h l o p us y s (g.if_not_leading k j i r) e = let x = through keyword_at e h k in absurd cc
while_leading f text ts h l o p us y s (g.for_all_leading k j q i r) e = let x = through keyword_at e h k in absurd cc
while_leading f text ts h l o p us y s (g.for_leading k j q i w r v) e = let x = through keyword_at e h k in absurd cc
while_leading f text ts h l o p us y s (g.redir_leading q r w) e = let x = through keyword_at e h (redir_word q) in absurd cc

pub if_not_leading : (text next_text : List ℕ) (ts next : List Lexeme) {rest : List Lexeme} {d : Node t.cmd} → keyword text ≡ IfWord →
    past_caret ts ≡ Word next_text ∷ next →
    keyword next_text ≡ NotWord → One g.body (past_caret next) d rest → Alike (g.leading true) (Word text ∷ ts) (t.IfNot d) rest
if_not_leading text other ts next h a b o us y s (g.if_not_leading k j i r) e =
    let m = o.same _ _ _ r (ap past_caret (tail (through past_caret (tail e) a j))) in record { tree = ap t.IfNot m.tree; rest = m.rest }
if_not_leading text other ts next h a b o us y s (g.if_leading k q r) e =
    let x = through keyword_at (ap past_caret (tail e)) (ap keyword_at a ∙ b) (paren_word q) in absurd cc
if_not_leading text other ts next h a b o us y s (g.not_leading k q) e = let x = through keyword_at e h k in absurd cc
if_not_leading text other ts next h a b o us y s (g.subshell_leading k q) e = let x = through keyword_at e h k in absurd cc
if_not_leading text other ts next h a b o us y s (g.while_leading k q r) e = let x = through keyword_at e h k in absurd cc
if_not_leading text other ts next h a b o us y s (g.for_all_leading k j q i r) e = let x = through keyword_at e h k in absurd cc
if_not_leading text other ts next h a b o us y s (g.for_leading k j q i w r v) e = let x = through keyword_at e h k in absurd cc
if_not_leading text other ts next h a b o us y s (g.redir_leading q r w) e = let x = through keyword_at e h (redir_word q) in absurd cc

pub for_all_leading : (after_if : Bool) (text : List ℕ) (ts : List Lexeme) {head mid next rest : List Lexeme} {a : Node t.arg} {d : Node t.cmd} →
    keyword text ≡ ForWord →
    past_caret ts ≡ LeftParen ∷ head → One (g.arg true) (past_newlines head) a mid → past_newlines mid ≡ RightParen ∷ next → One g.body next d rest →
    Alike (g.leading after_if) (Word text ∷ ts) (t.ForAll a d) rest
for_all_leading f text ts {d = d} h a o b p us y s (g.for_all_leading {a = c} k j q i r) e =
    let m = o.same _ _ _ q (ap past_newlines (tail (through past_caret (tail e) a j))) in
    let n = p.same _ _ _ r (tail (through past_newlines m.rest b i)) in
    record { tree = ap (λ z. t.ForAll z d) m.tree ∙ ap (t.ForAll c) n.tree; rest = n.rest }
for_all_leading f text ts h a o b p us y s (g.for_leading k j q i w r v) e =
    let m = o.same _ _ _ q (ap past_newlines (tail (through past_caret (tail e) a j))) in
    let x = through past_newlines m.rest b i in absurd cc
for_all_leading f text ts h a o b p us y s (g.not_leading k q) e = let x = through keyword_at e h k in absurd cc
for_all_leading f text ts h a o b p us y s (g.subshell_leading k q) e = let x = through keyword_at e h k in absurd cc
for_all_leading f text ts h a o b p us y s (g.if_leading k q r) e = let x = through keyword_at e h k in absurd cc
for_all_leading f text ts h a o b p us y s (g.while_leading k q r) e = let x = through keyword_at e h k in absurd cc
for_all_leading f text ts h a o b p us y s (g.if_not_leading k j i r) e = let x = through keyword_at e h k in absurd cc
for_all_leading f text ts h a o b p us y s (g.redir_leading q r w) e = let x = through keyword_at e h (redir_word q) in absurd cc

pub for_leading : (after_if : Bool) (text next_text : List ℕ) (ts : List Lexeme) {head mid list next rest : List Lexeme}
    {a : Node t.arg} {as' : Many t.arg} {d : Node t.cmd} →
    keyword text ≡ ForWord → past_caret ts ≡ LeftParen ∷ head → One (g.arg true) (past_newlines head) a mid → past_newlines mid ≡ Word next_text ∷ list →
    One g.members (past_caret list) as' next → One g.body next d rest → Alike (g.leading after_if) (Word text ∷ ts) (t.For a as' d) rest
for_leading f text other ts {as' = as'} {d = d} h a o b p l us y s (g.for_leading {a = c} {as' = bs} k j q i w r v) e =
    let m = o.same _ _ _ q (ap past_newlines (tail (through past_caret (tail e) a j))) in
    let n = p.same _ _ _ r (ap past_caret (tail (through past_newlines m.rest b i))) in
    let u = l.same _ _ _ v n.rest in
    record { tree = ap (λ z. t.For z as' d) m.tree ∙ ap (λ z. t.For c z d) n.tree ∙ ap (t.For c bs) u.tree; rest = u.rest }
for_leading f text other ts h a o b p l us y s (g.for_all_leading k j q i r) e =
    let m = o.same _ _ _ q (ap past_newlines (tail (through past_caret (tail e) a j))) in
    let x = through past_newlines m.rest b i in absurd cc
for_leading f text other ts h a o b p l us y s (g.not_leading k q) e = let x = through keyword_at e h k in absurd cc
for_leading f text other ts h a o b p l us y s (g.subshell_leading k q) e = let x = through keyword_at e h k in absurd cc
for_leading f text other ts h a o b p l us y s (g.if_leading k q r) e = let x = through keyword_at e h k in absurd cc
for_leading f text other ts h a o b p l us y s (g.while_leading k q r) e = let x = through keyword_at e h k in absurd cc
for_leading f text other ts h a o b p l us y s (g.if_not_leading k j i r) e = let x = through keyword_at e h k in absurd cc
for_leading f text other ts h a o b p l us y s (g.redir_leading q r w) e = let x = through keyword_at e h (redir_word q) in absurd cc

-- one that begins with a redirection
pub redir_leading : (after_if : Bool) (ts : List Lexeme) {mid next rest : List Lexeme} {r : Node t.redir} {rs : Many t.redir} {c : Node t.cmd} →
    keyword_at ts ≡ NoKeyword →
    One g.redir ts r mid → One g.redirs mid rs next → One g.optional next c rest → Alike (g.leading after_if) ts (t.Redirect (more r rs) c) rest
redir_leading f ts {rs = rs} {c = c} h o p l us y s (g.redir_leading {r = a} {rs = ss} q r w) e =
    let m = o.same _ _ _ q e in let n = p.same _ _ _ r m.rest in let u = l.same _ _ _ w n.rest in
    record { tree = ap (λ z. t.Redirect (more z rs) c) m.tree ∙ ap (λ z. t.Redirect (more a z) c) n.tree ∙ ap (t.Redirect (more a ss)) u.tree; rest = u.rest }
redir_leading f ts h o p l us y s (g.not_leading k q) e = let x = through keyword_at e h k in absurd cc
redir_leading f ts h o p l us y s (g.subshell_leading k q) e = let x = through keyword_at e h k in absurd cc
redir_leading f ts h o p l us y s (g.if_leading k q r) e = let x = through keyword_at e h k in absurd cc
redir_leading f ts h o p l us y s (g.while_leading k q r) e = let x = through keyword_at e h k in absurd cc
redir_leading f ts h o p l us y s (g.if_not_leading k j i r) e = let x = through keyword_at e h k in absurd cc
redir_leading f ts h o p l us y s (g.for_all_leading k j q i r) e = let x = through keyword_at e h k in absurd cc
redir_leading f ts h o p l us y s (g.for_leading k j q i w r v) e = let x = through keyword_at e h k in absurd cc

-- assignments
pub assignment : {ts next mid rest : List Lexeme} {a v : Node t.arg} {x : Many t.pair × Node t.cmd} → One (g.arg false) ts a (Equals ∷ next) →
    One (g.arg false) next v mid →
    One g.values mid x rest → Alike g.assigned ts (t.Assign (more (t.Pair a v) x.0) x.1) rest
assignment {v = v} {x = x} o p l us y s (g.assignment {a = b} {v = w} k q r j) e =
    let m = o.same _ _ _ q e in let n = p.same _ _ _ r (tail m.rest) in let u = l.same _ _ _ j n.rest in
    record {
      tree = ap (λ z. t.Assign (more (t.Pair z v) x.0) x.1) m.tree ∙ ap (λ z. t.Assign (more (t.Pair b z) x.0) x.1) n.tree
          ∙ ap (λ z. t.Assign (more (t.Pair b w) z.0) z.1) u.tree;
      rest = u.rest;
    }

pub another_value : (ts : List Lexeme) {next mid rest : List Lexeme} {a v : Node t.arg} {x : Many t.pair × Node t.cmd} → begins_first ts ≡ true →
    begins_command ts ≡ true →
    Apart g.assigned ts → One (g.arg false) ts a (Equals ∷ next) → One (g.arg false) next v mid → One g.values mid x rest →
    Alike g.values ts (more (t.Pair a v) x.0, x.1) rest
another_value ts {v = v} {x = x} h b d o p l us y s (g.another_value {a = c} {v = w} k q r j) e =
    let m = o.same _ _ _ q e in let n = p.same _ _ _ r (tail m.rest) in let u = l.same _ _ _ j n.rest in
    record {
      tree = ap (λ z. (more (t.Pair z v) x.0, x.1)) m.tree ∙ ap (λ z. (more (t.Pair c z) x.0, x.1)) n.tree ∙ ap (λ z. (more (t.Pair c w) z.0, z.1)) u.tree;
      rest = u.rest;
    }
another_value ts h b d o p l us y s (g.values_alone k) e = let i = through begins_command e b k in absurd cc
another_value ts h b d o p l us y s (g.values_leading q) e = let i = through leads e (first_leads ts h) (leading_leads q) in absurd cc
another_value ts h b d o p l us y s (g.values_pipe (g.piped q r)) e = absurd (d _ _ _ q e)

pub values_alone : (rest : List Lexeme) → begins_command rest ≡ false → Alike g.values rest (none, t.Empty) rest
values_alone rest h us y s (g.another_value k q r j) e = let i = through begins_command e h (arg_starts q) in absurd cc
values_alone rest h us y s (g.values_alone k) e = record { tree = refl; rest = e }
values_alone rest h us y s (g.values_leading q) e = let i = through begins_command e h (leading_commands q) in absurd cc
values_alone rest h us y s (g.values_pipe q) e = let i = through begins_command e h (pipe_commands q) in absurd cc

pub values_leading : (ts : List Lexeme) {rest : List Lexeme} {c : Node t.cmd} → leads ts ≡ true → begins_command ts ≡ true →
    One (g.leading false) ts c rest → Alike g.values ts (none, c) rest
values_leading ts h b o us y s (g.another_value k q r j) e = let i = through leads e h (first_leads us k) in absurd cc
values_leading ts h b o us y s (g.values_alone k) e = let i = through begins_command e b k in absurd cc
values_leading ts h b o us y s (g.values_leading q) e = let m = o.same _ _ _ q e in record { tree = ap (λ z. (none, z)) m.tree; rest = m.rest }
values_leading ts h b o us y s (g.values_pipe q) e = let i = through leads e h (pipe_leads q) in absurd cc

pub values_pipe : (ts : List Lexeme) {rest : List Lexeme} {c : Node t.cmd} → leads ts ≡ false → begins_command ts ≡ true → One g.pipe ts c rest →
    Alike g.values ts (none, c) rest
values_pipe ts h b o us y s (g.another_value k q r j) e = absurd (o.apart _ _ _ (g.assignment k q r j) e)
values_pipe ts h b o us y s (g.values_alone k) e = let i = through begins_command e b k in absurd cc
values_pipe ts h b o us y s (g.values_leading q) e = let i = through leads e h (leading_leads q) in absurd cc
values_pipe ts h b o us y s (g.values_pipe q) e = let m = o.same _ _ _ q e in record { tree = ap (λ z. (none, z)) m.tree; rest = m.rest }

-- operands
pub leading_operand : (after_if : Bool) (ts : List Lexeme) {rest : List Lexeme} {c : Node t.cmd} → leads ts ≡ true →
    One (g.leading after_if) ts c rest → Alike (g.operand after_if) ts c rest
leading_operand f ts h o us y s (g.leading_operand q) e = let m = o.same _ _ _ q e in record { tree = m.tree; rest = m.rest }
leading_operand f ts h o us y s (g.assigned_operand q) e = let i = through leads e h (assigned_leads q) in absurd cc
leading_operand f ts h o us y s (g.pipe_operand q) e = let i = through leads e h (pipe_leads q) in absurd cc

pub assigned_operand : (after_if : Bool) (ts : List Lexeme) {rest : List Lexeme} {c : Node t.cmd} → leads ts ≡ false → One g.assigned ts c rest →
    Alike (g.operand after_if) ts c rest
assigned_operand f ts h o us y s (g.leading_operand q) e = let i = through leads e h (leading_leads q) in absurd cc
assigned_operand f ts h o us y s (g.assigned_operand q) e = let m = o.same _ _ _ q e in record { tree = m.tree; rest = m.rest }
assigned_operand f ts h o us y s (g.pipe_operand (g.piped q r)) e = absurd (o.apart _ _ _ q e)

pub pipe_operand : (after_if : Bool) (ts : List Lexeme) {rest : List Lexeme} {c : Node t.cmd} → leads ts ≡ false → One g.pipe ts c rest →
    Alike (g.operand after_if) ts c rest
pipe_operand f ts h o us y s (g.leading_operand q) e = let i = through leads e h (leading_leads q) in absurd cc
pipe_operand f ts h o us y s (g.assigned_operand q) e = absurd (o.apart _ _ _ q e)
pipe_operand f ts h o us y s (g.pipe_operand q) e = let m = o.same _ _ _ q e in record { tree = m.tree; rest = m.rest }

pub no_operand : (rest : List Lexeme) → begins_command rest ≡ false → Alike g.optional rest t.Empty rest
no_operand rest h us y s (g.no_operand k) e = record { tree = refl; rest = e }
no_operand rest h us y s (g.one_operand q) e = let i = through begins_command e h (operand_commands q) in absurd cc

pub one_operand : (ts : List Lexeme) {rest : List Lexeme} {c : Node t.cmd} → begins_command ts ≡ true → One (g.operand false) ts c rest →
    Alike g.optional ts c rest
one_operand ts h o us y s (g.no_operand k) e = let i = through begins_command e h k in absurd cc
one_operand ts h o us y s (g.one_operand q) e = let m = o.same _ _ _ q e in record { tree = m.tree; rest = m.rest }

-- commands
pub linked : (after_if : Bool) {ts mid rest : List Lexeme} {c : Node t.cmd} {ls : Many t.link} → One (g.operand after_if) ts c mid → One g.links mid ls rest →
    Alike (g.command after_if) ts (and_or c ls) rest
linked f {ls = ls} o p us y s (g.linked {c = d} q r) e =
    let m = o.same _ _ _ q e in let n = p.same _ _ _ r m.rest in
    record { tree = ap (λ z. and_or z ls) m.tree ∙ ap (and_or d) n.tree; rest = n.rest }

pub no_link : (rest : List Lexeme) → begins_link rest ≡ false → Alike g.links rest none rest
no_link rest h us y s (g.no_link k) e = record { tree = refl; rest = e }
no_link rest h us y s (g.and_link q r) e = let i = through begins_link e h refl in absurd cc
no_link rest h us y s (g.or_link q r) e = let i = through begins_link e h refl in absurd cc

pub and_link : (ts : List Lexeme) {mid rest : List Lexeme} {c : Node t.cmd} {ls : Many t.link} → One (g.operand false) (past_newlines ts) c mid →
    One g.links mid ls rest →
    Alike g.links (AndAnd ∷ ts) (more (t.Link And c) ls) rest
and_link ts o p us y s (g.no_link k) e = let i = through begins_link e refl k in absurd cc
and_link ts {ls = ls} o p us y s (g.and_link {c = d} q r) e =
    let m = o.same _ _ _ q (ap past_newlines (tail e)) in let n = p.same _ _ _ r m.rest in
    record { tree = ap (λ z. more (t.Link And z) ls) m.tree ∙ ap (more (t.Link And d)) n.tree; rest = n.rest }
and_link ts o p us y s (g.or_link q r) e = absurd cc

pub or_link : (ts : List Lexeme) {mid rest : List Lexeme} {c : Node t.cmd} {ls : Many t.link} → One (g.operand false) (past_newlines ts) c mid →
    One g.links mid ls rest →
    Alike g.links (OrOr ∷ ts) (more (t.Link Or c) ls) rest
or_link ts o p us y s (g.no_link k) e = let i = through begins_link e refl k in absurd cc
or_link ts {ls = ls} o p us y s (g.or_link {c = d} q r) e =
    let m = o.same _ _ _ q (ap past_newlines (tail e)) in let n = p.same _ _ _ r m.rest in
    record { tree = ap (λ z. more (t.Link Or z) ls) m.tree ∙ ap (more (t.Link Or d)) n.tree; rest = n.rest }
or_link ts o p us y s (g.and_link q r) e = absurd cc

-- bodies of control forms
pub no_body : (ts : List Lexeme) → begins_command (past_newlines ts) ≡ false → Alike g.body ts t.Empty (past_newlines ts)
no_body ts h us y s (g.no_body k l) e = record { tree = refl; rest = ap past_newlines e }
no_body ts h us y s (g.one_body q) e = let i = through begins_command (ap past_newlines e) h (command_commands q) in absurd cc

pub one_body : (ts : List Lexeme) {rest : List Lexeme} {c : Node t.cmd} → begins_command (past_newlines ts) ≡ true →
    One (g.command false) (past_newlines ts) c rest → Alike g.body ts c rest
one_body ts h o us y s (g.no_body k l) e = let i = through begins_command (ap past_newlines e) h k in absurd cc
one_body ts h o us y s (g.one_body q) e = let m = o.same _ _ _ q (ap past_newlines e) in record { tree = m.tree; rest = m.rest }
