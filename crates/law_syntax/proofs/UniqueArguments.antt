-- Arguments, words and redirections have one tree.
use Rattle.std.proofs.Common.{◌≡◌, ℕ, Bool, true, false, List, ◌∷◌, Some, None, refl, sym, ap, ◌∙◌}
use Rattle.rc_model.specs.declared.call.Mode.{Mode}
use Rattle.rc_model.specs.Syntax.Tokens.{Lexeme, Word, Quoted, Newline, LeftParen, RightParen, Backquote, Redirection}
use Rattle.rc_model.specs.Syntax.Tokens.{CopyTo, HereDoc, Dollar, DollarCount, DollarFlat, Name, Subscript}
use Rattle.rc_model.specs.Syntax.Tree.{Node, Many, none, more}
use Rattle.rc_model.specs.Syntax.Tree as t
use Rattle.rc_model.specs.Syntax.HereDocs.{pieces_of}
use Rattle.rc_model.specs.Syntax.Grammar.{past_blanks, after_caret, concat_of, begins_arg, begins_redir, begins_subscript}
use Rattle.rc_model.specs.Syntax.Grammar as g
use Rattle.law_syntax.proofs.Same.{Alike, One}
use Rattle.law_syntax.proofs.Beginnings.{arg_begins, redir_begins, redir_no_arg}

-- names
pub bare_name : (text : List ℕ) (rest : List Lexeme) → Alike g.name (Name text ∷ rest) (t.Lit text false) rest
bare_name text rest us y s g.bare_name e = record { tree = cc; rest = cc }
bare_name text rest us y s q e = absurd cc

pub quoted_name : (text : List ℕ) (rest : List Lexeme) → Alike g.name (Quoted text ∷ rest) (t.Lit text true) rest
quoted_name text rest us y s g.quoted_name e = record { tree = cc; rest = cc }
quoted_name text rest us y s q e = absurd cc

pub named_name : {ts rest : List Lexeme} {n : Node t.arg} → One g.name ts n rest → Alike g.name (Dollar ∷ ts) (t.Var n) rest
named_name o us y s (g.named_name q) e = let m = o.same _ _ _ q cc in let i = m.tree in let j = m.rest in record { tree = cc; rest = cc }
named_name o us y s q e = absurd cc

-- parts
pub word_part : {inside : Bool} (text : List ℕ) (rest : List Lexeme) → Alike (g.part inside) (Word text ∷ rest) (t.Lit text false) rest
word_part text rest us y s g.word_part e = record { tree = cc; rest = cc }
word_part text rest us y s q e = absurd cc

pub quoted_part : {inside : Bool} (text : List ℕ) (rest : List Lexeme) → Alike (g.part inside) (Quoted text ∷ rest) (t.Lit text true) rest
quoted_part text rest us y s g.quoted_part e = record { tree = cc; rest = cc }
quoted_part text rest us y s q e = absurd cc

pub paren_part : {inside : Bool} {ts rest : List Lexeme} {as' : Many t.arg} → One g.members ts as' rest → Alike (g.part inside) (LeftParen ∷ ts) (t.Paren as') rest
paren_part o us y s (g.paren_part q) e = let m = o.same _ _ _ q cc in let i = m.tree in let j = m.rest in record { tree = cc; rest = cc }
paren_part o us y s q e = absurd cc

pub back_part : {inside : Bool} {ts rest : List Lexeme} {c : Node t.cmd} → One g.brace (past_blanks inside ts) c rest → Alike (g.part inside) (Backquote ∷ ts) (t.Back c) rest
back_part o us y s (g.back_part q) e = let m = o.same _ _ _ q cc in let i = m.tree in let j = m.rest in record { tree = cc; rest = cc }
back_part o us y s q e = absurd cc

no_subscript : (ts us : List Lexeme) → begins_subscript ts ≡ false → ts ≡ Subscript ∷ us → ⊥
no_subscript (Subscript ∷ ts) us h e = absurd cc
no_subscript ts us h e = absurd cc

pub var_part : {inside : Bool} {ts rest : List Lexeme} {n : Node t.arg} → One g.name ts n rest → begins_subscript rest ≡ false → Alike (g.part inside) (Dollar ∷ ts) (t.Var n) rest
var_part o h us y s (g.var_part q k) e = let m = o.same _ _ _ q cc in let i = m.tree in let j = m.rest in record { tree = cc; rest = cc }
var_part o h us y s (g.sub_part q r) e = let m = o.same _ _ _ q cc in absurd (no_subscript _ _ h m.rest)
var_part o h us y s q e = absurd cc

pub sub_part : {inside : Bool} {ts next rest : List Lexeme} {n : Node t.arg} {as' : Many t.arg} → One g.name ts n (Subscript ∷ next) → One g.members next as' rest →
    Alike (g.part inside) (Dollar ∷ ts) (t.Sub n as') rest
sub_part o p us y s (g.var_part q k) e = let m = o.same _ _ _ q cc in absurd (no_subscript _ _ k (sym m.rest))
sub_part o p us y s (g.sub_part q r) e =
    let m = o.same _ _ _ q cc in let i = m.tree in let j = m.rest in
    let n = p.same _ _ _ r cc in let k = n.tree in let l = n.rest in
    record { tree = cc; rest = cc }
sub_part o p us y s q e = absurd cc

pub count_part : {inside : Bool} {ts rest : List Lexeme} {n : Node t.arg} → One g.name ts n rest → Alike (g.part inside) (DollarCount ∷ ts) (t.Count n) rest
count_part o us y s (g.count_part q) e = let m = o.same _ _ _ q cc in let i = m.tree in let j = m.rest in record { tree = cc; rest = cc }
count_part o us y s q e = absurd cc

pub flat_part : {inside : Bool} {ts rest : List Lexeme} {n : Node t.arg} → One g.name ts n rest → Alike (g.part inside) (DollarFlat ∷ ts) (t.Flat n) rest
flat_part o us y s (g.flat_part q) e = let m = o.same _ _ _ q cc in let i = m.tree in let j = m.rest in record { tree = cc; rest = cc }
flat_part o us y s q e = absurd cc

-- arguments
pub joined : {inside : Bool} {ts mid rest : List Lexeme} {a : Node t.arg} {as' : Many t.arg} → One (g.part inside) ts a mid → One (g.parts inside) mid as' rest →
    Alike (g.arg inside) ts (concat_of a as') rest
joined o p us y s (g.joined q r) e =
    let m = o.same _ _ _ q e in let n = p.same _ _ _ r m.rest in
    let i = m.tree in let j = n.tree in record { tree = cc; rest = n.rest }

past_caret_none : (inside : Bool) (ts us next : List Lexeme) → after_caret (past_blanks inside ts) ≡ None →
    after_caret (past_blanks inside us) ≡ Some next → ts ≡ us → ⊥
past_caret_none inside ts us next h k e = let i = ap (λ z. after_caret (past_blanks inside z)) e in absurd cc

same_caret : (inside : Bool) (ts us next after : List Lexeme) → after_caret (past_blanks inside ts) ≡ Some next →
    after_caret (past_blanks inside us) ≡ Some after → ts ≡ us →
    past_blanks inside next ≡ past_blanks inside after
same_caret inside ts us next after h k e =
    let i = ap (λ z. after_caret (past_blanks inside z)) e in let j : next ≡ after = cc in ap (past_blanks inside) j

pub no_caret : (inside : Bool) (rest : List Lexeme) → after_caret (past_blanks inside rest) ≡ None → Alike (g.parts inside) rest none rest
no_caret inside rest h us y s (g.no_caret k) e = record { tree = cc; rest = e }
no_caret inside rest h us y s (g.caret k q r) e = absurd (past_caret_none inside _ _ _ h k e)

pub caret : (inside : Bool) (ts next : List Lexeme) {mid rest : List Lexeme} {a : Node t.arg} {as' : Many t.arg} →
    after_caret (past_blanks inside ts) ≡ Some next →
    One (g.part inside) (past_blanks inside next) a mid → One (g.parts inside) mid as' rest → Alike (g.parts inside) ts (more a as') rest
caret inside ts next h o p us y s (g.no_caret k) e = absurd (past_caret_none inside _ _ _ k h (sym e))
caret inside ts next h o p us y s (g.caret k q r) e =
    let m = o.same _ _ _ q (same_caret inside _ _ _ _ h k e) in let n = p.same _ _ _ r m.rest in
    let i = m.tree in let j = n.tree in record { tree = cc; rest = n.rest }

-- arguments up to a `)`
no_arg : (ts us : List Lexeme) → begins_arg ts ≡ true → begins_arg us ≡ false → us ≡ ts → ⊥
no_arg ts us h k e = let i = ap begins_arg e in absurd cc

pub no_member : (rest : List Lexeme) → Alike g.members (RightParen ∷ rest) none rest
no_member rest us y s g.no_member e = record { tree = cc; rest = cc }
no_member rest us y s (g.member q r) e = absurd (no_arg _ _ (arg_begins q) refl e)
no_member rest us y s q e = absurd cc

pub blank_member : {ts rest : List Lexeme} {as' : Many t.arg} → One g.members ts as' rest → Alike g.members (Newline ∷ ts) as' rest
blank_member o us y s (g.blank_member q) e = let m = o.same _ _ _ q cc in record { tree = m.tree; rest = m.rest }
blank_member o us y s (g.member q r) e = absurd (no_arg _ _ (arg_begins q) refl e)
blank_member o us y s q e = absurd cc

pub member : {ts mid rest : List Lexeme} {a : Node t.arg} {as' : Many t.arg} → begins_arg ts ≡ true → One (g.arg true) ts a mid → One g.members mid as' rest →
    Alike g.members ts (more a as') rest
member h o p us y s g.no_member e = absurd (no_arg _ _ h refl (sym e))
member h o p us y s (g.blank_member q) e = absurd (no_arg _ _ h refl (sym e))
member h o p us y s (g.member q r) e =
    let m = o.same _ _ _ q e in let n = p.same _ _ _ r m.rest in
    let i = m.tree in let j = n.tree in record { tree = cc; rest = n.rest }

-- words
pub no_word : (rest : List Lexeme) → begins_arg rest ≡ false → Alike g.words rest none rest
no_word rest h us y s (g.no_word k) e = record { tree = cc; rest = e }
no_word rest h us y s (g.word q r) e = absurd (no_arg _ _ (arg_begins q) h e)

pub word : {ts mid rest : List Lexeme} {a : Node t.arg} {as' : Many t.arg} → begins_arg ts ≡ true → One (g.arg false) ts a mid → One g.words mid as' rest →
    Alike g.words ts (more a as') rest
word h o p us y s (g.no_word k) e = absurd (no_arg _ _ h k (sym e))
word h o p us y s (g.word q r) e =
    let m = o.same _ _ _ q e in let n = p.same _ _ _ r m.rest in
    let i = m.tree in let j = n.tree in record { tree = cc; rest = n.rest }

-- redirections
pub open_redir : (mode : Mode) (slot : ℕ) {ts rest : List Lexeme} {a : Node t.arg} → One (g.arg false) ts a rest →
    Alike g.redir (Redirection mode slot ∷ ts) (t.Open mode slot a) rest
open_redir mode slot o us y s (g.open_redir q) e = let m = o.same _ _ _ q cc in let i = m.tree in let j = m.rest in record { tree = cc; rest = cc }
open_redir mode slot o us y s q e = absurd cc

pub copy_redir : (to from : ℕ) (rest : List Lexeme) → Alike g.redir (CopyTo to from ∷ rest) (t.Copy to from) rest
copy_redir to from rest us y s g.copy_redir e = record { tree = cc; rest = cc }
copy_redir to from rest us y s q e = absurd cc

same_here : (quoted marked : Bool) (text body : List ℕ) (ts us : List Lexeme) → HereDoc quoted text ∷ ts ≡ HereDoc marked body ∷ us →
    ◌≡◌ {A = Node t.redir} (t.Here (pieces_of quoted text)) (t.Here (pieces_of marked body))
same_here quoted marked text body ts us e =
    let i : quoted ≡ marked = cc in let j : text ≡ body = cc in
    ap (λ z. t.Here (pieces_of z text)) i ∙ ap (λ z. t.Here (pieces_of marked z)) j

pub here_redir : (quoted : Bool) (text : List ℕ) (rest : List Lexeme) → Alike g.redir (HereDoc quoted text ∷ rest) (t.Here (pieces_of quoted text)) rest
here_redir quoted text rest us y s g.here_redir e = record { tree = same_here _ _ _ _ _ _ e; rest = cc }
here_redir quoted text rest us y s q e = absurd cc

no_redir_at : (ts us : List Lexeme) → begins_redir ts ≡ true → begins_redir us ≡ false → us ≡ ts → ⊥
no_redir_at ts us h k e = let i = ap begins_redir e in absurd cc

pub no_redir : (rest : List Lexeme) → begins_redir rest ≡ false → Alike g.redirs rest none rest
no_redir rest h us y s (g.no_redir k) e = record { tree = cc; rest = e }
no_redir rest h us y s (g.redir_more q r) e = absurd (no_redir_at _ _ (redir_begins q) h e)

pub redir_more : {ts mid rest : List Lexeme} {r : Node t.redir} {rs : Many t.redir} → begins_redir ts ≡ true → One g.redir ts r mid → One g.redirs mid rs rest →
    Alike g.redirs ts (more r rs) rest
redir_more h o p us y s (g.no_redir k) e = absurd (no_redir_at _ _ h k (sym e))
redir_more h o p us y s (g.redir_more q r) e =
    let m = o.same _ _ _ q e in let n = p.same _ _ _ r m.rest in
    let i = m.tree in let j = n.tree in record { tree = cc; rest = n.rest }

-- words and redirections
pub simple_end : (rest : List Lexeme) → begins_arg rest ≡ false → begins_redir rest ≡ false → Alike g.simple rest (none, none) rest
simple_end rest h k us y s (g.simple_end i j) e = record { tree = refl; rest = e }
simple_end rest h k us y s (g.simple_word q r) e = absurd (no_arg _ _ (arg_begins q) h e)
simple_end rest h k us y s (g.simple_redir q r) e = absurd (no_redir_at _ _ (redir_begins q) k e)

pub simple_word : {ts mid rest : List Lexeme} {a : Node t.arg} {x : Many t.arg × Many t.redir} → begins_arg ts ≡ true → One (g.arg false) ts a mid →
    One g.simple mid x rest →
    Alike g.simple ts (more a x.0, x.1) rest
simple_word h o p us y s (g.simple_end i j) e = absurd (no_arg _ _ h i (sym e))
simple_word {x = x} h o p us y s (g.simple_word {a = b} q r) e =
    let m = o.same _ _ _ q e in let n = p.same _ _ _ r m.rest in
    record { tree = ap (λ z. (more z x.0, x.1)) m.tree ∙ ap (λ z. (more b z.0, z.1)) n.tree; rest = n.rest }
simple_word h o p us y s (g.simple_redir q r) e = absurd (no_arg _ _ h (redir_no_arg _ (redir_begins q)) (sym e))

pub simple_redir : {ts mid rest : List Lexeme} {r : Node t.redir} {x : Many t.arg × Many t.redir} → begins_redir ts ≡ true → One g.redir ts r mid →
    One g.simple mid x rest →
    Alike g.simple ts (x.0, more r x.1) rest
simple_redir h o p us y s (g.simple_end i j) e = absurd (no_redir_at _ _ h j (sym e))
simple_redir h o p us y s (g.simple_word q r) e = absurd (no_arg _ _ (arg_begins q) (redir_no_arg _ h) e)
simple_redir {x = x} h o p us y s (g.simple_redir {r = b} q r) e =
    let m = o.same _ _ _ q e in let n = p.same _ _ _ r m.rest in
    record { tree = ap (λ z. (x.0, more z x.1)) m.tree ∙ ap (λ z. (z.0, more b z.1)) n.tree; rest = n.rest }
