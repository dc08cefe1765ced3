-- Lists of commands, and the cases of a switch, have one tree.
use Rattle.std.proofs.Common.{◌≡◌, ℕ, Bool, true, false, List, ◌∷◌, refl, sym, ap, subst, ◌∙◌}
use Rattle.rc_model.specs.Syntax.Tokens.{Lexeme, Word, Semicolon, Ampersand, Newline, RightBrace}
use Rattle.rc_model.specs.Syntax.Tree.{Node, Many, none, more}
use Rattle.rc_model.specs.Syntax.Tree as t
use Rattle.rc_model.specs.Syntax.Grammar.{Phrase, past_caret, is_if, begins_command, closes, ends}
use Rattle.rc_model.specs.Syntax.Grammar as g
use Rattle.law_syntax.proofs.Same.{Alike, One, through, tail}
use Rattle.law_syntax.proofs.Beginnings.{command_commands}

-- a list doesn't end at a `;` or a newline
more_semicolon : (in_switch : Bool) (ts us : List Lexeme) → ends in_switch ts ≡ true → ts ≡ Semicolon ∷ us → ⊥
more_semicolon true ts us h e = let i = through (ends true) e h refl in absurd cc
more_semicolon false ts us h e = let i = through (ends false) e h refl in absurd cc

more_newline : (in_switch : Bool) (ts us : List Lexeme) → ends in_switch ts ≡ true → ts ≡ Newline ∷ us → ⊥
more_newline true ts us h e = let i = through (ends true) e h refl in absurd cc
more_newline false ts us h e = let i = through (ends false) e h refl in absurd cc

pub no_item : (in_switch after_if : Bool) (rest : List Lexeme) → ends in_switch rest ≡ true → Alike (g.items in_switch after_if) rest none rest
no_item b f rest h us y s (g.no_item k) e = record { tree = refl; rest = e }
no_item b f rest h us y s (g.semicolon_item q) e = absurd (more_semicolon b rest _ h e)
no_item b f rest h us y s (g.newline_item q) e = absurd (more_newline b rest _ h e)
no_item b f rest h us y s (g.one_item k q r) e = let i = through (ends b) e h k in absurd cc

pub semicolon_item : (in_switch after_if : Bool) {ts rest : List Lexeme} {is : Many t.item} → One (g.items in_switch after_if) ts is rest →
    Alike (g.items in_switch after_if) (Semicolon ∷ ts) is rest
semicolon_item b f o us y s (g.no_item k) e = absurd (more_semicolon b us _ k (sym e))
semicolon_item b f o us y s (g.semicolon_item q) e = let m = o.same _ _ _ q (tail e) in record { tree = m.tree; rest = m.rest }
semicolon_item b f o us y s (g.newline_item q) e = absurd cc
semicolon_item b f o us y s (g.one_item k q r) e = let i = through begins_command e refl (command_commands q) in absurd cc

pub newline_item : (in_switch after_if : Bool) {ts rest : List Lexeme} {is : Many t.item} → One (g.items in_switch after_if) ts is rest →
    Alike (g.items in_switch after_if) (Newline ∷ ts) is rest
newline_item b f o us y s (g.no_item k) e = absurd (more_newline b us _ k (sym e))
newline_item b f o us y s (g.semicolon_item q) e = absurd cc
newline_item b f o us y s (g.newline_item q) e = let m = o.same _ _ _ q (tail e) in record { tree = m.tree; rest = m.rest }
newline_item b f o us y s (g.one_item k q r) e = let i = through begins_command e refl (command_commands q) in absurd cc

pub one_item : (in_switch after_if : Bool) (ts : List Lexeme) {mid rest : List Lexeme} {c : Node t.cmd} {x : Bool × Many t.item} →
    ends in_switch ts ≡ false → begins_command ts ≡ true →
    One (g.command after_if) ts c mid → One (g.after in_switch (is_if c)) mid x rest → Alike (g.items in_switch after_if) ts (more (t.Item c x.0) x.1) rest
one_item b f ts h l o p us y s (g.no_item k) e = let i = through (ends b) e h k in absurd cc
one_item b f ts h l o p us y s (g.semicolon_item q) e = let i = through begins_command e l refl in absurd cc
one_item b f ts h l o p us y s (g.newline_item q) e = let i = through begins_command e l refl in absurd cc
one_item b f ts {c = c} {x = x} h l o p us y s (g.one_item {mid = next} {rest = end} {c = d} {x = z} k q r) e =
    let m = o.same _ _ _ q e in
    let n = p.same _ _ _ (subst (λ u. Phrase (g.after b (is_if u)) next z end) (sym m.tree) r) m.rest in
    record { tree = ap (λ u. more (t.Item u x.0) x.1) m.tree ∙ ap (λ u. more (t.Item d u.0) u.1) n.tree; rest = n.rest }

-- what follows an item
pub after_last : (in_switch after_if : Bool) (rest : List Lexeme) → closes rest ≡ true → Alike (g.after in_switch after_if) rest (false, none) rest
after_last b f rest h us y s (g.after_last k) e = record { tree = refl; rest = e }
after_last b f rest h us y s (g.after_semicolon q) e = let i = through closes e h refl in absurd cc
after_last b f rest h us y s (g.after_newline q) e = let i = through closes e h refl in absurd cc
after_last b f rest h us y s (g.after_background q) e = let i = through closes e h refl in absurd cc

pub after_semicolon : (in_switch after_if : Bool) {ts rest : List Lexeme} {is : Many t.item} → One (g.items in_switch after_if) ts is rest →
    Alike (g.after in_switch after_if) (Semicolon ∷ ts) (false, is) rest
after_semicolon b f o us y s (g.after_last k) e = let i = through closes e refl k in absurd cc
after_semicolon b f o us y s (g.after_semicolon q) e = let m = o.same _ _ _ q (tail e) in record { tree = ap (λ z. (false, z)) m.tree; rest = m.rest }
after_semicolon b f o us y s q e = absurd cc

pub after_newline : (in_switch after_if : Bool) {ts rest : List Lexeme} {is : Many t.item} → One (g.items in_switch after_if) ts is rest →
    Alike (g.after in_switch after_if) (Newline ∷ ts) (false, is) rest
after_newline b f o us y s (g.after_last k) e = let i = through closes e refl k in absurd cc
after_newline b f o us y s (g.after_newline q) e = let m = o.same _ _ _ q (tail e) in record { tree = ap (λ z. (false, z)) m.tree; rest = m.rest }
after_newline b f o us y s q e = absurd cc

pub after_background : (in_switch after_if : Bool) {ts rest : List Lexeme} {is : Many t.item} → One (g.items in_switch false) ts is rest →
    Alike (g.after in_switch after_if) (Ampersand ∷ ts) (true, is) rest
after_background b f o us y s (g.after_last k) e = let i = through closes e refl k in absurd cc
after_background b f o us y s (g.after_background q) e = let m = o.same _ _ _ q (tail e) in record { tree = ap (λ z. (true, z)) m.tree; rest = m.rest }
after_background b f o us y s q e = absurd cc

-- cases
pub no_branch : (rest : List Lexeme) → Alike g.branches (RightBrace ∷ rest) none (RightBrace ∷ rest)
no_branch rest us y s g.no_branch e = record { tree = refl; rest = e }
no_branch rest us y s q e = absurd cc

pub semicolon_branch : {ts rest : List Lexeme} {bs : Many t.branch} → One g.branches ts bs rest → Alike g.branches (Semicolon ∷ ts) bs rest
semicolon_branch o us y s (g.semicolon_branch q) e = let m = o.same _ _ _ q (tail e) in record { tree = m.tree; rest = m.rest }
semicolon_branch o us y s q e = absurd cc

pub newline_branch : {ts rest : List Lexeme} {bs : Many t.branch} → One g.branches ts bs rest → Alike g.branches (Newline ∷ ts) bs rest
newline_branch o us y s (g.newline_branch q) e = let m = o.same _ _ _ q (tail e) in record { tree = m.tree; rest = m.rest }
newline_branch o us y s q e = absurd cc

pub one_branch : (text : List ℕ) {ts mid next rest : List Lexeme} {as' : Many t.arg} {is : Many t.item} {bs : Many t.branch} →
    One g.words (past_caret ts) as' mid →
    One (g.items true false) mid is next → One g.branches next bs rest → Alike g.branches (Word text ∷ ts) (more (t.Branch as' (t.Seq is)) bs) rest
one_branch text {is = is} {bs = bs} o p l us y s (g.one_branch {as' = vs} {is = js} k q j r w) e =
    let m = o.same _ _ _ q (ap past_caret (tail e)) in let n = p.same _ _ _ r m.rest in let u = l.same _ _ _ w n.rest in
    record {
      tree = ap (λ z. more (t.Branch z (t.Seq is)) bs) m.tree ∙ ap (λ z. more (t.Branch vs (t.Seq z)) bs) n.tree ∙ ap (more (t.Branch vs (t.Seq js))) u.tree;
      rest = u.rest;
    }
one_branch text o p l us y s q e = absurd cc
