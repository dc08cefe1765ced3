-- What is read has at most 64 stages in each pipeline: names, arguments, redirections, the words of a simple command and lists in brackets.
use Rattle.std.proofs.Common.{◌≡◌, ℕ, zero, suc, ◌≤◌, max, Bool, true, false, List, ◌∷◌, length, Option, Some, None, Ok, Err, if◌then◌else◌, refl, arith}
use Rattle.rc_model.specs.Syntax.Tokens.{Lexeme, Word, Quoted, Newline, LeftParen, RightParen, LeftBrace, RightBrace, Backquote, Redirection, CopyTo}
use Rattle.rc_model.specs.Syntax.Tokens.{HereDoc, Dollar, DollarCount, DollarFlat, Name, Subscript}
use Rattle.rc_model.specs.Syntax.Tree.{Sort, Node, Many, none, more, count, snoc}
use Rattle.rc_model.specs.Syntax.Tree as t
use Rattle.rc_model.specs.Syntax.WellFormed.{most_stages, most_stages_in}
use Rattle.rc_model.specs.Syntax.HereDocs.{pieces_of}
use Rattle.rc_model.specs.Syntax.Grammar.{past_blanks, after_caret, concat_of, redirect, and_or, begins_arg, begins_redir}
use Rattle.rc_model.specs.Mirrors.Descent as d
use Rattle.rc_model.specs.Mirrors.Descent.{Read, Reader, Readers, ◌>>=◌, Opening, Staged, Named}

-- what is read is narrow, by its width
abbrev FewIn : {A : Type 0} → (A → ℕ) → Read A → Type 0
FewIn width (Ok y) = width y.0 ≤ 64
FewIn width (Err e) = Unit {0}

pub record Few {A : Type 0} (width : A → ℕ) (o : Read A) : Type 0 where
  pub few : FewIn width o

-- the widths of what is read
abbrev both_wide : Many t.arg × Many t.redir → ℕ
both_wide x = max (most_stages_in x.0) (most_stages_in x.1)

abbrev pub piped_wide : Node t.cmd × Bool → ℕ
piped_wide x = most_stages x.0

abbrev pub opening_wide : Opening → ℕ
opening_wide (Staged c) = most_stages c
opening_wide (Named a) = most_stages a

abbrev pub end_wide : Bool → ℕ
end_wide b = 0

-- steps
pub bind : {A B : Type 0} {v : A → ℕ} {w : B → ℕ} (o : Read A) (f : A × List Lexeme → Read B) → Few v o → ((y : A × List Lexeme) → v y.0 ≤ 64 → Few w (f y)) → Few w (o >>= f)
bind (Ok y) f m n = n y m.few
bind (Err e) f m n = record { few = tt }

pub either : {A : Type 0} {w : A → ℕ} (b : Bool) (r s : Read A) → (b ≡ true → Few w r) → Few w s → Few w (if b then r else s)
either true r s m n = m refl
either false r s m n = n

-- lists and commands that are put together
pub few_snoc : {s : Sort} (ns : Many s) (n : Node s) → most_stages_in ns ≤ 64 → most_stages n ≤ 64 → most_stages_in (snoc ns n) ≤ 64
few_snoc none n h k = omega arith
few_snoc (more m ns) n h k = let r = few_snoc ns n (omega arith) k in omega arith

few_concat : (a : Node t.arg) (as' : Many t.arg) → most_stages a ≤ 64 → most_stages_in as' ≤ 64 → most_stages (concat_of a as') ≤ 64
few_concat a none h k = h
few_concat a (more b bs) h k = omega arith

pub few_redirect : (rs : Many t.redir) (c : Node t.cmd) → most_stages_in rs ≤ 64 → most_stages c ≤ 64 → most_stages (redirect rs c) ≤ 64
few_redirect none c h k = k
few_redirect (more r rs) c h k = omega arith

pub few_links : (c : Node t.cmd) (ls : Many t.link) → most_stages c ≤ 64 → most_stages_in ls ≤ 64 → most_stages (and_or c ls) ≤ 64
few_links c none h k = h
few_links c (more l ls) h k = omega arith

pub few_pipeline : (ss : Many t.stage) (c : Node t.cmd) → count ss ≤ 63 → most_stages_in ss ≤ 64 → most_stages c ≤ 64 → most_stages (d.pipeline_of ss c) ≤ 64
few_pipeline none c n h k = k
few_pipeline (more s ss) c n h k = omega arith

few_here : (quoted : Bool) (text : List ℕ) → most_stages (t.Here (pieces_of quoted text)) ≤ 64
few_here quoted text = omega arith

-- what is read one level deeper
pub record Small (r : Readers) : Type 0 where
  pub name : (ts : List Lexeme) → Few most_stages (r d.a_name ts)
  pub part : (inside : Bool) (ts : List Lexeme) → Few most_stages (r (d.a_part inside) ts)
  pub operand : (ts : List Lexeme) → Few most_stages (r d.an_operand ts)
  pub piped : (ts : List Lexeme) → Few piped_wide (r d.a_piped ts)
  pub command : (f : Bool) (ts : List Lexeme) → Few most_stages (r (d.a_command f) ts)
  pub list : (s : Bool) (ts : List Lexeme) → Few most_stages_in (r (d.a_list s) ts)

abbrev SmallPart : Reader (Node t.arg) → Type 0
SmallPart p = (ts : List Lexeme) → Few most_stages (p ts)

pub name_few : (r : Readers) → Small r → (ts : List Lexeme) → Few most_stages (d.name_by r ts)
unfolding d.name_by
name_few r s (Name text ∷ ts) = record { few = omega arith }
name_few r s (Quoted text ∷ ts) = record { few = omega arith }
name_few r s (Dollar ∷ ts) = bind (r d.a_name ts) _ (s.name ts) (λ n h. record { few = h })
name_few r s ts = record { few = tt }

-- arguments
parts_turn_few : (p : Reader (Node t.arg)) → SmallPart p → (inside : Bool) (go_on : Many t.arg → Reader (Many t.arg)) →
    ((front : Many t.arg) (ts : List Lexeme) → most_stages_in front ≤ 64 → Few most_stages_in (go_on front ts)) →
    (front : Many t.arg) (ts : List Lexeme) (o : Option (List Lexeme)) → most_stages_in front ≤ 64 → Few most_stages_in (d.parts_turn p inside go_on front ts o)
parts_turn_few p s inside go_on goes front ts None h = record { few = h }
parts_turn_few p s inside go_on goes front ts (Some next) h =
    bind (p (past_blanks inside next)) _ (s (past_blanks inside next)) (λ a k. goes (snoc front a.0) a.1 (few_snoc front a.0 h k))

parts_from_few : (p : Reader (Node t.arg)) → SmallPart p → (inside : Bool) (k : ℕ) (front : Many t.arg) (ts : List Lexeme) → most_stages_in front ≤ 64 →
    Few most_stages_in (d.parts_from p inside k front ts)
unfolding d.parts_from
parts_from_few p s inside zero front ts h = record { few = h }
parts_from_few p s inside (suc k) front ts h =
    parts_turn_few p s inside (λ as' u. d.parts_from p inside k as' u) (parts_from_few p s inside k) front ts (after_caret (past_blanks inside ts)) h

pub arg_few : (p : Reader (Node t.arg)) → SmallPart p → (inside : Bool) (ts : List Lexeme) → Few most_stages (d.arg_by p inside ts)
unfolding d.arg_by d.parts_by
arg_few p s inside ts =
    bind (p ts) _ (s ts) (λ a h. bind (d.parts_by p inside a.1) _ (parts_from_few p s inside (length a.1) none a.1 (omega arith))
    (λ as' k. record { few = few_concat a.0 as'.0 h k }))

members_turn_few : (p : Reader (Node t.arg)) → SmallPart p → (go_on : Many t.arg → Reader (Many t.arg)) →
    ((front : Many t.arg) (ts : List Lexeme) → most_stages_in front ≤ 64 → Few most_stages_in (go_on front ts)) →
    (front : Many t.arg) (ts : List Lexeme) → most_stages_in front ≤ 64 → Few most_stages_in (d.members_turn p go_on front ts)
members_turn_few p s go_on goes front (RightParen ∷ ts) h = record { few = h }
members_turn_few p s go_on goes front (Newline ∷ ts) h = goes front ts h
members_turn_few p s go_on goes front ts h = bind (d.arg_by p true ts) _ (arg_few p s true ts) (λ a k. goes (snoc front a.0) a.1 (few_snoc front a.0 h k))

members_from_few : (p : Reader (Node t.arg)) → SmallPart p → (k : ℕ) (front : Many t.arg) (ts : List Lexeme) → most_stages_in front ≤ 64 → Few most_stages_in (d.members_from p k front ts)
unfolding d.members_from
members_from_few p s zero front ts h = record { few = tt }
members_from_few p s (suc k) front ts h = members_turn_few p s (λ as' u. d.members_from p k as' u) (members_from_few p s k) front ts h

pub members_few : (p : Reader (Node t.arg)) → SmallPart p → (ts : List Lexeme) → Few most_stages_in (d.members_by p ts)
unfolding d.members_by
members_few p s ts = members_from_few p s (length ts) none ts (omega arith)

words_from_few : (p : Reader (Node t.arg)) → SmallPart p → (k : ℕ) (front : Many t.arg) (ts : List Lexeme) → most_stages_in front ≤ 64 → Few most_stages_in (d.words_from p k front ts)
unfolding d.words_from
words_from_few p s zero front ts h = record { few = h }
words_from_few p s (suc k) front ts h =
    either (begins_arg ts) _ _ (λ e. bind (d.arg_by p false ts) _ (arg_few p s false ts) (λ a b. words_from_few p s k (snoc front a.0) a.1 (few_snoc front a.0 h b)))
    (record { few = h })

pub words_few : (p : Reader (Node t.arg)) → SmallPart p → (ts : List Lexeme) → Few most_stages_in (d.words_by p ts)
unfolding d.words_by
words_few p s ts = words_from_few p s (length ts) none ts (omega arith)

pub redir_few : (p : Reader (Node t.arg)) → SmallPart p → (ts : List Lexeme) → Few most_stages (d.redir_by p ts)
unfolding d.redir_by
redir_few p s (Redirection mode slot ∷ ts) = bind (d.arg_by p false ts) _ (arg_few p s false ts) (λ a h. record { few = h })
redir_few p s (CopyTo to from ∷ ts) = record { few = omega arith }
redir_few p s (HereDoc quoted text ∷ ts) = record { few = few_here quoted text }
redir_few p s ts = record { few = tt }

redirs_from_few : (p : Reader (Node t.arg)) → SmallPart p → (k : ℕ) (front : Many t.redir) (ts : List Lexeme) → most_stages_in front ≤ 64 → Few most_stages_in (d.redirs_from p k front ts)
unfolding d.redirs_from
redirs_from_few p s zero front ts h = record { few = h }
redirs_from_few p s (suc k) front ts h =
    either (begins_redir ts) _ _ (λ e. bind (d.redir_by p ts) _ (redir_few p s ts) (λ r b. redirs_from_few p s k (snoc front r.0) r.1 (few_snoc front r.0 h b)))
    (record { few = h })

pub redirs_few : (p : Reader (Node t.arg)) → SmallPart p → (ts : List Lexeme) → Few most_stages_in (d.redirs_by p ts)
unfolding d.redirs_by
redirs_few p s ts = redirs_from_few p s (length ts) none ts (omega arith)

simple_from_few : (p : Reader (Node t.arg)) → SmallPart p → (k : ℕ) (ws : Many t.arg) (rs : Many t.redir) (ts : List Lexeme) → most_stages_in ws ≤ 64 → most_stages_in rs ≤ 64 →
    Few both_wide (d.simple_from p k ws rs ts)
unfolding d.simple_from
simple_from_few p s zero ws rs ts h j = record { few = omega arith }
simple_from_few p s (suc k) ws rs ts h j =
    either (begins_arg ts) _ _ (λ e. bind (d.arg_by p false ts) _ (arg_few p s false ts) (λ a b. simple_from_few p s k (snoc ws a.0) rs a.1 (few_snoc ws a.0 h b) j))
    (either (begins_redir ts) _ _ (λ e. bind (d.redir_by p ts) _ (redir_few p s ts) (λ r b. simple_from_few p s k ws (snoc rs r.0) r.1 h (few_snoc rs r.0 j b)))
    (record { few = omega arith }))

pub simple_few : (p : Reader (Node t.arg)) → SmallPart p → (ts : List Lexeme) → Few both_wide (d.simple_by p ts)
unfolding d.simple_by
simple_few p s ts = simple_from_few p s (length ts) none none ts (omega arith) (omega arith)

-- lists in braces and parentheses
braced_few : (o : Read (Many t.item)) → Few most_stages_in o → Few most_stages (d.closed_by_brace o)
braced_few (Ok (is, RightBrace ∷ ts)) m = record { few = m.few }
braced_few (Ok y) m = record { few = tt }
braced_few (Err e) m = record { few = tt }

parenthesised_few : (o : Read (Many t.item)) → Few most_stages_in o → Few most_stages (d.closed_by_paren o)
parenthesised_few (Ok (is, RightParen ∷ ts)) m = record { few = m.few }
parenthesised_few (Ok y) m = record { few = tt }
parenthesised_few (Err e) m = record { few = tt }

pub brace_few : (r : Readers) → Small r → (ts : List Lexeme) → Few most_stages (d.brace_by r ts)
unfolding d.brace_by
brace_few r s (LeftBrace ∷ ts) = braced_few (r (d.a_list false) ts) (s.list false ts)
brace_few r s ts = record { few = tt }

pub paren_few : (r : Readers) → Small r → (ts : List Lexeme) → Few most_stages (d.paren_by r ts)
unfolding d.paren_by
paren_few r s (LeftParen ∷ ts) = parenthesised_few (r (d.a_list false) ts) (s.list false ts)
paren_few r s ts = record { few = tt }

-- a part of an argument
value_few : (r : Readers) → Small r → (n : Node t.arg) (ts : List Lexeme) → most_stages n ≤ 64 → Few most_stages (d.value_by r n ts)
value_few r s n (Subscript ∷ ts) h = bind (d.members_by (r (d.a_part true)) ts) _ (members_few (r (d.a_part true)) (s.part true) ts) (λ as' k. record { few = omega arith })
value_few r s n ts h = record { few = h }

dollar_few : (r : Readers) → Small r → (ts : List Lexeme) → Few most_stages (d.dollar_by r ts)
unfolding d.dollar_by
dollar_few r s ts = bind (r d.a_name ts) _ (s.name ts) (λ n h. value_few r s n.0 n.1 h)

pub part_few : (r : Readers) → Small r → (inside : Bool) (ts : List Lexeme) → Few most_stages (d.part_by r inside ts)
unfolding d.part_by
part_few r s inside (Word text ∷ ts) = record { few = omega arith }
part_few r s inside (Quoted text ∷ ts) = record { few = omega arith }
part_few r s inside (LeftParen ∷ ts) = bind (d.members_by (r (d.a_part true)) ts) _ (members_few (r (d.a_part true)) (s.part true) ts) (λ as' h. record { few = h })
part_few r s inside (Backquote ∷ ts) = bind (d.brace_by r (past_blanks inside ts)) _ (brace_few r s (past_blanks inside ts)) (λ c h. record { few = h })
part_few r s inside (Dollar ∷ ts) = dollar_few r s ts
part_few r s inside (DollarCount ∷ ts) = bind (r d.a_name ts) _ (s.name ts) (λ n h. record { few = h })
part_few r s inside (DollarFlat ∷ ts) = bind (r d.a_name ts) _ (s.name ts) (λ n h. record { few = h })
part_few r s inside ts = record { few = tt }
