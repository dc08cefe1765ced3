-- What the descent reads is a phrase, for the stages of a pipeline and for control forms.
use Rattle.std.proofs.Common.{◌≡◌, ℕ, zero, suc, Bool, true, false, List, ◌∷◌, length, Ok, inl, inr, if◌then◌else◌, refl, sym, ap, subst}
use Rattle.rc_model.specs.Syntax.Tokens.{Lexeme, Word, Semicolon, Newline, Equals, LeftParen, RightParen, LeftBrace, RightBrace}
use Rattle.rc_model.specs.Syntax.Tree.{Node, Many, none, more, snoc}
use Rattle.rc_model.specs.Syntax.Tree as t
use Rattle.rc_model.specs.Syntax.Grammar.{Phrase, keyword, is_plain, past_newlines, past_caret, redirect, begins_arg, begins_first, begins_brace, begins_command, begins_link, ends_case, is_case}
use Rattle.rc_model.specs.declared.syntax.Keyword.{Keyword}
use Rattle.rc_model.specs.Syntax.Grammar as g
use Rattle.rc_model.specs.Mirrors.Descent as d
use Rattle.rc_model.specs.Mirrors.Descent.{Read, Readers, Opening, Staged, Named}
use Rattle.law_syntax.proofs.Lists.{done, ok_same, bind_ok, if_ok, Adds, adds_none, adds_more, adds_same, all_added}
use Rattle.rc_model.specs.declared.syntax.Keyword.TheVariants.{At as AtWord, Bang as BangWord, Fn as FnWord, For as ForWord, If as IfWord}
use Rattle.rc_model.specs.declared.syntax.Keyword.TheVariants.{In as InWord, Match as MatchWord, Not as NotWord, Plain as NoKeyword}
use Rattle.rc_model.specs.declared.syntax.Keyword.TheVariants.{Switch as SwitchWord, While as WhileWord}
use Rattle.law_syntax.proofs.SoundnessOfArguments.{Sound, found, arg_sound, members_sound, words_sound, redir_sound, redirs_sound, simple_sound, brace_sound, paren_sound}
use Rattle.law_syntax.proofs.Beginnings.{arg_begins}
use Rattle.rc_model.specs.declared.fault.DescentFault.TheVariants as descent

-- the case lines of a switch
record IsBranch (ts : List Lexeme) (b : Node t.branch) (rest : List Lexeme) : Type 0 where
  patterns : Many t.arg
  mid : List Lexeme
  is : Many t.item
  words : Phrase g.words ts patterns mid
  ended : ends_case mid ≡ true
  items : Phrase (g.items true false) mid is rest
  whole : b ≡ t.Branch patterns (t.Seq is)

branch_sound : (r : Readers) → Sound r → (ts : List Lexeme) (x : Node t.branch × List Lexeme) → d.branch_by r ts ≡ Ok x → IsBranch ts x.0 x.1
unfolding d.branch_by
branch_sound r s ts x h =
    let w = bind_ok (d.words_by (r (d.a_part false)) ts) _ x h in
    let v = bind_ok (if ends_case w.0.1 then r (d.a_list true) w.0.1 else d.stops descent.Unexpected w.0.1) _ x w.2 in
    let e = ok_same (t.Branch w.0.0 (t.Seq v.0.0), v.0.1) x v.2 in
    elim (if_ok (ends_case w.0.1) _ _ v.0 v.1) [
      | inl b ↦ record {
        patterns = w.0.0;
        mid = w.0.1;
        is = v.0.0;
        words = words_sound (r (d.a_part false)) (s.part false) ts w.0 w.1;
        ended = b.0;
        items = subst (λ z. Phrase (g.items true false) w.0.1 v.0.0 z.1) e (s.list true w.0.1 v.0 b.1);
        whole = sym (ap (λ z. z.0) e);
      }
      | inr b ↦ absurd cc
    ]

branches_from_sound : (r : Readers) → Sound r → (k : ℕ) (front : Many t.branch) (ts : List Lexeme) (x : Many t.branch × List Lexeme) → d.branches_from r k front ts ≡ Ok x →
    Adds (λ bs rest. Phrase g.branches ts bs (RightBrace ∷ rest)) front x
unfolding d.branches_from
branches_from_sound r s zero front ts x h = absurd cc
branches_from_sound r s (suc k) front (RightBrace ∷ ts) x h = adds_none (λ bs rest. Phrase g.branches (RightBrace ∷ ts) bs (RightBrace ∷ rest)) front ts x g.no_branch h
branches_from_sound r s (suc k) front (Semicolon ∷ ts) x h = adds_same _ _ front x (λ bs q. g.semicolon_branch q) (branches_from_sound r s k front ts x h)
branches_from_sound r s (suc k) front (Newline ∷ ts) x h = adds_same _ _ front x (λ bs q. g.newline_branch q) (branches_from_sound r s k front ts x h)
branches_from_sound r s (suc k) front (Word text ∷ ts) x h = elim (if_ok (is_case text) _ _ x h) [
  | inl b ↦ (let w = bind_ok (d.branch_by r (past_caret ts)) _ x b.1 in
      let o = branch_sound r s (past_caret ts) w.0 w.1 in
      adds_more (λ bs rest. Phrase g.branches (Word text ∷ ts) bs (RightBrace ∷ rest)) (λ bs rest. Phrase g.branches w.0.1 bs (RightBrace ∷ rest)) front w.0.0 x
      (λ bs q. subst (λ z. Phrase g.branches (Word text ∷ ts) (more z bs) (RightBrace ∷ x.1)) (sym o.whole) (g.one_branch b.0 o.words o.ended o.items q))
      (branches_from_sound r s k (snoc front w.0.0) w.0.1 x w.2))
  | inr b ↦ absurd cc
]
branches_from_sound r s (suc k) front ts x h = absurd cc

branches_sound : (r : Readers) → Sound r → (ts : List Lexeme) (x : Many t.branch × List Lexeme) → d.branches_by r ts ≡ Ok x →
    (inner : List Lexeme) × (ts ≡ LeftBrace ∷ inner) × Phrase g.branches inner x.0 (RightBrace ∷ x.1)
unfolding d.branches_by
branches_sound r s (LeftBrace ∷ ts) x h = (ts, refl, all_added (λ bs rest. Phrase g.branches ts bs (RightBrace ∷ rest)) x (branches_from_sound r s (length ts) none ts x h))
branches_sound r s ts x h = absurd cc

-- the stages that begin with a keyword
switch_sound : (r : Readers) → Sound r → (text : List ℕ) (ts : List Lexeme) (x : Node t.cmd × List Lexeme) → keyword text ≡ SwitchWord → d.switch_by r (past_caret ts) ≡ Ok x →
    Phrase g.stage (Word text ∷ ts) x.0 x.1
unfolding d.switch_by
switch_sound r s text ts x k h =
    let w = bind_ok (d.arg_by (r (d.a_part false)) false (past_caret ts)) _ x h in
    let v = bind_ok (d.branches_by r (past_newlines w.0.1)) _ x w.2 in
    let u = bind_ok (d.redirs_by (r (d.a_part false)) v.0.1) _ x v.2 in
    let b = branches_sound r s (past_newlines w.0.1) v.0 v.1 in
    found g.stage (Word text ∷ ts) (redirect u.0.0 (t.Switch w.0.0 v.0.0), u.0.1) x
    (g.switch_stage k (arg_sound (r (d.a_part false)) false (s.part false) (past_caret ts) w.0 w.1) b.1 b.2 (redirs_sound (r (d.a_part false)) (s.part false) v.0.1 u.0 u.1)) u.2

match_sound : (r : Readers) → Sound r → (text : List ℕ) (ts : List Lexeme) (x : Node t.cmd × List Lexeme) → keyword text ≡ MatchWord → d.match_by r (past_caret ts) ≡ Ok x →
    Phrase g.stage (Word text ∷ ts) x.0 x.1
unfolding d.match_by
match_sound r s text ts x k h =
    let w = bind_ok (d.arg_by (r (d.a_part false)) false (past_caret ts)) _ x h in
    let v = bind_ok (d.words_by (r (d.a_part false)) w.0.1) _ x w.2 in
    found g.stage (Word text ∷ ts) (t.Match w.0.0 v.0.0, v.0.1) x
    (g.match_stage k (arg_sound (r (d.a_part false)) false (s.part false) (past_caret ts) w.0 w.1) (words_sound (r (d.a_part false)) (s.part false) w.0.1 v.0 v.1)) v.2

define_sound : (r : Readers) → Sound r → (text : List ℕ) (ts : List Lexeme) (x : Node t.cmd × List Lexeme) → keyword text ≡ FnWord → d.define_by r (past_caret ts) ≡ Ok x →
    Phrase g.stage (Word text ∷ ts) x.0 x.1
unfolding d.define_by
define_sound r s text ts x k h =
    let w = bind_ok (d.arg_by (r (d.a_part false)) false (past_caret ts)) _ x h in
    let v = bind_ok (d.words_by (r (d.a_part false)) w.0.1) _ x w.2 in
    let a = arg_sound (r (d.a_part false)) false (s.part false) (past_caret ts) w.0 w.1 in
    let as' = words_sound (r (d.a_part false)) (s.part false) w.0.1 v.0 v.1 in
    elim (if_ok (begins_brace v.0.1) _ _ x v.2) [
      | inl b ↦ (let u = bind_ok (d.brace_by r v.0.1) _ x b.1 in
          found g.stage (Word text ∷ ts) (t.Define (more w.0.0 v.0.0) u.0.0, u.0.1) x (g.define_stage k a as' (brace_sound r s v.0.1 u.0 u.1)) u.2)
      | inr b ↦ found g.stage (Word text ∷ ts) (t.Undefine (more w.0.0 v.0.0), v.0.1) x (g.undefine_stage k a as' b.0) b.1
    ]

block_sound : (r : Readers) → Sound r → (ts : List Lexeme) (x : Node t.cmd × List Lexeme) → d.block_by r ts ≡ Ok x → Phrase g.stage ts x.0 x.1
unfolding d.block_by
block_sound r s ts x h =
    let w = bind_ok (d.brace_by r ts) _ x h in
    let v = bind_ok (d.redirs_by (r (d.a_part false)) w.0.1) _ x w.2 in
    found g.stage ts (redirect v.0.0 (t.Brace w.0.0), v.0.1) x (g.brace_stage (brace_sound r s ts w.0 w.1) (redirs_sound (r (d.a_part false)) (s.part false) w.0.1 v.0 v.1)) v.2

-- a stage, or the name of an assignment with the `=` after it
abbrev pub IsOpening : List Lexeme → Opening → List Lexeme → Type 0
IsOpening ts (Staged c) rest = Phrase g.stage ts c rest
IsOpening ts (Named a) rest = (begins_first ts ≡ true) × Phrase (g.arg false) ts a (Equals ∷ rest)

found_opening : (ts : List Lexeme) (y x : Opening × List Lexeme) → IsOpening ts y.0 y.1 → done y ≡ Ok x → IsOpening ts x.0 x.1
found_opening ts y x p h = subst (λ z. IsOpening ts z.0 z.1) (ok_same y x h) p

staged_sound : (ts : List Lexeme) (o : Read (Node t.cmd)) (x : Opening × List Lexeme)
    → ((y : Node t.cmd × List Lexeme) → o ≡ Ok y → Phrase g.stage ts y.0 y.1) → d.staged o ≡ Ok x → IsOpening ts x.0 x.1
staged_sound ts o x f h = let w = bind_ok o _ x h in found_opening ts (Staged w.0.0, w.0.1) x (f w.0 w.1) w.2

after_first_sound : (r : Readers) → Sound r → (ts : List Lexeme) (a : Node t.arg) (mid : List Lexeme) (x : Opening × List Lexeme) → begins_first ts ≡ true → Phrase (g.arg false) ts a mid →
    d.after_first r a mid ≡ Ok x → IsOpening ts x.0 x.1
after_first_sound r s ts a (Equals ∷ mid) x b p h = found_opening ts (Named a, mid) x (b, p) h
after_first_sound r s ts a mid x b p h =
    let w = bind_ok (d.simple_by (r (d.a_part false)) mid) _ x h in
    found_opening ts (Staged (redirect w.0.0.1 (t.Simple (more a w.0.0.0))), w.0.1) x (g.simple_stage b p refl (simple_sound (r (d.a_part false)) (s.part false) mid w.0 w.1)) w.2

first_sound : (r : Readers) → Sound r → (ts : List Lexeme) (x : Opening × List Lexeme) → (begins_arg ts ≡ true → begins_first ts ≡ true) → d.first_by r ts ≡ Ok x → IsOpening ts x.0 x.1
unfolding d.first_by
first_sound r s ts x b h =
    let w = bind_ok (d.arg_by (r (d.a_part false)) false ts) _ x h in
    let p = arg_sound (r (d.a_part false)) false (s.part false) ts w.0 w.1 in
    after_first_sound r s ts w.0.0 w.0.1 x (b (arg_begins p)) p w.2

worded_sound : (r : Readers) → Sound r → (text : List ℕ) (k : Keyword) (ts : List Lexeme) (x : Opening × List Lexeme) → keyword text ≡ k → d.worded_by r k (Word text) ts ≡ Ok x →
    IsOpening (Word text ∷ ts) x.0 x.1
unfolding d.worded_by
worded_sound r s text SwitchWord ts x e h = staged_sound (Word text ∷ ts) (d.switch_by r (past_caret ts)) x (λ y. switch_sound r s text ts y e) h
worded_sound r s text MatchWord ts x e h = staged_sound (Word text ∷ ts) (d.match_by r (past_caret ts)) x (λ y. match_sound r s text ts y e) h
worded_sound r s text FnWord ts x e h = staged_sound (Word text ∷ ts) (d.define_by r (past_caret ts)) x (λ y. define_sound r s text ts y e) h
worded_sound r s text NoKeyword ts x e h = first_sound r s (Word text ∷ ts) x (λ _. ap is_plain e) h
worded_sound r s text k ts x e h = absurd cc

pub opening_sound : (r : Readers) → Sound r → (ts : List Lexeme) (x : Opening × List Lexeme) → d.opening_by r ts ≡ Ok x → IsOpening ts x.0 x.1
unfolding d.opening_by
opening_sound r s (Word text ∷ ts) x h = worded_sound r s text (keyword text) ts x refl h
opening_sound r s (LeftBrace ∷ ts) x h = staged_sound (LeftBrace ∷ ts) (d.block_by r (LeftBrace ∷ ts)) x (λ y. block_sound r s (LeftBrace ∷ ts) y) h
opening_sound r s ts x h = first_sound r s ts x (λ e. e) h

-- the body of a control form, and an operand that may be absent
body_sound : (r : Readers) → Sound r → (ts : List Lexeme) (x : Node t.cmd × List Lexeme) → d.body_by r ts ≡ Ok x → Phrase g.body ts x.0 x.1
unfolding d.body_by
body_sound r s ts x h = elim (if_ok (begins_command (past_newlines ts)) _ _ x h) [
  | inl b ↦ g.one_body (s.command false (past_newlines ts) x b.1)
  | inr b ↦ elim (if_ok (begins_link (past_newlines ts)) _ _ x b.1) [
    | inl c ↦ absurd cc
    | inr c ↦ found g.body ts (t.Empty, past_newlines ts) x (g.no_body b.0 c.0) c.1
  ]
]

optional_sound : (r : Readers) → Sound r → (ts : List Lexeme) (x : Node t.cmd × List Lexeme) → d.optional_operand_by r ts ≡ Ok x → Phrase g.optional ts x.0 x.1
unfolding d.optional_operand_by
optional_sound r s ts x h = elim (if_ok (begins_command ts) _ _ x h) [
  | inl b ↦ g.one_operand (s.operand ts x b.1)
  | inr b ↦ found g.optional ts (t.Empty, ts) x (g.no_operand b.0) b.1
]

-- the control forms
not_sound : (r : Readers) → Sound r → (f : Bool) (text : List ℕ) (ts : List Lexeme) (next_text : List ℕ) (k : Keyword) (word : Lexeme) (next : List Lexeme) (x : Node t.cmd × List Lexeme) →
    keyword text ≡ IfWord → past_caret ts ≡ Word next_text ∷ next → keyword next_text ≡ k → d.if_not_by r f k word next ≡ Ok x → Phrase (g.leading f) (Word text ∷ ts) x.0 x.1
not_sound r s true text ts next_text NotWord word next x e e2 e3 h =
    let w = bind_ok (d.body_by r (past_caret next)) _ x h in
    found (g.leading true) (Word text ∷ ts) (t.IfNot w.0.0, w.0.1) x (g.if_not_leading e e2 e3 (body_sound r s (past_caret next) w.0 w.1)) w.2
not_sound r s false text ts next_text NotWord word next x e e2 e3 h = absurd cc
not_sound r s f text ts next_text k word next x e e2 e3 h = absurd cc

condition_sound : (r : Readers) → Sound r → (f : Bool) (text : List ℕ) (ts next : List Lexeme) (x : Node t.cmd × List Lexeme) → keyword text ≡ IfWord → past_caret ts ≡ next →
    d.condition_by r next ≡ Ok x → Phrase (g.leading f) (Word text ∷ ts) x.0 x.1
condition_sound r s f text ts next x e e2 h =
    let w = bind_ok (d.paren_by r next) _ x h in
    let v = bind_ok (d.body_by r w.0.1) _ x w.2 in
    found (g.leading f) (Word text ∷ ts) (t.If w.0.0 v.0.0, v.0.1) x
    (g.if_leading e (subst (λ z. Phrase g.paren z w.0.0 w.0.1) (sym e2) (paren_sound r s next w.0 w.1)) (body_sound r s w.0.1 v.0 v.1)) v.2

if_sound : (r : Readers) → Sound r → (f : Bool) (text : List ℕ) (ts next : List Lexeme) (x : Node t.cmd × List Lexeme) → keyword text ≡ IfWord → past_caret ts ≡ next →
    d.if_by r f next ≡ Ok x → Phrase (g.leading f) (Word text ∷ ts) x.0 x.1
unfolding d.if_by
if_sound r s f text ts (Word next_text ∷ next) x e e2 h = not_sound r s f text ts next_text (keyword next_text) (Word next_text) next x e e2 refl h
if_sound r s f text ts next x e e2 h = condition_sound r s f text ts next x e e2 h

while_sound : (r : Readers) → Sound r → (f : Bool) (text : List ℕ) (ts : List Lexeme) (x : Node t.cmd × List Lexeme) → keyword text ≡ WhileWord → d.while_by r (past_caret ts) ≡ Ok x →
    Phrase (g.leading f) (Word text ∷ ts) x.0 x.1
unfolding d.while_by
while_sound r s f text ts x e h =
    let w = bind_ok (d.paren_by r (past_caret ts)) _ x h in
    let v = bind_ok (d.body_by r w.0.1) _ x w.2 in
    found (g.leading f) (Word text ∷ ts) (t.While w.0.0 v.0.0, v.0.1) x (g.while_leading e (paren_sound r s (past_caret ts) w.0 w.1) (body_sound r s w.0.1 v.0 v.1)) v.2

in_sound : (r : Readers) → Sound r → (f : Bool) (text : List ℕ) (ts head : List Lexeme) (a : Node t.arg) (mid : List Lexeme) (next_text : List ℕ) (k : Keyword) (word : Lexeme) (list : List Lexeme)
    (x : Node t.cmd × List Lexeme) → keyword text ≡ ForWord → past_caret ts ≡ LeftParen ∷ head → Phrase (g.arg true) (past_newlines head) a mid →
    past_newlines mid ≡ Word next_text ∷ list → keyword next_text ≡ k → d.for_each_by r a k word list ≡ Ok x → Phrase (g.leading f) (Word text ∷ ts) x.0 x.1
in_sound r s f text ts head a mid next_text InWord word list x e e2 p e3 e4 h =
    let w = bind_ok (d.members_by (r (d.a_part true)) (past_caret list)) _ x h in
    let v = bind_ok (d.body_by r w.0.1) _ x w.2 in
    found (g.leading f) (Word text ∷ ts) (t.For a w.0.0 v.0.0, v.0.1) x
    (g.for_leading e e2 p e3 e4 (members_sound (r (d.a_part true)) (s.part true) (past_caret list) w.0 w.1) (body_sound r s w.0.1 v.0 v.1)) v.2
in_sound r s f text ts head a mid next_text k word list x e e2 p e3 e4 h = absurd cc

over_sound : (r : Readers) → Sound r → (f : Bool) (text : List ℕ) (ts head : List Lexeme) (a : Node t.arg) (mid next : List Lexeme) (x : Node t.cmd × List Lexeme) → keyword text ≡ ForWord →
    past_caret ts ≡ LeftParen ∷ head → Phrase (g.arg true) (past_newlines head) a mid → past_newlines mid ≡ next → d.over_by r a next ≡ Ok x → Phrase (g.leading f) (Word text ∷ ts) x.0 x.1
unfolding d.over_by
over_sound r s f text ts head a mid (RightParen ∷ next) x e e2 p e3 h =
    let w = bind_ok (d.body_by r next) _ x h in
    found (g.leading f) (Word text ∷ ts) (t.ForAll a w.0.0, w.0.1) x (g.for_all_leading e e2 p e3 (body_sound r s next w.0 w.1)) w.2
over_sound r s f text ts head a mid (Word next_text ∷ next) x e e2 p e3 h = in_sound r s f text ts head a mid next_text (keyword next_text) (Word next_text) next x e e2 p e3 refl h
over_sound r s f text ts head a mid next x e e2 p e3 h = absurd cc

for_sound : (r : Readers) → Sound r → (f : Bool) (text : List ℕ) (ts next : List Lexeme) (x : Node t.cmd × List Lexeme) → keyword text ≡ ForWord → past_caret ts ≡ next →
    d.for_by r next ≡ Ok x → Phrase (g.leading f) (Word text ∷ ts) x.0 x.1
unfolding d.for_by
for_sound r s f text ts (LeftParen ∷ head) x e e2 h =
    let w = bind_ok (d.arg_by (r (d.a_part true)) true (past_newlines head)) _ x h in
    over_sound r s f text ts head w.0.0 w.0.1 (past_newlines w.0.1) x e e2 (arg_sound (r (d.a_part true)) true (s.part true) (past_newlines head) w.0 w.1) refl w.2
for_sound r s f text ts next x e e2 h = absurd cc

control_sound : (r : Readers) → Sound r → (f : Bool) (text : List ℕ) (k : Keyword) (ts : List Lexeme) (x : Node t.cmd × List Lexeme) → keyword text ≡ k → d.control_by r f k ts ≡ Ok x →
    Phrase (g.leading f) (Word text ∷ ts) x.0 x.1
unfolding d.control_by
control_sound r s f text BangWord ts x e h =
    let w = bind_ok (r d.an_operand (past_caret ts)) _ x h in
    found (g.leading f) (Word text ∷ ts) (t.Not w.0.0, w.0.1) x (g.not_leading e (s.operand (past_caret ts) w.0 w.1)) w.2
control_sound r s f text AtWord ts x e h =
    let w = bind_ok (r d.an_operand (past_caret ts)) _ x h in
    found (g.leading f) (Word text ∷ ts) (t.Subshell w.0.0, w.0.1) x (g.subshell_leading e (s.operand (past_caret ts) w.0 w.1)) w.2
control_sound r s f text IfWord ts x e h = if_sound r s f text ts (past_caret ts) x e refl h
control_sound r s f text WhileWord ts x e h = while_sound r s f text ts x e h
control_sound r s f text ForWord ts x e h = for_sound r s f text ts (past_caret ts) x e refl h
control_sound r s f text k ts x e h = absurd cc

redirected_sound : (r : Readers) → Sound r → (f : Bool) (ts : List Lexeme) (x : Node t.cmd × List Lexeme) → d.redirected_by r ts ≡ Ok x → Phrase (g.leading f) ts x.0 x.1
unfolding d.redirected_by
redirected_sound r s f ts x h =
    let w = bind_ok (d.redir_by (r (d.a_part false)) ts) _ x h in
    let v = bind_ok (d.redirs_by (r (d.a_part false)) w.0.1) _ x w.2 in
    let u = bind_ok (d.optional_operand_by r v.0.1) _ x v.2 in
    found (g.leading f) ts (t.Redirect (more w.0.0 v.0.0) u.0.0, u.0.1) x
    (g.redir_leading (redir_sound (r (d.a_part false)) (s.part false) ts w.0 w.1) (redirs_sound (r (d.a_part false)) (s.part false) w.0.1 v.0 v.1) (optional_sound r s v.0.1 u.0 u.1)) u.2

pub leading_sound : (r : Readers) → Sound r → (f : Bool) (ts : List Lexeme) (x : Node t.cmd × List Lexeme) → d.leading_by r f ts ≡ Ok x → Phrase (g.leading f) ts x.0 x.1
unfolding d.leading_by
leading_sound r s f (Word text ∷ ts) x h = control_sound r s f text (keyword text) ts x refl h
leading_sound r s f ts x h = redirected_sound r s f ts x h
