-- What is read has at most 64 stages in each pipeline: the stages of a pipeline and control forms.
use Rattle.std.proofs.Common.{ℕ, zero, suc, ◌≤◌, Bool, true, false, List, ◌∷◌, length, if◌then◌else◌, arith}
use Rattle.rc_model.specs.Syntax.Tokens.{Lexeme, Word, Semicolon, Newline, Equals, LeftParen, RightParen, LeftBrace, RightBrace}
use Rattle.rc_model.specs.Syntax.Tree.{Node, Many, none, more, snoc}
use Rattle.rc_model.specs.Syntax.Tree as t
use Rattle.rc_model.specs.Syntax.WellFormed.{most_stages, most_stages_in}
use Rattle.rc_model.specs.Syntax.Grammar.{keyword, past_newlines, past_caret, begins_brace, begins_command, begins_link, ends_case, is_case}
use Rattle.rc_model.specs.declared.syntax.Keyword.{Keyword}
use Rattle.rc_model.specs.Mirrors.Descent as d
use Rattle.rc_model.specs.Mirrors.Descent.{Read, Reader, Readers}
use Rattle.rc_model.specs.declared.syntax.Keyword.TheVariants.{At as AtWord, Bang as BangWord, Fn as FnWord, For as ForWord, If as IfWord}
use Rattle.rc_model.specs.declared.syntax.Keyword.TheVariants.{In as InWord, Match as MatchWord, Not as NotWord, Plain as NoKeyword}
use Rattle.rc_model.specs.declared.syntax.Keyword.TheVariants.{Switch as SwitchWord, While as WhileWord}
use Rattle.law_syntax.proofs.FewStagesInArguments.{Few, opening_wide, bind, either, few_snoc, few_redirect, Small, arg_few, members_few, words_few}
use Rattle.law_syntax.proofs.FewStagesInArguments.{redir_few, redirs_few, simple_few, brace_few, paren_few}
use Rattle.rc_model.specs.declared.fault.DescentFault.TheVariants as descent

-- what follows `switch`, `~` and `fn`
branch_few : (r : Readers) → Small r → (ts : List Lexeme) → Few most_stages (d.branch_by r ts)
unfolding d.branch_by
branch_few r s ts =
    bind (d.words_by (r (d.a_part false)) ts) _ (words_few (r (d.a_part false)) (s.part false) ts) (λ as' h.
    bind (if ends_case as'.1 then r (d.a_list true) as'.1 else d.stops descent.Unexpected as'.1) _
    (either (ends_case as'.1) (r (d.a_list true) as'.1) (d.stops descent.Unexpected as'.1) (λ e. s.list true as'.1) (record { few = tt })) (λ is k. record { few = omega arith }))

branches_turn_few : (r : Readers) → Small r → (go_on : Many t.branch → Reader (Many t.branch)) →
    ((front : Many t.branch) (ts : List Lexeme) → most_stages_in front ≤ 64 → Few most_stages_in (go_on front ts)) →
    (front : Many t.branch) (ts : List Lexeme) → most_stages_in front ≤ 64 → Few most_stages_in (d.branches_turn r go_on front ts)
branches_turn_few r s go_on goes front (RightBrace ∷ ts) h = record { few = h }
branches_turn_few r s go_on goes front (Semicolon ∷ ts) h = goes front ts h
branches_turn_few r s go_on goes front (Newline ∷ ts) h = goes front ts h
branches_turn_few r s go_on goes front (Word text ∷ ts) h =
    either (is_case text) _ _ (λ e. bind (d.branch_by r (past_caret ts)) _ (branch_few r s (past_caret ts)) (λ b k. goes (snoc front b.0) b.1 (few_snoc front b.0 h k)))
    (record { few = tt })
branches_turn_few r s go_on goes front ts h = record { few = tt }

branches_from_few : (r : Readers) → Small r → (k : ℕ) (front : Many t.branch) (ts : List Lexeme) → most_stages_in front ≤ 64 → Few most_stages_in (d.branches_from r k front ts)
unfolding d.branches_from
branches_from_few r s zero front ts h = record { few = tt }
branches_from_few r s (suc k) front ts h = branches_turn_few r s (λ bs u. d.branches_from r k bs u) (branches_from_few r s k) front ts h

branches_few : (r : Readers) → Small r → (ts : List Lexeme) → Few most_stages_in (d.branches_by r ts)
unfolding d.branches_by
branches_few r s (LeftBrace ∷ ts) = branches_from_few r s (length ts) none ts (omega arith)
branches_few r s ts = record { few = tt }

switch_few : (r : Readers) → Small r → (ts : List Lexeme) → Few most_stages (d.switch_by r ts)
unfolding d.switch_by
switch_few r s ts =
    bind (d.arg_by (r (d.a_part false)) false ts) _ (arg_few (r (d.a_part false)) (s.part false) false ts) (λ a h.
    bind (d.branches_by r (past_newlines a.1)) _ (branches_few r s (past_newlines a.1)) (λ bs k.
    bind (d.redirs_by (r (d.a_part false)) bs.1) _ (redirs_few (r (d.a_part false)) (s.part false) bs.1) (λ rs j. record { few = few_redirect rs.0 (t.Switch a.0 bs.0) j (omega arith) })))

match_few : (r : Readers) → Small r → (ts : List Lexeme) → Few most_stages (d.match_by r ts)
unfolding d.match_by
match_few r s ts =
    bind (d.arg_by (r (d.a_part false)) false ts) _ (arg_few (r (d.a_part false)) (s.part false) false ts) (λ a h.
    bind (d.words_by (r (d.a_part false)) a.1) _ (words_few (r (d.a_part false)) (s.part false) a.1) (λ as' k. record { few = omega arith }))

defined_few : (r : Readers) → Small r → (ns : Many t.arg) (ts : List Lexeme) → most_stages_in ns ≤ 64 → Few most_stages (d.defined_by r ns ts)
defined_few r s ns ts h =
    either (begins_brace ts) _ _ (λ e. bind (d.brace_by r ts) _ (brace_few r s ts) (λ c k. record { few = omega arith })) (record { few = h })

define_few : (r : Readers) → Small r → (ts : List Lexeme) → Few most_stages (d.define_by r ts)
unfolding d.define_by
define_few r s ts =
    bind (d.arg_by (r (d.a_part false)) false ts) _ (arg_few (r (d.a_part false)) (s.part false) false ts) (λ a h.
    bind (d.words_by (r (d.a_part false)) a.1) _ (words_few (r (d.a_part false)) (s.part false) a.1) (λ as' k. defined_few r s (more a.0 as'.0) as'.1 (omega arith)))

block_few : (r : Readers) → Small r → (ts : List Lexeme) → Few most_stages (d.block_by r ts)
unfolding d.block_by
block_few r s ts =
    bind (d.brace_by r ts) _ (brace_few r s ts) (λ c h.
    bind (d.redirs_by (r (d.a_part false)) c.1) _ (redirs_few (r (d.a_part false)) (s.part false) c.1) (λ rs k. record { few = few_redirect rs.0 (t.Brace c.0) k h }))

-- how an operand begins
staged_few : (o : Read (Node t.cmd)) → Few most_stages o → Few opening_wide (d.staged o)
staged_few o m = bind o _ m (λ c h. record { few = h })

named_few : (r : Readers) → Small r → (a : Node t.arg) (ts : List Lexeme) → most_stages a ≤ 64 → Few opening_wide (d.after_first r a ts)
named_few r s a (Equals ∷ ts) h = record { few = h }
named_few r s a ts h =
    bind (d.simple_by (r (d.a_part false)) ts) _ (simple_few (r (d.a_part false)) (s.part false) ts) (λ x k.
    record { few = few_redirect x.0.1 (t.Simple (more a x.0.0)) (omega arith) (omega arith) })

first_few : (r : Readers) → Small r → (ts : List Lexeme) → Few opening_wide (d.first_by r ts)
unfolding d.first_by
first_few r s ts = bind (d.arg_by (r (d.a_part false)) false ts) _ (arg_few (r (d.a_part false)) (s.part false) false ts) (λ a h. named_few r s a.0 a.1 h)

worded_few : (r : Readers) → Small r → (k : Keyword) (word : Lexeme) (ts : List Lexeme) → Few opening_wide (d.worded_by r k word ts)
unfolding d.worded_by
worded_few r s SwitchWord word ts = staged_few (d.switch_by r (past_caret ts)) (switch_few r s (past_caret ts))
worded_few r s MatchWord word ts = staged_few (d.match_by r (past_caret ts)) (match_few r s (past_caret ts))
worded_few r s FnWord word ts = staged_few (d.define_by r (past_caret ts)) (define_few r s (past_caret ts))
worded_few r s NoKeyword word ts = first_few r s (word ∷ ts)
worded_few r s k word ts = record { few = tt }

pub opening_few : (r : Readers) → Small r → (ts : List Lexeme) → Few opening_wide (d.opening_by r ts)
unfolding d.opening_by
opening_few r s (Word text ∷ ts) = worded_few r s (keyword text) (Word text) ts
opening_few r s (LeftBrace ∷ ts) = staged_few (d.block_by r (LeftBrace ∷ ts)) (block_few r s (LeftBrace ∷ ts))
opening_few r s ts = first_few r s ts

-- bodies and control forms
body_few : (r : Readers) → Small r → (ts : List Lexeme) → Few most_stages (d.body_by r ts)
unfolding d.body_by
body_few r s ts =
    either (begins_command (past_newlines ts)) _ _ (λ e. s.command false (past_newlines ts))
    (either (begins_link (past_newlines ts)) (d.stops descent.Unexpected (past_newlines ts)) _ (λ e. record { few = tt }) (record { few = omega arith }))

optional_few : (r : Readers) → Small r → (ts : List Lexeme) → Few most_stages (d.optional_operand_by r ts)
unfolding d.optional_operand_by
optional_few r s ts = either (begins_command ts) _ _ (λ e. s.operand ts) (record { few = omega arith })

condition_few : (r : Readers) → Small r → (ts : List Lexeme) → Few most_stages (d.condition_by r ts)
condition_few r s ts = bind (d.paren_by r ts) _ (paren_few r s ts) (λ c h. bind (d.body_by r c.1) _ (body_few r s c.1) (λ b k. record { few = omega arith }))

not_few : (r : Readers) → Small r → (f : Bool) (k : Keyword) (word : Lexeme) (ts : List Lexeme) → Few most_stages (d.if_not_by r f k word ts)
not_few r s true NotWord word ts = bind (d.body_by r (past_caret ts)) _ (body_few r s (past_caret ts)) (λ c h. record { few = h })
not_few r s false NotWord word ts = record { few = tt }
not_few r s f k word ts = record { few = tt }

if_few : (r : Readers) → Small r → (f : Bool) (ts : List Lexeme) → Few most_stages (d.if_by r f ts)
unfolding d.if_by
if_few r s f (Word text ∷ ts) = not_few r s f (keyword text) (Word text) ts
if_few r s f ts = condition_few r s ts

while_few : (r : Readers) → Small r → (ts : List Lexeme) → Few most_stages (d.while_by r ts)
unfolding d.while_by
while_few r s ts = bind (d.paren_by r ts) _ (paren_few r s ts) (λ c h. bind (d.body_by r c.1) _ (body_few r s c.1) (λ b k. record { few = omega arith }))

in_few : (r : Readers) → Small r → (a : Node t.arg) (k : Keyword) (word : Lexeme) (ts : List Lexeme) → most_stages a ≤ 64 → Few most_stages (d.for_each_by r a k word ts)
in_few r s a InWord word ts h =
    bind (d.members_by (r (d.a_part true)) (past_caret ts)) _ (members_few (r (d.a_part true)) (s.part true) (past_caret ts)) (λ as' j.
    bind (d.body_by r as'.1) _ (body_few r s as'.1) (λ b k. record { few = omega arith }))
in_few r s a k word ts h = record { few = tt }

over_few : (r : Readers) → Small r → (a : Node t.arg) (ts : List Lexeme) → most_stages a ≤ 64 → Few most_stages (d.over_by r a ts)
unfolding d.over_by
over_few r s a (RightParen ∷ ts) h = bind (d.body_by r ts) _ (body_few r s ts) (λ b k. record { few = omega arith })
over_few r s a (Word text ∷ ts) h = in_few r s a (keyword text) (Word text) ts h
over_few r s a ts h = record { few = tt }

for_few : (r : Readers) → Small r → (ts : List Lexeme) → Few most_stages (d.for_by r ts)
unfolding d.for_by
for_few r s (LeftParen ∷ ts) =
    bind (d.arg_by (r (d.a_part true)) true (past_newlines ts)) _ (arg_few (r (d.a_part true)) (s.part true) true (past_newlines ts)) (λ a h. over_few r s a.0 (past_newlines a.1) h)
for_few r s ts = record { few = tt }

control_few : (r : Readers) → Small r → (f : Bool) (k : Keyword) (ts : List Lexeme) → Few most_stages (d.control_by r f k ts)
unfolding d.control_by
control_few r s f BangWord ts = bind (r d.an_operand (past_caret ts)) _ (s.operand (past_caret ts)) (λ c h. record { few = h })
control_few r s f AtWord ts = bind (r d.an_operand (past_caret ts)) _ (s.operand (past_caret ts)) (λ c h. record { few = h })
control_few r s f IfWord ts = if_few r s f (past_caret ts)
control_few r s f WhileWord ts = while_few r s (past_caret ts)
control_few r s f ForWord ts = for_few r s (past_caret ts)
control_few r s f k ts = record { few = tt }

redirected_few : (r : Readers) → Small r → (ts : List Lexeme) → Few most_stages (d.redirected_by r ts)
unfolding d.redirected_by
redirected_few r s ts =
    bind (d.redir_by (r (d.a_part false)) ts) _ (redir_few (r (d.a_part false)) (s.part false) ts) (λ x h.
    bind (d.redirs_by (r (d.a_part false)) x.1) _ (redirs_few (r (d.a_part false)) (s.part false) x.1) (λ rs k.
    bind (d.optional_operand_by r rs.1) _ (optional_few r s rs.1) (λ c j. record { few = omega arith })))

pub leading_few : (r : Readers) → Small r → (f : Bool) (ts : List Lexeme) → Few most_stages (d.leading_by r f ts)
unfolding d.leading_by
leading_few r s f (Word text ∷ ts) = control_few r s f (keyword text) ts
leading_few r s f ts = redirected_few r s ts
