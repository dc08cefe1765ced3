-- What is read has at most 64 stages in each pipeline: pipelines, lists of commands, and all that is read.
use Rattle.std.proofs.Common.{◌≡◌, ℕ, zero, suc, ◌≤◌, Bool, false, not, ◌&&◌, List, ◌∷◌, length, Ok, Err, subst, arith, nat_lt}
use Rattle.std.proofs.lemmas.Bool.{ltb-true}
use Rattle.rc_model.specs.Syntax.Tokens.{Lexeme, Semicolon, Newline, AndAnd, OrOr, Bar}
use Rattle.rc_model.specs.Syntax.Tree.{Node, Many, none, more, count, snoc}
use Rattle.rc_model.specs.Syntax.Tree as t
use Rattle.rc_model.specs.Syntax.WellFormed.{most_stages, most_stages_in}
use Rattle.rc_model.specs.Syntax.Grammar.{past_newlines, is_if, begins_command, ends}
use Rattle.rc_model.specs.Mirrors.Descent as d
use Rattle.rc_model.specs.Mirrors.Descent.{Read, Reader, Readers, Opening, Staged, Named}
use Rattle.law_syntax.proofs.Lists.{count_snoc}
use Rattle.rc_model.specs.declared.syntax.Logic.TheVariants.{And, Or}
use Rattle.law_syntax.proofs.FewStagesInArguments.{Few, piped_wide, opening_wide, end_wide, bind, either, few_snoc, few_links, few_pipeline, Small, name_few, arg_few, part_few}
use Rattle.law_syntax.proofs.FewStagesInForms.{opening_few, leading_few}

-- pipelines and assignments
pipe_turn_few : (r : Readers) → Small r → (go_on : Many t.stage → Node t.cmd → Reader (Node t.cmd)) →
    ((ss : Many t.stage) (c : Node t.cmd) (ts : List Lexeme) → count ss ≤ 63 → most_stages_in ss ≤ 64 → most_stages c ≤ 64 → Few most_stages (go_on ss c ts)) →
    (ss : Many t.stage) (c : Node t.cmd) (ts : List Lexeme) → count ss ≤ 63 → most_stages_in ss ≤ 64 → most_stages c ≤ 64 → Few most_stages (d.pipe_turn r go_on ss c ts)
pipe_turn_few r s go_on goes ss c (Bar slot ∷ ts) n h k =
    either (nat_lt (suc (count ss)) 64) _ _ (λ e.
    let one = ltb-true (suc (count ss)) 64 e in
    let two = count_snoc ss (t.Stage c slot) in
    let three = few_snoc ss (t.Stage c slot) h k in
    bind (r d.a_piped (past_newlines ts)) _ (s.piped (past_newlines ts)) (λ p j.
    either p.0.1 _ _ (λ i. goes (snoc ss (t.Stage c slot)) p.0.0 p.1 (omega arith) three j)
    (record { few = few_pipeline (snoc ss (t.Stage c slot)) p.0.0 (omega arith) three j })))
    (record { few = tt })
pipe_turn_few r s go_on goes ss c ts n h k = record { few = few_pipeline ss c n h k }

pipe_from_few : (r : Readers) → Small r → (turns : ℕ) (ss : Many t.stage) (c : Node t.cmd) (ts : List Lexeme) → count ss ≤ 63 → most_stages_in ss ≤ 64 → most_stages c ≤ 64 →
    Few most_stages (d.pipe_from r turns ss c ts)
unfolding d.pipe_from
pipe_from_few r s zero ss c ts n h k = record { few = few_pipeline ss c n h k }
pipe_from_few r s (suc turns) ss c ts n h k = pipe_turn_few r s (λ ss c u. d.pipe_from r turns ss c u) (pipe_from_few r s turns) ss c ts n h k

pipe_few : (r : Readers) → Small r → (c : Node t.cmd) (ts : List Lexeme) → most_stages c ≤ 64 → Few most_stages (d.pipe_by r c ts)
unfolding d.pipe_by
pipe_few r s c ts h = pipe_from_few r s (length ts) none c ts (omega arith) (omega arith) h

value_turn_few : (r : Readers) → Small r → (go_on : Many t.pair → Reader (Node t.cmd)) →
    ((ps : Many t.pair) (ts : List Lexeme) → most_stages_in ps ≤ 64 → Few most_stages (go_on ps ts)) →
    (ps : Many t.pair) (o : Opening) (ts : List Lexeme) → most_stages_in ps ≤ 64 → opening_wide o ≤ 64 → Few most_stages (d.value_turn r go_on ps o ts)
value_turn_few r s go_on goes ps (Named a) ts h k =
    bind (d.arg_by (r (d.a_part false)) false ts) _ (arg_few (r (d.a_part false)) (s.part false) false ts) (λ v j. goes (snoc ps (t.Pair a v.0)) v.1 (few_snoc ps (t.Pair a v.0) h (omega arith)))
value_turn_few r s go_on goes ps (Staged c) ts h k = bind (d.pipe_by r c ts) _ (pipe_few r s c ts k) (λ p j. record { few = omega arith })

values_from_few : (r : Readers) → Small r → (turns : ℕ) (ps : Many t.pair) (ts : List Lexeme) → most_stages_in ps ≤ 64 → Few most_stages (d.values_from r turns ps ts)
unfolding d.values_from
values_from_few r s zero ps ts h = record { few = omega arith }
values_from_few r s (suc turns) ps ts h =
    either (d.begins_leading ts) _ _ (λ e. bind (d.leading_by r false ts) _ (leading_few r s false ts) (λ c k. record { few = omega arith }))
    (either (begins_command ts) _ _ (λ e. bind (d.opening_by r ts) _ (opening_few r s ts)
    (λ o k. value_turn_few r s (λ ps u. d.values_from r turns ps u) (values_from_few r s turns) ps o.0 o.1 h k))
    (record { few = omega arith }))

values_few : (r : Readers) → Small r → (ps : Many t.pair) (ts : List Lexeme) → most_stages_in ps ≤ 64 → Few most_stages (d.values_by r ps ts)
unfolding d.values_by
values_few r s ps ts h = values_from_few r s (length ts) ps ts h

assigned_few : (r : Readers) → Small r → (a : Node t.arg) (ts : List Lexeme) → most_stages a ≤ 64 → Few most_stages (d.assigned_by r a ts)
unfolding d.assigned_by
assigned_few r s a ts h =
    bind (d.arg_by (r (d.a_part false)) false ts) _ (arg_few (r (d.a_part false)) (s.part false) false ts) (λ v k. values_few r s (more (t.Pair a v.0) none) v.1 (omega arith))

-- operands
opened_few : (r : Readers) → Small r → (o : Opening) (ts : List Lexeme) → opening_wide o ≤ 64 → Few most_stages (d.opened_by r o ts)
opened_few r s (Named a) ts h = assigned_few r s a ts h
opened_few r s (Staged c) ts h = pipe_few r s c ts h

operand_few : (r : Readers) → Small r → (f : Bool) (ts : List Lexeme) → Few most_stages (d.operand_by r f ts)
unfolding d.operand_by
operand_few r s f ts =
    either (d.begins_leading ts) _ _ (λ e. leading_few r s f ts) (bind (d.opening_by r ts) _ (opening_few r s ts) (λ o h. opened_few r s o.0 o.1 h))

last_few : (o : Read (Node t.cmd)) → Few most_stages o → Few piped_wide (d.last_stage o)
last_few o m = bind o _ m (λ c h. record { few = h })

piped_open_few : (r : Readers) → Small r → (o : Opening) (ts : List Lexeme) → opening_wide o ≤ 64 → Few piped_wide (d.piped_open r o ts)
piped_open_few r s (Named a) ts h = last_few (d.assigned_by r a ts) (assigned_few r s a ts h)
piped_open_few r s (Staged c) ts h = record { few = h }

piped_few : (r : Readers) → Small r → (ts : List Lexeme) → Few piped_wide (d.piped_by r ts)
unfolding d.piped_by
piped_few r s ts =
    either (d.begins_leading ts) _ _ (λ e. last_few (d.leading_by r false ts) (leading_few r s false ts))
    (bind (d.opening_by r ts) _ (opening_few r s ts) (λ o h. piped_open_few r s o.0 o.1 h))

-- commands and lists of them
links_turn_few : (r : Readers) → Small r → (go_on : Many t.link → Reader (Many t.link)) →
    ((front : Many t.link) (ts : List Lexeme) → most_stages_in front ≤ 64 → Few most_stages_in (go_on front ts)) →
    (front : Many t.link) (ts : List Lexeme) → most_stages_in front ≤ 64 → Few most_stages_in (d.links_turn r go_on front ts)
links_turn_few r s go_on goes front (AndAnd ∷ ts) h =
    bind (d.operand_by r false (past_newlines ts)) _ (operand_few r s false (past_newlines ts)) (λ c k. goes (snoc front (t.Link And c.0)) c.1 (few_snoc front (t.Link And c.0) h k))
links_turn_few r s go_on goes front (OrOr ∷ ts) h =
    bind (d.operand_by r false (past_newlines ts)) _ (operand_few r s false (past_newlines ts)) (λ c k. goes (snoc front (t.Link Or c.0)) c.1 (few_snoc front (t.Link Or c.0) h k))
links_turn_few r s go_on goes front ts h = record { few = h }

links_from_few : (r : Readers) → Small r → (k : ℕ) (front : Many t.link) (ts : List Lexeme) → most_stages_in front ≤ 64 → Few most_stages_in (d.links_from r k front ts)
unfolding d.links_from
links_from_few r s zero front ts h = record { few = h }
links_from_few r s (suc k) front ts h = links_turn_few r s (λ ls u. d.links_from r k ls u) (links_from_few r s k) front ts h

links_few : (r : Readers) → Small r → (ts : List Lexeme) → Few most_stages_in (d.links_by r ts)
unfolding d.links_by
links_few r s ts = links_from_few r s (length ts) none ts (omega arith)

command_few : (r : Readers) → Small r → (f : Bool) (ts : List Lexeme) → Few most_stages (d.command_by r f ts)
unfolding d.command_by
command_few r s f ts =
    bind (d.operand_by r f ts) _ (operand_few r s f ts) (λ c h. bind (d.links_by r c.1) _ (links_few r s c.1) (λ ls k. record { few = few_links c.0 ls.0 h k }))

item_end_few : (ts : List Lexeme) → Few end_wide (d.item_end ts)
item_end_few ts = by (d.item_end ts)
  where
    by : (o : Read Bool) → Few end_wide o
    by (Ok y) = record { few = omega arith }
    by (Err e) = record { few = tt }

item_turn_few : (r : Readers) → Small r → (go_on : Bool → Many t.item → Reader (Many t.item)) →
    ((f : Bool) (front : Many t.item) (ts : List Lexeme) → most_stages_in front ≤ 64 → Few most_stages_in (go_on f front ts)) →
    (f : Bool) (front : Many t.item) (ts : List Lexeme) → most_stages_in front ≤ 64 → Few most_stages_in (d.item_turn r go_on f front ts)
item_turn_few r s go_on goes f front (Semicolon ∷ ts) h = goes f front ts h
item_turn_few r s go_on goes f front (Newline ∷ ts) h = goes f front ts h
item_turn_few r s go_on goes f front ts h =
    bind (r (d.a_command f) ts) _ (s.command f ts) (λ c k. bind (d.item_end c.1) _ (item_end_few c.1)
    (λ b j. goes (not b.0 && is_if c.0) (snoc front (t.Item c.0 b.0)) b.1 (few_snoc front (t.Item c.0 b.0) h k)))

items_from_few : (r : Readers) → Small r → (in_switch : Bool) (k : ℕ) (f : Bool) (front : Many t.item) (ts : List Lexeme) → most_stages_in front ≤ 64 →
    Few most_stages_in (d.items_from r in_switch k f front ts)
unfolding d.items_from
items_from_few r s in_switch zero f front ts h = record { few = h }
items_from_few r s in_switch (suc k) f front ts h =
    either (ends in_switch ts) _ _ (λ e. record { few = h })
    (item_turn_few r s (λ b is u. d.items_from r in_switch k b is u) (items_from_few r s in_switch k) f front ts h)

items_few : (r : Readers) → Small r → (in_switch : Bool) (ts : List Lexeme) → Few most_stages_in (d.items_by r in_switch ts)
unfolding d.items_by
items_few r s in_switch ts = items_from_few r s in_switch (length ts) false none ts (omega arith)

-- reading with one level more than these readers have left
read_by_few : (r : Readers) → Small r → Small (λ n ts. d.read_by r n ts)
unfolding d.read_by
read_by_few r s = record {
  name = λ ts. name_few r s ts;
  part = λ inside ts. part_few r s inside ts;
  operand = λ ts. operand_few r s false ts;
  piped = λ ts. piped_few r s ts;
  command = λ f ts. command_few r s f ts;
  list = λ in_switch ts. items_few r s in_switch ts;
}

read_few : (left : ℕ) → Small (λ n ts. d.read left n ts)
unfolding d.read
read_few zero = record {
  name = λ ts. record { few = tt };
  part = λ inside ts. record { few = tt };
  operand = λ ts. record { few = tt };
  piped = λ ts. record { few = tt };
  command = λ f ts. record { few = tt };
  list = λ s ts. record { few = tt };
}
read_few (suc left) = read_by_few (λ m u. d.read left m u) (read_few left)

pub few_stages_read : (levels : ℕ) (ts rest : List Lexeme) (is : Many t.item) → d.read levels (d.a_list false) ts ≡ Ok (is, rest) → most_stages_in is ≤ 64
few_stages_read levels ts rest is h = narrow (subst (λ o. Few most_stages_in o) h (s.list false ts))
  where
    s : Small (λ n ts. d.read levels n ts)
    s = read_few levels

    narrow : Few {A = Many t.item} most_stages_in (Ok (is, rest)) → most_stages_in is ≤ 64
    narrow m = m.few

pub few_stages_command : (levels : ℕ) (f : Bool) (ts rest : List Lexeme) (c : Node t.cmd) → d.read levels (d.a_command f) ts ≡ Ok (c, rest) → most_stages c ≤ 64
few_stages_command levels f ts rest c h = narrow (subst (λ o. Few most_stages o) h (s.command f ts))
  where
    s : Small (λ n ts. d.read levels n ts)
    s = read_few levels

    narrow : Few {A = Node t.cmd} most_stages (Ok (c, rest)) → most_stages c ≤ 64
    narrow m = m.few
