-- Each phrase is read, unless its tree has too many levels or a pipeline in it too many stages: commands, lists of them, and all that is read.
use Rattle.std.proofs.Common.{◌≡◌, ℕ, zero, suc, ◌<◌, ◌≤◌, Bool, true, false, not, ◌&&◌, List, [], ◌∷◌, length, Ok, refl, sym, ap, subst, ◌∙◌, arith}
use Rattle.rc_model.specs.Syntax.Tokens.{Lexeme, Semicolon, Ampersand, Newline, AndAnd, OrOr, RightParen, RightBrace}
use Rattle.rc_model.specs.Syntax.Tree.{Node, Many, none, more, snoc}
use Rattle.rc_model.specs.Syntax.Tree as t
use Rattle.rc_model.specs.Syntax.WellFormed.{depth, depths, most_stages, most_stages_in}
use Rattle.rc_model.specs.Syntax.Grammar.{Phrase, past_newlines, and_or, is_if, begins_command, begins_link, closes, ends}
use Rattle.rc_model.specs.Syntax.Grammar as g
use Rattle.rc_model.specs.Mirrors.Descent as d
use Rattle.rc_model.specs.Mirrors.Descent.{Reader, Readers, ◌>>=◌}
use Rattle.law_syntax.proofs.Shorter.{Phrase-shorter, past_newlines-shorter}
use Rattle.law_syntax.proofs.Lists.{append, append_snoc, append_none}
use Rattle.rc_model.specs.declared.syntax.Logic.TheVariants.{And, Or}
use Rattle.law_syntax.proofs.CompletenessOfArguments.{Meets, deepen, bind, Good, name_meets, part_meets}
use Rattle.law_syntax.proofs.Beginnings.{closes_ends, command_commands}
use Rattle.law_syntax.proofs.CompletenessOfPipelines.{operand_meets, piped_stage_meets, piped_leading_meets, piped_assigned_meets}

-- commands and lists
and_or_tall : (c : Node t.cmd) (ls : Many t.link) → (depth c ≤ depth (and_or c ls)) × (depths ls ≤ depth (and_or c ls)) × (most_stages c ≤ most_stages (and_or c ls)) ×
    (most_stages_in ls ≤ most_stages (and_or c ls))
and_or_tall c none = (omega arith, omega arith, omega arith, omega arith)
and_or_tall c (more l ls) = (omega arith, omega arith, omega arith, omega arith)

-- no operand follows if no `&&` or `||` does
pub links_stop : (r : Readers) (go_on : Many t.link → Reader (Many t.link)) (front : Many t.link) (ts : List Lexeme) → begins_link ts ≡ false → d.links_turn r go_on front ts ≡ Ok (front, ts)
links_stop r go_on front (AndAnd ∷ ts) h = absurd cc
links_stop r go_on front (OrOr ∷ ts) h = absurd cc
links_stop r go_on front ts h = refl

links_from_meets : (a T W : ℕ) (r : Readers) → Good a r → (k : ℕ) (front : Many t.link) {ts : List Lexeme} {ls : Many t.link} {rest : List Lexeme} → Phrase g.links ts ls rest → length ts ≤ k →
    depths ls ≤ T → most_stages_in ls ≤ W → Meets (suc a) T W (d.links_from r k front ts) (append front ls, rest)
unfolding d.links_from
links_from_meets a T W r gr zero front (g.no_link {rest = rest} h) le dt dw = record { met = ap (λ z. (z, rest)) (sym (append_none front)) }
links_from_meets a T W r gr (suc k) front (g.no_link {rest = rest} h) le dt dw =
    rw (links_stop r (λ ls u. d.links_from r k ls u) front rest h) (record { met = ap (λ z. (z, rest)) (sym (append_none front)) })
links_from_meets a T W r gr zero front (g.and_link q s) le dt dw = absurd (omega arith)
links_from_meets a T W r gr (suc k) front (g.and_link {ts = ts} {mid = mid} {rest = rest} {c = c} {ls = ls} q s) le dt dw =
    let one = past_newlines-shorter ts in
    let two = Phrase-shorter q in
    bind (d.operand_by r false (past_newlines ts)) _ (c, mid) (append front (more (t.Link And c) ls), rest) (operand_meets a T W r gr q (omega arith) (omega arith))
    (subst (λ z. Meets (suc a) T W (d.links_from r k (snoc front (t.Link And c)) mid) (z, rest)) (append_snoc front (t.Link And c) ls)
    (links_from_meets a T W r gr k (snoc front (t.Link And c)) s (omega arith) (omega arith) (omega arith)))
links_from_meets a T W r gr zero front (g.or_link q s) le dt dw = absurd (omega arith)
links_from_meets a T W r gr (suc k) front (g.or_link {ts = ts} {mid = mid} {rest = rest} {c = c} {ls = ls} q s) le dt dw =
    let one = past_newlines-shorter ts in
    let two = Phrase-shorter q in
    bind (d.operand_by r false (past_newlines ts)) _ (c, mid) (append front (more (t.Link Or c) ls), rest) (operand_meets a T W r gr q (omega arith) (omega arith))
    (subst (λ z. Meets (suc a) T W (d.links_from r k (snoc front (t.Link Or c)) mid) (z, rest)) (append_snoc front (t.Link Or c) ls)
    (links_from_meets a T W r gr k (snoc front (t.Link Or c)) s (omega arith) (omega arith) (omega arith)))

command_meets : (a T W : ℕ) (r : Readers) → Good a r → {f : Bool} {ts : List Lexeme} {c : Node t.cmd} {rest : List Lexeme} → Phrase (g.command f) ts c rest → depth c ≤ T → most_stages c ≤ W →
    Meets (suc a) T W (d.command_by r f ts) (c, rest)
unfolding d.command_by d.links_by
command_meets a T W r gr (g.linked {after_if = f} {ts = ts} {mid = mid} {rest = rest} {c = c} {ls = ls} q s) dt dw =
    let z = and_or_tall c ls in
    bind (d.operand_by r f ts) _ (c, mid) (and_or c ls, rest) (operand_meets a T W r gr q (omega arith) (omega arith))
    (bind (d.links_from r (length mid) none mid) _ (ls, rest) (and_or c ls, rest) (links_from_meets a T W r gr (length mid) none s (omega arith) (omega arith) (omega arith)) (record { met = refl }))

item_turn_command : (r : Readers) (go_on : Bool → Many t.item → Reader (Many t.item)) (f : Bool) (front : Many t.item) (ts : List Lexeme) → begins_command ts ≡ true →
    d.item_turn r go_on f front ts ≡ (r (d.a_command f) ts >>= λ c. (d.item_end c.1 >>= λ b. go_on (not b.0 && is_if c.0) (snoc front (t.Item c.0 b.0)) b.1))
item_turn_command r go_on f front (Semicolon ∷ ts) h = absurd cc
item_turn_command r go_on f front (Newline ∷ ts) h = absurd cc
item_turn_command r go_on f front ts h = refl

item_end_closed : (ts : List Lexeme) → closes ts ≡ true → d.item_end ts ≡ Ok (false, ts)
unfolding d.item_end
item_end_closed [] h = refl
item_end_closed (RightParen ∷ ts) h = refl
item_end_closed (RightBrace ∷ ts) h = refl
item_end_closed ts h = absurd cc

items_closed : (r : Readers) (s : Bool) (k : ℕ) (f : Bool) (front : Many t.item) (ts : List Lexeme) → closes ts ≡ true → d.items_from r s k f front ts ≡ Ok (front, ts)
unfolding d.items_from d.item_end
items_closed r s zero f front ts h = refl
items_closed r s (suc k) f front ts h = rw (closes_ends s ts h) refl

not_ended : (s : Bool) (ts : List Lexeme) → ends s (Semicolon ∷ ts) ≡ false
not_ended true ts = refl
not_ended false ts = refl

not_ended_line : (s : Bool) (ts : List Lexeme) → ends s (Newline ∷ ts) ≡ false
not_ended_line true ts = refl
not_ended_line false ts = refl

items_from_meets : (a T W : ℕ) (r : Readers) → Good a r → (k : ℕ) (front : Many t.item) {s f : Bool} {ts : List Lexeme} {is : Many t.item} {rest : List Lexeme} →
    Phrase (g.items s f) ts is rest → length ts ≤ k → suc (depths is) ≤ T → most_stages_in is ≤ W → Meets (suc a) T W (d.items_from r s k f front ts) (append front is, rest)
unfolding d.items_from d.item_end
items_from_meets a T W r gr zero front (g.no_item {rest = rest} h) le dt dw = record { met = ap (λ z. (z, rest)) (sym (append_none front)) }
items_from_meets a T W r gr (suc k) front (g.no_item {rest = rest} h) le dt dw = rw h (record { met = ap (λ z. (z, rest)) (sym (append_none front)) })
items_from_meets a T W r gr zero front (g.semicolon_item q) le dt dw = absurd (omega arith)
items_from_meets a T W r gr (suc k) front (g.semicolon_item {in_switch = s} {ts = ts} q) le dt dw = rw (not_ended s ts) (items_from_meets a T W r gr k front q (omega arith) dt dw)
items_from_meets a T W r gr zero front (g.newline_item q) le dt dw = absurd (omega arith)
items_from_meets a T W r gr (suc k) front (g.newline_item {in_switch = s} {ts = ts} q) le dt dw = rw (not_ended_line s ts) (items_from_meets a T W r gr k front q (omega arith) dt dw)
items_from_meets a T W r gr zero front (g.one_item h q v) le dt dw = let one = Phrase-shorter q in absurd (omega arith)
items_from_meets a T W r gr (suc k) front (g.one_item {in_switch = s} {after_if = f} {ts = ts} {c = c} h q (g.after_last {rest = rest} e)) le dt dw =
    rw (h, item_turn_command r (λ b is u. d.items_from r s k b is u) f front ts (command_commands q))
    (bind (r (d.a_command f) ts) _ (c, rest) (append front (more (t.Item c false) none), rest) (deepen (r (d.a_command f) ts) (c, rest) (gr.command q) (omega arith) (omega arith))
    (rw (item_end_closed rest e, items_closed r s k (is_if c) (snoc front (t.Item c false)) rest e)
    (record { met = ap (λ z. (z, rest)) (sym (append_none (snoc front (t.Item c false))) ∙ append_snoc front (t.Item c false) none) })))
items_from_meets a T W r gr (suc k) front (g.one_item {in_switch = s} {after_if = f} {ts = ts} {c = c} h q (g.after_semicolon {ts = us} {rest = rest} {is = is} v)) le dt dw =
    let one = Phrase-shorter q in
    rw (h, item_turn_command r (λ b ls u. d.items_from r s k b ls u) f front ts (command_commands q))
    (bind (r (d.a_command f) ts) _ (c, Semicolon ∷ us) (append front (more (t.Item c false) is), rest)
    (deepen (r (d.a_command f) ts) (c, Semicolon ∷ us) (gr.command q) (omega arith) (omega arith))
    (subst (λ z. Meets (suc a) T W (d.items_from r s k (is_if c) (snoc front (t.Item c false)) us) (z, rest)) (append_snoc front (t.Item c false) is)
    (items_from_meets a T W r gr k (snoc front (t.Item c false)) v (omega arith) (omega arith) (omega arith))))
items_from_meets a T W r gr (suc k) front (g.one_item {in_switch = s} {after_if = f} {ts = ts} {c = c} h q (g.after_newline {ts = us} {rest = rest} {is = is} v)) le dt dw =
    let one = Phrase-shorter q in
    rw (h, item_turn_command r (λ b ls u. d.items_from r s k b ls u) f front ts (command_commands q))
    (bind (r (d.a_command f) ts) _ (c, Newline ∷ us) (append front (more (t.Item c false) is), rest)
    (deepen (r (d.a_command f) ts) (c, Newline ∷ us) (gr.command q) (omega arith) (omega arith))
    (subst (λ z. Meets (suc a) T W (d.items_from r s k (is_if c) (snoc front (t.Item c false)) us) (z, rest)) (append_snoc front (t.Item c false) is)
    (items_from_meets a T W r gr k (snoc front (t.Item c false)) v (omega arith) (omega arith) (omega arith))))
items_from_meets a T W r gr (suc k) front (g.one_item {in_switch = s} {after_if = f} {ts = ts} {c = c} h q (g.after_background {ts = us} {rest = rest} {is = is} v)) le dt dw =
    let one = Phrase-shorter q in
    rw (h, item_turn_command r (λ b ls u. d.items_from r s k b ls u) f front ts (command_commands q))
    (bind (r (d.a_command f) ts) _ (c, Ampersand ∷ us) (append front (more (t.Item c true) is), rest)
    (deepen (r (d.a_command f) ts) (c, Ampersand ∷ us) (gr.command q) (omega arith) (omega arith))
    (subst (λ z. Meets (suc a) T W (d.items_from r s k false (snoc front (t.Item c true)) us) (z, rest)) (append_snoc front (t.Item c true) is)
    (items_from_meets a T W r gr k (snoc front (t.Item c true)) v (omega arith) (omega arith) (omega arith))))

items_meets : (a T W : ℕ) (r : Readers) → Good a r → {s : Bool} {ts : List Lexeme} {is : Many t.item} {rest : List Lexeme} → Phrase (g.items s false) ts is rest → suc (depths is) ≤ T →
    most_stages_in is ≤ W → Meets (suc a) T W (d.items_by r s ts) (is, rest)
unfolding d.items_by
items_meets a T W r gr {ts = ts} q dt dw = items_from_meets a T W r gr (length ts) none q (omega arith) dt dw

-- each command and each argument is a level
depth_arg : (n : Node t.arg) → 0 < depth n
depth_arg (t.Lit text q) = omega arith
depth_arg (t.Concat ns) = omega arith
depth_arg (t.Paren ns) = omega arith
depth_arg (t.Var n) = omega arith
depth_arg (t.Count n) = omega arith
depth_arg (t.Flat n) = omega arith
depth_arg (t.Sub n ns) = omega arith
depth_arg (t.Back c) = omega arith

depth_cmd : (c : Node t.cmd) → 0 < depth c
depth_cmd t.Empty = omega arith
depth_cmd (t.Seq is) = omega arith
depth_cmd (t.Simple ws) = omega arith
depth_cmd (t.Assign ps c) = omega arith
depth_cmd (t.Redirect rs c) = omega arith
depth_cmd (t.Pipeline ss c) = omega arith
depth_cmd (t.AndOr c ls) = omega arith
depth_cmd (t.Not c) = omega arith
depth_cmd (t.Subshell c) = omega arith
depth_cmd (t.If c e) = omega arith
depth_cmd (t.IfNot c) = omega arith
depth_cmd (t.While c e) = omega arith
depth_cmd (t.ForAll n c) = omega arith
depth_cmd (t.For n ns c) = omega arith
depth_cmd (t.Switch n bs) = omega arith
depth_cmd (t.Match n ns) = omega arith
depth_cmd (t.Define ns c) = omega arith
depth_cmd (t.Undefine ns) = omega arith
depth_cmd (t.Brace c) = omega arith

-- each phrase is read with this many levels left
pub read_good : (left : ℕ) → Good left (d.read left)
unfolding d.read d.read_by
read_good zero = record {
  name = λ {ts} {n} q. record { met = depth_arg n };
  part = λ {inside} {ts} {n} q. record { met = depth_arg n };
  operand = λ {ts} {c} q. record { met = depth_cmd c };
  stage = λ {ts} {c} q. record { met = depth_cmd c };
  leading = λ {ts} {c} q. record { met = depth_cmd c };
  assigned = λ {ts} {c} q. record { met = depth_cmd c };
  command = λ {f} {ts} {c} q. record { met = depth_cmd c };
  list = λ {s} {ts} {is} q. record { met = omega arith };
}
read_good (suc left) =
    let gr = read_good left in
    record {
      name = λ {ts} {n} q. name_meets left (depth n) (most_stages n) (d.read left) gr q (omega arith) (omega arith);
      part = λ {inside} {ts} {n} q. part_meets left (depth n) (most_stages n) (d.read left) gr q (omega arith) (omega arith);
      operand = λ {ts} {c} q. operand_meets left (depth c) (most_stages c) (d.read left) gr q (omega arith) (omega arith);
      stage = λ {ts} {c} q. piped_stage_meets left (depth c) (most_stages c) (d.read left) gr q (omega arith) (omega arith);
      leading = λ {ts} {c} q. piped_leading_meets left (depth c) (most_stages c) (d.read left) gr q (omega arith) (omega arith);
      assigned = λ {ts} {c} q. piped_assigned_meets left (depth c) (most_stages c) (d.read left) gr q (omega arith) (omega arith);
      command = λ {f} {ts} {c} q. command_meets left (depth c) (most_stages c) (d.read left) gr q (omega arith) (omega arith);
      list = λ {s} {ts} {is} q. items_meets left (suc (depths is)) (most_stages_in is) (d.read left) gr q (omega arith) (omega arith);
    }
