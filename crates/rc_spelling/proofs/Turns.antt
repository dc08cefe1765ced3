-- One turn of a loop that reads a list.
use Rattle.std.proofs.Common.{◌≡◌, refl, ap, sym, ◌∙◌, ℕ, suc, ◌+◌, ◌-◌, ◌<◌, ◌≤◌, List, Result, Ok, Err, arith}
use Rattle.std.proofs.lemmas.Grind.{common_steps}
use Rattle.rc_model.specs.Syntax.Tree.{Sort, Node, Many, none, snoc}
use Rattle.rc_model.specs.Syntax.Tree as t
use Rattle.rc_model.specs.Handed.TreeReading.{Reader, ◌>>=◌, cmd_at, arg_at}
use Rattle.rc_tree.specs.View.{nodes_push, tree_Here}
use Rattle.rc_spelling.specs.Steps.{nodes_from, list_by, args_by, item_by, pair_by, stage_by, link_by, branch_by, slot_by, background_by, logic_by, count_from}
use Rattle.rc_model.specs.declared.fault.ImageFault.{ImageFault}

one_less : (count i : ℕ) → i < count → count - i ≡ suc (count - (i + 1))
one_less count i h = omega arith

none_left : (count i : ℕ) → count ≤ i → count - i ≡ 0
none_left count i h = omega arith

list_of : {s : Sort} (r : Reader (Node s)) (p : Result (ℕ × List ℕ) ImageFault) (n : ℕ) (rest : List ℕ) → p ≡ Ok (n, rest) →
    (p >>= λ x. nodes_from r x.0 none x.1) ≡ nodes_from r n none rest
list_of r p n rest h = ap (λ q. q >>= λ x. nodes_from r x.0 none x.1) h

list_fault : {s : Sort} (r : Reader (Node s)) (p : Result (ℕ × List ℕ) ImageFault) (e : ImageFault) → p ≡ Err e → (p >>= λ x. nodes_from r x.0 none x.1) ≡ Err e
list_fault r p e h = ap (λ q. q >>= λ x. nodes_from r x.0 none x.1) h

all_left : (n : ℕ) → n - 0 ≡ n
all_left n = omega arith

pub list_start : {s : Sort} (c : Reader ℕ) (r : Reader (Node s)) (bytes : List ℕ) (n : ℕ) (rest : List ℕ) → c bytes ≡ Ok (n, rest) →
    list_by c r bytes ≡ nodes_from r (n - 0) none rest
unfolding list_by
list_start c r bytes n rest h = list_of r (c bytes) n rest h ∙ ap (λ k. nodes_from r k none rest) (sym (all_left n))

pub list_refused : {s : Sort} (c : Reader ℕ) (r : Reader (Node s)) (bytes : List ℕ) (e : ImageFault) → c bytes ≡ Err e → list_by c r bytes ≡ Err e
unfolding list_by
list_refused c r bytes e h = list_fault r (c bytes) e h

pub nodes_more : {s : Sort} (r : Reader (Node s)) (count i : ℕ) (front : Many s) (bytes : List ℕ) → i < count →
    nodes_from r (count - i) front bytes ≡ (r bytes >>= λ x. nodes_from r (count - (i + 1)) (snoc front x.0) x.1)
unfolding nodes_from
nodes_more r count i front bytes h = ap (λ k. nodes_from r k front bytes) (one_less count i h)

pub nodes_done : {s : Sort} (r : Reader (Node s)) (count i : ℕ) (front : Many s) (bytes : List ℕ) → count ≤ i → nodes_from r (count - i) front bytes ≡ Ok (front, bytes)
unfolding nodes_from
nodes_done r count i front bytes h = ap (λ k. nodes_from r k front bytes) (none_left count i h)

pub args_are : (least d : ℕ) (bytes : List ℕ) → args_by least d bytes ≡ list_by (count_from least) (arg_at d) bytes
unfolding args_by
args_are least d bytes = refl

pub item_is : (d : ℕ) (bytes : List ℕ) → item_by d bytes ≡ (background_by bytes >>= λ b. cmd_at d b.1 >>= λ x. Ok (t.Item x.0 b.0, x.1))
unfolding item_by
item_is d bytes = refl

pub pair_is : (d : ℕ) (bytes : List ℕ) → pair_by d bytes ≡ (arg_at d bytes >>= λ x. arg_at d x.1 >>= λ y. Ok (t.Pair x.0 y.0, y.1))
unfolding pair_by
pair_is d bytes = refl

pub stage_is : (d : ℕ) (bytes : List ℕ) → stage_by d bytes ≡ (slot_by bytes >>= λ s. cmd_at d s.1 >>= λ x. Ok (t.Stage x.0 s.0, x.1))
unfolding stage_by
stage_is d bytes = refl

pub link_is : (d : ℕ) (bytes : List ℕ) → link_by d bytes ≡ (logic_by bytes >>= λ l. cmd_at d l.1 >>= λ x. Ok (t.Link l.0 x.0, x.1))
unfolding link_by
link_is d bytes = refl

pub branch_is : (d : ℕ) (bytes : List ℕ) → branch_by d bytes ≡ (args_by 0 d bytes >>= λ ps. cmd_at d ps.1 >>= λ x. Ok (t.Branch ps.0 x.0, x.1))
unfolding branch_by
branch_is d bytes = refl

-- a here document
pub ruleset here_docs = (tree_Here, common_steps)

pub ruleset lists = (args_are, list_start, list_refused, nodes_more, nodes_done, nodes_push, common_steps)

pub ruleset items = (item_is, list_start, list_refused, nodes_more, nodes_done, nodes_push, common_steps)

pub ruleset pairs = (pair_is, list_start, list_refused, nodes_more, nodes_done, nodes_push, common_steps)

pub ruleset redirs = (list_start, list_refused, nodes_more, nodes_done, nodes_push, common_steps)

pub ruleset stages = (stage_is, list_start, list_refused, nodes_more, nodes_done, nodes_push, common_steps)

pub ruleset links = (link_is, list_start, list_refused, nodes_more, nodes_done, nodes_push, common_steps)

pub ruleset branches = (branch_is, list_start, list_refused, nodes_more, nodes_done, nodes_push, common_steps)
