-- What is left after reading is what is left by the parts.
use Rattle.std.proofs.Common.{◌≡◌, refl, ap, sym, ◌∙◌, ℕ, zero, suc, ◌+◌, ◌-◌, ◌<◌, ◌≤◌, ◌==◌, if◌then◌else◌, Bool, true, false, List, [], ◌∷◌, length, Result, Ok, Err, arith}
use Rattle.std.proofs.lemmas.Bool.{ne_eqb}
use Rattle.std.proofs.lemmas.Grind.{common_steps}
use Rattle.rc_model.specs.Syntax.Tree.{Sort, Node, Many, none, snoc}
use Rattle.rc_model.specs.Syntax.Tree as t
use Rattle.rc_model.specs.Handed.TreeReading.{Reader, ◌>>=◌, whole, read_spelling, cmd_at, arg_at}
use Rattle.rc_model.specs.declared.call.Mode.TheVariants.{Read}
use Rattle.rc_model.specs.declared.fault.ImageFault.{ImageFault}
use Rattle.rc_model.specs.declared.fault.ImageFault.TheVariants.{BadTag, TooDeep, Trailing}
use Rattle.rc_model.specs.declared.limits.TheConstants.{MOST_LEVELS}
use Rattle.rc_spelling.specs.Steps.{first_by, count_from, stage_count, nodes_from, list_by, text_by, quoted_by, piece_by, here_by, slot_by, background_by, logic_by}
use Rattle.rc_spelling.specs.Steps.{args_by, item_by, pair_by, stage_by, link_by, branch_by}
use Rattle.rc_spelling.specs.Shapes.{cmd_shape, arg_shape, redir_shape, mark_by}
use Rattle.rc_spelling.specs.Nodes.{body_node, bodies_node, words_node, name_node}
use Rattle.rc_spelling.specs.Reading.{redir_of, redir_by, front_by, subject_by, cmd_of, arg_of}
use Rattle.rc_spelling.specs.Rests.{Rest, rest_of, tree_or_empty, past_each, past_text, past_piece, past_here, past_cmd, past_arg, past_args, past_redir_of, past_redir, past_part, past_list}
use Rattle.rc_spelling.specs.Rests.{past_front, past_subject, past_cmd_of, past_arg_of}
use Rattle.rc_spelling.specs.declared.shape.CmdShape.{CmdShape}
use Rattle.rc_spelling.specs.declared.shape.CmdShape.TheVariants as s
use Rattle.rc_spelling.specs.declared.shape.FrontShape.{FrontShape}
use Rattle.rc_spelling.specs.declared.shape.FrontShape.TheVariants as f
use Rattle.rc_spelling.specs.declared.shape.SubjectShape.{SubjectShape}
use Rattle.rc_spelling.specs.declared.shape.SubjectShape.TheVariants as j
use Rattle.rc_spelling.specs.declared.shape.ArgShape.{ArgShape}
use Rattle.rc_spelling.specs.declared.shape.ArgShape.TheVariants as a
use Rattle.rc_spelling.specs.declared.shape.RedirShape.{RedirShape}
use Rattle.rc_spelling.specs.declared.shape.RedirShape.TheVariants as r
use Rattle.rc_spelling.specs.declared.shape.Part.TheVariants as p
use Rattle.rc_spelling.proofs.Mirror.{cmd_none, arg_none, cmd_given, cmd_bad, arg_given, arg_bad}

abbrev Read-of : Type 0 → Type 0
Read-of X = Result (X × List ℕ) ImageFault

-- ** one thing after another

made : {X Y : Type 0} (f : X → Y) (q : Read-of X) → rest_of (q >>= λ x. Ok (f x.0, x.1)) ≡ rest_of q
made f (Ok x) = refl
made f (Err e) = refl

after : {X Y : Type 0} (q : Read-of X) (k : X × List ℕ → Read-of Y) (g : List ℕ → Rest) → ((x : X × List ℕ) → rest_of (k x) ≡ g x.1) → rest_of (q >>= k) ≡ (rest_of q >>= g)
after (Ok x) k g h = h x
after (Err e) k g h = refl

-- what is kept of the first one is no part of what is left
with_first : {X Y : Type 0} (q : Read-of X) (k : X × List ℕ → Read-of Y) (g : X × List ℕ → Rest) → ((x : X × List ℕ) → rest_of (k x) ≡ g x) → rest_of (q >>= k) ≡ (q >>= g)
with_first (Ok x) k g h = h x
with_first (Err e) k g h = refl

each : {s : Sort} (r : Reader (Node s)) (g : List ℕ → Rest) → ((bytes : List ℕ) → rest_of (r bytes) ≡ g bytes) → (n : ℕ) (front : Many s) (bytes : List ℕ) →
    rest_of (nodes_from r n front bytes) ≡ past_each g n bytes
unfolding nodes_from past_each
each r g h zero front bytes = refl
each r g h (suc n) front bytes =
    after (r bytes) (λ x. nodes_from r n (snoc front x.0) x.1) (λ rest. past_each g n rest) (λ x. each r g h n (snoc front x.0) x.1)
    ∙ ap (λ (q : Rest). q >>= λ rest. past_each g n rest) (h bytes)

list : {s : Sort} (c : Reader ℕ) (r : Reader (Node s)) (g : List ℕ → Rest) → ((bytes : List ℕ) → rest_of (r bytes) ≡ g bytes) → (bytes : List ℕ) →
    rest_of (list_by c r bytes) ≡ (c bytes >>= λ n. past_each g n.0 n.1)
unfolding list_by
list c r g h bytes = with_first (c bytes) (λ n. nodes_from r n.0 none n.1) (λ n. past_each g n.0 n.1) (λ n. each r g h n.0 none n.1)

-- ** the parts

cmd : (d : ℕ) (bytes : List ℕ) → rest_of (cmd_at d bytes) ≡ past_cmd d bytes
unfolding past_cmd
cmd d bytes = refl

arg : (d : ℕ) (bytes : List ℕ) → rest_of (arg_at d bytes) ≡ past_arg d bytes
unfolding past_arg
arg d bytes = refl

args : (least d : ℕ) (bytes : List ℕ) → rest_of (args_by least d bytes) ≡ past_args least d bytes
unfolding args_by past_args
args least d bytes = list (count_from least) (arg_at d) (past_arg d) (arg d) bytes

text : {Y : Type 0} (f : List ℕ → Y) (bytes : List ℕ) → rest_of (text_by bytes >>= λ y. Ok (f y.0, y.1)) ≡ past_text bytes
text f bytes = made f (text_by bytes)

tested : {X : Type 0} (c e : Bool) (p q : Read-of X) (x y : Rest) → rest_of p ≡ x → rest_of q ≡ y →
    rest_of (if c then p else (if e then q else Err BadTag)) ≡ (if c then x else (if e then y else Err BadTag))
tested true e p q x y h k = h
tested false true p q x y h k = k
tested false false p q x y h k = refl

piece : (bytes : List ℕ) → rest_of (piece_by bytes) ≡ past_piece bytes
unfolding piece_by past_piece
piece bytes = with_first (first_by bytes) _ _ (λ x. tested (x.0 == 116) (x.0 == 118) _ _ _ _ (text t.Text x.1) (text t.Name x.1))

here : (bytes : List ℕ) → rest_of (here_by bytes) ≡ past_here bytes
unfolding here_by past_here
here bytes = made t.Here (list_by (count_from 0) piece_by bytes) ∙ list (count_from 0) piece_by past_piece piece bytes

-- a command after something else
then_cmd : {X Y : Type 0} (d : ℕ) (q : Read-of X) (f : X → Node t.cmd → Y) → rest_of (q >>= λ x. cmd_at d x.1 >>= λ y. Ok (f x.0 y.0, y.1)) ≡ (rest_of q >>= λ rest. past_cmd d rest)
then_cmd d q f = after q _ (λ rest. past_cmd d rest) (λ x. made (f x.0) (cmd_at d x.1) ∙ cmd d x.1)

-- an argument after something else
then_arg : {X Y : Type 0} (d : ℕ) (q : Read-of X) (f : X → Node t.arg → Y) → rest_of (q >>= λ x. arg_at d x.1 >>= λ y. Ok (f x.0 y.0, y.1)) ≡ (rest_of q >>= λ rest. past_arg d rest)
then_arg d q f = after q _ (λ rest. past_arg d rest) (λ x. made (f x.0) (arg_at d x.1) ∙ arg d x.1)

-- arguments after something else
then_args : {X Y : Type 0} (d : ℕ) (q : Read-of X) (f : X → Many t.arg → Y) → rest_of (q >>= λ x. args_by 0 d x.1 >>= λ y. Ok (f x.0 y.0, y.1)) ≡ (rest_of q >>= λ rest. past_args 0 d rest)
then_args d q f = after q _ (λ rest. past_args 0 d rest) (λ x. made (f x.0) (args_by 0 d x.1) ∙ args 0 d x.1)

-- a command after a mark
marked_cmd : {X Y : Type 0} (d : ℕ) (q : Read-of X) (f : X → Node t.cmd → Y) → rest_of (q >>= λ x. cmd_at d x.1 >>= λ y. Ok (f x.0 y.0, y.1)) ≡ (q >>= λ x. past_cmd d x.1)
marked_cmd d q f = with_first q _ (λ x. past_cmd d x.1) (λ x. made (f x.0) (cmd_at d x.1) ∙ cmd d x.1)

redir_shaped : (d : ℕ) (shape : RedirShape) (bytes : List ℕ) → rest_of (redir_of d shape bytes) ≡ past_redir_of d shape bytes
redir_shaped d r.Input bytes = made (t.Open Read 0) (arg_at d bytes) ∙ arg d bytes
redir_shaped d (r.Output mode) bytes = with_first (slot_by bytes) _ (λ x. past_arg d x.1) (λ x. made (λ y. t.Open mode x.0 y) (arg_at d x.1) ∙ arg d x.1)
redir_shaped d r.Copy bytes = refl
redir_shaped d r.Here bytes = here bytes

redir : (d : ℕ) (bytes : List ℕ) → rest_of (redir_by d bytes) ≡ past_redir d bytes
unfolding redir_by past_redir
redir d bytes = with_first (mark_by redir_shape bytes) _ (λ x. past_redir_of d x.0 x.1) (λ x. redir_shaped d x.0 x.1)

item : (d : ℕ) (bytes : List ℕ) → rest_of (item_by d bytes) ≡ past_part d p.Item bytes
unfolding item_by past_part
item d bytes = marked_cmd d (background_by bytes) (λ b x. t.Item x b)

pair : (d : ℕ) (bytes : List ℕ) → rest_of (pair_by d bytes) ≡ past_part d p.Pair bytes
unfolding pair_by past_part
pair d bytes = then_arg d (arg_at d bytes) (λ x y. t.Pair x y) ∙ ap (λ (q : Rest). q >>= λ rest. past_arg d rest) (arg d bytes)

one_redir : (d : ℕ) (bytes : List ℕ) → rest_of (redir_by d bytes) ≡ past_part d p.Redir bytes
unfolding past_part
one_redir d bytes = redir d bytes

stage : (d : ℕ) (bytes : List ℕ) → rest_of (stage_by d bytes) ≡ past_part d p.Stage bytes
unfolding stage_by past_part
stage d bytes = marked_cmd d (slot_by bytes) (λ s x. t.Stage x s)

link : (d : ℕ) (bytes : List ℕ) → rest_of (link_by d bytes) ≡ past_part d p.Link bytes
unfolding link_by past_part
link d bytes = marked_cmd d (logic_by bytes) (λ l x. t.Link l x)

branch : (d : ℕ) (bytes : List ℕ) → rest_of (branch_by d bytes) ≡ past_part d p.Branch bytes
unfolding branch_by past_part
branch d bytes = then_cmd d (args_by 0 d bytes) (λ ps x. t.Branch ps x) ∙ ap (λ (q : Rest). q >>= λ rest. past_cmd d rest) (args 0 d bytes)

items : (d : ℕ) (bytes : List ℕ) → rest_of (list_by (count_from 0) (item_by d) bytes) ≡ past_list 0 d p.Item bytes
unfolding past_list
items d bytes = list (count_from 0) (item_by d) (past_part d p.Item) (item d) bytes

pairs : (d : ℕ) (bytes : List ℕ) → rest_of (list_by (count_from 1) (pair_by d) bytes) ≡ past_list 1 d p.Pair bytes
unfolding past_list
pairs d bytes = list (count_from 1) (pair_by d) (past_part d p.Pair) (pair d) bytes

redirs : (d : ℕ) (bytes : List ℕ) → rest_of (list_by (count_from 1) (redir_by d) bytes) ≡ past_list 1 d p.Redir bytes
unfolding past_list
redirs d bytes = list (count_from 1) (redir_by d) (past_part d p.Redir) (one_redir d) bytes

stages : (d : ℕ) (bytes : List ℕ) → rest_of (list_by stage_count (stage_by d) bytes) ≡ (stage_count bytes >>= λ n. past_each (past_part d p.Stage) n.0 n.1)
stages d bytes = list stage_count (stage_by d) (past_part d p.Stage) (stage d) bytes

links : (d : ℕ) (bytes : List ℕ) → rest_of (list_by (count_from 1) (link_by d) bytes) ≡ past_list 1 d p.Link bytes
unfolding past_list
links d bytes = list (count_from 1) (link_by d) (past_part d p.Link) (link d) bytes

branches : (d : ℕ) (bytes : List ℕ) → rest_of (list_by (count_from 0) (branch_by d) bytes) ≡ past_list 0 d p.Branch bytes
unfolding past_list
branches d bytes = list (count_from 0) (branch_by d) (past_part d p.Branch) (branch d) bytes

-- ** the shapes

-- a list, and a command after it
abbrev and_cmd : ℕ → Rest → Rest
and_cmd d q = q >>= λ rest. past_cmd d rest

front : (d : ℕ) (shape : FrontShape) (bytes : List ℕ) → rest_of (front_by d shape bytes) ≡ (past_front d shape bytes >>= λ rest. past_cmd d rest)
unfolding past_front front_by
front d f.Assign bytes = then_cmd d (list_by (count_from 1) (pair_by d) bytes) (λ x y. t.Assign x y) ∙ ap (and_cmd d) (pairs d bytes)
front d f.Redirect bytes = then_cmd d (list_by (count_from 1) (redir_by d) bytes) (λ x y. t.Redirect x y) ∙ ap (and_cmd d) (redirs d bytes)
front d f.Pipeline bytes = then_cmd d (list_by stage_count (stage_by d) bytes) (λ x y. t.Pipeline x y) ∙ ap (and_cmd d) (stages d bytes)
front d f.Define bytes = then_cmd d (args_by 1 d bytes) (λ x y. t.Define x y) ∙ ap (and_cmd d) (args 1 d bytes)

subject : (d : ℕ) (shape : SubjectShape) (x : Node t.arg) (bytes : List ℕ) → rest_of (subject_by d shape x bytes) ≡ past_subject d shape bytes
unfolding past_subject subject_by
subject d j.ForAll x bytes = made (t.ForAll x) (cmd_at d bytes) ∙ cmd d bytes
subject d j.For x bytes = then_cmd d (args_by 0 d bytes) (λ y z. t.For x y z) ∙ ap (and_cmd d) (args 0 d bytes)
subject d j.Switch x bytes = made (t.Switch x) (list_by (count_from 0) (branch_by d) bytes) ∙ branches d bytes
subject d j.Match x bytes = made (t.Match x) (args_by 0 d bytes) ∙ args 0 d bytes

shaped_cmd : (d : ℕ) (shape : CmdShape) (bytes : List ℕ) → rest_of (cmd_of d shape bytes) ≡ past_cmd_of d shape bytes
unfolding past_cmd_of cmd_of
shaped_cmd d s.Empty bytes = refl
shaped_cmd d s.Seq bytes = made t.Seq (list_by (count_from 0) (item_by d) bytes) ∙ items d bytes
shaped_cmd d s.AndOr bytes =
    after (cmd_at d bytes) _ (λ rest. past_list 1 d p.Link rest) (λ x. made (t.AndOr x.0) (list_by (count_from 1) (link_by d) x.1) ∙ links d x.1)
    ∙ ap (λ (q : Rest). q >>= λ rest. past_list 1 d p.Link rest) (cmd d bytes)
shaped_cmd d (s.Body b) bytes = made (body_node b) (cmd_at d bytes) ∙ cmd d bytes
shaped_cmd d (s.Bodies b) bytes = then_cmd d (cmd_at d bytes) (bodies_node b) ∙ ap (and_cmd d) (cmd d bytes)
shaped_cmd d (s.Words w) bytes = made (words_node w) (args_by 1 d bytes) ∙ args 1 d bytes
shaped_cmd d (s.Front f) bytes = front d f bytes
shaped_cmd d (s.Subject j) bytes =
    after (arg_at d bytes) _ (λ rest. past_subject d j rest) (λ x. subject d j x.0 x.1)
    ∙ ap (λ (q : Rest). q >>= λ rest. past_subject d j rest) (arg d bytes)

shaped_arg : (d : ℕ) (shape : ArgShape) (bytes : List ℕ) → rest_of (arg_of d shape bytes) ≡ past_arg_of d shape bytes
unfolding past_arg_of arg_of
shaped_arg d a.Word bytes = refl
shaped_arg d a.Quoted bytes = refl
shaped_arg d a.Concat bytes = made t.Concat (args_by 2 d bytes) ∙ args 2 d bytes
shaped_arg d a.Paren bytes = made t.Paren (args_by 0 d bytes) ∙ args 0 d bytes
shaped_arg d (a.Name n) bytes = made (name_node n) (arg_at d bytes) ∙ arg d bytes
shaped_arg d a.Sub bytes = then_args d (arg_at d bytes) (λ x y. t.Sub x y) ∙ ap (λ (q : Rest). q >>= λ rest. past_args 0 d rest) (arg d bytes)
shaped_arg d a.Back bytes = made t.Back (cmd_at d bytes) ∙ cmd d bytes

-- ** levels

pub no_cmd : (left : ℕ) (bytes : List ℕ) → left ≡ 0 → past_cmd left bytes ≡ Err TooDeep
unfolding past_cmd
no_cmd left bytes h = ap rest_of (cmd_none left bytes h)

pub no_arg : (left : ℕ) (bytes : List ℕ) → left ≡ 0 → past_arg left bytes ≡ Err TooDeep
unfolding past_arg
no_arg left bytes h = ap rest_of (arg_none left bytes h)

pub given_cmd : (left : ℕ) (bytes rest : List ℕ) (shape : CmdShape) → 0 < left → mark_by cmd_shape bytes ≡ Ok (shape, rest) →
    past_cmd left bytes ≡ past_cmd_of (left - 1) shape rest
unfolding past_cmd
given_cmd left bytes rest shape h e = ap rest_of (cmd_given left bytes rest shape h e) ∙ shaped_cmd (left - 1) shape rest

pub bad_cmd : (left : ℕ) (bytes : List ℕ) (fault : ImageFault) → 0 < left → mark_by cmd_shape bytes ≡ Err fault → past_cmd left bytes ≡ Err fault
unfolding past_cmd
bad_cmd left bytes fault h e = ap rest_of (cmd_bad left bytes fault h e)

pub given_arg : (left : ℕ) (bytes rest : List ℕ) (shape : ArgShape) → 0 < left → mark_by arg_shape bytes ≡ Ok (shape, rest) →
    past_arg left bytes ≡ past_arg_of (left - 1) shape rest
unfolding past_arg
given_arg left bytes rest shape h e = ap rest_of (arg_given left bytes rest shape h e) ∙ shaped_arg (left - 1) shape rest

pub bad_arg : (left : ℕ) (bytes : List ℕ) (fault : ImageFault) → 0 < left → mark_by arg_shape bytes ≡ Err fault → past_arg left bytes ≡ Err fault
unfolding past_arg
bad_arg left bytes fault h e = ap rest_of (arg_bad left bytes fault h e)

pub ruleset levels = (no_cmd, no_arg, given_cmd, bad_cmd, given_arg, bad_arg, common_steps)

pub quoted_text : (bytes : List ℕ) → rest_of (quoted_by bytes) ≡ past_text bytes
unfolding quoted_by
quoted_text bytes = text (λ x. t.Lit x true) bytes

pub ruleset quoted = (quoted_text, common_steps)

-- ** the turns of a loop

one_less : (count i : ℕ) → i < count → count - i ≡ suc (count - (i + 1))
one_less count i h = omega arith

none_left : (count i : ℕ) → count ≤ i → count - i ≡ 0
none_left count i h = omega arith

all_left : (n : ℕ) → n ≡ n - 0
all_left n = omega arith

pub each_start : (g : List ℕ → Rest) (n : ℕ) (bytes : List ℕ) → past_each g n bytes ≡ past_each g (n - 0) bytes
each_start g n bytes = ap (λ k. past_each g k bytes) (all_left n)

pub each_more : (g : List ℕ → Rest) (count i : ℕ) (bytes : List ℕ) → i < count → past_each g (count - i) bytes ≡ (g bytes >>= λ rest. past_each g (count - (i + 1)) rest)
unfolding past_each
each_more g count i bytes h = ap (λ k. past_each g k bytes) (one_less count i h)

pub each_done : (g : List ℕ → Rest) (count i : ℕ) (bytes : List ℕ) → count ≤ i → past_each g (count - i) bytes ≡ Ok bytes
unfolding past_each
each_done g count i bytes h = ap (λ k. past_each g k bytes) (none_left count i h)

counted : (g : List ℕ → Rest) (q : Read-of ℕ) (n : ℕ) (rest : List ℕ) → q ≡ Ok (n, rest) → (q >>= λ x. past_each g x.0 x.1) ≡ past_each g (n - 0) rest
counted g q n rest h = ap (λ (z : Read-of ℕ). z >>= λ x. past_each g x.0 x.1) h ∙ each_start g n rest

uncounted : (g : List ℕ → Rest) (q : Read-of ℕ) (e : ImageFault) → q ≡ Err e → (q >>= λ x. past_each g x.0 x.1) ≡ Err e
uncounted g q e h = ap (λ (z : Read-of ℕ). z >>= λ x. past_each g x.0 x.1) h

pub args_start : (least d : ℕ) (bytes : List ℕ) (n : ℕ) (rest : List ℕ) → count_from least bytes ≡ Ok (n, rest) → past_args least d bytes ≡ past_each (past_arg d) (n - 0) rest
unfolding past_args
args_start least d bytes n rest h = counted (past_arg d) (count_from least bytes) n rest h

pub args_refused : (least d : ℕ) (bytes : List ℕ) (e : ImageFault) → count_from least bytes ≡ Err e → past_args least d bytes ≡ Err e
unfolding past_args
args_refused least d bytes e h = uncounted (past_arg d) (count_from least bytes) e h

pub here_start : (bytes : List ℕ) (n : ℕ) (rest : List ℕ) → count_from 0 bytes ≡ Ok (n, rest) → past_here bytes ≡ past_each past_piece (n - 0) rest
unfolding past_here
here_start bytes n rest h = counted past_piece (count_from 0 bytes) n rest h

pub here_refused : (bytes : List ℕ) (e : ImageFault) → count_from 0 bytes ≡ Err e → past_here bytes ≡ Err e
unfolding past_here
here_refused bytes e h = uncounted past_piece (count_from 0 bytes) e h

pub ruleset arguments = (args_start, args_refused, each_more, each_done, common_steps)

pub ruleset here_docs = (here_start, here_refused, each_more, each_done, common_steps)

pub ruleset turns = (each_start, each_more, each_done, common_steps)

-- ** the whole

emptied : (rest : List ℕ) → length rest ≡ 0 → (length rest == 0) ≡ true
emptied [] h = refl
emptied (b ∷ bs) h = absurd (omega arith)

same_rest : (a b : List ℕ) → ◌≡◌ {A = Rest} (Ok a) (Ok b) → a ≡ b
same_rest a b e = cc

ended : (c : Node t.cmd) (b : Bool) (q : Result (Node t.cmd) ImageFault) → b ≡ true → q ≡ (if b then Ok c else Err Trailing) → q ≡ Ok (tree_or_empty q)
ended c true q e h = h ∙ ap (λ z. Ok (tree_or_empty z)) (sym h)
ended c false q e h = absurd (cc)

whole_at : (q : Read-of (Node t.cmd)) (rest : List ℕ) → rest_of q ≡ Ok rest → length rest ≡ 0 → whole q ≡ Ok (tree_or_empty (whole q))
whole_at (Ok x) rest h k = ended x.0 (length x.1 == 0) (whole (Ok x)) (ap (λ (l : List ℕ). length l == 0) (same_rest x.1 rest h) ∙ emptied rest k) refl
whole_at (Err e) rest h k = absurd (cc)

pub spelled : (bytes rest : List ℕ) → past_cmd MOST_LEVELS bytes ≡ Ok rest → length rest ≡ 0 → read_spelling bytes ≡ Ok (tree_or_empty (read_spelling bytes))
unfolding past_cmd
spelled bytes rest h k = whole_at (cmd_at MOST_LEVELS bytes) rest h k

pub ruleset whole_spellings = (spelled, common_steps)

-- a reading whose tree isn't kept
pub not_kept : (c : Node t.cmd) (q : Result (Node t.cmd) ImageFault) → q ≡ Ok c → q ≡ Ok (tree_or_empty q)
not_kept c (Ok x) h = refl
not_kept c (Err e) h = absurd (cc)

pub ruleset read_trees = (not_kept, common_steps)
