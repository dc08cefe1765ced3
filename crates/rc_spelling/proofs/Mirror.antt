-- Reading by the table of marks is reading step by step.
use Rattle.std.proofs.Common.{◌≡◌, refl, ap, sym, ◌∙◌, ℕ, zero, suc, ◌-◌, ◌<◌, Bool, true, false, ◌==◌, if◌then◌else◌, List, [], ◌∷◌, nat_le, nat_lt, ◌&&◌, Option, Some, None, Result, Ok, Err, arith}
use Rattle.std.proofs.lemmas.Bool.{le-leb}
use Rattle.std.proofs.lemmas.Grind.{common_steps}
use Rattle.rc_model.specs.declared.call.Mode.{Mode}
use Rattle.rc_model.specs.declared.call.Mode.TheVariants.{Write, Append}
use Rattle.rc_model.specs.declared.syntax.Logic.TheVariants.{And, Or}
use Rattle.rc_model.specs.Syntax.Tree.{Node, Many, none, more, snoc}
use Rattle.rc_model.specs.Syntax.Tree as t
use Rattle.rc_model.specs.Handed.TreeReading as m
use Rattle.rc_model.specs.Syntax.WellFormed.{has_text}
use Rattle.rc_model.specs.Handed.TreeReading.{Reader, ◌>>=◌, made, both, tested, tagged, chosen, given, listed, nodes_at, count_at, text_at, cmd_at, arg_at}
use Rattle.rc_spelling.specs.Steps.{first_by, number_by, string_by, text_by, only_by, count_from, stage_count, nodes_from, list_by, word_by, quoted_by, copy_by, piece_by, here_by, slot_by, background_by, logic_by}
use Rattle.rc_spelling.specs.Steps.{args_by, item_by, pair_by, stage_by, link_by, branch_by}
use Rattle.rc_spelling.specs.Shapes.{cmd_shape, arg_shape, redir_shape, shaped, mark_by}
use Rattle.rc_spelling.specs.declared.shape.CmdShape.{CmdShape}
use Rattle.rc_spelling.specs.declared.shape.ArgShape.{ArgShape}
use Rattle.rc_spelling.specs.Nodes.{body_node, bodies_node, words_node, name_node}
use Rattle.rc_spelling.specs.Reading.{opened_by, redir_of, redir_by, front_by, subject_by, cmd_of, arg_of}
use Rattle.rc_model.specs.declared.fault.ImageFault.{ImageFault}
use Rattle.rc_model.specs.declared.fault.ImageFault.TheVariants.{BadLength, BadTag, TooDeep}

abbrev Read-of : Type 0 → Type 0
Read-of X = Result (X × List ℕ) ImageFault

-- two readers that read the same
abbrev Same : {X : Type 0} → Reader X → Reader X → Type 0
Same r q = (bytes : List ℕ) → r bytes ≡ q bytes

-- both ways of a test
either : {X : Type 0} (c : Bool) {x y z w : X} → x ≡ z → y ≡ w → (if c then x else y) ≡ (if c then z else w)
either true p q = p
either false p q = q

-- what follows a mark
abbrev after_shape : {X Y : Type 0} → (X → Reader Y) → List ℕ → Option X → Read-of Y
after_shape f rest (Some s) = f s rest
after_shape f rest None = Err BadTag

shaped_then : {X Y : Type 0} (f : X → Reader Y) (o : Option X) (rest : List ℕ) → (shaped o rest >>= λ x. f x.0 x.1) ≡ after_shape f rest o
shaped_then f (Some s) rest = refl
shaped_then f None rest = refl

choice : {X Y : Type 0} (f : X → Reader Y) (rest : List ℕ) (c : Bool) (s : X) (o : Option X) {x y : Read-of Y} →
    x ≡ f s rest → y ≡ after_shape f rest o → (if c then x else y) ≡ after_shape f rest (if c then Some s else o)
choice f rest true s o p q = p
choice f rest false s o p q = q

-- what follows
followed : {X Y : Type 0} (p q : Read-of X) (f g : X × List ℕ → Read-of Y) → p ≡ q → ((x : X × List ℕ) → f x ≡ g x) → (p >>= f) ≡ (q >>= g)
followed p (Ok x) f g e h = ap (λ (a : Read-of _). a >>= f) e ∙ h x
followed p (Err i) f g e h = ap (λ (a : Read-of _). a >>= f) e

abbrev make : {X Y : Type 0} → (X → Y) → Read-of X → Read-of Y
make f p = p >>= λ x. Ok (f x.0, x.1)

made_is : {X Y : Type 0} (f : X → Y) (r q : Reader X) → Same r q → (bytes : List ℕ) → made f r bytes ≡ make f (q bytes)
made_is f r q h bytes = ap (make f) (h bytes)

-- one thing after another, of which something is made
abbrev pair_up : {X Y : Type 0} → X → Read-of Y → Read-of (X × Y)
pair_up x p = p >>= λ y. Ok ((x, y.0), y.1)

unpaired : {X Y Z : Type 0} (f : X → Y → Z) (x : X) (p : Read-of Y) → make (λ (z : X × Y). f z.0 z.1) (pair_up x p) ≡ make (f x) p
unpaired f x (Ok y) = refl
unpaired f x (Err e) = refl

after_one : {X Y Z : Type 0} (f : X → Y → Z) (r : Reader Y) (p : Read-of X) → make (λ (z : X × Y). f z.0 z.1) (p >>= λ x. pair_up x.0 (r x.1)) ≡ (p >>= λ x. make (f x.0) (r x.1))
after_one f r (Ok x) = unpaired f x.0 (r x.1)
after_one f r (Err e) = refl

both_is : {X Y Z : Type 0} (f : X → Y → Z) (r q : Reader X) (u v : Reader Y) → Same r q → Same u v → (bytes : List ℕ) →
    made (λ (z : X × Y). f z.0 z.1) (both r u) bytes ≡ (q bytes >>= λ x. make (f x.0) (v x.1))
both_is f r q u v h k bytes = after_one f u (r bytes) ∙ followed (r bytes) (q bytes) _ _ (h bytes) (λ x. ap (make (f x.0)) (k x.1))

same : {X : Type 0} (r : Reader X) → Same r r
same r bytes = refl

-- lists, after what was read
abbrev joined : {s : t.Sort} → Many s → Many s → Many s
joined none ys = ys
joined (more x xs) ys = more x (joined xs ys)

joined_snoc : {s : t.Sort} (xs : Many s) (n : Node s) (ys : Many s) → joined (snoc xs n) ys ≡ joined xs (more n ys)
joined_snoc none n ys = refl
joined_snoc (more x xs) n ys = ap (more x) (joined_snoc xs n ys)

joined_none : {s : t.Sort} (xs : Many s) → joined xs none ≡ xs
joined_none none = refl
joined_none (more x xs) = ap (more x) (joined_none xs)

abbrev fronted : {s : t.Sort} → Many s → Read-of (Many s) → Read-of (Many s)
fronted front p = make (joined front) p

fronted_more : {s : t.Sort} (front : Many s) (n : Node s) (p : Read-of (Many s)) → fronted (snoc front n) p ≡ fronted front (make (more n) p)
fronted_more front n (Ok x) = ap (λ (ns : Many _). Ok (ns, x.1)) (joined_snoc front n x.0)
fronted_more front n (Err e) = refl

fronted_none : {s : t.Sort} (p : Read-of (Many s)) → fronted none p ≡ p
fronted_none (Ok x) = refl
fronted_none (Err e) = refl

make_later : {X Y Z : Type 0} (f : Y → Z) (p : Read-of X) (g : X × List ℕ → Read-of Y) → (p >>= λ z. make f (g z)) ≡ make f (p >>= g)
make_later f (Ok x) g = refl
make_later f (Err e) g = refl

nodes_is : {s : t.Sort} (r q : Reader (Node s)) → Same r q → (n : ℕ) (front : Many s) (bytes : List ℕ) → nodes_from q n front bytes ≡ fronted front (nodes_at r n bytes)
unfolding nodes_from
nodes_is r q h zero front bytes = ap (λ (ns : Many _). Ok (ns, bytes)) (sym (joined_none front))
nodes_is r q h (suc n) front bytes =
    followed (q bytes) (r bytes) _ _ (sym (h bytes)) (λ z. nodes_is r q h n (snoc front z.0) z.1 ∙ fronted_more front z.0 (nodes_at r n z.1))
    ∙ make_later (joined front) (r bytes) (λ z. make (more z.0) (nodes_at r n z.1))

list_is : {s : t.Sort} (test : ℕ → Bool) (c : Reader ℕ) (r q : Reader (Node s)) → Same (tested test (count_at 44)) c → Same r q → Same (listed test r) (list_by c q)
unfolding list_by
list_is test c r q h k bytes =
    followed (tested test (count_at 44) bytes) (c bytes) _ _ (h bytes) (λ n. sym (nodes_is r q k n.0 none n.1 ∙ fronted_none (nodes_at r n.0 n.1)))

-- counts
any_count : Same (tested m.any (count_at 44)) (count_from 0)
unfolding count_from number_by
any_count bytes = followed (count_at 44 bytes) (count_at 44 bytes) _ _ refl (λ x. ap (λ (c : Bool). if c then Ok x else Err BadLength) (sym (le-leb 0 x.0 (omega arith))))

some_count : Same (tested m.some (count_at 44)) (count_from 1)
unfolding count_from number_by
some_count bytes = refl

several_count : Same (tested m.several (count_at 44)) (count_from 2)
unfolding count_from number_by
several_count bytes = refl

tests : (c : Bool) (x : ℕ × List ℕ) → (if c && nat_lt x.0 64 then Ok x else Err BadLength) ≡ ((if c then Ok x else Err BadLength) >>= λ y. if nat_lt y.0 64 then Ok y else Err BadLength)
tests true x = refl
tests false x = refl

few_tests : (p : Read-of ℕ) → (p >>= λ x. if nat_lt 0 x.0 && nat_lt x.0 64 then Ok x else Err BadLength) ≡
    ((p >>= λ x. if nat_le 1 x.0 then Ok x else Err BadLength) >>= λ y. if nat_lt y.0 64 then Ok y else Err BadLength)
few_tests (Ok x) = tests (nat_lt 0 x.0) x
few_tests (Err e) = refl

few_count : Same (tested m.few (count_at 44)) stage_count
unfolding stage_count count_from number_by
few_count bytes = few_tests (count_at 44 bytes)

-- the nodes of a list
picked : {X Y : Type 0} (c e : Bool) (p q : Read-of X) (k : X × List ℕ → Read-of Y) →
    ((if c then p else (if e then q else Err BadTag)) >>= k) ≡ (if c then p >>= k else (if e then q >>= k else Err BadTag))
picked true e p q k = refl
picked false true p q k = refl
picked false false p q k = refl

any_args : (d : ℕ) → Same (listed m.any (arg_at d)) (args_by 0 d)
unfolding args_by
any_args d bytes = list_is m.any (count_from 0) (arg_at d) (arg_at d) any_count (same (arg_at d)) bytes

some_args : (d : ℕ) → Same (listed m.some (arg_at d)) (args_by 1 d)
unfolding args_by
some_args d bytes = list_is m.some (count_from 1) (arg_at d) (arg_at d) some_count (same (arg_at d)) bytes

several_args : (d : ℕ) → Same (listed m.several (arg_at d)) (args_by 2 d)
unfolding args_by
several_args d bytes = list_is m.several (count_from 2) (arg_at d) (arg_at d) several_count (same (arg_at d)) bytes

item_is : (d : ℕ) → Same (m.item_at (cmd_at d)) (item_by d)
unfolding item_by background_by first_by
item_is d [] = refl
item_is d (b ∷ rest) = sym (picked (b == 59) (b == 38) (Ok (false, rest)) (Ok (true, rest)) (λ x. make (λ c. t.Item c x.0) (cmd_at d x.1)))

pair_is : (d : ℕ) → Same (m.pair_at (arg_at d)) (pair_by d)
unfolding pair_by
pair_is d bytes = both_is (λ x y. t.Pair x y) (arg_at d) (arg_at d) (arg_at d) (arg_at d) (same (arg_at d)) (same (arg_at d)) bytes

slot_is : Same m.output_at slot_by
unfolding slot_by first_by
slot_is [] = refl
slot_is (b ∷ rest) = refl

stage_is : (d : ℕ) → Same (m.stage_at (cmd_at d)) (stage_by d)
unfolding stage_by
stage_is d bytes = both_is (λ s c. t.Stage c s) m.output_at slot_by (cmd_at d) (cmd_at d) slot_is (same (cmd_at d)) bytes

link_is : (d : ℕ) → Same (m.link_at (cmd_at d)) (link_by d)
unfolding link_by logic_by first_by
link_is d [] = refl
link_is d (b ∷ rest) = sym (picked (b == 38) (b == 124) (Ok (And, rest)) (Ok (Or, rest)) (λ x. make (λ c. t.Link x.0 c) (cmd_at d x.1)))

branch_is : (d : ℕ) → Same (m.branch_at (cmd_at d) (arg_at d)) (branch_by d)
unfolding branch_by
branch_is d bytes = both_is (λ ps c. t.Branch ps c) (listed m.any (arg_at d)) (args_by 0 d) (cmd_at d) (cmd_at d) (any_args d) (same (cmd_at d)) bytes

piece_is : Same m.piece_at piece_by
unfolding piece_by first_by text_by number_by string_by
piece_is [] = refl
piece_is (b ∷ rest) = refl

here_is : (bytes : List ℕ) → made t.Here (listed m.any m.piece_at) bytes ≡ here_by bytes
unfolding here_by
here_is bytes = made_is t.Here (listed m.any m.piece_at) (list_by (count_from 0) piece_by) (list_is m.any (count_from 0) m.piece_at piece_by any_count piece_is) bytes

opened_is : (mode : Mode) (d : ℕ) (bytes : List ℕ) → made (λ x. t.Open mode x.0 x.1) (both m.output_at (arg_at d)) bytes ≡ opened_by mode d bytes
opened_is mode d bytes = both_is (λ s x. t.Open mode s x) m.output_at slot_by (arg_at d) (arg_at d) slot_is (same (arg_at d)) bytes

abbrev kept : {X : Type 0} → Bool → X → List ℕ → Read-of X
kept c v rest = if c then Ok (v, rest) else Err BadTag

only_test : {X Y : Type 0} (f : X → Y) (v : X) (c : Bool) (b : ℕ) (rest : List ℕ) → make f (kept c v rest) ≡ make (λ (n : ℕ). f v) (kept c b rest)
only_test f v true b rest = refl
only_test f v false b rest = refl

only_is : {X Y : Type 0} (f : X → Y) (v : X) (k : ℕ) (bytes : List ℕ) → made f (tagged ((k, given v) ∷ [])) bytes ≡ make (λ (n : ℕ). f v) (only_by k bytes)
unfolding only_by first_by
only_is f v k [] = refl
only_is f v k (b ∷ rest) = only_test f v (b == k) b rest

abbrev copied : ℕ × ℕ → Node t.redir
copied x = t.Copy x.0 x.1

copy_is : (bytes : List ℕ) → made (λ x. t.Copy x.0 x.1) m.crossing_at bytes ≡ copy_by bytes
unfolding copy_by first_by
copy_is [] = refl
copy_is (b ∷ rest) =
    picked (b == 49) (b == 50) (tagged ((50, given (1, 2)) ∷ []) rest) (tagged ((49, given (2, 1)) ∷ []) rest) (λ x. Ok (copied x.0, x.1))
    ∙ either (b == 49) (only_is copied (1, 2) 50 rest) (either (b == 50) (only_is copied (2, 1) 49 rest) refl)

redir_chosen : (d b : ℕ) (rest : List ℕ) → chosen (m.redir_rows (arg_at d)) b rest ≡ after_shape (redir_of d) rest (redir_shape b)
unfolding redir_shape
redir_chosen d b rest =
    choice (redir_of d) rest (b == 60) _ _ refl (
    choice (redir_of d) rest (b == 62) _ _ (opened_is Write d rest) (
    choice (redir_of d) rest (b == 43) _ _ (opened_is Append d rest) (
    choice (redir_of d) rest (b == 61) _ _ (copy_is rest) (
    choice (redir_of d) rest (b == 104) _ _ (here_is rest) refl))))

redir_is : (d : ℕ) → Same (m.redir_at (arg_at d)) (redir_by d)
unfolding redir_by mark_by first_by
redir_is d [] = refl
redir_is d (b ∷ rest) = redir_chosen d b rest ∙ sym (shaped_then (redir_of d) (redir_shape b) rest)

-- the lists of a level
items_are : (d : ℕ) → Same (listed m.any (m.item_at (cmd_at d))) (list_by (count_from 0) (item_by d))
items_are d = list_is m.any (count_from 0) (m.item_at (cmd_at d)) (item_by d) any_count (item_is d)

pairs_are : (d : ℕ) → Same (listed m.some (m.pair_at (arg_at d))) (list_by (count_from 1) (pair_by d))
pairs_are d = list_is m.some (count_from 1) (m.pair_at (arg_at d)) (pair_by d) some_count (pair_is d)

redirs_are : (d : ℕ) → Same (listed m.some (m.redir_at (arg_at d))) (list_by (count_from 1) (redir_by d))
redirs_are d = list_is m.some (count_from 1) (m.redir_at (arg_at d)) (redir_by d) some_count (redir_is d)

stages_are : (d : ℕ) → Same (listed m.few (m.stage_at (cmd_at d))) (list_by stage_count (stage_by d))
stages_are d = list_is m.few stage_count (m.stage_at (cmd_at d)) (stage_by d) few_count (stage_is d)

links_are : (d : ℕ) → Same (listed m.some (m.link_at (cmd_at d))) (list_by (count_from 1) (link_by d))
links_are d = list_is m.some (count_from 1) (m.link_at (cmd_at d)) (link_by d) some_count (link_is d)

branches_are : (d : ℕ) → Same (listed m.any (m.branch_at (cmd_at d) (arg_at d))) (list_by (count_from 0) (branch_by d))
branches_are d = list_is m.any (count_from 0) (m.branch_at (cmd_at d) (arg_at d)) (branch_by d) any_count (branch_is d)

-- three things
three_is : (d : ℕ) (bytes : List ℕ) → made (λ x. t.For x.0 x.1.0 x.1.1) (both (arg_at d) (both (listed m.any (arg_at d)) (cmd_at d))) bytes ≡
    (arg_at d bytes >>= λ x. args_by 0 d x.1 >>= λ y. cmd_at d y.1 >>= λ z. Ok (t.For x.0 y.0 z.0, z.1))
three_is d bytes =
    after_one (λ x (z : Many t.arg × Node t.cmd). t.For x z.0 z.1) (both (listed m.any (arg_at d)) (cmd_at d)) (arg_at d bytes)
    ∙ followed (arg_at d bytes) (arg_at d bytes) _ _ refl
    (λ x. both_is (λ ws c. t.For x.0 ws c) (listed m.any (arg_at d)) (args_by 0 d) (cmd_at d) (cmd_at d) (any_args d) (same (cmd_at d)) x.1)

two_is : {X Y Z : Type 0} (f : X → Y → Z) (r q : Reader X) (u v : Reader Y) → Same r q → Same u v → (bytes : List ℕ) →
    made (λ (z : X × Y). f z.0 z.1) (both r u) bytes ≡ (q bytes >>= λ x. v x.1 >>= λ y. Ok (f x.0 y.0, y.1))
two_is f r q u v h k bytes = both_is f r q u v h k bytes

-- a node by its mark
cmd_is : (d b : ℕ) (rest : List ℕ) → chosen (m.cmd_rows (cmd_at d) (arg_at d)) b rest ≡ after_shape (cmd_of d) rest (cmd_shape b)
unfolding cmd_shape cmd_of front_by subject_by body_node bodies_node words_node
cmd_is d b rest =
    let c = cmd_at d in
    let a = arg_at d in
    choice (cmd_of d) rest (b == 101) _ _ refl (
    choice (cmd_of d) rest (b == 115) _ _ (made_is t.Seq _ _ (items_are d) rest) (
    choice (cmd_of d) rest (b == 99) _ _ (made_is t.Simple _ _ (some_args d) rest) (
    choice (cmd_of d) rest (b == 61) _ _ (two_is (λ x y. t.Assign x y) _ _ c c (pairs_are d) (same c) rest) (
    choice (cmd_of d) rest (b == 114) _ _ (two_is (λ x y. t.Redirect x y) _ _ c c (redirs_are d) (same c) rest) (
    choice (cmd_of d) rest (b == 112) _ _ (two_is (λ x y. t.Pipeline x y) _ _ c c (stages_are d) (same c) rest) (
    choice (cmd_of d) rest (b == 97) _ _ (two_is (λ x y. t.AndOr x y) c c _ _ (same c) (links_are d) rest) (
    choice (cmd_of d) rest (b == 33) _ _ refl (
    choice (cmd_of d) rest (b == 64) _ _ refl (
    choice (cmd_of d) rest (b == 105) _ _ (two_is (λ x y. t.If x y) c c c c (same c) (same c) rest) (
    choice (cmd_of d) rest (b == 110) _ _ refl (
    choice (cmd_of d) rest (b == 119) _ _ (two_is (λ x y. t.While x y) c c c c (same c) (same c) rest) (
    choice (cmd_of d) rest (b == 102) _ _ (two_is (λ x y. t.ForAll x y) a a c c (same a) (same c) rest) (
    choice (cmd_of d) rest (b == 70) _ _ (three_is d rest) (
    choice (cmd_of d) rest (b == 83) _ _ (two_is (λ x y. t.Switch x y) a a _ _ (same a) (branches_are d) rest) (
    choice (cmd_of d) rest (b == 126) _ _ (two_is (λ x y. t.Match x y) a a _ _ (same a) (any_args d) rest) (
    choice (cmd_of d) rest (b == 100) _ _ (two_is (λ x y. t.Define x y) _ _ c c (some_args d) (same c) rest) (
    choice (cmd_of d) rest (b == 117) _ _ (made_is t.Undefine _ _ (some_args d) rest) (
    choice (cmd_of d) rest (b == 98) _ _ refl refl))))))))))))))))))

worded : (p : Read-of (List ℕ)) → make (λ x. t.Lit x false) (p >>= λ x. if has_text x.0 then Ok x else Err BadLength) ≡
    (p >>= λ x. if has_text x.0 then Ok (t.Lit x.0 false, x.1) else Err BadLength)
worded (Ok ([], rest)) = refl
worded (Ok (b ∷ bs, rest)) = refl
worded (Err e) = refl

word_is : (rest : List ℕ) → made (λ x. t.Lit x false) (tested has_text text_at) rest ≡ word_by rest
unfolding word_by text_by number_by string_by
word_is rest = worded (text_at rest)

quoted_is : (rest : List ℕ) → made (λ x. t.Lit x true) text_at rest ≡ quoted_by rest
unfolding quoted_by text_by number_by string_by
quoted_is rest = refl

arg_is : (d b : ℕ) (rest : List ℕ) → chosen (m.arg_rows (cmd_at d) (arg_at d)) b rest ≡ after_shape (arg_of d) rest (arg_shape b)
unfolding arg_shape arg_of name_node
arg_is d b rest =
    let a = arg_at d in
    choice (arg_of d) rest (b == 119) _ _ (word_is rest) (
    choice (arg_of d) rest (b == 113) _ _ (quoted_is rest) (
    choice (arg_of d) rest (b == 94) _ _ (made_is t.Concat _ _ (several_args d) rest) (
    choice (arg_of d) rest (b == 40) _ _ (made_is t.Paren _ _ (any_args d) rest) (
    choice (arg_of d) rest (b == 36) _ _ refl (
    choice (arg_of d) rest (b == 35) _ _ refl (
    choice (arg_of d) rest (b == 34) _ _ refl (
    choice (arg_of d) rest (b == 91) _ _ (two_is (λ x y. t.Sub x y) a a _ _ (same a) (any_args d) rest) (
    choice (arg_of d) rest (b == 96) _ _ refl refl))))))))

-- a level that is left, and none
pub cmd_none : (left : ℕ) (bytes : List ℕ) → left ≡ 0 → cmd_at left bytes ≡ Err TooDeep
unfolding cmd_at
cmd_none left bytes h = ap (λ k. cmd_at k bytes) h

pub arg_none : (left : ℕ) (bytes : List ℕ) → left ≡ 0 → arg_at left bytes ≡ Err TooDeep
unfolding arg_at
arg_none left bytes h = ap (λ k. arg_at k bytes) h

left_is : (left : ℕ) → 0 < left → left ≡ suc (left - 1)
left_is left h = omega arith

cmd_steps : (d : ℕ) (bytes : List ℕ) → cmd_at (suc d) bytes ≡ (mark_by cmd_shape bytes >>= λ x. cmd_of d x.0 x.1)
unfolding cmd_at mark_by first_by
cmd_steps d [] = refl
cmd_steps d (b ∷ rest) = cmd_is d b rest ∙ sym (shaped_then (cmd_of d) (cmd_shape b) rest)

arg_steps : (d : ℕ) (bytes : List ℕ) → arg_at (suc d) bytes ≡ (mark_by arg_shape bytes >>= λ x. arg_of d x.0 x.1)
unfolding arg_at mark_by first_by
arg_steps d [] = refl
arg_steps d (b ∷ rest) = arg_is d b rest ∙ sym (shaped_then (arg_of d) (arg_shape b) rest)

pub cmd_next : (left : ℕ) (bytes : List ℕ) → 0 < left → cmd_at left bytes ≡ (mark_by cmd_shape bytes >>= λ x. cmd_of (left - 1) x.0 x.1)
cmd_next left bytes h = ap (λ k. cmd_at k bytes) (left_is left h) ∙ cmd_steps (left - 1) bytes

pub arg_next : (left : ℕ) (bytes : List ℕ) → 0 < left → arg_at left bytes ≡ (mark_by arg_shape bytes >>= λ x. arg_of (left - 1) x.0 x.1)
arg_next left bytes h = ap (λ k. arg_at k bytes) (left_is left h) ∙ arg_steps (left - 1) bytes

pub cmd_given : (left : ℕ) (bytes rest : List ℕ) (shape : CmdShape) → 0 < left → mark_by cmd_shape bytes ≡ Ok (shape, rest) →
    cmd_at left bytes ≡ cmd_of (left - 1) shape rest
cmd_given left bytes rest shape h e = cmd_next left bytes h ∙ ap (λ (p : Read-of CmdShape). p >>= λ x. cmd_of (left - 1) x.0 x.1) e

pub cmd_bad : (left : ℕ) (bytes : List ℕ) (fault : ImageFault) → 0 < left → mark_by cmd_shape bytes ≡ Err fault → cmd_at left bytes ≡ Err fault
cmd_bad left bytes fault h e = cmd_next left bytes h ∙ ap (λ (p : Read-of CmdShape). p >>= λ x. cmd_of (left - 1) x.0 x.1) e

pub arg_given : (left : ℕ) (bytes rest : List ℕ) (shape : ArgShape) → 0 < left → mark_by arg_shape bytes ≡ Ok (shape, rest) →
    arg_at left bytes ≡ arg_of (left - 1) shape rest
arg_given left bytes rest shape h e = arg_next left bytes h ∙ ap (λ (p : Read-of ArgShape). p >>= λ x. arg_of (left - 1) x.0 x.1) e

pub arg_bad : (left : ℕ) (bytes : List ℕ) (fault : ImageFault) → 0 < left → mark_by arg_shape bytes ≡ Err fault → arg_at left bytes ≡ Err fault
arg_bad left bytes fault h e = arg_next left bytes h ∙ ap (λ (p : Read-of ArgShape). p >>= λ x. arg_of (left - 1) x.0 x.1) e

pub ruleset levels = (cmd_none, arg_none, cmd_given, cmd_bad, arg_given, arg_bad, common_steps)
