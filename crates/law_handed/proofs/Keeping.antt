-- The trees that the code of a tree keeps are trees that a shell holds, if that tree is one.
use Rattle.std.proofs.Common.{◌≡◌, ℕ, List, [], ◌∷◌, ◌++◌, Bool, true, false}
use Rattle.rc_model.specs.Syntax.Tree.{guards, is_empty, has_no_items, count, Node, Many, cmd, arg, item, pair, redir, link, branch, none, more}
use Rattle.rc_model.specs.Syntax.Tree.{Empty, Seq, Simple, Assign, Redirect, Pipeline, AndOr, Not, Subshell, If, IfNot, While, ForAll, For, Switch}
use Rattle.rc_model.specs.Syntax.Tree.{Match, Define, Undefine, Brace, Lit, Concat, Paren, Var, Count, Flat, Sub, Back, Item, Pair, Open, Copy, Here}
use Rattle.rc_model.specs.Syntax.Tree.{Link, Branch}
use Rattle.rc_model.specs.Syntax.WellFormed.{has_some, has_several, has_stages, opens}
use Rattle.rc_model.specs.Code.Layout as l
use Rattle.rc_model.specs.Code.Layout.{Op, Kept, KeptTree, Part, Nothing, Do, Keep, ◌⨾◌, Past, Loop, Either, kept_of, condition_code, unlocal}
use Rattle.rc_model.specs.Code.Layout.{run_code, cmd_code, arg_code, args_code, parts_code, more_parts_code, items_code, pairs_code, redirs_code}
use Rattle.rc_model.specs.Code.Layout.{links_code, branches_code}
use Rattle.rc_model.specs.Handed.Proper.{IsProperTree}
use Rattle.law_handed.specs.Kept.{AllKeptProper, CodeKeepsProper}
use Rattle.law_handed.proofs.Parts.{IsPart, AreParts, without_first, down, two, one_many, many_one, three, script_of, part_of}

record Proper (p : Part) : Type 0 where
  by : AllKeptProper (kept_of p)

all_append : (xs ys : List Kept) → AllKeptProper xs → AllKeptProper ys → AllKeptProper (xs ++ ys)
all_append [] ys h k = k
all_append (x ∷ xs) ys h k = (h.0, all_append xs ys h.1 k)

also : {a b : Part} → Proper a → Proper b → Proper (a ⨾ b)
also {a} {b} h k = record { by = all_append (kept_of a) (kept_of b) h.by k.by }

do_ : {op : Op} → Proper (Do op)
do_ = record { by = tt }

nothing : Proper Nothing
nothing = record { by = tt }

keep_tree : {f : ℕ → Op} {c : Node cmd} → IsProperTree c → Proper (Keep f (KeptTree c))
keep_tree h = record { by = (h, tt) }

past : {f : ℕ → Op} {a : Part} → Proper a → Proper (Past f a)
past h = record { by = h.by }

loop : {a b : Part} {f : ℕ → Op} → Proper a → Proper b → Proper (Loop a f b)
loop {a} {b} h k = record { by = all_append (kept_of a) (kept_of b) h.by k.by }

either : {a b : Part} {f : ℕ → Op} → Proper a → Proper b → Proper (Either f a b)
either {a} {b} h k = record { by = all_append (kept_of a) (kept_of b) h.by k.by }

run_proper : (g : Bool) → Proper (run_code g)
run_proper true = do_
run_proper false = also do_ do_

unlocal_proper : (bare : Bool) (n : ℕ) → Proper (unlocal bare n)
unlocal_proper true n = nothing
unlocal_proper false n = do_

condition_proper : (b : Bool) (test : Part) → Proper test → Proper (condition_code b test)
condition_proper true test h = do_
condition_proper false test h = h

mutual
  cmd_proper : (c : Node cmd) (g : Bool) → IsPart c → Proper (cmd_code c g)
  cmd_proper Empty g p = nothing
  cmd_proper (Seq items) g p = items_proper items g (down p)
  cmd_proper (Simple words) g p = also do_ (also (args_proper words (without_first (has_some words) (down p))) (also do_ (run_proper g)))
  cmd_proper (Assign pairs body) g p =
      let k = many_one pairs body (without_first (has_some pairs) (down p)) in
      pairs_proper pairs (is_empty body) _ k.0 (also (cmd_proper body g k.1) (unlocal_proper (is_empty body) (count pairs)))
  cmd_proper (Redirect redirs body) g p =
      let k = many_one redirs body (without_first (has_some redirs) (down p)) in
      redirs_proper redirs _ k.0 (also (cmd_proper body g k.1) do_)
  cmd_proper (Pipeline stages last) g p =
      let k = many_one stages last (without_first (has_stages stages) (down p)) in
      let rest : Proper (cmd_code last g ⨾ Do l.EndPipe) = also (cmd_proper last g k.1) do_ in
      record { by = (tt, rest.by) }
  cmd_proper (AndOr first links) g p =
      let k = one_many first links (without_first (has_some links) (down p)) in
      also (cmd_proper first (guards links g) k.0) (links_proper links g k.1)
  cmd_proper (Not body) g p = also (cmd_proper body true (down p)) do_
  cmd_proper (Subshell body) g p = keep_tree (script_of (down p))
  cmd_proper (If test body) g p =
      let k = two test body (down p) in
      also (cmd_proper test true k.0) (past (also (cmd_proper body g k.1) do_))
  cmd_proper (IfNot body) g p = past (cmd_proper body g (down p))
  cmd_proper (While test body) g p =
      let k = two test body (down p) in
      loop (condition_proper (has_no_items test) (cmd_code test true) (cmd_proper test true k.0)) (cmd_proper body g k.1)
  cmd_proper (ForAll name body) g p =
      let k = two name body (down p) in
      also do_ (also do_ (also (arg_proper name k.0) (also do_ (loop nothing (cmd_proper body g k.1)))))
  cmd_proper (For name words body) g p =
      let k = three name words body (down p) in
      also do_ (also (args_proper words k.1) (also do_ (also (arg_proper name k.0) (also do_ (loop nothing (cmd_proper body g k.2))))))
  cmd_proper (Switch word branches) g p =
      let k = one_many word branches (down p) in
      also (arg_proper word k.0) (also do_ (also (branches_proper branches g k.1) do_))
  cmd_proper (Match word patterns) g p =
      let k = one_many word patterns (down p) in
      also (arg_proper word k.0) (also do_ (also do_ (also (args_proper patterns k.1) do_)))
  cmd_proper (Define names body) g p =
      let k = many_one names body (without_first (has_some names) (down p)) in
      also do_ (also (args_proper names k.0) (keep_tree (script_of k.1)))
  cmd_proper (Undefine names) g p = also do_ (also (args_proper names (without_first (has_some names) (down p))) do_)
  cmd_proper (Brace body) g p = cmd_proper body g (down p)

  arg_proper : (w : Node arg) → IsPart w → Proper (arg_code w)
  arg_proper (Lit text quoted) p = do_
  arg_proper (Concat parts) p = parts_proper parts (without_first (has_several parts) (down p))
  arg_proper (Paren words) p = also do_ (args_proper words (down p))
  arg_proper (Var name) p = also (arg_proper name (down p)) do_
  arg_proper (Count name) p = also (arg_proper name (down p)) do_
  arg_proper (Flat name) p = also (arg_proper name (down p)) do_
  arg_proper (Sub name subscripts) p =
      let k = one_many name subscripts (down p) in
      also (arg_proper name k.0) (also do_ (also (args_proper subscripts k.1) do_))
  arg_proper (Back body) p = keep_tree (script_of (down p))

  args_proper : (ws : Many arg) → AreParts ws → Proper (args_code ws)
  args_proper none p = nothing
  args_proper (more w rest) p = let k = one_many w rest p in also (arg_proper w k.0) (also do_ (args_proper rest k.1))

  parts_proper : (ws : Many arg) → AreParts ws → Proper (parts_code ws)
  parts_proper none p = do_
  parts_proper (more w rest) p = let k = one_many w rest p in also (arg_proper w k.0) (more_parts_proper rest k.1)

  more_parts_proper : (ws : Many arg) → AreParts ws → Proper (more_parts_code ws)
  more_parts_proper none p = nothing
  more_parts_proper (more w rest) p = let k = one_many w rest p in also (arg_proper w k.0) (also do_ (more_parts_proper rest k.1))

  items_proper : (is : Many item) (g : Bool) → AreParts is → Proper (items_code is g)
  items_proper none g p = nothing
  items_proper (more (Item c true) rest) g p = let k = one_many (Item c true) rest p in also (keep_tree (script_of k.0)) (items_proper rest g k.1)
  items_proper (more (Item c false) rest) g p = let k = one_many (Item c false) rest p in also (cmd_proper c g k.0) (items_proper rest g k.1)

  pairs_proper : (ps : Many pair) (bare : Bool) (inner : Part) → AreParts ps → Proper inner → Proper (pairs_code ps bare inner)
  pairs_proper none bare inner p h = h
  pairs_proper (more (Pair name value) rest) bare inner p h =
      let k = one_many (Pair name value) rest p in
      let m = two name value k.0 in
      also (arg_proper name m.0) (also (arg_proper value m.1) (also do_ (also do_ (pairs_proper rest bare inner k.1 h))))

  redirs_proper : (rs : Many redir) (inner : Part) → AreParts rs → Proper inner → Proper (redirs_code rs inner)
  redirs_proper none inner p h = h
  redirs_proper (more (Open mode slot path) rest) inner p h =
      let k = one_many (Open mode slot path) rest p in
      also (arg_proper path (without_first (opens mode slot) k.0)) (also do_ (also do_ (redirs_proper rest inner k.1 h)))
  redirs_proper (more (Copy to from) rest) inner p h = also do_ (redirs_proper rest inner (one_many (Copy to from) rest p).1 h)
  redirs_proper (more (Here pieces) rest) inner p h = also (record { by = (tt, tt) }) (redirs_proper rest inner (one_many (Here pieces) rest p).1 h)

  links_proper : (ls : Many link) (g : Bool) → AreParts ls → Proper (links_code ls g)
  links_proper none g p = nothing
  links_proper (more (Link logic c) rest) g p =
      let k = one_many (Link logic c) rest p in
      also (past (cmd_proper c (guards rest g) k.0)) (links_proper rest g k.1)

  branches_proper : (bs : Many branch) (g : Bool) → AreParts bs → Proper (branches_code bs g)
  branches_proper none g p = nothing
  branches_proper (more (Branch patterns body) rest) g p =
      let k = one_many (Branch patterns body) rest p in
      let m = many_one patterns body k.0 in
      also do_ (also (args_proper patterns m.0) (either (cmd_proper body g m.1) (branches_proper rest g k.1)))

pub code_keeps_proper : CodeKeepsProper
code_keeps_proper c h = let whole : Proper (cmd_code c false ⨾ Do l.Return) = also (cmd_proper c false (part_of h)) do_ in whole.by
