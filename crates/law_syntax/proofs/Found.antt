-- The tree of a text is found exactly where the text is accepted.
use Rattle.std.proofs.Common.{◌≡◌, ℕ, ◌≤◌, Bool, true, false, ◌&&◌, List, length, Option, Some, None, Result, Ok, Err, if◌then◌else◌, refl, sym, ap, ◌∙◌, arith, nat_le}
use Rattle.std.proofs.lemmas.Bool.{leb-true, and_parts, le-leb, and_from}
use Rattle.std.specs.Str.{is_utf8}
use Rattle.rc_model.specs.Syntax.Tokens.{Token, Lexes}
use Rattle.rc_model.specs.declared.fault.SyntaxFault.{SyntaxFault}
use Rattle.rc_model.specs.Mirrors.Reading.{lexed}
use Rattle.rc_model.specs.Syntax.Tree.{Node, cmd}
use Rattle.rc_model.specs.Mirrors.Descent.{Stop, script_tree}
use Rattle.rc_model.specs.Syntax.Accepted.{IsAccepted, lexemes, longest_script}
use Rattle.rc_model.specs.Mirrors.TreeOfText.{found, tree_of_tokens, tree_of, FindsTheTree}
use Rattle.law_syntax.proofs.Laws.{finds_only_trees, finds_each_tree}
use Rattle.law_syntax.proofs.Cutting.{law}

-- the tree that an answer has
tree_in : (r : Result (Node cmd) Stop) (tree : Node cmd) → found r ≡ Some tree → r ≡ Ok tree
tree_in (Ok c) tree h = cc
tree_in (Err e) tree h = absurd cc

of_tokens : (script : List ℕ) (r : Result (List Token) SyntaxFault) (tree : Node cmd) → length script ≤ longest_script → is_utf8 script ≡ true → Lexes script r →
    tree_of_tokens r ≡ Some tree → IsAccepted script tree
of_tokens script (Ok tokens) tree short text read h = record {
  tokens = tokens;
  has = record { short = short; text = text; cut = read };
  tree_is = finds_only_trees 200 (lexemes tokens) tree (tree_in (script_tree 200 (lexemes tokens)) tree h);
}
of_tokens script (Err f) tree short text read h = absurd cc

-- what is found is found by the first way
first_way : (b : Bool) (x : Option (Node cmd)) (tree : Node cmd) → (if b then x else None) ≡ Some tree → (b ≡ true) × (x ≡ Some tree)
first_way true x tree h = (refl, h)
first_way false x tree h = absurd cc

only_accepted : (script : List ℕ) (tree : Node cmd) → tree_of script ≡ Some tree → IsAccepted script tree
only_accepted script tree h =
    let way = first_way (is_utf8 script && nat_le (length script) longest_script) (tree_of_tokens (lexed script)) tree h in
    let parts = and_parts (is_utf8 script) (nat_le (length script) longest_script) way.0 in
    of_tokens script (lexed script) tree (leb-true (length script) longest_script parts.1) parts.0 (law script).found way.1

taken : (b : Bool) (x y : Option (Node cmd)) → b ≡ true → x ≡ y → (if b then x else None) ≡ y
taken true x y b h = h
taken false x y b h = absurd cc

each_accepted : (script : List ℕ) (tree : Node cmd) → IsAccepted script tree → tree_of script ≡ Some tree
each_accepted script tree a =
    let ok = and_from (is_utf8 script) (nat_le (length script) longest_script) a.has.text (le-leb (length script) longest_script a.has.short) in
    let read = ap tree_of_tokens (sym ((law script).only (Ok a.tokens) a.has.cut)) in
    let known = ap found (finds_each_tree 200 (lexemes a.tokens) tree (omega arith) a.tree_is) in
    taken (is_utf8 script && nat_le (length script) longest_script) (tree_of_tokens (lexed script)) (Some tree) ok (read ∙ known)

pub finds_the_tree : FindsTheTree
finds_the_tree script tree = (only_accepted script tree, each_accepted script tree)
