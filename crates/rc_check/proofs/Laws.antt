-- What the laws of syntax and of prints say of findings and canonical forms.
use Rattle.std.proofs.Common.{◌≡◌, ℕ, ◌≤◌, true, false, nat_eq, List, length, Option, Some, Ok, Vec, Global, sym, subst, ◌∙◌}
use Rattle.std.proofs.lemmas.Str.{IsUtf8-from_is_utf8}
use Rattle.std.specs.Cmp.{Equal-is}
use Rattle.std.specs.Cmp.Lexicographic.{pointwise, slice_cmp, texts_ties}
use Rattle.std.specs.FinMap.{nat_cmp-IsAntisymmetric, slice_cmp-IsAntisymmetric}
use Rattle.std.specs.Ordering.{nat_cmp}
use Rattle.std.specs.Str.{IsUtf8}
use Rattle.rc_lexer.specs.Answers.{IsLexed}
use Rattle.rc_lexer.specs.Views.{tokens_of}
use Rattle.rc_lexer.specs.declared.Token.{Token}
use Rattle.rc_model.specs.Mirrors.Spelling.{AreSpelled}
use Rattle.rc_model.specs.Mirrors.FirstFault.{first_fault}
use Rattle.rc_model.specs.Syntax.Accepted.{IsAccepted, lexemes, longest_script}
use Rattle.rc_model.specs.Syntax.Printing.{has_here, printed}
use Rattle.rc_model.specs.Syntax.Tree.{Node, cmd}
use Rattle.rc_model.specs.declared.fault.SyntaxFault.{SyntaxFault}
use Rattle.law_syntax.proofs.Decided.{accepted_formed, never_both}
use Rattle.law_syntax.proofs.FirstFault.{fault_refuses}
use Rattle.law_syntax.proofs.Found.{finds_the_tree}
use Rattle.law_syntax.proofs.Spelled.{spelled_tokens}
use Rattle.law_print.proofs.Round.{round_trip}
use Rattle.rc_check.specs.Findings.{HasForm, IsScript, KeepsTree}

-- the tokens of a text are spelled as the language has it
pub lexed_are_spelled : (text : List ℕ) (tokens : Vec Token Global) → IsUtf8 text → IsLexed {Z = Global} text (Ok tokens) → AreSpelled (lexemes (tokens_of text tokens.items))
lexed_are_spelled text tokens utf8 read = spelled_tokens text (tokens_of text tokens.items) utf8 read.found

-- texts that are equal by `==` are the same
pub same_text : (x y : List ℕ) → pointwise nat_eq x y ≡ true → x ≡ y
same_text x y e = slice_cmp-IsAntisymmetric nat_cmp-IsAntisymmetric x y ((Equal-is (slice_cmp nat_cmp x y)).0 (sym (texts_ties x y) ∙ e))

-- a script with a fault is no accepted one
pub never_accepted : (script : List ℕ) (f : SyntaxFault) → first_fault script ≡ Some f → ¬ IsScript script
never_accepted script f first s = never_both script f s.0 (fault_refuses script f first) s.1

-- the print of the tree of a script is a script with this tree
pub printed_again : (script text : List ℕ) (tree : Node cmd) → IsAccepted script tree → has_here tree ≡ false → text ≡ printed tree → length text ≤ longest_script →
    IsAccepted text tree
printed_again script text tree a h e short = subst (λ z. IsAccepted z tree) (sym e) again
  where
    again : IsAccepted (printed tree) tree
    again = round_trip script a.tokens tree (IsUtf8-from_is_utf8 script a.has.text) a.has.cut a.tree_is.script (accepted_formed script tree a) h
        (subst (λ z. length z ≤ longest_script) e short)

-- a text has one tree at most
same_tree : (text : List ℕ) (tree other : Node cmd) → IsAccepted text tree → IsAccepted text other → tree ≡ other
same_tree text tree other a b = same_some _ _ (sym ((finds_the_tree text tree).1 a) ∙ (finds_the_tree text other).1 b)
  where
    same_some : (x y : Node cmd) → ◌≡◌ {A = Option (Node cmd)} (Some x) (Some y) → x ≡ y
    same_some x y e = cc

-- a script whose tree is printed as a text has each tree of that
pub keeps_tree : (script text : List ℕ) (tree : Node cmd) → IsAccepted script tree → has_here tree ≡ false → text ≡ printed tree → length text ≤ longest_script →
    KeepsTree text script
keeps_tree script text tree a h e short other b = subst (λ t. IsAccepted script t) (same_tree text tree other (printed_again script text tree a h e short) b) a

-- the form of a script is a text that keeps the tree of its print
pub has_form : (script text other : List ℕ) (tree : Node cmd) → IsAccepted script tree → has_here tree ≡ false → text ≡ printed tree → length text ≤ longest_script →
    KeepsTree text other → HasForm script other tree
has_form script text other tree a h e short keeps = record {
  accepted = a;
  without = h;
  short = subst (λ z. length z ≤ longest_script) e short;
  same = keeps tree (printed_again script text tree a h e short);
}
