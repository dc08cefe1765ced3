-- Each tree of a text is that of its print.
use Rattle.std.proofs.Common.{◌≡◌, sym, subst, ℕ, ◌≤◌, true, false, List, length, Ok, IsUtf8, nat_le}
use Rattle.std.proofs.lemmas.Bool.{leb-true}
use Rattle.std.proofs.lemmas.Str.{is_utf8-from_IsUtf8}
use Rattle.rc_model.specs.Syntax.Tree.{Node, cmd}
use Rattle.rc_model.specs.Syntax.Tokens.{Token, Lexes}
use Rattle.rc_model.specs.Syntax.Grammar.{HaveTree}
use Rattle.rc_model.specs.Syntax.WellFormed.{depth, is_sound, well_formed}
use Rattle.rc_model.specs.Syntax.Printing.{has_here, printed}
use Rattle.rc_model.specs.Syntax.Accepted.{IsAccepted, lexemes, longest_script}
use Rattle.law_syntax.proofs.Narrow.{and_second, formed_narrow}
use Rattle.law_print.specs.Lexemes.{IsWritable}
use Rattle.law_print.proofs.Trees.{cmd_piece}
use Rattle.law_print.proofs.Tokens.{printed_tokens}
use Rattle.law_print.proofs.Scripts.{written_trees}
use Rattle.law_print.proofs.Printed.{script_prints}

printed_text : (c : Node cmd) → IsWritable c → IsUtf8 (printed c)
printed_text c w = let q = cmd_piece c false w in (q.chars, (q.scalar, q.spelled))

pub round_trip : (text : List ℕ) (tokens : List Token) (tree : Node cmd) → IsUtf8 text → Lexes text (Ok tokens) → HaveTree (lexemes tokens) tree →
    well_formed tree ≡ true → has_here tree ≡ false → length (printed tree) ≤ longest_script → IsAccepted (printed tree) tree
round_trip text tokens tree u r s formed none_here short =
    let w = written_trees text tokens tree u r s in
    let again = printed_tokens tree w in
    record {
      tokens = again.0;
      has = record { short = short; text = is_utf8-from_IsUtf8 (printed tree) (printed_text tree w); cut = again.1.0 };
      tree_is = record {
        script = subst (λ ls. HaveTree ls tree) (sym again.1.1) (script_prints (lexemes tokens) tree s none_here);
        shallow = leb-true (depth tree) 200 (and_second (is_sound tree) (nat_le (depth tree) 200) formed);
        narrow = formed_narrow tree formed;
      };
    }
