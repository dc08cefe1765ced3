-- What the laws say of the trees of a script.
use Rattle.std.specs.Prelude.{IfErr, Vec}
use Rattle.std.specs.Result.{IsErrAnd}
use Rattle.std.proofs.Common.{◌≡◌, ℕ, ◌<◌, ◌≤◌, ◌-◌, List, Result, Ok, Err, Some, length, refl, sym, ap, subst, ◌∙◌}
use Rattle.std.proofs.lemmas.Str.{is_utf8-from_IsUtf8}
use Rattle.std.specs.Str.{IsUtf8}
use Rattle.rc_model.specs.Syntax.Tokens.{Token}
use Rattle.rc_model.specs.Syntax.Tokens as t
use Rattle.rc_model.specs.Syntax.Tree.{Node, cmd}
use Rattle.rc_model.specs.Syntax.Accepted.{HasTokens, IsAccepted, lexemes, longest_script}
use Rattle.rc_model.specs.Syntax.Grammar.{HaveTree, HaveAcceptedTree}
use Rattle.law_syntax.proofs.Decided.{same_tokens}
use Rattle.rc_model.specs.declared.fault.SyntaxFault.{SyntaxFault}
use Rattle.rc_model.specs.declared.fault.InputError.TheVariants as error
use Rattle.rc_lexer.specs.declared.Token as lexer
use Rattle.rc_lexer.specs.Answers.{ScriptError, IsLexed}
use Rattle.rc_lexer.specs.Views.{tokens_of}
use Rattle.rc_parser.specs.declared.token_stream.token_faults.TokenFault.{TokenFault}
use Rattle.rc_parser.specs.Results.{Gives, TokenError}
use Rattle.rc_tree.specs.declared.types.Cmd.{Cmd}
use Rattle.rc_tree.specs.View.{cmd_tree}
use Rattle.rc_model.specs.Mirrors.Descent.{script_tree}
use Rattle.rc_model.specs.Mirrors.FirstFault.{line_left, placed}
use Rattle.law_syntax.proofs.FirstFault.{first_of_lexer, first_of_tree}
use Rattle.rc_parser.specs.Faults.{Refuses}
use Rattle.rc_parser.specs.Parsed.{Parses}

-- the lexer's tokens and its fault are the script's
pub is_cut : {Z : Type 0} (text : List ℕ) (tokens : Vec lexer.Token Z) → length text ≤ longest_script → IsUtf8 text → IsLexed text (Ok tokens) → HasTokens text (tokens_of text tokens.items)
is_cut text tokens short utf8 read = record { short = short; text = is_utf8-from_IsUtf8 text utf8; cut = read.found }

pub is_not_cut : (Z : Type 0) (text : List ℕ) (e : ScriptError) → length text ≤ longest_script → IsUtf8 text → IsLexed {Z = Z} text (Err e) → Refuses e text
is_not_cut Z text (error.Fault f) short utf8 read = first_of_lexer text f short (is_utf8-from_IsUtf8 text utf8) read.found
is_not_cut Z text error.NoMemory short utf8 read = tt

-- a fault is handed on
pub handed_on : {X : Type 0} (text : List ℕ) (result : Result X ScriptError) (e : ScriptError) → IsErrAnd result (λ x. x ≡ e) → Refuses e text → IfErr result (λ x. Refuses x text)
handed_on text (Err x) e h refused = subst (λ z. Refuses z text) (sym h) refused
handed_on text (Ok c) e h refused = absurd h

-- the tree of a script's tokens is the script's only one
pub has_no_other : (text : List ℕ) (tokens : List Token) (ts : List t.Lexeme) (tree : Node cmd) → HasTokens text tokens → ts ≡ lexemes tokens →
    ((other : Node cmd) → HaveTree ts other → other ≡ tree) → (other : Node cmd) → IsAccepted text other → other ≡ tree
has_no_other text tokens ts tree h e only other a = only other (subst (λ z. HaveTree z other) (ap lexemes (same_tokens a.has h) ∙ sym e) a.tree_is.script)

-- the tree of a script's tokens is the script's
pub is_found : (text : List ℕ) (tokens : List Token) (ts : List t.Lexeme) (c : Cmd) → HasTokens text tokens → ts ≡ lexemes tokens → HaveAcceptedTree ts (cmd_tree c) →
    ((other : Node cmd) → HaveTree ts other → other ≡ cmd_tree c) → Parses text (Ok c)
is_found text tokens ts c h e accepted only = record {
  accepted = record { tokens = tokens; has = h; tree_is = subst (λ z. HaveAcceptedTree z (cmd_tree c)) e accepted };
  only = has_no_other text tokens ts (cmd_tree c) h e only;
  refused = tt;
}

-- and so is the fault that is placed for one of theirs
pub is_not_found : (text : List ℕ) (tokens : List Token) (ts : List t.Lexeme) (o : Result Cmd TokenError) (found : TokenFault) (f : SyntaxFault) → HasTokens text tokens → ts ≡ lexemes tokens →
    o ≡ Err (error.Fault found) → Gives (λ c. cmd_tree c) o (script_tree 200 ts) → f ≡ placed (line_left text tokens found.left) found.fault → Parses text (Err (error.Fault f))
is_not_found text tokens ts o found f h e is gives at = record {
  accepted = tt;
  only = tt;
  refused =
      let stopped = subst (λ z. Gives (λ c. cmd_tree c) z (script_tree 200 ts)) is gives in
      first_of_tree text tokens (found.fault, found.left) h (ap (script_tree 200) (sym e) ∙ stopped) ∙ ap (λ z. Some z) (sym at);
}
