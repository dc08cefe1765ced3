-- Each text of a tree of the program consists of whole characters.
use Rattle.std.proofs.Common.{◌≡◌, refl, List, [], ◌∷◌, Bool, true, false, ◌&&◌}
use Rattle.std.proofs.lemmas.Str.{IsUtf8-had, IsUtf8-string_bytes, is_utf8-from_IsUtf8}
use Rattle.std.specs.Str.{is_utf8}
use Rattle.std.specs.Prelude.{string_bytes, ℕ}
use Rattle.std.specs.declared.string.String.{String}
use Rattle.std.specs.declared.alloc.Global.{Global}
use Rattle.rc_model.specs.Handed.TreeSpelling.{has_characters, all_in_many}
use Rattle.rc_model.specs.Syntax.Tree.{Sort, Many, none, more}
use Rattle.rc_tree.specs.LiteralTexts.{literal_bytes}
use Rattle.rc_tree.specs.View.{cmd_tree, held_tree, arg_tree, redir_tree, pieces_tree, piece_tree}
use Rattle.rc_tree.specs.View.{arg_row, item_row, pair_row, redir_row, stage_row, link_row, branch_row}
use Rattle.rc_tree.specs.declared.literal_text.LiteralText.{LiteralText}
use Rattle.rc_tree.specs.declared.types.Piece.{Piece}
use Rattle.rc_tree.specs.declared.types.Piece.TheVariants.{Text, Name}
use Rattle.rc_tree.specs.declared.types.Cmd.{Cmd}
use Rattle.rc_tree.specs.declared.types.Cmd.TheVariants as c
use Rattle.rc_tree.specs.declared.types.Arg.{Arg}
use Rattle.rc_tree.specs.declared.types.Arg.TheVariants as a
use Rattle.rc_tree.specs.declared.types.Redir.{Redir}
use Rattle.rc_tree.specs.declared.types.Redir.TheVariants as r
use Rattle.rc_tree.specs.declared.types.Cmd.{Row_of-Arg, end_of-Arg, more_of-Arg, Row_of-Item, end_of-Item}
use Rattle.rc_tree.specs.declared.types.Cmd.{more_of-Item, Row_of-Redir, end_of-Redir, more_of-Redir}
use Rattle.rc_tree.specs.declared.types.Cmd.{Row_of-Cmd-Assign-0-2, end_of-Cmd-Assign-0-2, more_of-Cmd-Assign-0-2}
use Rattle.rc_tree.specs.declared.types.Cmd.{Row_of-Stage, end_of-Stage, more_of-Stage, Row_of-Branch, end_of-Branch}
use Rattle.rc_tree.specs.declared.types.Cmd.{more_of-Branch, Row_of-Cmd-AndOr-1-2, end_of-Cmd-AndOr-1-2}
use Rattle.rc_tree.specs.declared.types.Cmd.{more_of-Cmd-AndOr-1-2, Held-Cmd-Assign-1, None', Some'}

-- each text of several nodes
abbrev have_characters : {s : Sort} → Many s → Bool
have_characters ns = all_in_many is_utf8 (λ n. true) ns

both : (p q : Bool) → p ≡ true → q ≡ true → (p && q) ≡ true
both true q u v = v
both false q u v = u

string_whole : (text : String Global) → is_utf8 (string_bytes text) ≡ true
string_whole text = is_utf8-from_IsUtf8 (string_bytes text) (IsUtf8-string_bytes text)

literal_whole : (text : LiteralText) → is_utf8 (literal_bytes text) ≡ true
literal_whole text = is_utf8-from_IsUtf8 (literal_bytes text) (IsUtf8-had (literal_bytes text) text.ok)

pieces_whole : (l : List Piece) → have_characters (pieces_tree l) ≡ true
pieces_whole [] = refl
pieces_whole (Text x ∷ l) = both _ _ (string_whole x) (pieces_whole l)
pieces_whole (Name x ∷ l) = both _ _ (string_whole x) (pieces_whole l)

mutual
  unfolding cmd_tree held_tree arg_tree redir_tree arg_row item_row pair_row redir_row stage_row link_row branch_row

  pub whole_cmd : (x : Cmd) → has_characters (cmd_tree x) ≡ true
  whole_cmd c.Empty = refl
  whole_cmd (c.Seq' s k) = whole_items k
  whole_cmd (c.Simple' s k) = whole_args k
  whole_cmd (c.Assign' s k x) = both _ _ (whole_pairs k) (whole_held x)
  whole_cmd (c.Redirect' s k p x) = both _ _ (whole_redirs k) (whole_cmd x)
  whole_cmd (c.Pipeline' q s k p x) = both _ _ (whole_stages k) (whole_cmd x)
  whole_cmd (c.AndOr' p x s k) = both _ _ (whole_cmd x) (whole_links k)
  whole_cmd (c.Not' p x) = whole_cmd x
  whole_cmd (c.Subshell' p x) = whole_cmd x
  whole_cmd (c.If' p x q y) = both _ _ (whole_cmd x) (whole_cmd y)
  whole_cmd (c.IfNot' p x) = whole_cmd x
  whole_cmd (c.While' p x q y) = both _ _ (whole_cmd x) (whole_cmd y)
  whole_cmd (c.ForAll' n p x) = both _ _ (whole_arg n) (whole_cmd x)
  whole_cmd (c.For' n s k p x) = both _ _ (whole_arg n) (both _ _ (whole_args k) (whole_cmd x))
  whole_cmd (c.Switch' n s k) = both _ _ (whole_arg n) (whole_branches k)
  whole_cmd (c.Match' n s k) = both _ _ (whole_arg n) (whole_args k)
  whole_cmd (c.Define' s k p x) = both _ _ (whole_args k) (whole_cmd x)
  whole_cmd (c.Undefine' s k) = whole_args k
  whole_cmd (c.Brace' p x) = whole_cmd x

  whole_held : (x : Held-Cmd-Assign-1) → has_characters (held_tree x) ≡ true
  whole_held None' = refl
  whole_held (Some' p x) = whole_cmd x

  whole_arg : (x : Arg) → has_characters (arg_tree x) ≡ true
  whole_arg (a.Lit q x) = literal_whole x
  whole_arg (a.Concat' s k) = whole_args k
  whole_arg (a.Paren' s k) = whole_args k
  whole_arg (a.Var' p x) = whole_arg x
  whole_arg (a.Count' p x) = whole_arg x
  whole_arg (a.Flat' p x) = whole_arg x
  whole_arg (a.Sub' p x s k) = both _ _ (whole_arg x) (whole_args k)
  whole_arg (a.Back' p x) = whole_cmd x

  whole_redir : (x : Redir) → has_characters (redir_tree x) ≡ true
  whole_redir (r.Open m s x) = whole_arg x
  whole_redir (r.Copy x y) = refl
  whole_redir (r.Here ps) = pieces_whole ps.items

  whole_args : {m : _} (k : Row_of-Arg m) → have_characters (arg_row k) ≡ true
  whole_args end_of-Arg = refl
  whole_args (more_of-Arg x k) = both _ _ (whole_arg x) (whole_args k)

  whole_items : {m : _} (k : Row_of-Item m) → have_characters (item_row k) ≡ true
  whole_items end_of-Item = refl
  whole_items (more_of-Item x b k) = both _ _ (whole_cmd x) (whole_items k)

  whole_pairs : {m : _} (k : Row_of-Cmd-Assign-0-2 m) → have_characters (pair_row k) ≡ true
  whole_pairs end_of-Cmd-Assign-0-2 = refl
  whole_pairs (more_of-Cmd-Assign-0-2 x y k) = both _ _ (both _ _ (whole_arg x) (whole_arg y)) (whole_pairs k)

  whole_redirs : {m : _} (k : Row_of-Redir m) → have_characters (redir_row k) ≡ true
  whole_redirs end_of-Redir = refl
  whole_redirs (more_of-Redir x k) = both _ _ (whole_redir x) (whole_redirs k)

  whole_stages : {m : _} (k : Row_of-Stage m) → have_characters (stage_row k) ≡ true
  whole_stages end_of-Stage = refl
  whole_stages (more_of-Stage x n k) = both _ _ (whole_cmd x) (whole_stages k)

  whole_links : {m : _} (k : Row_of-Cmd-AndOr-1-2 m) → have_characters (link_row k) ≡ true
  whole_links end_of-Cmd-AndOr-1-2 = refl
  whole_links (more_of-Cmd-AndOr-1-2 l x k) = both _ _ (whole_cmd x) (whole_links k)

  whole_branches : {m : _} (k : Row_of-Branch m) → have_characters (branch_row k) ≡ true
  whole_branches end_of-Branch = refl
  whole_branches (more_of-Branch s j p x k) = both _ _ (both _ _ (whole_args j) (whole_cmd x)) (whole_branches k)
