-- What is left of the bytes after a node, by its parts: what is read of them is passed over.
use Rattle.std.specs.Prelude.{ℕ, zero, suc, ◌==◌, if◌then◌else◌, List, Result, Ok, Err}
use Rattle.rc_model.specs.Handed.TreeReading.{◌>>=◌, cmd_at, arg_at}
use Rattle.rc_model.specs.Syntax.Tree.{Node, cmd, Empty}
use Rattle.rc_model.specs.declared.fault.ImageFault.{ImageFault}
use Rattle.rc_model.specs.declared.fault.ImageFault.TheVariants.{BadTag}
use Rattle.rc_spelling.specs.Steps.{first_by, count_from, stage_count, text_by, word_by, quoted_by, copy_by, slot_by}
use Rattle.rc_spelling.specs.Steps.{background_by, logic_by}
use Rattle.rc_spelling.specs.Shapes.{redir_shape, mark_by}
use Rattle.rc_spelling.specs.declared.shape.CmdShape.{CmdShape}
use Rattle.rc_spelling.specs.declared.shape.CmdShape.TheVariants as s
use Rattle.rc_spelling.specs.declared.shape.FrontShape.{FrontShape}
use Rattle.rc_spelling.specs.declared.shape.FrontShape.TheVariants as f
use Rattle.rc_spelling.specs.declared.shape.SubjectShape.{SubjectShape}
use Rattle.rc_spelling.specs.declared.shape.SubjectShape.TheVariants as j
use Rattle.rc_spelling.specs.declared.shape.ArgShape.{ArgShape}
use Rattle.rc_spelling.specs.declared.shape.ArgShape.TheVariants as a
use Rattle.rc_spelling.specs.declared.shape.RedirShape.{RedirShape}
use Rattle.rc_spelling.specs.declared.shape.RedirShape.TheVariants as r
use Rattle.rc_spelling.specs.declared.shape.Part.{Part}
use Rattle.rc_spelling.specs.declared.shape.Part.TheVariants as p

-- the bytes that are left, or a fault
abbrev pub Rest : Type 0
Rest = Result (List ℕ) ImageFault

-- what is left after what was read
abbrev pub rest_of : {X : Type 0} → Result (X × List ℕ) ImageFault → Rest
rest_of (Ok x) = Ok x.1
rest_of (Err e) = Err e

-- the tree that was read, or an empty command if there is none
abbrev pub tree_or_empty : Result (Node cmd) ImageFault → Node cmd
tree_or_empty (Ok x) = x
tree_or_empty (Err e) = Empty

-- what is left after a given number of nodes
unfoldable pub past_each : (List ℕ → Rest) → ℕ → List ℕ → Rest
past_each past zero bytes = Ok bytes
past_each past (suc n) bytes = past bytes >>= λ rest. past_each past n rest

-- what is left after a text
abbrev pub past_text : List ℕ → Rest
past_text bytes = rest_of (text_by bytes)

-- what is left after a piece of a here document
unfoldable pub past_piece : List ℕ → Rest
past_piece bytes = first_by bytes >>= λ x.
    if x.0 == 116 then past_text x.1 else if x.0 == 118 then past_text x.1 else Err BadTag

-- what is left after the pieces of a here document
unfoldable pub past_here : List ℕ → Rest
past_here bytes = count_from 0 bytes >>= λ n. past_each past_piece n.0 n.1

-- what is left after a command of this level
unfoldable pub past_cmd : ℕ → List ℕ → Rest
past_cmd d bytes = rest_of (cmd_at d bytes)

-- what is left after an argument of this level
unfoldable pub past_arg : ℕ → List ℕ → Rest
past_arg d bytes = rest_of (arg_at d bytes)

-- what is left after arguments, of which there are at least this many
unfoldable pub past_args : (least d : ℕ) → List ℕ → Rest
past_args least d bytes = count_from least bytes >>= λ n. past_each (past_arg d) n.0 n.1

-- what is left after a redirection, by its shape
abbrev pub past_redir_of : ℕ → RedirShape → List ℕ → Rest
past_redir_of d r.Input rest = past_arg d rest
past_redir_of d (r.Output mode) rest = slot_by rest >>= λ s. past_arg d s.1
past_redir_of d r.Copy rest = rest_of (copy_by rest)
past_redir_of d r.Here rest = past_here rest

-- what is left after a redirection
unfoldable pub past_redir : ℕ → List ℕ → Rest
past_redir d bytes = mark_by redir_shape bytes >>= λ x. past_redir_of d x.0 x.1

-- what is left after a node of a list
unfoldable pub past_part : ℕ → Part → List ℕ → Rest
past_part d p.Item bytes = background_by bytes >>= λ b. past_cmd d b.1
past_part d p.Pair bytes = past_arg d bytes >>= λ rest. past_arg d rest
past_part d p.Redir bytes = past_redir d bytes
past_part d p.Stage bytes = slot_by bytes >>= λ s. past_cmd d s.1
past_part d p.Link bytes = logic_by bytes >>= λ l. past_cmd d l.1
past_part d p.Branch bytes = past_args 0 d bytes >>= λ rest. past_cmd d rest

-- what is left after a list of such nodes, of which there are at least this many
unfoldable pub past_list : (least d : ℕ) → Part → List ℕ → Rest
past_list least d part bytes = count_from least bytes >>= λ n. past_each (past_part d part) n.0 n.1

-- what is left after a list that comes before a command
unfoldable pub past_front : ℕ → FrontShape → List ℕ → Rest
past_front d f.Assign bytes = past_list 1 d p.Pair bytes
past_front d f.Redirect bytes = past_list 1 d p.Redir bytes
past_front d f.Pipeline bytes = stage_count bytes >>= λ n. past_each (past_part d p.Stage) n.0 n.1
past_front d f.Define bytes = past_args 1 d bytes

-- what is left after what follows an argument
unfoldable pub past_subject : ℕ → SubjectShape → List ℕ → Rest
past_subject d j.ForAll bytes = past_cmd d bytes
past_subject d j.For bytes = past_args 0 d bytes >>= λ rest. past_cmd d rest
past_subject d j.Switch bytes = past_list 0 d p.Branch bytes
past_subject d j.Match bytes = past_args 0 d bytes

-- what is left after a command, by its shape
unfoldable pub past_cmd_of : ℕ → CmdShape → List ℕ → Rest
past_cmd_of d s.Empty bytes = Ok bytes
past_cmd_of d s.Seq bytes = past_list 0 d p.Item bytes
past_cmd_of d s.AndOr bytes = past_cmd d bytes >>= λ rest. past_list 1 d p.Link rest
past_cmd_of d (s.Body b) bytes = past_cmd d bytes
past_cmd_of d (s.Bodies b) bytes = past_cmd d bytes >>= λ rest. past_cmd d rest
past_cmd_of d (s.Words w) bytes = past_args 1 d bytes
past_cmd_of d (s.Front f) bytes = past_front d f bytes >>= λ rest. past_cmd d rest
past_cmd_of d (s.Subject j) bytes = past_arg d bytes >>= λ rest. past_subject d j rest

-- what is left after an argument, by its shape
unfoldable pub past_arg_of : ℕ → ArgShape → List ℕ → Rest
past_arg_of d a.Word bytes = rest_of (word_by bytes)
past_arg_of d a.Quoted bytes = rest_of (quoted_by bytes)
past_arg_of d a.Concat bytes = past_args 2 d bytes
past_arg_of d a.Paren bytes = past_args 0 d bytes
past_arg_of d (a.Name n) bytes = past_arg d bytes
past_arg_of d a.Sub bytes = past_arg d bytes >>= λ rest. past_args 0 d rest
past_arg_of d a.Back bytes = past_cmd d bytes
