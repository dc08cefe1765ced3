-- Nodes by their shape, whose parts have this level.
use Rattle.std.specs.Prelude.{ℕ, Ok}
use Rattle.rc_model.specs.declared.call.Mode.{Mode}
use Rattle.rc_model.specs.declared.call.Mode.TheVariants.{Read}
use Rattle.rc_model.specs.Syntax.Tree.{Node}
use Rattle.rc_model.specs.Syntax.Tree as t
use Rattle.rc_model.specs.Handed.TreeReading.{Reader, ◌>>=◌, cmd_at, arg_at}
use Rattle.rc_spelling.specs.Steps.{count_from, stage_count, list_by, word_by, quoted_by, copy_by, here_by, slot_by}
use Rattle.rc_spelling.specs.Steps.{args_by, item_by, pair_by, stage_by, link_by, branch_by}
use Rattle.rc_spelling.specs.Shapes.{redir_shape, mark_by}
use Rattle.rc_spelling.specs.Nodes.{body_node, bodies_node, words_node, name_node}
use Rattle.rc_spelling.specs.declared.shape.CmdShape.{CmdShape}
use Rattle.rc_spelling.specs.declared.shape.CmdShape.TheVariants as s
use Rattle.rc_spelling.specs.declared.shape.FrontShape.{FrontShape}
use Rattle.rc_spelling.specs.declared.shape.FrontShape.TheVariants as f
use Rattle.rc_spelling.specs.declared.shape.SubjectShape.{SubjectShape}
use Rattle.rc_spelling.specs.declared.shape.SubjectShape.TheVariants as j
use Rattle.rc_spelling.specs.declared.shape.ArgShape.{ArgShape}
use Rattle.rc_spelling.specs.declared.shape.ArgShape.TheVariants as a
use Rattle.rc_spelling.specs.declared.shape.RedirShape.{RedirShape}
use Rattle.rc_spelling.specs.declared.shape.RedirShape.TheVariants as r

-- the file that is written
abbrev pub opened_by : Mode → ℕ → Reader (Node t.redir)
opened_by mode d bytes = slot_by bytes >>= λ s. arg_at d s.1 >>= λ x. Ok (t.Open mode s.0 x.0, x.1)

-- a redirection by its shape
abbrev pub redir_of : ℕ → RedirShape → Reader (Node t.redir)
redir_of d r.Input rest = arg_at d rest >>= λ x. Ok (t.Open Read 0 x.0, x.1)
redir_of d (r.Output mode) rest = opened_by mode d rest
redir_of d r.Copy rest = copy_by rest
redir_of d r.Here rest = here_by rest

-- a redirection
unfoldable pub redir_by : ℕ → Reader (Node t.redir)
redir_by d bytes = mark_by redir_shape bytes >>= λ x. redir_of d x.0 x.1

-- a list and a command
unfoldable pub front_by : ℕ → FrontShape → Reader (Node t.cmd)
front_by d f.Assign rest =
    list_by (count_from 1) (pair_by d) rest >>= λ x. cmd_at d x.1 >>= λ y. Ok (t.Assign x.0 y.0, y.1)
front_by d f.Redirect rest =
    list_by (count_from 1) (redir_by d) rest >>= λ x. cmd_at d x.1 >>= λ y. Ok (t.Redirect x.0 y.0, y.1)
front_by d f.Pipeline rest =
    list_by stage_count (stage_by d) rest >>= λ x. cmd_at d x.1 >>= λ y. Ok (t.Pipeline x.0 y.0, y.1)
front_by d f.Define rest = args_by 1 d rest >>= λ x. cmd_at d x.1 >>= λ y. Ok (t.Define x.0 y.0, y.1)

-- what follows an argument that was read
unfoldable pub subject_by : ℕ → SubjectShape → Node t.arg → Reader (Node t.cmd)
subject_by d j.ForAll name rest = cmd_at d rest >>= λ x. Ok (t.ForAll name x.0, x.1)
subject_by d j.For name rest = args_by 0 d rest >>= λ x. cmd_at d x.1 >>= λ y. Ok (t.For name x.0 y.0, y.1)
subject_by d j.Switch subject rest = list_by (count_from 0) (branch_by d) rest >>= λ x. Ok (t.Switch subject x.0, x.1)
subject_by d j.Match subject rest = args_by 0 d rest >>= λ x. Ok (t.Match subject x.0, x.1)

-- a command by its shape
unfoldable pub cmd_of : ℕ → CmdShape → Reader (Node t.cmd)
cmd_of d s.Empty rest = Ok (t.Empty, rest)
cmd_of d s.Seq rest = list_by (count_from 0) (item_by d) rest >>= λ x. Ok (t.Seq x.0, x.1)
cmd_of d s.AndOr rest =
    cmd_at d rest >>= λ x. list_by (count_from 1) (link_by d) x.1 >>= λ y. Ok (t.AndOr x.0 y.0, y.1)
cmd_of d (s.Body b) rest = cmd_at d rest >>= λ x. Ok (body_node b x.0, x.1)
cmd_of d (s.Bodies b) rest = cmd_at d rest >>= λ x. cmd_at d x.1 >>= λ y. Ok (bodies_node b x.0 y.0, y.1)
cmd_of d (s.Words w) rest = args_by 1 d rest >>= λ x. Ok (words_node w x.0, x.1)
cmd_of d (s.Front f) rest = front_by d f rest
cmd_of d (s.Subject j) rest = arg_at d rest >>= λ x. subject_by d j x.0 x.1

-- an argument by its shape
unfoldable pub arg_of : ℕ → ArgShape → Reader (Node t.arg)
arg_of d a.Word rest = word_by rest
arg_of d a.Quoted rest = quoted_by rest
arg_of d a.Concat rest = args_by 2 d rest >>= λ x. Ok (t.Concat x.0, x.1)
arg_of d a.Paren rest = args_by 0 d rest >>= λ x. Ok (t.Paren x.0, x.1)
arg_of d (a.Name n) rest = arg_at d rest >>= λ x. Ok (name_node n x.0, x.1)
arg_of d a.Sub rest = arg_at d rest >>= λ x. args_by 0 d x.1 >>= λ y. Ok (t.Sub x.0 y.0, y.1)
arg_of d a.Back rest = cmd_at d rest >>= λ x. Ok (t.Back x.0, x.1)
