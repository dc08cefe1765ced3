-- The results of the reading functions.
use Rattle.std.specs.Prelude.{ℕ, Bool, List, ◌∷◌, length, Ok, Err}
use Rattle.rc_model.specs.Syntax.HereDocs.{pieces_of}
use Rattle.rc_model.specs.Syntax.Tokens.{HereDoc}
use Rattle.rc_model.specs.Syntax.Tree.{Node, Many, none}
use Rattle.rc_model.specs.Syntax.Tree as t
use Rattle.rc_model.specs.Mirrors.Descent as d
use Rattle.rc_model.specs.Mirrors.Descent.{Read, Reader, simple_from, stops, ◌>>=◌}
use Rattle.rc_model.specs.declared.fault.DescentFault.TheVariants.{Unexpected}
use Rattle.rc_tree.specs.View.{cmd_tree, arg_tree}
use Rattle.rc_parser.specs.declared.descent.openings.Opening.{Opening}
use Rattle.rc_parser.specs.declared.descent.openings.Opening.TheVariants as o

-- a stage, or the name of an assignment
abbrev pub opening_of : Opening → d.Opening
opening_of (o.Staged c) = d.Staged (cmd_tree c.value)
opening_of (o.Named a) = d.Named (arg_tree a)

-- what was read, passed to a function
abbrev pub made : {X Y : Type 0} → (X → Y) → Read X → Read Y
made f read = read >>= λ x. Ok (f x.0, x.1)

-- a word, quoted or not, or a name, which was read before these tokens
abbrev pub literal : (text : List ℕ) → (quoted : Bool) → Reader (Node t.arg)
literal text quoted ts = Ok (t.Lit text quoted, ts)

-- words and redirections in any order, as many as there are, after these words
abbrev pub simple_after : Reader (Node t.arg) → Many t.arg → Reader (Many t.arg × Many t.redir)
simple_after part words ts = simple_from part (length ts) words none ts

-- a here document
abbrev pub here_doc_by : Reader (Node t.redir)
here_doc_by (HereDoc quoted body ∷ ts) = Ok (t.Here (pieces_of quoted body), ts)
here_doc_by ts = stops Unexpected ts
