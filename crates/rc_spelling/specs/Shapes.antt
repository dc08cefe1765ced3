-- The marks at the beginning of nodes, and what follows each.
use Rattle.std.specs.Prelude.{ℕ, ◌==◌, if◌then◌else◌, Option, Some, None, Ok, Err}
use Rattle.rc_model.specs.declared.call.Mode.TheVariants.{Write, Append}
use Rattle.rc_model.specs.Handed.TreeReading.{Reader, ◌>>=◌}
use Rattle.rc_spelling.specs.Steps.{first_by}
use Rattle.rc_spelling.specs.declared.shape.CmdShape.{CmdShape}
use Rattle.rc_spelling.specs.declared.shape.CmdShape.TheVariants as s
use Rattle.rc_spelling.specs.declared.shape.BodyShape.TheVariants as b
use Rattle.rc_spelling.specs.declared.shape.BodiesShape.TheVariants as bs
use Rattle.rc_spelling.specs.declared.shape.WordsShape.TheVariants as w
use Rattle.rc_spelling.specs.declared.shape.FrontShape.TheVariants as f
use Rattle.rc_spelling.specs.declared.shape.SubjectShape.TheVariants as j
use Rattle.rc_spelling.specs.declared.shape.ArgShape.{ArgShape}
use Rattle.rc_spelling.specs.declared.shape.ArgShape.TheVariants as a
use Rattle.rc_spelling.specs.declared.shape.NameShape.TheVariants as n
use Rattle.rc_spelling.specs.declared.shape.RedirShape.{RedirShape}
use Rattle.rc_spelling.specs.declared.shape.RedirShape.TheVariants as r
use Rattle.rc_model.specs.declared.fault.ImageFault.TheVariants.{BadTag}

-- the shape of a command, by its mark
unfoldable pub cmd_shape : ℕ → Option CmdShape
cmd_shape m =
    if m == 101 then Some s.Empty
    else if m == 115 then Some s.Seq
    else if m == 99 then Some (s.Words w.Simple)
    else if m == 61 then Some (s.Front f.Assign)
    else if m == 114 then Some (s.Front f.Redirect)
    else if m == 112 then Some (s.Front f.Pipeline)
    else if m == 97 then Some s.AndOr
    else if m == 33 then Some (s.Body b.Not)
    else if m == 64 then Some (s.Body b.Subshell)
    else if m == 105 then Some (s.Bodies bs.If)
    else if m == 110 then Some (s.Body b.IfNot)
    else if m == 119 then Some (s.Bodies bs.While)
    else if m == 102 then Some (s.Subject j.ForAll)
    else if m == 70 then Some (s.Subject j.For)
    else if m == 83 then Some (s.Subject j.Switch)
    else if m == 126 then Some (s.Subject j.Match)
    else if m == 100 then Some (s.Front f.Define)
    else if m == 117 then Some (s.Words w.Undefine)
    else if m == 98 then Some (s.Body b.Brace)
    else None

-- the shape of an argument, by its mark
unfoldable pub arg_shape : ℕ → Option ArgShape
arg_shape m =
    if m == 119 then Some a.Word
    else if m == 113 then Some a.Quoted
    else if m == 94 then Some a.Concat
    else if m == 40 then Some a.Paren
    else if m == 36 then Some (a.Name n.Var)
    else if m == 35 then Some (a.Name n.Count)
    else if m == 34 then Some (a.Name n.Flat)
    else if m == 91 then Some a.Sub
    else if m == 96 then Some a.Back
    else None

-- the shape of a redirection, by its mark
unfoldable pub redir_shape : ℕ → Option RedirShape
redir_shape m =
    if m == 60 then Some r.Input
    else if m == 62 then Some (r.Output Write)
    else if m == 43 then Some (r.Output Append)
    else if m == 61 then Some r.Copy
    else if m == 104 then Some r.Here
    else None

-- the shape, if there is one
abbrev pub shaped : {X : Type 0} → Option X → Reader X
shaped (Some x) rest = Ok (x, rest)
shaped None rest = Err BadTag

-- the mark of a node
unfoldable pub mark_by : {X : Type 0} → (ℕ → Option X) → Reader X
mark_by shape bytes = first_by bytes >>= λ x. shaped (shape x.0) x.1
