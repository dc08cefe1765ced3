-- Nodes by their shape.
use Rattle.rc_model.specs.Syntax.Tree.{Node, Many}
use Rattle.rc_model.specs.Syntax.Tree as t
use Rattle.rc_spelling.specs.declared.shape.BodyShape.{BodyShape}
use Rattle.rc_spelling.specs.declared.shape.BodyShape.TheVariants as b
use Rattle.rc_spelling.specs.declared.shape.BodiesShape.{BodiesShape}
use Rattle.rc_spelling.specs.declared.shape.BodiesShape.TheVariants as bs
use Rattle.rc_spelling.specs.declared.shape.WordsShape.{WordsShape}
use Rattle.rc_spelling.specs.declared.shape.WordsShape.TheVariants as w
use Rattle.rc_spelling.specs.declared.shape.NameShape.{NameShape}
use Rattle.rc_spelling.specs.declared.shape.NameShape.TheVariants as n

-- a node that has one command
unfoldable pub body_node : BodyShape → Node t.cmd → Node t.cmd
body_node b.Not x = t.Not x
body_node b.Subshell x = t.Subshell x
body_node b.IfNot x = t.IfNot x
body_node b.Brace x = t.Brace x

-- a node that has two commands
unfoldable pub bodies_node : BodiesShape → Node t.cmd → Node t.cmd → Node t.cmd
bodies_node bs.If x y = t.If x y
bodies_node bs.While x y = t.While x y

-- a node that has arguments
unfoldable pub words_node : WordsShape → Many t.arg → Node t.cmd
words_node w.Simple ws = t.Simple ws
words_node w.Undefine ws = t.Undefine ws

-- a node that has the name of a variable
unfoldable pub name_node : NameShape → Node t.arg → Node t.arg
name_node n.Var x = t.Var x
name_node n.Count x = t.Count x
name_node n.Flat x = t.Flat x
