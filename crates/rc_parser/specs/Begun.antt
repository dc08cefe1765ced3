-- How the definitions see what has begun in a here document.
use Rattle.std.specs.Prelude.{string_bytes}
use Rattle.rc_model.specs.Syntax.HereDocs as model
use Rattle.rc_parser.specs.declared.here_pieces.Begun.{Begun}
use Rattle.rc_parser.specs.declared.here_pieces.Begun.TheVariants.{Plain, Dollar, Naming}

-- what has begun, as the definitions have it
abbrev pub begun_of : Begun → model.PieceSoFar
begun_of (Plain text) = model.Plain (string_bytes text)
begun_of (Dollar text) = model.Dollar (string_bytes text)
begun_of (Naming name) = model.Naming (string_bytes name)
