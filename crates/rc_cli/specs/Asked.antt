-- The request that a `Request` of the program represents.
use Rattle.std.specs.Prelude.{map, string_bytes}
use Rattle.rc_cli.specs.Requests as model
use Rattle.rc_cli.specs.declared.program_request.Source.{Source}
use Rattle.rc_cli.specs.declared.program_request.Source.TheVariants as source
use Rattle.rc_cli.specs.declared.program_request.Request.{Request}

-- the source, with its text or its name
abbrev pub asked_source : Source → model.Source
asked_source source.Input = model.Input
asked_source (source.Text text) = model.Text text.now
asked_source (source.File name) = model.File name.now
asked_source source.Image = model.Image

-- the request, as the definitions have it
abbrev pub asked : Request → model.Request
asked r = record { strict = r.strict; source = asked_source r.source; arguments = map string_bytes r.arguments.now }
