-- The bytes read, as the definitions have them.
use Rattle.std.specs.Prelude.{option_map}
use Rattle.rc_model.specs.Run.Acts.{Got}
use Rattle.rc_pipes.specs.declared.output_reading.ReadBytes.{ReadBytes}

-- the bytes, and why reading stopped
abbrev pub got_of : ReadBytes → Got
got_of r = record { text = r.bytes.items; why = option_map (λ why. why.now) r.why }
