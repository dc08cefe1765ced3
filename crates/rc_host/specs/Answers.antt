-- Results of Linux as answers of a world.
use Rattle.std.specs.Prelude.{◌≡◌, ◌↔◌, ℕ, ◌<◌, nat_abs, bit_and, option_map, unwrap_or}
use Rattle.std.specs.Fs.{IsDir, IsFile, file_type, metadata_mode}
use Rattle.std.specs.Process.{exit_code}
use Rattle.std.specs.declared.fs.attrs.Metadata.{Metadata}
use Rattle.std.specs.declared.process.status.ExitStatus.{ExitStatus}
use Rattle.rc_model.specs.declared.call.Ending.{Ending}
use Rattle.rc_model.specs.declared.call.Ending.TheVariants.{Code, Signal}
use Rattle.rc_model.specs.declared.call.Kind.{Kind}
use Rattle.rc_model.specs.declared.call.Kind.TheVariants.{Directory, Program}

-- how a child ended: with its code or, if it has none, by a signal
abbrev pub ending_of : ExitStatus → Ending
ending_of status = unwrap_or (option_map (λ code. Code (nat_abs code)) (exit_code status)) Signal

-- the bits of a mode that let a file's owner, its group and all others execute it: 73 is 0o111
abbrev pub execute_bits : ℕ
execute_bits = 73

-- a regular file that its owner, its group or all others may execute
abbrev pub IsProgram : Metadata → Type 0
IsProgram found = IsFile (file_type found) × 0 < bit_and (metadata_mode found) execute_bits

-- the kind of a path, by its metadata
pub record FindsKind (found : Metadata) (kind : Kind) : Type 0 where
  pub directory : (kind ≡ Directory) ↔ IsDir (file_type found)
  pub program : (kind ≡ Program) ↔ IsProgram found
