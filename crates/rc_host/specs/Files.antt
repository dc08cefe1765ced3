-- Open files: how a file is opened, and the kinds of open files.
use Rattle.std.specs.Prelude.{true}
use Rattle.std.specs.Fs.{new_options, with_read, with_write, with_append, with_create, with_create_new, with_truncate}
use Rattle.std.specs.declared.fs.options.OpenOptions.{OpenOptions}
use Rattle.rc_model.specs.declared.call.Mode.{Mode}
use Rattle.rc_model.specs.declared.call.Mode.TheVariants.{Read, Write, Append}
use Rattle.rc_host.specs.declared.files.OpenFile.{OpenFile}
use Rattle.rc_host.specs.declared.files.OpenFile.TheVariants.{File, ReadEnd, WriteEnd}

-- to read, to write from the beginning of an empty file, or to write at the end; what is written is created if missing
abbrev pub options_of : Mode → OpenOptions
options_of Read = with_read new_options true
options_of Write = with_truncate (with_create (with_write new_options true) true) true
options_of Append = with_create (with_append new_options true) true

-- to write to a file that is created, only if its name is free
abbrev pub fresh_options : OpenOptions
fresh_options = with_create_new (with_write new_options true) true

-- a file, not an end of a pipe
abbrev pub IsFile : OpenFile → Type 0
IsFile (File file) = Unit {0}
IsFile _ = ⊥

-- the end of a pipe to read from
abbrev pub IsReadEnd : OpenFile → Type 0
IsReadEnd (ReadEnd end) = Unit {0}
IsReadEnd _ = ⊥

-- the end of a pipe to write to
abbrev pub IsWriteEnd : OpenFile → Type 0
IsWriteEnd (WriteEnd end) = Unit {0}
IsWriteEnd _ = ⊥
