use Rattle.std.proofs.Common.{◌≡◌, vec_len}
use Rattle.std.specs.Io.KnownBytes.{Consumes}
use Rattle.rc_host.specs.declared.directory.TheConstants.{NAME_BYTES}
use Rattle.rc_host.proofs.directory.read_whole.Given as goal

-- the bytes so far were the first, and there is room for more
abbrev pub invariant-loop : goal.invariant-loop
invariant-loop g l = record {
  taken : Consumes (g.R.Read.remaining l.initial.directory) (g.R.Read.remaining l.directory) l.bytes.items;
  room : vec_len l.part ≡ NAME_BYTES;
}
