use Rattle.std.proofs.Common.{◌≡◌, vec_len}
use Rattle.std.specs.Io.KnownBytes.{Consumes}
use Rattle.rc_cli.specs.declared.reading.TheConstants.{PART_BYTES}
use Rattle.rc_cli.proofs.reading.read_whole.Given as goal

-- the bytes so far were the first, and there is room for more
abbrev pub invariant-loop : goal.invariant-loop
invariant-loop g l = record {
  taken : Consumes (g.R.Read.remaining l.initial.input) (g.R.Read.remaining l.input) l.bytes.items;
  room : vec_len l.part ≡ PART_BYTES;
}
