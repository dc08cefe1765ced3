use Rattle.std.proofs.Common.{suc, ◌-◌, vec_len}
use Rattle.rc_pipes.proofs.Readings.{HasRead}
use Rattle.rc_pipes.proofs.output_reading.read_all.Given as goal

-- these bytes were read, and the reads that are left suffice
abbrev pub invariant-loop-handle : goal.invariant-loop-handle
invariant-loop-handle g l =
    HasRead (g.W.World.events l.initial.world) (g.W.World.events l.world) l.most l.handle.0 l.bytes.items

abbrev pub decreases-loop-handle : goal.decreases-loop-handle
decreases-loop-handle g l = suc l.most - vec_len l.bytes
