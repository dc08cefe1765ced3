use Rattle.std.proofs.Common.{suc, ◌-◌, length}
use Rattle.rc_model.specs.Syntax.Accepted.{longest_script}
use Rattle.rc_pipes.proofs.Readings.{HasRead}
use Rattle.rc_builtin.proofs.dot.read_script.Given as goal

-- these bytes were read, and the reads that are left suffice
abbrev pub invariant-loop-file : goal.invariant-loop-file
invariant-loop-file g l =
    HasRead (g.W.World.events l.initial.world) (g.W.World.events l.world) longest_script l.file.0 l.reader

abbrev pub decreases-loop-file : goal.decreases-loop-file
decreases-loop-file g l = suc longest_script - length l.reader
