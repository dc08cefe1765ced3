use Rattle.std.proofs.Common.{◌≡◌, ◌==◌, ◌≤◌, ◌+◌, ◌++◌, [], count_by, map, string_bytes, length}
use Rattle.rc_host.specs.Names.{ended_from}
use Rattle.rc_host.proofs.ended.push_ended.Given as goal

-- the texts so far and those in what is left are all, and so are their numbers; what is left is shorter by each text
abbrev pub invariant-loop-length : goal.invariant-loop-length
invariant-loop-length l =
    (map string_bytes l.texts.items ++ ended_from l.sort [] l.rest ≡ map string_bytes l.fn.texts.items ++ ended_from l.sort [] l.bytes)
    × (l.count + count_by (λ byte. byte == 0) l.rest ≡ count_by (λ byte. byte == 0) l.bytes)
    × (l.count + length l.rest ≤ length l.bytes)

abbrev pub decreases-loop-length : goal.decreases-loop-length
decreases-loop-length l = length l.rest
