use Rattle.std.proofs.Common.{◌≡◌, [], ◌∷◌, ◌++◌, map, drop, string_bytes}
use Rattle.std.specs.List.{join_with_byte}
use Rattle.rc_pipes.proofs.child_statuses.stages_status.Given as goal

-- what is written and what is left is the whole
abbrev pub invariant-loop-status : goal.invariant-loop-status
invariant-loop-status l =
    string_bytes l.text ++ join_with_byte 124 (map string_bytes (drop l.status-index l.statuses) ++ l.last ∷ [])
    ≡ join_with_byte 124 (map string_bytes l.statuses ++ l.last ∷ [])
