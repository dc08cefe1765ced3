use Rattle.std.proofs.Common.{◌≡◌, take}
use Rattle.std.specs.List.{list_any}
use Rattle.rc_image.specs.Additions.{is_mark}
use Rattle.rc_image.proofs.escaped_bytes.has_marks.Given as goal

-- what the bytes so far have
abbrev pub invariant-loop-byte : goal.invariant-loop-byte
invariant-loop-byte l = l.found ≡ list_any is_mark (take l.byte-index l.bytes)
