use Rattle.std.proofs.Common.{◌≡◌, map, string_bytes, take}
use Rattle.rc_pipes.specs.Starts.{paths_in}
use Rattle.rc_pipes.proofs.command_files.paths_in.Given as goal

-- the paths by the directories so far
abbrev pub invariant-loop-dir : goal.invariant-loop-dir
invariant-loop-dir l = map string_bytes l.paths.items ≡ paths_in l.name (take l.dir-index l.dirs)
