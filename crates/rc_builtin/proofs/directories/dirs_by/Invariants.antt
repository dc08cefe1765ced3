use Rattle.std.proofs.Common.{◌≡◌, map, string_bytes, take}
use Rattle.rc_text.specs.Texts.{text_bytes}
use Rattle.rc_model.specs.Run.Builtins.{under_dir}
use Rattle.rc_builtin.proofs.directories.dirs_by.Given as goal

abbrev pub invariant-loop-member : goal.invariant-loop-member
invariant-loop-member l = map string_bytes l.dirs.items ≡ map (under_dir l.dir) (map text_bytes (take l.member-index l.members))
