use Rattle.std.proofs.Common.{◌≡◌, ◌++◌, map, string_bytes}
use Rattle.rc_text.specs.Texts.{text_bytes}
use Rattle.rc_glob.proofs.components.paths_in.Given as goal

abbrev pub invariant-loop-name : goal.invariant-loop-name
invariant-loop-name l = map text_bytes l.paths.items ≡ map (λ name. l.fn.path ++ name) (map string_bytes l.yielded)
