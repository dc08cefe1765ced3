use Rattle.std.proofs.Common.{◌≡◌, ◌++◌, string_bytes}
use Rattle.std.specs.Str.Iter.{chars_rest}
use Rattle.rc_model.specs.Handed.Image.{escaped}
use Rattle.rc_image.proofs.launch_environment.push_marked.Given as goal

-- what is written and what is left is the whole
abbrev pub invariant-loop-c : goal.invariant-loop-c
invariant-loop-c l = string_bytes l.out ++ escaped (chars_rest l.c-iterator) ≡ string_bytes l.initial.out ++ escaped l.member
