use Rattle.std.proofs.Common.{◌≡◌, ◌++◌, drop, map}
use Rattle.rc_text.specs.Texts.{text_bytes}
use Rattle.rc_model.specs.Handed.Image.{entry}
use Rattle.rc_image.specs.Additions.{handed}
use Rattle.rc_image.proofs.launch_environment.push_rest.Given as goal

-- the entries so far and those to come are all
abbrev pub invariant-loop-place : goal.invariant-loop-place
invariant-loop-place l = map text_bytes l.out.items ++ map entry (handed (drop l.place l.variables)) ≡ map text_bytes l.fn.out.items ++ map entry (handed (drop l.start l.variables))
