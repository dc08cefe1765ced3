use Rattle.std.proofs.Common.{drop, map}
use Rattle.rc_text.specs.Texts.{text_bytes}
use Rattle.rc_image.specs.Additions.{handed}
use Rattle.rc_image.proofs.Handing.{Keeps}
use Rattle.rc_image.proofs.launch_environment.push_below.Given as goal

-- the entries so far are those of the variables before this one
abbrev pub invariant-loop-place : goal.invariant-loop-place
invariant-loop-place l = Keeps l.bound (handed (drop l.start l.variables)) (handed (drop l.place l.variables)) (map text_bytes l.fn.out.items) (map text_bytes l.out.items)
