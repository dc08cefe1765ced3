use Rattle.std.proofs.Common.{◌≡◌, ◌++◌, drop, map}
use Rattle.rc_text.specs.Texts.{text_bytes}
use Rattle.rc_model.specs.Handed.Image.{entry, entries}
use Rattle.rc_model.specs.Handed.Proper.{Ordered}
use Rattle.rc_scope.specs.Bodies.{definitions_of}
use Rattle.rc_scope.specs.States.{state_of}
use Rattle.rc_image.specs.Additions.{additions, handed, put_all}
use Rattle.rc_image.proofs.launch_environment.entries.Given as goal

-- the entries so far and those to come are all
abbrev pub invariant-loop-definition : goal.invariant-loop-definition
invariant-loop-definition l =
    let left = drop l.definition-index l.definition-items in
    Ordered (definitions_of left)
    × (map text_bytes l.all.items ++ map entry (put_all (additions left (state_of l.state).status) (handed (drop l.place l.variables.items))) ≡ entries (state_of l.state))
