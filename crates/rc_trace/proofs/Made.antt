-- What a world has recorded.
use Rattle.std.proofs.Common.{◌≡◌, ap, refl, List, ◌++◌, append_assoc, Option, Some, None}
use Rattle.std.proofs.Math.Logic.{∥∥₁_map}
use Rattle.rc_model.specs.Run.Calls.{Call, Answer, Event, extend, recorded_by}
use Rattle.rc_trace.specs.Made.{HasMade}

extend_twice : (before : Option (List Event)) (first then : List Event) → extend (extend before first) then ≡ extend before (first ++ then)
extend_twice None first then = refl
extend_twice (Some events) first then = ap Some (append_assoc events first then)

-- one call more, which is shown with its answer
pub made_on : (before mid after : Option (List Event)) (calls grown : List Event) (call : Call) (answer shown : Answer) → HasMade before mid calls →
    after ≡ extend mid (recorded_by call answer) → shown ≡ answer → grown ≡ calls ++ recorded_by call shown → HasMade before after grown
made_on before mid after calls grown call answer shown all one same is =
    ∥∥₁_map all (λ so_far. rw (one, is, same, so_far) (extend_twice before calls (recorded_by call answer)))
