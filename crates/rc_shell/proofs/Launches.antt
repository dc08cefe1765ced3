-- What a shell reads from its launch.
use Rattle.std.proofs.Common.{◌≡◌, ℕ, List, Bool, Option, Some, None, Result, Ok, Err, refl, sym, ap, ◌∙◌}
use Rattle.std.specs.Prelude.{unwrap_or}
use Rattle.rc_model.specs.Run.Calls.{Launch}
use Rattle.rc_model.specs.Run.State.{State, new_state}
use Rattle.rc_model.specs.Syntax.Tree.{Node, cmd, Empty}
use Rattle.rc_model.specs.Handed.Arguments.{options, as_option, reads_by, read_image}
use Rattle.rc_model.specs.declared.fault.ImageFault.{ImageFault}
use Rattle.rc_model.specs.Handed.Proper.{IsProperTree}
use Rattle.rc_model.specs.Family.Family.{read_launch}
use Rattle.law_image.proofs.ReadProper.{reads_scripts}

nothing_read : (l : Launch) (s : State) → reads_by (options l.args) l.entries ≡ None → s ≡ new_state
    → ◌≡◌ {A = Node cmd × State} (Empty, s) (read_launch l)
nothing_read l s e h = ap (λ z. (Empty, z)) h ∙ sym (ap (λ o. unwrap_or o (Empty, new_state)) e)

-- no image was handed over
pub no_image : (l : Launch) (s : State) → options l.args ≡ None → s ≡ new_state → ◌≡◌ {A = Node cmd × State} (Empty, s) (read_launch l)
no_image l s e h = nothing_read l s (ap (λ o. reads_by o l.entries) e) h

-- it has a fault
pub bad_image : (l : Launch) (s : State) (strict : Bool) (words : List (List ℕ)) (fault : ImageFault) → options l.args ≡ Some (strict, words) → read_image strict words l.entries ≡ Err fault → s ≡ new_state
    → ◌≡◌ {A = Node cmd × State} (Empty, s) (read_launch l)
bad_image l s strict words fault e r h = nothing_read l s (ap (λ o. reads_by o l.entries) e ∙ ap as_option r) h

-- ** it is a tree that a shell holds, whatever was handed over

pub empty_proper : IsProperTree Empty
empty_proper = record { sound = refl; characters = refl }

by_result : (read : Result (Node cmd × State) ImageFault) → ((x : Node cmd × State) → read ≡ Ok x → IsProperTree x.0) → IsProperTree (unwrap_or (as_option read) (Empty, new_state)).0
by_result (Ok x) h = h x refl
by_result (Err fault) h = empty_proper

by_options : (o : Option (Bool × List (List ℕ))) (entries : List (List ℕ)) → IsProperTree (unwrap_or (reads_by o entries) (Empty, new_state)).0
by_options None entries = empty_proper
by_options (Some w) entries = by_result (read_image w.0 w.1 entries) (λ x e. (reads_scripts w.0 w.1 entries x e).0)

pub launch_proper : (l : Launch) → IsProperTree (read_launch l).0
launch_proper l = by_options (options l.args) l.entries
