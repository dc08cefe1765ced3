-- Texts that can't be passed on.
use Rattle.std.proofs.Common.{◌≡◌, ℕ, ◌<◌, Bool, true, false, ◌||◌, List, [], ◌∷◌, length, get_or, ap, ◌∙◌}
use Rattle.std.proofs.lemmas.List.Folds.{list_any_at}
use Rattle.rc_model.specs.declared.call.Fault.{Fault}
use Rattle.rc_model.specs.declared.call.Fault.TheVariants.{NotFound, Denied, Exists, Broken, Full, Other, Halt, NoMemory}
use Rattle.rc_host.specs.Requests.{IsNotHeld}

alone : (b : Bool) → (b || false) ≡ true → b ≡ true
alone true e = e
alone false e = e

-- a text that can't be held is one of the texts
pub not_held_at : (is_unfit : List ℕ → Bool) (texts : List (List ℕ)) (k : ℕ) (text : List ℕ) (fault : Fault)
    → k < length texts → get_or texts k [] ≡ text → IsNotHeld is_unfit (text ∷ []) fault → IsNotHeld is_unfit texts fault
not_held_at is_unfit texts k text NoMemory h e w = tt
not_held_at is_unfit texts k text Other h e w = list_any_at is_unfit texts k [] h (ap is_unfit e ∙ alone (is_unfit text) w)
not_held_at is_unfit texts k text NotFound h e w = w
not_held_at is_unfit texts k text Denied h e w = w
not_held_at is_unfit texts k text Exists h e w = w
not_held_at is_unfit texts k text Broken h e w = w
not_held_at is_unfit texts k text Full h e w = w
not_held_at is_unfit texts k text Halt h e w = w
