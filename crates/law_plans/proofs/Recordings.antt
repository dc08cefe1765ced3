-- What a world records, extended by one trace and then by another.
use Rattle.std.proofs.Common.{◌≡◌, refl, sym, ◌∙◌, ap, List, [], ◌∷◌, ◌++◌, Option, Some, None}
use Rattle.std.proofs.lemmas.List.{append_assoc, append-nil}
use Rattle.rc_model.specs.Run.Calls.{Event, extend}

pub extend_append : (recorded : Option (List Event)) (es fs : List Event) → extend (extend recorded es) fs ≡ extend recorded (es ++ fs)
extend_append None es fs = refl
extend_append (Some before) es fs = ap Some (append_assoc before es fs)

pub extend_nil : (recorded : Option (List Event)) → recorded ≡ extend recorded []
extend_nil None = refl
extend_nil (Some before) = ap Some (sym (append-nil before))

pub recorded_append : (a b c : Option (List Event)) (es fs : List Event) → b ≡ extend a es → c ≡ extend b fs → c ≡ extend a (es ++ fs)
recorded_append a b c es fs h k = k ∙ (ap (λ o. extend o fs) h ∙ extend_append a es fs)

pub recorded_further : (a b c : Option (List Event)) (es fs : List Event) (e : Event) →
    b ≡ extend a es → c ≡ extend b (fs ++ e ∷ []) → c ≡ extend a ((es ++ fs) ++ e ∷ [])
recorded_further a b c es fs e h k = recorded_append a b c es (fs ++ e ∷ []) h k ∙ ap (extend a) (sym (append_assoc es fs (e ∷ [])))
