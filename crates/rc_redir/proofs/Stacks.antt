-- One redirection more or less.
use Rattle.std.proofs.Common.{◌≡◌, ◌-◌, ◌+◌, ◌<◌, ◌≤◌, sym, ap, ◌∙◌, arith, List, [], ◌∷◌, ◌++◌, length, map, reverse, take, get_or, Option, Some, option_map}
use Rattle.std.proofs.lemmas.List.{map-append, reverse-append, take_more}
use Rattle.std.proofs.Math.Seq.{take-length}
use Rattle.std.proofs.lemmas.Option.{slice_get_within, get_or_from_slice_get}
use Rattle.std.specs.List.{slice_get}
use Rattle.rc_model.specs.declared.call.Handle.{Handle}
use Rattle.rc_model.specs.declared.call.Slots.{Slots}
use Rattle.rc_redir.specs.Redirections.{Redirections, redirected, scope_of}
use Rattle.rc_redir.specs.declared.Redirection.{Redirection}

-- a redirection at the end is the newest
pub newest_first : (rs : List Redirection) (r : Redirection) →
    reverse (map scope_of (rs ++ r ∷ [])) ≡ scope_of r ∷ reverse (map scope_of rs)
newest_first rs r = ap reverse (map-append scope_of rs (r ∷ [])) ∙ reverse-append (map scope_of rs) (scope_of r ∷ [])

-- the last of a row, after the others
pub last_of : {T : Type 0} (rs : List T) (r : T) → slice_get rs (length rs - 1) ≡ Some r → rs ≡ take (length rs - 1) rs ++ r ∷ []
last_of rs r h =
    let within : length rs - 1 < length rs = slice_get_within rs (length rs - 1) r h in
    let whole : (length rs - 1) + 1 ≡ length rs = omega arith in
    sym (ap (λ n. take n rs) whole ∙ take-length rs) ∙ take_more rs (length rs - 1) r within
    ∙ ap (λ x. take (length rs - 1) rs ++ x ∷ []) (get_or_from_slice_get rs (length rs - 1) r r h)

-- a row of one
pub one_of : {T : Type 0} (xs : List T) (x : T) → 1 ≤ length xs → length xs < 2 → x ≡ get_or xs 0 x → xs ≡ x ∷ []
one_of [] x h k e = absurd (omega (arith, h))
one_of (y ∷ []) x h k e = ap (λ z. z ∷ []) (sym e)
one_of (y ∷ z ∷ zs) x h k e = absurd (omega (arith, k))

-- what a row of redirections stands for
abbrev view : Slots → List Redirection → Redirections
view slots rs = record { slots = slots; scopes = reverse (map scope_of rs) }

-- one more at the end of a row, with the descriptors that come of those before it
pub entered : (slots now : Slots) (olds rs news : List Redirection) (file : Option Handle) (before : Redirections) (given : Slots → Slots) →
    view slots olds ≡ before → rs ≡ olds → news ≡ rs ++ record { file = file; outer = slots } ∷ [] → now ≡ given slots →
    view now news ≡ redirected before (option_map (λ x. x.0) file) (given before.slots)
entered slots now olds rs news file before given v q p e =
    let r : Redirection = record { file = file; outer = slots } in
    ap (λ s. view s news) e ∙ ap (view (given slots)) (p ∙ ap (λ l. l ++ r ∷ []) q)
    ∙ ap (λ l. let x : Redirections = record { slots = given slots; scopes = l } in x) (newest_first olds r)
    ∙ ap (λ b. redirected b (option_map (λ x. x.0) file) (given b.slots)) v
