use Rattle.std.proofs.Common.{rules, ◌≡◌, [], ◌∷◌, map, string_bytes, refl, Some}
use Rattle.rc_model.specs.Run.Calls.{open_file, to_file, with_slot}
use Rattle.rc_model.specs.Run.Acts.{open_one}
use Rattle.rc_redir.proofs.Openings.{at_first, at_call, at_name, held_by_none, refused_by, opened_by}
use Rattle.rc_redir.proofs.Stacks.{entered, one_of}
use Rattle.rc_redir.proofs.RedirStack.push_open.Goals as goal
use Rattle.rc_world.proofs.Answered.{file_comes}

pub returns-in_err-try_reserve-clause-opened : goal.returns-in_err-try_reserve-clause-opened
returns-in_err-try_reserve-clause-opened g c =
    at_first (g.W.World.events c.args.world.now) c.args.self.now _ c.args.slot
    (open_one c.args.self.now.slots c.args.mode (map string_bytes c.args.words.now)) _ c.from_residual.ensures.1

pub returns-in_err-file-clause-opened : goal.returns-in_err-file-clause-opened
returns-in_err-file-clause-opened g c =
    let one : c.args.words.now ≡ c.name-item.result ∷ [] = one_of _ _ c.in-len1.len_at_least c.in-len1.len_below c.name-item.is in
    let text : c.deref.result.now ≡ string_bytes c.name-item.result = search rules in
    let name = string_bytes c.name-item.result in
    rw one (at_call _ _ c.args.self.now _ c.args.slot (open_file name c.args.mode) name _ _
    c.from_residual-in_err-file.ensures.1 (file_comes _ _ (open_file name c.args.mode) c.open.result _ refl (rw text at c.open.ensures) c.in_err-file.ensures))

pub returns-in_err-clone-clause-opened : goal.returns-in_err-clone-clause-opened
returns-in_err-clone-clause-opened g c =
    let one : c.args.words.now ≡ c.name-item.result ∷ [] = one_of _ _ c.in-len1.len_at_least c.in-len1.len_below c.name-item.is in
    let text : c.deref.result.now ≡ string_bytes c.name-item.result = search rules in
    let name = string_bytes c.name-item.result in
    rw one (at_name _ _ c.args.self.now _ c.args.slot (open_file name c.args.mode) name _ _
    c.from_residual-in_err-clone.ensures.1 (file_comes _ _ (open_file name c.args.mode) c.open.result _ refl (rw text at c.open.ensures) c.in_ok-file.ensures))

pub returns-in_err-clone-clause-held : goal.returns-in_err-clone-clause-held
returns-in_err-clone-clause-held g c =
    let one : c.args.words.now ≡ c.name-item.result ∷ [] = one_of _ _ c.in-len1.len_at_least c.in-len1.len_below c.name-item.is in
    let text : c.deref.result.now ≡ string_bytes c.name-item.result = search rules in
    let name = string_bytes c.name-item.result in
    rw one (held_by_none _ _ c.args.self.now c.args.self.now c.args.slot (open_file name c.args.mode) name _ c.from_residual-in_err-clone.ensures.1
    (file_comes _ _ (open_file name c.args.mode) c.open.result _ refl (rw text at c.open.ensures) (rw c.in_default-2.is at c.in_ok-file.ensures)))

pub returns-in_default-2-clause-opened : goal.returns-in_default-2-clause-opened
returns-in_default-2-clause-opened g c =
    let one : c.args.words.now ≡ c.name-item.result ∷ [] = one_of _ _ c.in-len1.len_at_least c.in-len1.len_below c.name-item.is in
    let text : c.deref.result.now ≡ string_bytes c.name-item.result = search rules in
    let name = string_bytes c.name-item.result in
    rw one (refused_by _ _ c.args.self.now c.args.self.now c.args.slot (open_file name c.args.mode) name c.in_ok-clone.field-0
    c.in_ok-clone.ensures.cases (file_comes _ _ (open_file name c.args.mode) c.open.result _ refl (rw text at c.open.ensures) (rw c.in_default-2.is at c.in_ok-file.ensures)))

pub returns-clause-opened : goal.returns-clause-opened
returns-clause-opened g c =
    let one : c.args.words.now ≡ c.name-item.result ∷ [] = one_of _ _ c.in-len1.len_at_least c.in-len1.len_below c.name-item.is in
    let text : c.deref.result.now ≡ string_bytes c.name-item.result = search rules in
    let name = string_bytes c.name-item.result in
    let file = c.in-Some.file in
    rw one (opened_by _ _ c.args.self.now _ c.args.slot (open_file name c.args.mode) name file.0
    (entered c.self.inside.slots _ c.self.inside.redirections.items _ _ (Some file) c.args.self.now
    (λ slots. with_slot slots c.args.slot (to_file file.0))
    c.self.view_is c.try_reserve.ensures.items c.push_within.ensures c.with_slot-self-inside.ensures)
    (file_comes _ _ (open_file name c.args.mode) c.open.result _ refl (rw text at c.open.ensures) (rw c.in-Some.is at c.in_ok-file.ensures)))
