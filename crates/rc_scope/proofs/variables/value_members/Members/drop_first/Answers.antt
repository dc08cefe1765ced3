use Rattle.std.proofs.Common.{◌≡◌, ◌+◌, ◌-◌, ℕ, List, drop, length, min, ap, sym, ◌∙◌}
use Rattle.std.proofs.lemmas.List.{drop-drop, drop_min, length-drop}
use Rattle.rc_text.specs.declared.texts.Text.{Text}
use Rattle.rc_scope.specs.MemberLists.{members_in}
use Rattle.rc_scope.proofs.variables.value_members.Members.drop_first.Goals as goal

-- the members from a place on, which may be past the end
from_place : (n first more : ℕ) (xs : List Text) → more ≡ min n (length xs - first) → drop (first + more) xs ≡ drop n (drop first xs)
from_place n first more xs e =
    ap (λ k. drop (first + k) xs) e
    ∙ sym (drop-drop (min n (length xs - first)) first xs)
    ∙ ap (λ k. drop (min n k) (drop first xs)) (sym (length-drop first xs))
    ∙ drop_min n (drop first xs)

pub returns : goal.returns
returns c =
    let xs = members_in c.self.inside.texts in
    let first = c.self.inside.first in
    let all : length c.as_slice.result.now ≡ length xs = ap length c.as_slice.ensures in
    rw (← c.self.view_is) (from_place c.args.count first c.min.result xs (c.min.ensures ∙ ap (λ k. min c.args.count (k - first)) all))
