use Rattle.std.proofs.Common.{◌≡◌, ◌-◌, ◌∙◌, ap, arith, get_or, length, reverse, sym}
use Rattle.std.proofs.lemmas.List.{length-reverse, get_or-reverse}
use Rattle.rc_machine.proofs.Places.{no_two, two_by}
use Rattle.rc_machine.proofs.stack.list_stack.ListStack.top_two.Goals as goal

pub returns-in_default : goal.returns-in_default
returns-in_default g c =
    let s = c.self.inside in
    rw (← c.self.view_is) (no_two s.items.items (reverse s.starts.items) (omega (arith, length-reverse s.starts.items, c.as_slice.ensures.len)))

pub returns : goal.returns
returns g c =
    let s = c.self.inside in
    let starts = s.starts.items in
    let last : length starts - 1 ≡ length starts - 1 - 0 = omega arith in
    let other : length starts - 2 ≡ length starts - 1 - 1 = omega arith in
    let upper : get_or starts (length starts - 1) 0 ≡ get_or (reverse starts) 0 0 =
    ap (λ n. get_or starts n 0) last ∙ sym (get_or-reverse starts 0 0 (omega arith)) in
    let lower : get_or starts (length starts - 2) 0 ≡ get_or (reverse starts) 1 0 =
    ap (λ n. get_or starts n 0) other ∙ sym (get_or-reverse starts 1 0 (omega arith)) in
    rw (c.as_slice.ensures.value, c.deref.ensures.value, c.deref-2.ensures.value, ← c.self.view_is)
    (two_by s.items.items (reverse starts) _ _ c.self.invariant (omega (arith, length-reverse starts)) upper lower)
