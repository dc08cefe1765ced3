use Rattle.std.proofs.Common.{◌≡◌, ◌<◌, ◌-◌, ◌∙◌, ap, arith, get_or, length, reverse, sym, rules}
use Rattle.std.proofs.lemmas.List.{length-reverse, get_or-reverse}
use Rattle.rc_machine.proofs.Places.{none_taken}
use Rattle.rc_machine.proofs.stack.list_stack.ListStack.take_last.Goals as goal

pub returns-then-len-start : goal.returns-then-len-start
returns-then-len-start g c =
    let s = c.self.inside in
    let starts = s.starts.items in
    let some : 0 < length starts = search rules in
    let newest : c.in_ok-start.field-0.now ≡ get_or starts (length starts - 1) 0 = search rules in
    let first : get_or starts (length starts - 1) 0 ≡ get_or (reverse starts) 0 0 =
    ap (λ n. get_or starts n 0) (omega arith) ∙ sym (get_or-reverse starts 0 0 some) in
    rw (← c.self.view_is) (none_taken s.items.items (reverse starts) c.in_ok-start.field-0.now (omega (arith, length-reverse starts)) (newest ∙ first) (omega (arith, c.len.ensures, c.if-len-start.true)))
