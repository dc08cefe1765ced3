use Rattle.std.proofs.Common.{rules, arith, ◌≡◌, [], ◌∷◌, length, length-append, ◌≤◌, ◌++◌, reverse, Some, None, ap, subst, ◌∙◌}
use Rattle.std.specs.Option.{IsSome}
use Rattle.std.proofs.lemmas.List.{length-reverse}
use Rattle.rc_machine.specs.Lists.{two_of}
use Rattle.rc_machine.proofs.Places.{AreTaken, EndInOnes, at_most_one, two_elements, ones_taken}
use Rattle.rc_machine.proofs.stack.list_stack.ListStack.take_pair.Goals as goal

-- after the first `pop` another element is left
left : (g : _) (c : goal.After-drop-second g) → ⊥
left g c =
    let s = c.self.inside in
    let u = c.in_ok-top_two.field-0.0.now in
    let v = c.in_ok-top_two.field-0.1.now in
    let two : two_of c.args.self.now ≡ Some (u, v) = search rules in
    let one_u : length u ≡ 1 = search rules in
    let one_v : length v ≡ 1 = search rules in
    let ones : EndInOnes s.items.items (reverse s.starts.items) = (u, v, ap two_of c.self.view_is ∙ two, one_u, one_v) in
    let enough = two_elements s.items.items (reverse s.starts.items) c.self.invariant ones in
    let upper : s.items.items ≡ c.pop.new.self.items ++ c.in_ok-second.second ∷ [] = search rules in
    let some : IsSome c.pop-2.result =
    c.pop-2.ensures.variant.1 (omega (arith, enough.0, ap length upper, length-append c.pop.new.self.items (c.in_ok-second.second ∷ []), c.pop.new.self.ok.0)) in
    let none : c.pop-2.result ≡ None = search rules in
    let n : ⊥ = cc (subst IsSome none some) in n

pub invariant_of-self-in_err-first : goal.invariant_of-self-in_err-first
invariant_of-self-in_err-first g c = absurd (left g c)

pub returns-in_err-first : goal.returns-in_err-first
returns-in_err-first g c = absurd (left g c)

taken : (g : _) (c : goal.After-pop-4 g) → AreTaken c.self.inside.items.items c.pop-2.new.self.items c.in_ok-second.second c.in_ok-first.first
    (reverse c.self.inside.starts.items) (reverse c.pop-4.new.self.items)
taken g c =
    let s = c.self.inside in
    let u = c.in_ok-top_two.field-0.0.now in
    let v = c.in_ok-top_two.field-0.1.now in
    let two : two_of c.args.self.now ≡ Some (u, v) = search rules in
    let one_u : length u ≡ 1 = search rules in
    let one_v : length v ≡ 1 = search rules in
    let ones : EndInOnes s.items.items (reverse s.starts.items) = (u, v, ap two_of c.self.view_is ∙ two, one_u, one_v) in
    let enough = two_elements s.items.items (reverse s.starts.items) c.self.invariant ones in
    let upper : s.items.items ≡ c.pop.new.self.items ++ c.in_ok-second.second ∷ [] = search rules in
    let lower : c.pop.new.self.items ≡ c.pop-2.new.self.items ++ c.in_ok-first.first ∷ [] = search rules in
    let two_starts : 2 ≤ length s.starts.items = omega (arith, enough.1, length-reverse s.starts.items) in
    let some : IsSome c.pop-3.result = c.pop-3.ensures.variant.1 (omega (arith, two_starts, s.starts.ok.0)) in
    let some_2 : IsSome c.pop-4.result = c.pop-4.ensures.variant.1 (omega (arith, two_starts, at_most_one c.pop-3.result)) in
    ones_taken _ _ _ _ _ upper lower _ _ _ _ _ c.pop-3.ensures.items c.pop-4.ensures.items some some_2 c.self.invariant ones

pub invariant_of-self-2 : goal.invariant_of-self-2
invariant_of-self-2 g c = (taken g c).1

pub returns : goal.returns
returns g c = rw (← c.self.view_is) (taken g c).0
