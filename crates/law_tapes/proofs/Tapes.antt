-- What a tape records is recorded by the answers that it had left.
use Rattle.std.proofs.Common.{◌≡◌, List, [], ◌∷◌, ◌++◌, map, Bool, true, false, refl, sym, subst, ◌∙◌}
use Rattle.rc_model.specs.Run.Calls.{Call, Answer, Event, event, fitting, is_halt, want}
use Rattle.law_machine.specs.Limits.{IsOnTape, IsRecorded, before_halt}
use Rattle.law_machine.proofs.Fitting.{is_taken}
use Rattle.law_tapes.specs.Tapes.{answers_after, TapesRecord, CallsAreOnTape, NewTapesHaveAll}
use Rattle.rc_world.specs.Tapes.{played, tape_answers}
use Rattle.rc_world.specs.Views.{call_of}

-- one event more, as its answer halts or not
one_more : (c : Call) (a : Answer) (given : List Answer) (es : List Event) (halts : Bool) → is_halt (fitting c a) ≡ halts
    → IsOnTape given es → IsOnTape (a ∷ given) (event c (fitting c a) ∷ es)
one_more c a given es true is h = rw is tt
one_more c a given es false is h =
    let came : is_halt a ≡ false = sym (is_taken (want c) a).halts ∙ is in
    let recorded : IsRecorded (a ∷ given) (event c (fitting c a) ∷ before_halt es) = (came, refl, h) in
    rw is recorded

-- a tape that is played from its beginning
all_played : (made : List Call) (given : List Answer) → IsOnTape given (played made given)
all_played [] [] = tt
all_played [] (a ∷ given) = tt
all_played (c ∷ made) [] = tt
all_played (c ∷ made) (a ∷ given) = one_more c a given (played made given) (is_halt (fitting c a)) refl (all_played made given)

none_left : (made : List Call) → answers_after made [] ≡ []
none_left [] = refl
none_left (c ∷ made) = refl

-- a tape that is played on after some calls
rest_played : (made all : List Call) (given : List Answer) (trace : List Event) → played all given ≡ played made given ++ trace
    → IsOnTape (answers_after made given) trace
rest_played [] all given trace h = subst (IsOnTape given) h (all_played all given)
rest_played (c ∷ made) [] [] trace h = absurd cc
rest_played (c ∷ made) [] (a ∷ given) trace h = absurd cc
rest_played (c ∷ made) (d ∷ all) [] trace h =
    let others : played all [] ≡ played made [] ++ trace = cc in
    subst (λ left. IsOnTape left trace) (none_left made) (rest_played made all [] trace others)
rest_played (c ∷ made) (d ∷ all) (a ∷ given) trace h =
    let others : played all given ≡ played made given ++ trace = cc in
    rest_played made all given trace others

nothing_played : (made : List Call) (given : List Answer) → played made given ≡ [] → answers_after made given ≡ given
nothing_played [] given h = refl
nothing_played (c ∷ made) [] h = absurd cc
nothing_played (c ∷ made) (a ∷ given) h = absurd cc

pub tapes_record : TapesRecord
tapes_record before after trace same h =
    let made = map call_of before.calls.items in
    let all = map call_of after.calls.items in
    rest_played made all (tape_answers before) trace (subst (λ given. played all given ≡ played made (tape_answers before) ++ trace) same h)

pub calls_are_on_tape : CallsAreOnTape
calls_are_on_tape before after call answer plays = tapes_record before after _ plays.1 plays.0

pub new_tapes_have_all : NewTapesHaveAll
new_tapes_have_all tape h = nothing_played (map call_of tape.calls.items) (tape_answers tape) h
