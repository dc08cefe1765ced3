-- What is recorded says what was shown.
use Rattle.std.proofs.Common.{◌≡◌, refl, sym, ap, ◌∙◌, ℕ, List, [], ◌∷◌, ◌++◌, length, append_assoc, arith, Option, Some, None}
use Rattle.std.specs.Prelude.{Bool, true, false}
use Rattle.std.proofs.Math.Logic.{∥∥₁_map, ∥∥₁_elim, ∥∥₁_prop}
use Rattle.rc_model.specs.Run.Calls.{Event, event, Launch, here, start, wait, make_pipe, bytes, done, extend, plain}
use Rattle.rc_trace.specs.Made.{HasMade}
use Rattle.rc_trace.specs.Texts.{Style, Whole, Brief}
use Rattle.rc_trace.specs.Written.{AreShown, opening, styled, images_mark, beginning}

-- lines are begun in one way
same_process : (process named : List ℕ) (first begun : Option (List ℕ)) → opening named begun ≡ opening process first → named ≡ process
same_process process named None None e = let calls : here named ≡ here process = ap (λ x. x.call) e in cc
same_process process named None (Some text) e = let calls : here named ≡ here process = ap (λ x. x.call) e in cc
same_process process named (Some text) None e = let calls : here named ≡ here process = ap (λ x. x.call) e in cc
same_process process named (Some text) (Some begun) e = let calls : here named ≡ here process = ap (λ x. x.call) e in cc

same_begin : (process named : List ℕ) (first begun : Option (List ℕ)) → opening named begun ≡ opening process first → begun ≡ first
same_begin process named None None e = refl
same_begin process named None (Some text) e = let answers : bytes text ≡ done = ap (λ x. x.answer) e in absurd cc
same_begin process named (Some text) None e = let answers : done ≡ bytes text = ap (λ x. x.answer) e in absurd cc
same_begin process named (Some text) (Some begun) e = let answers : bytes begun ≡ bytes text = ap (λ x. x.answer) e in cc

-- launches are shown in one way
same_images : (i j : Bool) → images_mark i ≡ images_mark j → i ≡ j
same_images true true e = refl
same_images false false e = refl
same_images true false e = absurd cc
same_images false true e = absurd cc

launch_with : (known : List (List ℕ)) (images : Bool) → Launch
launch_with known images = record { program = images_mark images; args = known; entries = []; slots = plain }

same_style : (style styled_by : Style) → styled styled_by ≡ styled style → styled_by ≡ style
unfolding launch_with
same_style Whole Whole e = refl
same_style Whole (Brief known images) e = let calls : start (launch_with known images) ≡ make_pipe = ap (λ x. x.call) e in absurd cc
same_style (Brief known images) Whole e = let calls : make_pipe ≡ start (launch_with known images) = ap (λ x. x.call) e in absurd cc
same_style (Brief known images) (Brief others marks) e =
    let calls : start (launch_with others marks) ≡ start (launch_with known images) = ap (λ x. x.call) e in
    let launches : launch_with others marks ≡ launch_with known images = cc in
    let args : others ≡ known = ap (λ l. l.args) launches in
    let same : marks ≡ images = same_images marks images (ap (λ l. l.program) launches) in
    cc

-- lists of one length are cut in one way
same_parts : (xs ys t u : List Event) → length xs ≡ length ys → xs ++ t ≡ ys ++ u → (xs ≡ ys) × (t ≡ u)
same_parts [] [] t u l e = (refl, e)
same_parts (x ∷ xs) (y ∷ ys) t u l e =
    let head : x ≡ y = cc in
    let rest = same_parts xs ys t u (omega (arith, l)) cc in
    let tail : xs ≡ ys = rest.0 in
    (cc, rest.1)
same_parts [] (y ∷ ys) t u l e = absurd (omega (arith, l))
same_parts (x ∷ xs) [] t u l e = absurd (omega (arith, l))

-- what two records have in common, of which one goes on where the other ends
record IsSame (process named : List ℕ) (style by : Style) (first begun : Option (List ℕ)) (made recorded : Option (List Event)) (before shown calls : List Event) : Type 0 where
  process_is : named ≡ process
  style_is : by ≡ style
  begin_is : begun ≡ first
  recorded_is : recorded ≡ made
  shown_are : shown ≡ before ++ calls

same : (process named : List ℕ) (style by : Style) (first begun : Option (List ℕ)) (made recorded : Option (List Event)) (before shown calls : List Event) →
    Some (beginning named by begun recorded ++ shown) ≡ extend (Some (beginning process style first made ++ before)) calls →
    IsSame process named style by first begun made recorded before shown calls
same process named style by first begun None None before shown calls e =
    let opened : opening named begun ≡ opening process first = cc in
    let marked : styled by ≡ styled style = cc in
    record {
      process_is = same_process process named first begun opened;
      style_is = same_style style by marked;
      begin_is = same_begin process named first begun opened;
      recorded_is = refl;
      shown_are = cc;
    }
same process named style by first begun (Some es) (Some all) before shown calls e =
    let opened : opening named begun ≡ opening process first = cc in
    let marked : styled by ≡ styled style = cc in
    let counted : event (wait (length all)) done ≡ event (wait (length es)) done = cc in
    let numbers : wait (length all) ≡ wait (length es) = ap (λ x. x.call) counted in
    let lengths : length all ≡ length es = cc in
    let rest : all ++ shown ≡ (es ++ before) ++ calls = cc in
    let parts = same_parts all es shown (before ++ calls) lengths (rest ∙ append_assoc es before calls) in
    record {
      process_is = same_process process named first begun opened;
      style_is = same_style style by marked;
      begin_is = same_begin process named first begun opened;
      recorded_is = ap Some parts.0;
      shown_are = parts.1;
    }
same process named style by first begun None (Some all) before shown calls e =
    let counted : event (wait (length all)) done ≡ event make_pipe done = cc in
    let apart : wait (length all) ≡ make_pipe = ap (λ x. x.call) counted in
    absurd cc
same process named style by first begun (Some es) None before shown calls e =
    let counted : event make_pipe done ≡ event (wait (length es)) done = cc in
    let apart : make_pipe ≡ wait (length es) = ap (λ x. x.call) counted in
    absurd cc

extend_twice : (recorded : Option (List Event)) (first then : List Event) → extend recorded (first ++ then) ≡ extend (extend recorded first) then
extend_twice None first then = refl
extend_twice (Some events) first then = ap Some (sym (append_assoc events first then))

module _ (process named : List ℕ) (style by : Style) (first begun : Option (List ℕ)) (made recorded : Option (List Event)) (before shown calls : List Event)
    (e : Some (beginning named by begun recorded ++ shown) ≡ extend (Some (beginning process style first made ++ before)) calls) where
  both : IsSame process named style by first begun made recorded before shown calls
  both = same process named style by first begun made recorded before shown calls e

  -- lines with this record show the calls before, and then these
  pub shows_calls : (whole : Bool) (after : Option (List ℕ)) → AreShown whole named by begun after shown → AreShown whole process style first after (before ++ calls)
  shows_calls whole after all = rw (sym both.process_is, sym both.style_is, sym both.begin_is, sym both.shown_are) all

  -- a world with this record has made these calls
  pub makes_calls : (mid after : Option (List Event)) → HasMade made mid before → HasMade recorded after shown → HasMade mid after calls
  makes_calls mid after till all =
      ∥∥₁_elim till ∥∥₁_prop (λ old. ∥∥₁_map all (λ new. rw (new, both.recorded_is, both.shown_are, old) (extend_twice made before calls)))
