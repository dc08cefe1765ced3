-- What was written.
use Rattle.std.proofs.Common.{◌≡◌, refl, sym, ap, subst, ◌∙◌, ℕ, List, [], ◌∷◌, ◌++◌, append_assoc, append-nil, Option, Some, None}
use Rattle.std.specs.Prelude.{IsTrue, Bool, true, false, ◌&&◌, Result, Ok, Err, IfOk, MatchResult}
use Rattle.std.specs.Io.KnownBytes.{Appends}
use Rattle.std.proofs.Math.Logic.{∥∥₁_map}
use Rattle.rc_model.specs.Run.Calls.{Call, Answer, Event, event, was_made, recorded_by}
use Rattle.rc_trace.specs.Texts.{Style, line_text}
use Rattle.rc_trace.specs.Written.{IsWritten, AreShown, lines_text}

-- what was added first, and then
appends_both : (before mid after : Option (List ℕ)) (first then : List ℕ) → Appends before mid first → Appends mid after then → Appends before after (first ++ then)
appends_both None mid after first then g h = tt
appends_both (Some bytes) (Some more) (Some most) first then g h = h ∙ (ap (λ known. known ++ then) g ∙ append_assoc bytes first then)
appends_both (Some bytes) (Some more) None first then g h = absurd h
appends_both (Some bytes) None after first then g h = absurd g

lines_last : (process : List ℕ) (style : Style) (events : List Event) (e : Event) →
    lines_text process style (events ++ e ∷ []) ≡ lines_text process style events ++ line_text process style e.call e.answer
lines_last process style [] e = append-nil (line_text process style e.call e.answer)
lines_last process style (x ∷ events) e =
    ap (λ rest. line_text process style x.call x.answer ++ rest) (lines_last process style events e)
    ∙ sym (append_assoc (line_text process style x.call x.answer) (lines_text process style events) (line_text process style e.call e.answer))

-- one line more
one_more : (process : List ℕ) (style : Style) (before mid after : Option (List ℕ)) (events : List Event) (call : Call) (answer : Answer) →
    Appends before mid (lines_text process style events) → Appends mid after (line_text process style call answer) →
    Appends before after (lines_text process style (events ++ event call answer ∷ []))
one_more process style before mid after events call answer all last =
    subst (Appends before after) (sym (lines_last process style events (event call answer))) (appends_both before mid after (lines_text process style events) (line_text process style call answer) all last)

both : (whole written : Bool) → IsTrue (whole && written) → IsTrue whole × IsTrue written
both true true h = (refl, refl)
both true false h = absurd cc
both false written h = absurd cc

-- a call that was made is shown by its line
module _ (whole is_written : Bool) (process : List ℕ) (style : Style) (mid after : Option (List ℕ)) (call : Call) (answer : Answer) (made : was_made answer ≡ true)
    (last : IsTrue is_written → Appends mid after (line_text process style call answer)) where
  pub shown : IsTrue (whole && is_written) → IsWritten process style mid after call answer
  shown w = rw made (last ((both whole is_written w).1))

  -- the lines of the calls that were made go on
  pub goes_on : (before : Option (List ℕ)) (events : List Event) → AreShown whole process style before mid events →
      AreShown (whole && is_written) process style before after (events ++ recorded_by call answer)
  goes_on before events all =
      ∥∥₁_map all (λ so_far w. rw made (one_more process style before mid after events call answer (so_far ((both whole is_written w).0)) (last ((both whole is_written w).1))))

-- a line that was made and written
pub line_written : {X E : Type 0} (f : X → List ℕ) (line : Result X E) (text : List ℕ) (before after : Option (List ℕ)) → IfOk line (λ x. f x ≡ text) →
    MatchResult line (λ x. Appends before after (f x)) (λ _. ⊥) → Appends before after text
line_written f (Ok x) text before after is h = subst (Appends before after) is h
line_written f (Err e) text before after is h = absurd h
