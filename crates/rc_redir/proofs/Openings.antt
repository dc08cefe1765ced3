-- A call that opens a file, by its answer.
use Rattle.std.proofs.Common.{◌≡◌, inr, ℕ, List, Option, Some, None, Result, Ok, Err, string_bytes, sym, subst}
use Rattle.std.specs.Result.{IsErrAnd}
use Rattle.std.specs.declared.alloc.Global.{Global}
use Rattle.std.specs.declared.string.String.{String}
use Rattle.rc_model.specs.Run.Calls.{Call, Event, as_file}
use Rattle.rc_model.specs.Run.Plans.{done_with, asks, RanBetween}
use Rattle.rc_model.specs.Run.Shell.{Shell}
use Rattle.rc_model.specs.Run.Acts.{fails, opened}
use Rattle.law_plans.proofs.Runs.{ran_none}
use Rattle.rc_world.specs.Comes.{Left}
use Rattle.rc_world.specs.declared.starts.Stop.{Stop}
use Rattle.rc_world.specs.declared.starts.Stop.TheVariants.{NoMemory}
use Rattle.rc_world.proofs.Joins.{left_memory, left_asked, left_answered, ran_answered}
use Rattle.rc_redir.specs.Redirections.{Redirections}
use Rattle.rc_redir.specs.Opening.{HoldsNothing, Opens, open_by, with_file}
use Rattle.rc_redir.specs.declared.RedirError.{RedirError}
use Rattle.rc_redir.specs.declared.RedirError.TheVariants.{Fault, Stopped}
use Rattle.rc_redir.specs.declared.RedirFault.TheVariants.{CannotOpen}
use Rattle.rc_model.specs.Run.Acts.{cannot_open}

-- why it was given up is handed on
stopped : (a b : Option (List Event)) (old new : Redirections) (slot : ℕ) (act : Shell ℕ) (result : Result (Unit {0}) RedirError) (stop : Stop) →
    IsErrAnd result (λ e. e ≡ Stopped stop) → ((s : _) → Left a b (act s) stop) → Opens a b old new slot act result
stopped a b old new slot act (Err e) stop h k = subst (λ e. Opens a b old new slot act (Err e)) (sym h) k
stopped a b old new slot act (Ok x) stop h k = absurd h

pub at_first : (a : Option (List Event)) (old new : Redirections) (slot : ℕ) (act : Shell ℕ) (result : Result (Unit {0}) RedirError) →
    IsErrAnd result (λ e. e ≡ Stopped NoMemory) → Opens a a old new slot act result
at_first a old new slot act result h = stopped a a old new slot act result NoMemory h (λ s. left_memory a (act s))

module _ (a b : Option (List Event)) (old new : Redirections) (slot : ℕ) (c : Call) (name : List ℕ) where
  pub at_call : (result : Result (Unit {0}) RedirError) (stop : Stop) → IsErrAnd result (λ e. e ≡ Stopped stop) →
      Left a b (asks c as_file) stop → Opens a b old new slot (open_by c old.slots name) result
  at_call result stop h f =
      stopped a b old new slot (open_by c old.slots name) result stop h
      (λ s. left_asked a b stop c as_file (λ file. opened old.slots name file s) f)

  pub at_name : (result : Result (Unit {0}) RedirError) (answer : Option ℕ) → IsErrAnd result (λ e. e ≡ Stopped NoMemory) →
      RanBetween a b (asks c as_file) (done_with answer) → Opens a b old new slot (open_by c old.slots name) result
  at_name result answer h f =
      stopped a b old new slot (open_by c old.slots name) result NoMemory h
      (λ s. left_answered a b b NoMemory c as_file answer (λ file. opened old.slots name file s) f (left_memory b _))

  -- the call was refused
  refused : RanBetween a b (asks c as_file) (done_with None) → (s : _) → RanBetween a b (open_by c old.slots name s) (fails old.slots (cannot_open name) s)
  refused f s = ran_answered a b b c as_file None (λ file. opened old.slots name file s) _ f (ran_none b _)

  pub refused_by : (text : String Global) → string_bytes text ≡ name → RanBetween a b (asks c as_file) (done_with None) →
      Opens a b old new slot (open_by c old.slots name) (Err (Fault (CannotOpen text)))
  refused_by text e f s =
      let P : List ℕ → Type 0 = λ n. RanBetween a b (open_by c old.slots name s) (fails old.slots (cannot_open n) s) in
      subst P (sym e) (refused f s)

  -- there was no room for the name of what was refused
  pub held_by_none : (result : Result (Unit {0}) RedirError) → IsErrAnd result (λ e. e ≡ Stopped NoMemory) → RanBetween a b (asks c as_file) (done_with None) →
      HoldsNothing a b old.slots (open_by c old.slots name) result
  held_by_none (Err e) h f =
      subst (λ e. HoldsNothing a b old.slots (open_by c old.slots name) (Err e)) (sym h) (inr (cannot_open name, refused f))
  held_by_none (Ok x) h f = absurd h

  pub opened_by : (file : ℕ) → new ≡ with_file old slot file → RanBetween a b (asks c as_file) (done_with (Some file)) →
      Opens a b old new slot (open_by c old.slots name) (Ok tt)
  opened_by file e f = (file, e, λ s. ran_answered a b b c as_file (Some file) (λ file. opened old.slots name file s) _ f (ran_none b _))
