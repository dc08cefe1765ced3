-- An answer that was taken as one that fits its call stays as it is, and only a halt is taken as a halt.
use Rattle.std.proofs.Common.{◌≡◌, ℕ, Bool, true, false, List, length, nat_le, refl}
use Rattle.rc_model.specs.Run.Calls.{Answer, Want, WantsFile, WantsPair, WantsDone, WantsBytes, WantsChild, WantsEnding}
use Rattle.rc_model.specs.Run.Calls.{WantsNames, WantsKind, refused, bytes, taken_as, is_halt}
use Rattle.rc_model.specs.declared.call.Fault.{Fault}
use Rattle.rc_model.specs.declared.call.Fault.TheVariants.{NoMemory}

-- what becomes of an answer that is taken so
pub record IsTaken (w : Want) (x : Answer) : Type 0 where
  pub again : taken_as w (taken_as w x) ≡ taken_as w x
  pub halts : is_halt (taken_as w x) ≡ is_halt x

refusal_taken : (w : Want) (f : Fault) → IsTaken w (refused f)
refusal_taken WantsFile NoMemory = record { again = refl; halts = refl }
refusal_taken WantsFile _ = record { again = refl; halts = refl }
refusal_taken WantsPair NoMemory = record { again = refl; halts = refl }
refusal_taken WantsPair _ = record { again = refl; halts = refl }
refusal_taken WantsDone NoMemory = record { again = refl; halts = refl }
refusal_taken WantsDone _ = record { again = refl; halts = refl }
refusal_taken WantsBytes NoMemory = record { again = refl; halts = refl }
refusal_taken WantsBytes _ = record { again = refl; halts = refl }
refusal_taken WantsChild NoMemory = record { again = refl; halts = refl }
refusal_taken WantsChild _ = record { again = refl; halts = refl }
refusal_taken WantsEnding NoMemory = record { again = refl; halts = refl }
refusal_taken WantsEnding _ = record { again = refl; halts = refl }
refusal_taken WantsNames NoMemory = record { again = refl; halts = refl }
refusal_taken WantsNames _ = record { again = refl; halts = refl }
refusal_taken WantsKind NoMemory = record { again = refl; halts = refl }
refusal_taken WantsKind _ = record { again = refl; halts = refl }

-- a reading is refused where it is too long
reading_taken : (b : List ℕ) (short : Bool) → nat_le (length b) 4096 ≡ short → IsTaken WantsBytes (bytes b)
reading_taken b true e = record { again = rw (e, e); halts = rw e }
reading_taken b false e = record { again = rw e; halts = rw e }

pub is_taken : (w : Want) (x : Answer) → IsTaken w x
is_taken w (refused f) = refusal_taken w f
is_taken WantsBytes (bytes b) = reading_taken b (nat_le (length b) 4096) refl
is_taken WantsFile _ = record { again = refl; halts = refl }
is_taken WantsPair _ = record { again = refl; halts = refl }
is_taken WantsDone _ = record { again = refl; halts = refl }
is_taken WantsBytes _ = record { again = refl; halts = refl }
is_taken WantsChild _ = record { again = refl; halts = refl }
is_taken WantsEnding _ = record { again = refl; halts = refl }
is_taken WantsNames _ = record { again = refl; halts = refl }
is_taken WantsKind _ = record { again = refl; halts = refl }
