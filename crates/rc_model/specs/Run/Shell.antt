-- Plans that work on the state of a shell and may end it.
use Rattle.std.specs.Prelude.{ℕ, List, []}
use Rattle.rc_model.specs.Run.Calls.{Call, Answer}
use Rattle.rc_model.specs.Run.Plans.{Plan, done_with, ask, cut}
use Rattle.rc_model.specs.Run.State.{State}

-- the next state with a value, or the end of the shell with the children that are still owed a wait
pub data ShellResult (A : Type 0) : Type 0 where
  Next : A → State → ShellResult A
  Exit : State → (owed : List ℕ) → ShellResult A

-- a plan that begins in a state, and ends in a next state or ends the shell
abbrev pub Shell : Type 0 → Type 0
Shell A = State → Plan (ShellResult A)

-- goes on from the next state, or from the end of the shell
abbrev pub under : {A X : Type 0} → Plan (ShellResult A) → (A → State → Plan X) → (State → List ℕ → Plan X) → Plan X
under (done_with (Next a s)) go leave = go a s
under (done_with (Exit s owed)) go leave = leave s owed
under (ask c more) go leave = ask c (λ a. under (more a) go leave)
under cut go leave = cut

-- the end of the shell is passed on
abbrev pub leaves : {A : Type 0} → State → List ℕ → Plan (ShellResult A)
leaves s owed = done_with (Exit s owed)

-- one thing, and then another, which gets its value
infixl 10 ◌>>=◌
abbrev pub ◌>>=◌ : {A B : Type 0} → Shell A → (A → Shell B) → Shell B
m >>= f = λ s. under (m s) f leaves

-- one thing, and then another
infixl 10 ◌>>◌
abbrev pub ◌>>◌ : {B : Type 0} → Shell (Unit {0}) → Shell B → Shell B
m >> f = λ s. under (m s) (λ a. f) leaves

-- a value, with nothing done
abbrev pub pure : {A : Type 0} → A → Shell A
pure a s = done_with (Next a s)

-- nothing is done
abbrev pub skip : Shell (Unit {0})
skip s = done_with (Next tt s)

-- a call and its answer
abbrev pub call : Call → Shell Answer
call c s = ask c (λ a. done_with (Next a s))

-- a call whose answer does not matter
abbrev pub say : Call → Shell (Unit {0})
say c s = ask c (λ a. done_with (Next tt s))

-- the state as it is
abbrev pub get : Shell State
get s = done_with (Next s s)

-- changes the state
abbrev pub change : (State → State) → Shell (Unit {0})
change f s = done_with (Next tt (f s))

-- ends the shell
abbrev pub exits : {A : Type 0} → Shell A
exits s = done_with (Exit s [])

-- no turns are left
abbrev pub stops : {A : Type 0} → Shell A
stops s = cut
