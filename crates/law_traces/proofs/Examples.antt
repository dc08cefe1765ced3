-- Accounts of small traces, computed.
use Rattle.std.proofs.Common.{◌≡◌, List, [], ◌∷◌, Some, None, refl, arith, ◌++◌}
use Rattle.std.specs.Prelude.{codes}
use Rattle.rc_model.specs.Run.Calls.{Event, event, to_file, plain, Launch, open_file, file, make_pipe, pair, start, child, close, read, wait, done, refused}
use Rattle.rc_model.specs.declared.call.Fault.TheVariants.{Other}
use Rattle.rc_model.specs.declared.call.Mode.TheVariants.{Read}
use Rattle.rc_model.specs.declared.call.Slot.TheVariants.{Own}
use Rattle.rc_model.specs.declared.call.Slots.{Slots}
use Rattle.rc_model.specs.Family.Family.{FamilyEvent, family, first, writes_to}
use Rattle.rc_model.specs.Syntax.Tree.{Node, cmd}
use Rattle.rc_model.specs.Run.State.{State, new_state, add_child}
use Rattle.rc_model.specs.Family.Accounts.{Account, one, put, account, at_start, NoneHeld, Allowed, NothingLeft}

abbrev shell : Slots → Launch
shell slots = record { program = None; args = []; entries = []; slots = slots }

abbrev two : List Event
two = event make_pipe (pair 3 4) ∷ event (start (shell (record { input = Own 0; output = to_file 4; errors = Own 2 }))) (child 1) ∷ event (close 4) done
    ∷ event make_pipe (pair 5 6) ∷ event (start (shell (record { input = to_file 3; output = to_file 6; errors = Own 2 }))) (child 2) ∷ event (close 6) done ∷ []

abbrev of : List Event → Account
of es = account (at_start new_state) es

-- `a | b | c`: the second pipe (at place 3) comes to the pipeline of the first (at place 0)
flat : (of (two ++ (event (close 3) done ∷ []))).pipeline 3 ≡ 0
unfolding one put
flat = refl

-- `a | {b | exit}`: it does not
nested : (of (two ++ (event (close 5) done ∷ []))).pipeline 3 ≡ 3
unfolding one put
nested = refl

-- a wait before the read end is closed is refused
early : NoneHeld (of (two ++ (event (close 3) done ∷ []))) (Some 0) → ⊥
unfolding one put
early k = let less = k 5 (omega arith) in omega arith

-- wrong orders are refused
abbrev one_stage : List Event
one_stage = event make_pipe (pair 3 4) ∷ event (start (shell (record { input = Own 0; output = to_file 4; errors = Own 2 }))) (child 1) ∷ []

-- the write end is closed only after reading, or after the next stage
read_first : Allowed (of one_stage) (read 3) → ⊥
unfolding one put
read_first k = k.in_turn

pipe_first : Allowed (of one_stage) make_pipe → ⊥
unfolding one put
pipe_first k = k.in_turn

-- a child is waited for while its pipe's read end is held
wait_first : Allowed (of (one_stage ++ (event (close 4) done ∷ []))) (wait 1) → ⊥
unfolding one put
wait_first k = let less = k.apart 3 (omega arith) in omega arith

-- a refused close is called again
close_twice : Allowed (of (one_stage ++ (event (close 4) done ∷ event (close 3) done ∷ []))) (close 3) → ⊥
unfolding one put
close_twice k = omega (arith, k.names)

-- after a refused pipe the read end before it stays open
left_open : Allowed (of (one_stage ++ (event (close 4) done ∷ event make_pipe (refused Other) ∷ []))) (wait 1) → ⊥
unfolding one put
left_open k = let less = k.apart 3 (omega arith) in omega arith

-- the shell ends while a file that it opened is held
abbrev null_opened : List Event
null_opened = event (open_file (codes "/dev/null") Read) (file 3) ∷ []

unclosed : NothingLeft new_state null_opened new_state → ⊥
unfolding one
unclosed k = omega (arith, k.files 3)

-- a child that was not started stands in the background list
not_started : NothingLeft new_state (null_opened ++ (event (start (shell plain)) (refused Other) ∷ event (close 3) done ∷ [])) (add_child new_state 1) → ⊥
unfolding one
not_started k = omega (arith, k.owed 1)

-- `a | b` of a family: the child's descriptor 1 stands for the write end of the pipe that process 0 made at place 0
module _ (reads : Launch → Node cmd × State) (c : Node cmd) where
  abbrev pipeline_steps : List FamilyEvent
  pipeline_steps = record { at = 0; call = make_pipe; answer = pair 3 4 } ∷ record {
    at = 0;
    call = start
        (shell (record { input = Own 0; output = to_file 4; errors = Own 2 }));
    answer = child 1;
  } ∷ record {
    at = 0;
    call = close 4;
    answer = done;
  } ∷ []

  two_processes : (family reads (first reads c new_state) pipeline_steps).count ≡ 2
  two_processes = refl

  child_writes : ((family reads (first reads c new_state) pipeline_steps).at 1).stands 1 ≡ writes_to 0 0
  unfolding one put
  child_writes = refl
