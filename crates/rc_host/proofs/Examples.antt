-- Worked plans, computed.
use Rattle.std.specs.Prelude.{◌≡◌, refl, ℕ, List, [], ◌∷◌, codes, Option, Some, None}
use Rattle.rc_model.specs.Run.Calls.{Launch, plain, to_file}
use Rattle.rc_model.specs.declared.call.Slot.{Slot}
use Rattle.rc_model.specs.declared.call.Slot.TheVariants.{Own}
use Rattle.rc_model.specs.declared.call.Slots.{Slots}
use Rattle.rc_host.specs.Plan.{Plan, plan_of}

-- a program with the argument x and the entry `status=`, and these descriptors
abbrev launched : Option (List ℕ) → Slots → Launch
launched program slots = record { program = program; args = codes "x" ∷ []; entries = codes "status=" ∷ []; slots = slots }

-- its plan
abbrev planned : List ℕ → Slots → Plan
planned program slots = record { program = program; args = codes "x" ∷ []; env = codes "status=" ∷ []; slots = slots }

-- the shell's own input, and these in the places of output and errors
abbrev with_outputs : Slot → Slot → Slots
with_outputs output errors = record { input = Own 0; output = output; errors = errors }

-- each descriptor is in its place, or an open file
plain_is_plain : plan_of (codes "/bin/rc") (launched (Some (codes "/bin/c")) plain) ≡ planned (codes "/bin/c") plain
plain_is_plain = refl

files_are_plain : plan_of (codes "/bin/rc") (launched (Some (codes "/a=b")) (record { input = to_file 3; output = to_file 4; errors = Own 2 }))
    ≡ planned (codes "/a=b") (record { input = to_file 3; output = to_file 4; errors = Own 2 })
files_are_plain = refl

-- copies of the shell's own are named as they are
output_twice : plan_of (codes "/bin/rc") (launched (Some (codes "/bin/c")) (with_outputs (Own 1) (Own 1))) ≡ planned (codes "/bin/c") (with_outputs (Own 1) (Own 1))
output_twice = refl

both_exchanged : plan_of (codes "/bin/rc") (launched (Some (codes "/bin/c")) (with_outputs (Own 2) (Own 1))) ≡ planned (codes "/bin/c") (with_outputs (Own 2) (Own 1))
both_exchanged = refl

input_elsewhere : plan_of (codes "/bin/rc") (launched (Some (codes "/a=b")) (record { input = Own 1; output = to_file 7; errors = to_file 7 }))
    ≡ planned (codes "/a=b") (record { input = Own 1; output = to_file 7; errors = to_file 7 })
input_elsewhere = refl

-- the shell itself has its own path
the_shell : plan_of (codes "/bin/rc") (launched None (with_outputs (Own 1) (Own 1))) ≡ planned (codes "/bin/rc") (with_outputs (Own 1) (Own 1))
the_shell = refl
