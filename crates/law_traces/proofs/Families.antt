-- Families of shells after some steps, computed.
use Rattle.std.proofs.Common.{◌≡◌, ℕ, List, [], ◌∷◌, ◌++◌, refl}
use Rattle.std.proofs.Math.Utf8.{encode}
use Rattle.std.specs.Prelude.{codes, false}
use Rattle.std.specs.Fmt.{digits}
use Rattle.std.specs.Str.{chars, is_utf8}
use Rattle.rc_model.specs.Run.Calls.{to_file, plain, Call, Answer, make_pipe, close, wait, read, probe, pair, child, done, found}
use Rattle.rc_model.specs.declared.call.Kind.TheVariants.{Program}
use Rattle.rc_model.specs.Syntax.Tree.{Node, cmd, none, more, Empty, Brace, Pipeline, Stage, Subshell, Assign, Pair, Back, Lit}
use Rattle.rc_model.specs.Handed.Image.{node_image, many_image}
use Rattle.rc_model.specs.Handed.TreeReading.{cmd_at, arg_at}
use Rattle.rc_model.specs.Family.Accounts.{one, put}
use Rattle.rc_model.specs.Family.Family.{Family, FamilyEvent, IsPending, HasEnded, family, first, reads_from, writes_to, end_of, holding, read_launch}
use Rattle.law_traces.proofs.Rows.{looking, word, alone, stage, program}

-- ** a family

-- a process, its call and the answer
abbrev step : ℕ → Call → Answer → FamilyEvent
step k call answer = record { at = k; call = call; answer = answer }

-- the family of a script after these steps
abbrev after : Node cmd → List FamilyEvent → Family
after c es = family read_launch (first read_launch c looking) es

-- ** one shell

-- the empty script has ended at once
nothing_to_do : HasEnded ((after (alone Empty) []).at 0)
nothing_to_do = (looking, (0, refl))

-- a program is looked for
a_program : IsPending ((after (alone (word (codes "a"))) []).at 0) (probe (codes "/bin/a"))
unfolding chars encode digits node_image many_image
a_program = (0, refl)

-- ** `a | b`

abbrev two_stages : Node cmd
two_stages = alone (Pipeline (more (Stage (word (codes "a")) 1) none) (word (codes "b")))

-- the first stage is started
abbrev begun : List FamilyEvent
begun =
    step 0 make_pipe (pair 3 4)
    ∷ step 0 (stage (codes "rc1;c1,w1:a") (record plain { output = to_file 4 })) (child 1)
    ∷ step 0 (close 4) done ∷ []

-- there are two shells now
two_shells : (after two_stages begun).count ≡ 2
two_shells = refl

-- each looks for its program
the_first_looks : IsPending ((after two_stages begun).at 0) (probe (codes "/bin/b"))
unfolding put chars encode digits node_image many_image
the_first_looks = (0, refl)

the_second_looks : IsPending ((after two_stages begun).at 1) (probe (codes "/bin/a"))
unfolding put chars encode is_utf8 digits node_image many_image cmd_at arg_at
the_second_looks = (0, refl)

-- both find it, the first before the second
abbrev one_order : List FamilyEvent
one_order = begun ++ step 0 (probe (codes "/bin/b")) (found Program) ∷ step 1 (probe (codes "/bin/a")) (found Program) ∷ []

-- or after it
abbrev other_order : List FamilyEvent
other_order = begun ++ step 1 (probe (codes "/bin/a")) (found Program) ∷ step 0 (probe (codes "/bin/b")) (found Program) ∷ []

-- each starts its own in either order, the first with the read end of the pipe
abbrev starts_b : Call
starts_b = program (codes "/bin/b") (record plain { input = to_file 3 })

abbrev starts_a : Call
starts_a = program (codes "/bin/a") plain

the_first_starts : IsPending ((after two_stages one_order).at 0) starts_b × IsPending ((after two_stages other_order).at 0) starts_b
unfolding put chars encode is_utf8 digits node_image many_image cmd_at arg_at
the_first_starts = ((0, refl), (0, refl))

the_second_starts : IsPending ((after two_stages one_order).at 1) starts_a × IsPending ((after two_stages other_order).at 1) starts_a
unfolding put chars encode is_utf8 digits node_image many_image cmd_at arg_at
the_second_starts = ((0, refl), (0, refl))

-- ** `a | @{b | c}`

abbrev inner : Node cmd
inner = alone (Pipeline (more (Stage (word (codes "b")) 1) none) (word (codes "c")))

abbrev nested : Node cmd
nested = alone (Pipeline (more (Stage (word (codes "a")) 1) none) (Subshell (Brace inner)))

-- the subshell makes a pipe of its own
abbrev nested_steps : List FamilyEvent
nested_steps =
    begun
    ++ step 0 (stage (codes "rc1;bs1,;p1,1c1,w1:bc1,w1:c") (record plain { input = to_file 3 })) (child 2)
    ∷ step 2 make_pipe (pair 3 4) ∷ []

three_shells : (after nested nested_steps).count ≡ 3
three_shells = refl

-- it was handed its command
what_was_handed : ((after nested nested_steps).at 2).tree ≡ Brace inner
unfolding put chars encode is_utf8 cmd_at arg_at
what_was_handed = refl

-- the first waits for it
the_first_waits : IsPending ((after nested nested_steps).at 0) (wait 2)
unfolding put chars encode is_utf8 digits node_image many_image cmd_at arg_at
the_first_waits = (0, refl)

-- the stage looks for its program
the_stage_looks : IsPending ((after nested nested_steps).at 1) (probe (codes "/bin/a"))
unfolding put chars encode is_utf8 digits node_image many_image cmd_at arg_at
the_stage_looks = (0, refl)

-- and the subshell starts a stage of its own
the_subshell_starts : IsPending ((after nested nested_steps).at 2) (stage (codes "rc1;c1,w1:b") (record plain { output = to_file 4 }))
unfolding put chars encode is_utf8 digits node_image many_image cmd_at arg_at
the_subshell_starts = (0, refl)

-- equal numbers of two shells name different pipes
two_pipes :
    (end_of 0 ((holding ((after nested nested_steps).at 0)).things 3) ≡ reads_from 0 0) ×
    (end_of 2 ((holding ((after nested nested_steps).at 2)).things 3) ≡ reads_from 2 0)
unfolding one put chars encode is_utf8 digits node_image many_image cmd_at arg_at
two_pipes = (refl, refl)

-- ** `` x=`{b} ``

abbrev backquote : Node cmd
backquote = alone (Assign (more (Pair (Lit (codes "x") false) (Back (alone (word (codes "b"))))) none) Empty)

abbrev reading_steps : List FamilyEvent
reading_steps =
    step 0 make_pipe (pair 3 4)
    ∷ step 0 (stage (codes "rc1;s1,;c1,w1:b") (record plain { output = to_file 4 })) (child 1)
    ∷ step 0 (close 4) done ∷ []

-- the first reads what the second writes
the_first_reads : IsPending ((after backquote reading_steps).at 0) (read 3)
unfolding put chars encode is_utf8 digits node_image many_image cmd_at arg_at
the_first_reads = (0, refl)

the_other_writes : ((after backquote reading_steps).at 1).stands 1 ≡ writes_to 0 0
unfolding one put
the_other_writes = refl

the_other_looks : IsPending ((after backquote reading_steps).at 1) (probe (codes "/bin/b"))
unfolding put chars encode is_utf8 digits node_image many_image cmd_at arg_at
the_other_looks = (0, refl)
