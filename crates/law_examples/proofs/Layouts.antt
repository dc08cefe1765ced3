-- The code of each form.
use Rattle.std.proofs.Common.{refl, ◌∷◌, ◌≡◌, []}
use Rattle.std.specs.Prelude.{codes, Some, false}
use Rattle.rc_model.specs.declared.call.Mode.TheVariants.{Write}
use Rattle.law_examples.specs.Shown.{ops}
use Rattle.rc_model.specs.Code.Layout.{Nil, Word, Join, Concat, Value, Count, Select, Glob, Back, Run, Check, Subject, Drop, Case, Match, Jump}
use Rattle.rc_model.specs.Code.Layout.{IfFalse, SetNull, Invert, If, WasTrue, IfNot, For, Next, Local, Unlocal, Define, Undefine, Open, Copy, Unredir}
use Rattle.rc_model.specs.Code.Layout.{Stages, EndPipe, Subshell, Background, Return}

-- the right side stands after a jump; the left is guarded, and is not checked
a_conditional_jumps_past_its_right_side :
    ops (codes "a && b") ≡
    Some
    (Nil ∷ Word (codes "a") false ∷ Join ∷ Glob ∷ Run ∷ IfFalse 12 ∷ Nil ∷ Word (codes "b") false ∷ Join
    ∷ Glob ∷ Run ∷ Check ∷ Return ∷ [])
unfolding ops
a_conditional_jumps_past_its_right_side = refl

-- the condition of an endless loop is one instruction
a_while_goes_back_to_its_condition : ops (codes "while(){ }") ≡ Some (SetNull ∷ IfFalse 3 ∷ Jump 0 ∷ Return ∷ [])
unfolding ops
a_while_goes_back_to_its_condition = refl

-- the jump back goes to the condition
a_while_tests_again :
    ops (codes "while(a) b") ≡
    Some
    (Nil ∷ Word (codes "a") false ∷ Join ∷ Glob ∷ Run ∷ IfFalse 13 ∷ Nil ∷ Word (codes "b") false ∷ Join
    ∷ Glob ∷ Run ∷ Check ∷ Jump 0 ∷ Return ∷ [])
unfolding ops
a_while_tests_again = refl

-- a case that does not match leads to the next one
each_case_jumps_to_the_end :
    ops (codes "switch a {case b; c; case d; e}") ≡
    Some
    (Word (codes "a") false ∷ Subject ∷ Nil ∷ Word (codes "b") false ∷ Join ∷ Case 13 ∷ Nil
    ∷ Word (codes "c") false ∷ Join ∷ Glob ∷ Run ∷ Check ∷ Jump 24 ∷ Nil ∷ Word (codes "d") false ∷ Join
    ∷ Case 24 ∷ Nil ∷ Word (codes "e") false ∷ Join ∷ Glob ∷ Run ∷ Check ∷ Jump 24 ∷ Drop ∷ Return ∷ [])
unfolding ops
each_case_jumps_to_the_end = refl

-- a subshell and a pipeline are one instruction each where they stand
a_loop_evaluates_its_list_first :
    ops (codes "for(x in a) ! @ b | c") ≡
    Some
    (Nil ∷ Word (codes "a") false ∷ Join ∷ Glob ∷ Word (codes "x") false ∷ For ∷ Next 10 ∷ Subshell 0
    ∷ Invert ∷ Jump 6 ∷ Return ∷ [])
unfolding ops
a_loop_evaluates_its_list_first = refl

-- so do locals
redirections_end_in_one_instruction :
    ops (codes "x=1 a >f >[2=1]") ≡
    Some
    (Word (codes "x") false ∷ Word (codes "1") false ∷ Glob ∷ Local ∷ Word (codes "f") false ∷ Glob
    ∷ Open Write 1 ∷ Copy 2 1 ∷ Nil ∷ Word (codes "a") false ∷ Join ∷ Glob ∷ Run ∷ Check ∷ Unredir 2
    ∷ Unlocal 1 ∷ Return ∷ [])
unfolding ops
redirections_end_in_one_instruction = refl

-- `if not` looks at it
an_if_sets_and_clears_the_flag :
    ops (codes "if(a) b; if not c") ≡
    Some
    (Nil ∷ Word (codes "a") false ∷ Join ∷ Glob ∷ Run ∷ If 13 ∷ Nil ∷ Word (codes "b") false ∷ Join ∷ Glob
    ∷ Run ∷ Check ∷ WasTrue ∷ IfNot 20 ∷ Nil ∷ Word (codes "c") false ∷ Join ∷ Glob ∷ Run ∷ Check ∷ Return
    ∷ [])
unfolding ops
an_if_sets_and_clears_the_flag = refl

-- the stages but the last are kept beside the code
a_pipeline_jumps_where_it_was_refused :
    ops (codes "a | b") ≡
    Some
    (Stages 0 8 ∷ Nil ∷ Word (codes "b") false ∷ Join ∷ Glob ∷ Run ∷ Check ∷ EndPipe ∷ Return ∷ [])
unfolding ops
a_pipeline_jumps_where_it_was_refused = refl

-- a file of the last stage is opened when the others have been started
a_pipeline_ends_in_a_file :
    ops (codes "echo $x.c | cat >f") ≡
    Some
    (Stages 0 12 ∷ Word (codes "f") false ∷ Glob ∷ Open Write 1 ∷ Nil ∷ Word (codes "cat") false ∷ Join ∷ Glob
    ∷ Run ∷ Check ∷ Unredir 1 ∷ EndPipe ∷ Return ∷ [])
unfolding ops
a_pipeline_ends_in_a_file = refl

-- a value is joined to the word after it
a_joined_word_is_one_argument :
    ops (codes "echo $x.c") ≡
    Some
    (Nil ∷ Word (codes "echo") false ∷ Join ∷ Word (codes "x") false ∷ Value ∷ Word (codes ".c") false ∷ Concat
    ∷ Join ∷ Glob ∷ Run ∷ Check ∷ Return ∷ [])
unfolding ops
a_joined_word_is_one_argument = refl

-- values, counts, subscripts and joined words
words_are_put_on_the_stack :
    ops (codes "x $y $#y $z(1 2)^a") ≡
    Some
    (Nil ∷ Word (codes "x") false ∷ Join ∷ Word (codes "y") false ∷ Value ∷ Join ∷ Word (codes "y") false
    ∷ Count ∷ Join ∷ Word (codes "z") false ∷ Nil ∷ Word (codes "1") false ∷ Join ∷ Word (codes "2") false
    ∷ Join ∷ Select ∷ Word (codes "a") false ∷ Concat ∷ Join ∷ Glob ∷ Run ∷ Check ∷ Return ∷ [])
unfolding ops
words_are_put_on_the_stack = refl

-- names are a list
a_function_keeps_its_body :
    ops (codes "fn f g {a}; fn f") ≡
    Some
    (Nil ∷ Word (codes "f") false ∷ Join ∷ Word (codes "g") false ∷ Join ∷ Define 0 ∷ Nil
    ∷ Word (codes "f") false ∷ Join ∷ Undefine ∷ Return ∷ [])
unfolding ops
a_function_keeps_its_body = refl

-- its subject and its patterns
a_match_has_two_lists :
    ops (codes "~ a b c") ≡
    Some
    (Word (codes "a") false ∷ Subject ∷ Nil ∷ Word (codes "b") false ∷ Join ∷ Word (codes "c") false ∷ Join
    ∷ Match ∷ Return ∷ [])
unfolding ops
a_match_has_two_lists = refl

-- and so are backquotes and here documents
a_background_command_is_one_instruction :
    ops (codes "a & b `{c}") ≡
    Some
    (Background 0 ∷ Nil ∷ Word (codes "b") false ∷ Join ∷ Back 1 ∷ Join ∷ Glob ∷ Run ∷ Check ∷ Return ∷ [])
unfolding ops
a_background_command_is_one_instruction = refl
