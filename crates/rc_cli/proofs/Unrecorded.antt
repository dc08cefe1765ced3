-- Runs that made no call, and what comes of the reading of a script.
use Rattle.std.proofs.Common.{◌≡◌, ◌≢◌, ◌⊎◌, inl, inr, ℕ, suc, List, [], take, Option, Some, None, Result, Ok, Err, IfSome, option_map, refl, Bor}
use Rattle.std.specs.Prelude.{IfOk, IfErr, Vec}
use Rattle.std.specs.declared.alloc.Global.{Global}
use Rattle.rc_model.specs.Run.Calls.{Event}
use Rattle.rc_model.specs.Syntax.Accepted.{longest_script}
use Rattle.rc_shell.specs.Executed.{Program, text_from}
use Rattle.rc_cli.specs.Requests.{Request, name_of}
use Rattle.rc_cli.specs.Runs.{IsScriptOf, IsUnread, RunsInput, RunsProgram, RunsRead}
use Rattle.rc_cli.specs.Start.{first_state}
use Rattle.rc_cli.specs.declared.run_error.RunError.{RunError}
use Rattle.rc_cli.specs.declared.run_error.RunError.TheVariants.{Usage, CannotRead, NoMemory}

-- an input has a script
script_of : (known : Option (List ℕ)) → (script : List ℕ) × IsScriptOf known script
script_of None = ([], tt)
script_of (Some bytes) = (take (suc longest_script) bytes, refl)

-- a run that was left out of memory before its first call
pub left_unrecorded : (recorded : Option (List Event)) (p : Program) → RunsProgram recorded recorded p (Err NoMemory)
left_unrecorded recorded p = inr (refl, refl)

-- why a script was not read
abbrev IsReadingError : Bor (List ℕ) → RunError → Type 0
IsReadingError name error = (error ≡ CannotRead name) ⊎ (error ≡ NoMemory)

-- a reading is no wrong use
pub no_wrong_use : (name : Bor (List ℕ)) (read : Result (Vec ℕ Global) RunError) → IfErr read (IsReadingError name) → read ≢ Err Usage
no_wrong_use name (Ok script) h e = absurd cc
no_wrong_use name (Err error) (inl h) e = absurd (let n : ⊥ = cc in n)
no_wrong_use name (Err error) (inr h) e = absurd (let n : ⊥ = cc in n)

module _ (before after : Option (List Event)) (r : Request) (entries : List (List ℕ)) (name : Bor (List ℕ)) (result : Result ℕ RunError) (named : name_of r.source ≡ Some name.now) where
  -- nothing was run, since the script could not be read
  unread : (error : RunError) → error ≡ CannotRead name → (result ≡ Err error) × (after ≡ before) → IsUnread before after r result
  unread error e h = rw (h.0, e) (named, h.1)

  -- the run of an input is what came of its reading
  pub input_run : {R : Type 0} (left : R → Option (List ℕ)) (input : Option R) (read : Result (Vec ℕ Global) RunError) → (input ≡ None → read ≡ Err (CannotRead name))
      → IfOk read (λ script. IfSome input (λ x. IsScriptOf (left x) script.items)) → IfErr read (IsReadingError name)
      → RunsRead before after r entries read result → RunsInput (option_map left input) before after r entries result
  input_run left None (Ok script) unopened of either h = absurd (let e = unopened refl in let n : ⊥ = cc in n)
  input_run left None (Err error) unopened of either h =
      let e = unopened refl in
      let same : error ≡ CannotRead name = cc in
      unread error same h
  input_run left (Some x) (Ok script) unopened of either h = inr (script.items, of, h)
  input_run left (Some x) (Err error) unopened of (inl e) h = inl (unread error e h)
  input_run left (Some x) (Err error) unopened of (inr e) h =
      let known = script_of (left x) in
      inr (known.0, known.1, rw (h.0, e, h.1) (left_unrecorded before (text_from known.0 (first_state r entries))))
