-- The run of a script that has a fault ends in an error that names its first one.
use Rattle.std.proofs.Common.{◌≡◌, ◌⊎◌, inl, inr, ℕ, Result, Err, subst}
use Rattle.rc_model.specs.declared.fault.SyntaxFault.{SyntaxFault}
use Rattle.rc_shell.specs.declared.run.Ran.{Ran}
use Rattle.rc_shell.specs.declared.run.ShellFault.{ShellFault}
use Rattle.rc_shell.specs.declared.run.ShellFault.TheVariants as shell
use Rattle.rc_shell.proofs.Executed.{refused_with}
use Rattle.rc_cli.specs.Runs.{FirstFaultsAreErrors, IsResultOf}
use Rattle.rc_cli.specs.declared.run_error.RunError.{RunError}
use Rattle.rc_cli.specs.declared.run_error.RunError.TheVariants.{Syntax, NoMemory}

-- the error of the program, by that of the shell
error_of : (ran : Result Ran ShellFault) (result : Result ℕ RunError) (fault : SyntaxFault) →
    (ran ≡ Err (shell.Syntax fault)) ⊎ (ran ≡ Err shell.NoMemory) → IsResultOf ran result → (result ≡ Err (Syntax fault)) ⊎ (result ≡ Err NoMemory)
error_of ran result fault (inl e) h = inl (subst (λ r. IsResultOf r result) e h)
error_of ran result fault (inr e) h = inr (subst (λ r. IsResultOf r result) e h)

pub first_faults_are_errors : FirstFaultsAreErrors
first_faults_are_errors before after r entries script result fault first (inl h) =
    let shell = refused_with script _ _ before after h.0 fault first h.1 in
    (error_of h.0 result fault shell.0 h.2, shell.1)
first_faults_are_errors before after r entries script result fault first (inr h) = (inr h.0, h.1)
