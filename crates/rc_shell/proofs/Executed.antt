-- The theorem of the shell, from what was recorded of the run of a tree.
use Rattle.std.specs.Prelude.{OnOk, IfErr}
use Rattle.std.proofs.Common.{◌≡◌, ◌⊎◌, inl, inr, ℕ, List, Option, Some, Result, Ok, Err, refl, sym, subst, ap, ◌∙◌}
use Rattle.law_handed.proofs.Characters.{accepted_are_scripts}
use Rattle.law_machine.proofs.Ends.{agrees}
use Rattle.law_syntax.proofs.Decided.{never_both}
use Rattle.law_syntax.proofs.FirstFault.{fault_refuses}
use Rattle.rc_model.specs.Handed.Proper.{IsProper, IsProperTree}
use Rattle.rc_model.specs.Run.Calls.{Event}
use Rattle.rc_model.specs.Run.Script.{Recorded}
use Rattle.rc_model.specs.Run.State as model
use Rattle.rc_model.specs.Mirrors.FirstFault.{first_fault}
use Rattle.rc_model.specs.Syntax.Accepted.{IsAccepted}
use Rattle.rc_model.specs.Syntax.Tree.{Node, cmd}
use Rattle.rc_model.specs.declared.fault.ImageFault.{ImageFault}
use Rattle.rc_model.specs.declared.fault.InputError.{InputError}
use Rattle.rc_model.specs.declared.fault.InputError.TheVariants as error
use Rattle.rc_model.specs.declared.fault.SyntaxFault.{SyntaxFault}
use Rattle.rc_shell.specs.Executed.{IsExecuted, IsNotRun, IsReason, IsRefusedByRule, IsRun, LosesNothing, MakesItsCalls, Program, handed, text_from}
use Rattle.rc_builtin.specs.Scripts.{IsCompiled}
use Rattle.rc_shell.specs.Outcome.{RunsAsMeant, shell_fault}
use Rattle.rc_shell.specs.declared.run.Ran.{Ran}
use Rattle.rc_shell.specs.declared.run.ShellFault.{ShellFault}
use Rattle.rc_shell.specs.declared.run.ShellFault.TheVariants.{Syntax, Image, NoMemory}
use Rattle.rc_shell.proofs.Kept.{ended_proper, leaves_nothing, loses_nothing, reads_back}
use Rattle.rc_shell.proofs.Limits.{not_cut_short}
use Rattle.rc_shell.proofs.Runs.{recorded_nothing}

-- each tree and state that is run is such as a shell has
abbrev pub RunsProper : Program → Type 0
RunsProper p = (t : Node cmd) (s : model.State) → IsRun p t s → IsProperTree t × IsProper s

module _ (p : Program) (limit : ℕ) (before after : Option (List Event)) (result : Result Ran ShellFault) where
  -- the run of each tree is as meant
  abbrev pub IsMeant : Type 0
  IsMeant = (t : Node cmd) (s : model.State) → IsRun p t s → Recorded before after (λ trace. RunsAsMeant limit t s trace result)

  calls : IsMeant → MakesItsCalls p limit before after result
  calls h = record {
    meant = h;
    converse = λ t s is given. agrees t s given;
    limits = λ t s is. not_cut_short before after limit t s result (h t s is);
  }

  kept : RunsProper p → IsMeant → LosesNothing p limit before after result
  kept proper h = record {
    lost = λ t s is. loses_nothing before after limit t s result (h t s is);
    left = λ t s is. leaves_nothing before after limit t s result (h t s is);
    handed = λ t s is. let k = proper t s is in reads_back before after limit t s result k.0 k.1 (h t s is);
    proper = ended_proper result;
  }

  executed : RunsProper p → IsMeant → IsRefusedByRule p limit before after result → IsExecuted p limit before after result
  executed proper h r = record { refused = r; meant = calls h; kept = kept proper h }

-- ** by how it ended

has_tree : {P : Type 0} (result : Result Ran ShellFault) → P → OnOk result P
has_tree (Ok x) h = h
has_tree (Err e) h = tt

no_reason : (p : Program) (limit : ℕ) (t : Node cmd) (s : model.State) (trace : List Event) (result : Result Ran ShellFault) →
    RunsAsMeant limit t s trace result → IfErr result (IsReason p)
no_reason p limit t s trace (Ok x) r = tt
no_reason p limit t s trace (Err NoMemory) r = tt
no_reason p limit t s trace (Err (Syntax fault)) r = absurd r
no_reason p limit t s trace (Err (Image fault)) r = absurd r

reason_of : (p : Program) (f : ShellFault) → IsNotRun p f → IsReason p f
reason_of p NoMemory h = tt
reason_of p (Syntax fault) h = h
reason_of p (Image fault) h = h

-- the only tree was run
ran : (p : Program) (limit : ℕ) (before after : Option (List Event)) (result : Result Ran ShellFault) (x : Node cmd × model.State) →
    IsRun p x.0 x.1 → ((t : Node cmd) (s : model.State) → IsRun p t s → ◌≡◌ {A = Node cmd × model.State} (t, s) x) →
    ((f : ShellFault) → IsNotRun p f → ⊥) → RunsProper p → Recorded before after (λ trace. RunsAsMeant limit x.0 x.1 trace result) →
    IsExecuted p limit before after result
ran p limit before after result x is only sure proper h =
    executed p limit before after result proper
    (λ t s k. subst (λ (y : Node cmd × model.State). Recorded before after (λ trace. RunsAsMeant limit y.0 y.1 trace result)) (sym (only t s k)) h)
    (record {
      tree = has_tree result (x.0, x.1, is);
      reason = no_reason p limit x.0 x.1 h.0 result h.2;
      silent = λ f k. absurd (sure f k);
    })

-- it has no tree
refused : (p : Program) (limit : ℕ) (at : Option (List Event)) (f : ShellFault) → IsNotRun p f →
    ((t : Node cmd) (s : model.State) → IsRun p t s → ⊥) → IsExecuted p limit at at (Err f)
refused p limit at f is none =
    executed p limit at at (Err f) (λ t s k. absurd (none t s k)) (λ t s k. absurd (none t s k))
    (record { tree = tt; reason = reason_of p f is; silent = λ g k. refl })

-- memory was refused before any call
pub out_of_memory : (p : Program) (limit : ℕ) (at : Option (List Event)) → RunsProper p → IsExecuted p limit at at (Err NoMemory)
out_of_memory p limit at proper =
    executed p limit at at (Err NoMemory) proper (λ t s k. recorded_nothing limit t s at at)
    (record { tree = tt; reason = tt; silent = λ g k. refl })

-- ** scripts

pub text_proper : (script : List ℕ) (s : model.State) → IsProper s → RunsProper (text_from script s)
text_proper script s h t z is = (accepted_are_scripts script t is.0, subst IsProper (sym is.1) h)

text_sure : (script : List ℕ) (s : model.State) (t : Node cmd) → IsAccepted script t → (f : ShellFault) → IsNotRun (text_from script s) f → ⊥
text_sure script s t a (Syntax fault) r = never_both script fault t (fault_refuses script fault r) a
text_sure script s t a (Image fault) r = r
text_sure script s t a NoMemory r = r

pub script_ran : (script : List ℕ) (s : model.State) (limit : ℕ) (before after : Option (List Event)) (result : Result Ran ShellFault) (tree : Node cmd) →
    IsAccepted script tree → ((other : Node cmd) → IsAccepted script other → other ≡ tree) → IsProper s →
    Recorded before after (λ trace. RunsAsMeant limit tree s trace result) → IsExecuted (text_from script s) limit before after result
script_ran script s limit before after result tree a only proper h =
    ran (text_from script s) limit before after result (tree, s) (a, refl)
    (λ t z is. ap (λ y. (y, z)) (only t is.0) ∙ ap (λ y. (tree, y)) is.1)
    (text_sure script s tree a) (text_proper script s proper) h

pub script_refused : (script : List ℕ) (s : model.State) (limit : ℕ) (at : Option (List Event)) (fault : SyntaxFault) →
    first_fault script ≡ Some fault → IsExecuted (text_from script s) limit at at (Err (Syntax fault))
script_refused script s limit at fault r =
    refused (text_from script s) limit at (Syntax fault) r (λ t z is. never_both script fault t (fault_refuses script fault r) is.0)

-- a script that has no code is not run
pub script_without_code : (script : List ℕ) (s : model.State) (limit : ℕ) (at : Option (List Event)) (e : InputError SyntaxFault) →
    IsCompiled script (Err e) → IsProper s → IsExecuted (text_from script s) limit at at (Err (shell_fault e))
script_without_code script s limit at (error.Fault fault) h proper = script_refused script s limit at fault h.refused
script_without_code script s limit at error.NoMemory h proper = out_of_memory (text_from script s) limit at (text_proper script s proper)

-- a script that has a first fault is refused with it, unless memory was refused
error_with : (script : List ℕ) (s : model.State) (fault : SyntaxFault) (e : ShellFault) → first_fault script ≡ Some fault →
    IsReason (text_from script s) e → ◌⊎◌ (◌≡◌ {A = Result Ran ShellFault} (Err e) (Err (Syntax fault))) (◌≡◌ {A = Result Ran ShellFault} (Err e) (Err NoMemory))
error_with script s fault NoMemory first r = inr refl
error_with script s fault (Syntax other) first r = inl (let e : other ≡ fault = cc in ap (λ f. Err (Syntax f)) e)
error_with script s fault (Image other) first r = absurd r

result_with : (script : List ℕ) (s : model.State) (fault : SyntaxFault) (result : Result Ran ShellFault) → first_fault script ≡ Some fault →
    OnOk result ((t : Node cmd) × (z : model.State) × IsRun (text_from script s) t z) → IfErr result (IsReason (text_from script s)) →
    (result ≡ Err (Syntax fault)) ⊎ (result ≡ Err NoMemory)
result_with script s fault (Ok x) first tree r = absurd (never_both script fault tree.0 (fault_refuses script fault first) tree.2.0)
result_with script s fault (Err e) first tree r = error_with script s fault e first r

pub refused_with : (script : List ℕ) (s : model.State) (limit : ℕ) (before after : Option (List Event)) (result : Result Ran ShellFault) (fault : SyntaxFault) →
    first_fault script ≡ Some fault → IsExecuted (text_from script s) limit before after result →
    ((result ≡ Err (Syntax fault)) ⊎ (result ≡ Err NoMemory)) × (after ≡ before)
refused_with script s limit before after result fault first h =
    (result_with script s fault result first h.refused.tree h.refused.reason, h.refused.silent (Syntax fault) first)

-- ** what was handed over

abbrev Read : Type 0
Read = Result (Node cmd × model.State) ImageFault

-- what is read is such as a shell has
abbrev pub ReadsProper : Read → Type 0
ReadsProper read = (x : Node cmd × model.State) → read ≡ Ok x → IsProperTree x.0 × IsProper x.1

pub handed_proper : (read : Read) → ReadsProper read → RunsProper (handed read)
handed_proper read h t s is = h (t, s) is

-- one that was read is the only one
abbrev value_or : Node cmd × model.State → Read → Node cmd × model.State
value_or other (Ok x) = x
value_or other (Err e) = other

handed_sure : (read : Read) (x : Node cmd × model.State) → read ≡ Ok x → (f : ShellFault) → IsNotRun (handed read) f → ⊥
handed_sure read x e (Syntax fault) r = r
handed_sure read x e (Image fault) r = let n : ⊥ = cc in n
handed_sure read x e NoMemory r = r

pub image_ran : (read : Read) (limit : ℕ) (before after : Option (List Event)) (result : Result Ran ShellFault) (x : Node cmd × model.State) →
    read ≡ Ok x → ReadsProper read → Recorded before after (λ trace. RunsAsMeant limit x.0 x.1 trace result) →
    IsExecuted (handed read) limit before after result
image_ran read limit before after result x e proper h =
    ran (handed read) limit before after result x e (λ t s is. ap (value_or x) (sym is ∙ e)) (handed_sure read x e) (handed_proper read proper) h

pub image_refused : (read : Read) (limit : ℕ) (at : Option (List Event)) (fault : ImageFault) → read ≡ Err fault →
    IsExecuted (handed read) limit at at (Err (Image fault))
image_refused read limit at fault e =
    refused (handed read) limit at (Image fault) e (λ t s is. let n : ⊥ = cc in n)
