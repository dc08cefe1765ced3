-- The verdict on several files.
use Rattle.std.specs.Prelude.{ℕ, Bool, true, false, List}
use Rattle.std.specs.List.{list_any}
use Rattle.rc_check.specs.Findings.{IsScript}
use Rattle.rc_check.specs.declared.verdicts.Verdict.{Verdict}
use Rattle.rc_check.specs.declared.verdicts.Verdict.TheVariants.{Well, Warned, Failed}

-- whether a file has failed
abbrev pub is_failed : Verdict → Bool
is_failed Well = false
is_failed Warned = false
is_failed Failed = true

-- whether a file has warnings and no fault
abbrev pub is_warned : Verdict → Bool
is_warned Well = false
is_warned Warned = true
is_warned Failed = false

-- the exit status, by whether a file has failed, whether one has warnings, and whether these count
abbrev pub status_from : Bool → Bool → Bool → ℕ
status_from true warned count = 1
status_from false false count = 0
status_from false true true = 2
status_from false true false = 0

-- the exit status: 1 if one file has failed; else 2 if warnings count and one file has some; else 0
abbrev pub status_of : List Verdict → Bool → ℕ
status_of verdicts count = status_from (list_any is_failed verdicts) (list_any is_warned verdicts) count

-- a file has failed exactly if it is no accepted script
abbrev pub IsVerdictOn : List ℕ → Verdict → Type 0
IsVerdictOn script Well = IsScript script
IsVerdictOn script Warned = IsScript script
IsVerdictOn script Failed = ¬ IsScript script
