use Rattle.std.proofs.Common.{rules, ◌≡◌, ℕ, List, ◌++◌, Option, Result, Ok, Err, IfOk, IfErr, IfSome, OnOk, subst, sym, ◌∙◌}
use denote.Enum.Bare.{same_true}
use Rattle.std.specs.contracts.io.ErrorKind.{the_type}
use Rattle.std.specs.IoError.{error_kind}
use Rattle.std.specs.Io.KnownBytes.{Consumes, IsAtEnd, Keeps}
use Rattle.std.specs.declared.io.Error.{Error}
use Rattle.std.specs.declared.io.ErrorKind.TheVariants.{Interrupted}
use Rattle.std.proofs.KnownBytes.{Consumes-kept, Consumes-nil, Consumes-trans, Consumes-whole}
use Rattle.rc_cli.proofs.reading.read_whole.Goals as goal
use Rattle.rc_cli.proofs.reading.read_whole.Goals.{in-Ok, in-Err}

-- a part that was read follows those before it
further : (all old new : Option (List ℕ)) (before after : List ℕ) (said : Result ℕ Error) (count : ℕ) → Consumes all old before
    → OnOk said ((read : List ℕ) × (after ≡ before ++ read) × Consumes old new read) → said ≡ Ok count → Consumes all new after
further all old new before after (Ok n) count first read is = subst (Consumes all new) (sym read.1) (Consumes-trans _ _ _ _ _ first read.2)
further all old new before after (Err e) count first read is = absurd (let n : ⊥ = cc in n)

-- a read that was interrupted changes nothing
again : (all old new : Option (List ℕ)) (before after : List ℕ) (said : Result ℕ Error) (error : Error) → Consumes all old before
    → IfErr said (λ e. error_kind e ≡ Interrupted → (after ≡ before) × Keeps old new) → said ≡ Err error → error_kind error ≡ Interrupted → Consumes all new after
again all old new before after (Ok n) error first kept is kind = absurd (let n : ⊥ = cc in n)
again all old new before after (Err e) error first kept is kind =
    let same = kept (let k : error_kind e ≡ Interrupted = cc in k) in
    subst (Consumes all new) (sym same.0) (Consumes-kept _ _ _ _ first same.1)

-- after the last read there is nothing left
ended : (all old new : Option (List ℕ)) (before after : List ℕ) (said : Result ℕ Error) → Consumes all old before
    → OnOk said ((read : List ℕ) × (after ≡ before ++ read) × Consumes old new read) → IfOk said (λ count. count ≡ 0 → IsAtEnd new) → said ≡ Ok 0
    → IfSome all (λ bytes. after ≡ bytes)
ended all old new before after (Ok n) first read end is =
    Consumes-whole all new (before ++ read.0) (λ bytes. after ≡ bytes) (Consumes-trans _ _ _ _ _ first read.2) (end (let z : n ≡ 0 = cc in z)) read.1
ended all old new before after (Err e) first read end is = absurd (let n : ⊥ = cc in n)

pub loop-init : goal.loop-init
loop-init g c = record {
  taken = subst (Consumes _ _) (sym c.new-bytes.ensures.items) (Consumes-nil _);
  room = search rules;
}

pub returns-in-Ok-eq0 : goal.returns-in-Ok-eq0
returns-in-Ok-eq0 g c =
    ended _ _ _ _ _ c.read_part.result c.loop.invariant.taken c.read_part.ensures.read c.read_part.ensures.end (search rules)

pub loop-preserved : goal.loop-preserved
loop-preserved g c =
    elim c.match-read_part.branch [
      | in-Ok w ↦ record {
        taken = further _ _ _ _ _ c.read_part.result w.in-Ok.field-0 c.loop.invariant.taken c.read_part.ensures.read (search rules);
        room = search rules;
      }
      | in-Err w ↦ record {
        taken = again _ _ _ _ _ c.read_part.result w.in-Err.error c.loop.invariant.taken c.read_part.ensures.interrupted (search rules)
            (sym w.kind.ensures ∙ same_true the_type tt w.kind.result Interrupted (sym w.eq.ensures ∙ w.if-eq.true));
        room = search rules;
      }
    ]
