use Rattle.std.proofs.Common.{◌≡◌, ℕ, List, ◌++◌, length, take, Option, Result, Ok, Err, MatchResult, true, not, if◌then◌else◌, rules, subst, sym, ap, ◌∙◌, arith}
use Rattle.std.specs.Result.{is_ok}
use Rattle.std.specs.Io.KnownBytes.{Consumes, ReadConsumes}
use Rattle.std.specs.declared.io.Error.{Error}
use Rattle.std.proofs.KnownBytes.{Consumes-trans}
use Rattle.std.proofs.lemmas.Grind.{common_steps}
use Rattle.rc_model.specs.declared.call.Fault.{Fault}
use Rattle.rc_world.specs.Faults.{fault_at}
use Rattle.rc_host.proofs.directory.read_whole.Goals as goal

-- what a read took, by the answer that its count was given
taken : (old new : Option (List ℕ)) (said : Result ℕ Error) (answer : Result ℕ Fault) (count : ℕ) (bytes : List ℕ)
    → MatchResult said (λ n. answer ≡ Ok n) (λ error. answer ≡ Err (fault_at error)) → answer ≡ Ok count
    → ReadConsumes old new said bytes → Consumes old new (take count bytes)
taken old new (Ok n) answer count bytes same is read = let e : n ≡ count = cc in subst (λ m. Consumes old new (take m bytes)) e read.0
taken old new (Err error) answer count bytes same is read = absurd (let n : ⊥ = cc in n)

-- what a read filled is all of a buffer of the same length
whole : (buffer rest : List ℕ) (n : ℕ) → length buffer ≡ n → take n (buffer ++ rest) ≡ buffer
whole buffer rest n e = grind (arith, common_steps)

pub loop-preserved : goal.loop-preserved
loop-preserved g c =
    let read = taken _ _ c.read_again.result _ c.in_ok-count.count _ c.answer.ensures.same c.in_ok-count.was c.read_again.ensures.bytes in
    let filled : c.deref.result.now ≡ c.read_again.new.buffer =
    c.deref.ensures.value ∙ whole c.read_again.new.buffer _ _ (c.read_again.auto.buffer ∙ c.deref_mut.ensures.len) in
    let done : is_ok c.extend_from_slice.result ≡ true = c.is_err.ensures.negation ∙ ap not c.if-is_err.false in
    let more : c.extend_from_slice.new.self.items ≡ c.loop.bytes.items ++ take c.in_ok-count.count c.read_again.new.buffer =
    rw (sym filled) (c.extend_from_slice.ensures.items ∙ ap (λ ok. if ok then c.loop.bytes.items ++ take c.in_ok-count.count c.deref.result.now else c.loop.bytes.items) done) in
    record {
      taken = subst (Consumes _ _) (sym more) (Consumes-trans _ _ _ _ _ c.loop.invariant.taken read);
      room = search rules;
    }
