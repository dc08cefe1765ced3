-- Jumps that are put in once what they jump over is written.
use Rattle.std.proofs.Common.{◌≡◌, ℕ, List, [], ◌∷◌, length, refl}
use Rattle.std.proofs.lemmas.Grind.{common_steps}
use Rattle.std.proofs.lemmas.List.{length-set}
use Rattle.rc_model.specs.Code.Layout.{Op, Jump, Code}
use Rattle.rc_code.specs.Writing.{patched, jumps_patched}

pub jumps_patched-none : (c : Code) (e : ℕ) → jumps_patched c [] e ≡ c
unfolding jumps_patched
jumps_patched-none c e = refl

pub jumps_patched-more : (c : Code) (from : ℕ) (places : List ℕ) (e : ℕ) → jumps_patched c (from ∷ places) e ≡ jumps_patched (patched c from (Jump e)) places e
unfolding jumps_patched
jumps_patched-more c from places e = refl

pub length_patched : (c : Code) (p : ℕ) (op : Op) → length (patched c p op).ops ≡ length c.ops
unfolding patched
length_patched c p op = length-set c.ops p op

pub ruleset patching_jumps = (jumps_patched-none, jumps_patched-more, length_patched, common_steps)
