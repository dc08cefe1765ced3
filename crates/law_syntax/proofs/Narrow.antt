-- A sound tree has at most 64 stages in each pipeline.
use Rattle.std.proofs.Common.{◌≡◌, ◌≤◌, Bool, true, false, ◌&&◌, refl, arith, nat_lt, nat_le}
use Rattle.std.proofs.lemmas.Bool.{ltb-true}
use Rattle.rc_model.specs.Syntax.Tree.{Node, Many, Sort, none, more, count}
use Rattle.rc_model.specs.Syntax.Tree as t
use Rattle.rc_model.specs.Syntax.WellFormed.{depth, is_sound, are_sound, well_formed, most_stages, most_stages_in, has_some, has_several, has_stages, is_output, opens}

pub and_first : (a b : Bool) → (a && b) ≡ true → a ≡ true
and_first true b h = refl
and_first false b h = absurd cc

pub and_second : (a b : Bool) → (a && b) ≡ true → b ≡ true
and_second true b h = h
and_second false b h = absurd cc

few_stages : {s : Sort} (ns : Many s) → has_stages ns ≡ true → count ns ≤ 63
few_stages ns h = let k = ltb-true (count ns) 64 (and_second (nat_lt 0 (count ns)) (nat_lt (count ns) 64) h) in omega arith

mutual
  pub sound_narrow : {s : Sort} (n : Node s) → is_sound n ≡ true → most_stages n ≤ 64
  sound_narrow t.Empty h = omega arith
  sound_narrow (t.Seq items) h = let x0 = sound_narrow_all items h in omega arith
  sound_narrow (t.Simple words) h = let x0 = sound_narrow_all words (and_second (has_some words) (are_sound words) h) in omega arith
  sound_narrow (t.Assign pairs body) h =
      let x0 = sound_narrow_all pairs (and_first (are_sound pairs) (is_sound body) (and_second (has_some pairs) (are_sound pairs && is_sound body) h)) in
      let x1 = sound_narrow body (and_second (are_sound pairs) (is_sound body) (and_second (has_some pairs) (are_sound pairs && is_sound body) h)) in
      omega arith
  sound_narrow (t.Redirect redirs body) h =
      let x0 = sound_narrow_all redirs (and_first (are_sound redirs) (is_sound body) (and_second (has_some redirs) (are_sound redirs && is_sound body) h)) in
      let x1 = sound_narrow body (and_second (are_sound redirs) (is_sound body) (and_second (has_some redirs) (are_sound redirs && is_sound body) h)) in
      omega arith
  sound_narrow (t.Pipeline stages last) h =
      let x0 = few_stages stages (and_first (has_stages stages) (are_sound stages && is_sound last) h) in
      let x1 = sound_narrow_all stages (and_first (are_sound stages) (is_sound last) (and_second (has_stages stages) (are_sound stages && is_sound last) h)) in
      let x2 = sound_narrow last (and_second (are_sound stages) (is_sound last) (and_second (has_stages stages) (are_sound stages && is_sound last) h)) in
      omega arith
  sound_narrow (t.AndOr first links) h =
      let x0 = sound_narrow first (and_first (is_sound first) (are_sound links) (and_second (has_some links) (is_sound first && are_sound links) h)) in
      let x1 = sound_narrow_all links (and_second (is_sound first) (are_sound links) (and_second (has_some links) (is_sound first && are_sound links) h)) in
      omega arith
  sound_narrow (t.Not body) h = let x0 = sound_narrow body h in omega arith
  sound_narrow (t.Subshell body) h = let x0 = sound_narrow body h in omega arith
  sound_narrow (t.If condition body) h =
      let x0 = sound_narrow condition (and_first (is_sound condition) (is_sound body) h) in
      let x1 = sound_narrow body (and_second (is_sound condition) (is_sound body) h) in
      omega arith
  sound_narrow (t.IfNot body) h = let x0 = sound_narrow body h in omega arith
  sound_narrow (t.While condition body) h =
      let x0 = sound_narrow condition (and_first (is_sound condition) (is_sound body) h) in
      let x1 = sound_narrow body (and_second (is_sound condition) (is_sound body) h) in
      omega arith
  sound_narrow (t.ForAll name body) h =
      let x0 = sound_narrow name (and_first (is_sound name) (is_sound body) h) in
      let x1 = sound_narrow body (and_second (is_sound name) (is_sound body) h) in
      omega arith
  sound_narrow (t.For name words body) h =
      let x0 = sound_narrow name (and_first (is_sound name) (are_sound words && is_sound body) h) in
      let x1 = sound_narrow_all words (and_first (are_sound words) (is_sound body) (and_second (is_sound name) (are_sound words && is_sound body) h)) in
      let x2 = sound_narrow body (and_second (are_sound words) (is_sound body) (and_second (is_sound name) (are_sound words && is_sound body) h)) in
      omega arith
  sound_narrow (t.Switch subject branches) h =
      let x0 = sound_narrow subject (and_first (is_sound subject) (are_sound branches) h) in
      let x1 = sound_narrow_all branches (and_second (is_sound subject) (are_sound branches) h) in
      omega arith
  sound_narrow (t.Match subject patterns) h =
      let x0 = sound_narrow subject (and_first (is_sound subject) (are_sound patterns) h) in
      let x1 = sound_narrow_all patterns (and_second (is_sound subject) (are_sound patterns) h) in
      omega arith
  sound_narrow (t.Define names body) h =
      let x0 = sound_narrow_all names (and_first (are_sound names) (is_sound body) (and_second (has_some names) (are_sound names && is_sound body) h)) in
      let x1 = sound_narrow body (and_second (are_sound names) (is_sound body) (and_second (has_some names) (are_sound names && is_sound body) h)) in
      omega arith
  sound_narrow (t.Undefine names) h = let x0 = sound_narrow_all names (and_second (has_some names) (are_sound names) h) in omega arith
  sound_narrow (t.Brace body) h = let x0 = sound_narrow body h in omega arith
  sound_narrow (t.Lit text quoted) h = omega arith
  sound_narrow (t.Concat parts) h = let x0 = sound_narrow_all parts (and_second (has_several parts) (are_sound parts) h) in omega arith
  sound_narrow (t.Paren words) h = let x0 = sound_narrow_all words h in omega arith
  sound_narrow (t.Var name) h = let x0 = sound_narrow name h in omega arith
  sound_narrow (t.Count name) h = let x0 = sound_narrow name h in omega arith
  sound_narrow (t.Flat name) h = let x0 = sound_narrow name h in omega arith
  sound_narrow (t.Sub name subscripts) h =
      let x0 = sound_narrow name (and_first (is_sound name) (are_sound subscripts) h) in
      let x1 = sound_narrow_all subscripts (and_second (is_sound name) (are_sound subscripts) h) in
      omega arith
  sound_narrow (t.Back body) h = let x0 = sound_narrow body h in omega arith
  sound_narrow (t.Item body background) h = let x0 = sound_narrow body h in omega arith
  sound_narrow (t.Pair name value) h =
      let x0 = sound_narrow name (and_first (is_sound name) (is_sound value) h) in
      let x1 = sound_narrow value (and_second (is_sound name) (is_sound value) h) in
      omega arith
  sound_narrow (t.Stage body slot) h = let x0 = sound_narrow body (and_second (is_output slot) (is_sound body) h) in omega arith
  sound_narrow (t.Link logic body) h = let x0 = sound_narrow body h in omega arith
  sound_narrow (t.Branch patterns body) h =
      let x0 = sound_narrow_all patterns (and_first (are_sound patterns) (is_sound body) h) in
      let x1 = sound_narrow body (and_second (are_sound patterns) (is_sound body) h) in
      omega arith
  sound_narrow (t.Open mode slot path) h = let x0 = sound_narrow path (and_second (opens mode slot) (is_sound path) h) in omega arith
  sound_narrow (t.Copy to from) h = omega arith
  sound_narrow (t.Here pieces) h = let x0 = sound_narrow_all pieces h in omega arith
  sound_narrow (t.Text text) h = omega arith
  sound_narrow (t.Name text) h = omega arith

  pub sound_narrow_all : {s : Sort} (ns : Many s) → are_sound ns ≡ true → most_stages_in ns ≤ 64
  sound_narrow_all none h = omega arith
  sound_narrow_all (more n ns) h = let x0 = sound_narrow n (and_first (is_sound n) (are_sound ns) h) in let x1 = sound_narrow_all ns (and_second (is_sound n) (are_sound ns) h) in omega arith

-- so has a well formed one
pub formed_narrow : (c : Node t.cmd) → well_formed c ≡ true → most_stages c ≤ 64
formed_narrow c h = sound_narrow c (and_first (is_sound c) (nat_le (depth c) 200) h)
