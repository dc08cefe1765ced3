-- The parts of a tree that a shell holds.
use Rattle.std.proofs.Common.{◌≡◌, ℕ, suc, ◌≤◌, max, Bool, true, ◌&&◌, arith, nat_le}
use Rattle.std.proofs.lemmas.Bool.{and_parts, and_from, leb-true, le-leb}
use Rattle.rc_model.specs.Syntax.Tree.{Sort, Node, Many, cmd}
use Rattle.rc_model.specs.Syntax.WellFormed.{is_sound, are_sound, depth, depths}
use Rattle.rc_model.specs.Handed.TreeSpelling.{has_characters}
use Rattle.rc_model.specs.Handed.Proper.{IsProperTree}
use Rattle.law_handed.proofs.Bodies.{all_have}

-- sizes and texts are right, and this many levels are not too many
pub record Right (a b : Bool) (m : ℕ) : Type 0 where
  pub sound : a ≡ true
  pub characters : b ≡ true
  pub levels : m ≤ 200

-- a part of a tree that a shell holds, and several
abbrev pub IsPart : {s : Sort} → Node s → Type 0
IsPart n = Right (is_sound n) (has_characters n) (depth n)

abbrev pub AreParts : {s : Sort} → Many s → Type 0
AreParts ns = Right (are_sound ns) (all_have ns) (depths ns)

-- a part beside a test of sizes
pub without_first : (t : Bool) {a b : Bool} {m : ℕ} → Right (t && a) b m → Right a b m
without_first t {a} r = record { sound = (and_parts t a r.sound).1; characters = r.characters; levels = r.levels }

-- one level down
pub down : {a b : Bool} {m : ℕ} → Right a b (suc m) → Right a b m
down r = record { sound = r.sound; characters = r.characters; levels = omega (arith, r.levels) }

-- parts side by side
parted : (a b c d : Bool) (m n : ℕ) → Right (a && b) (c && d) (max m n) → Right a c m × Right b d n
parted a b c d m n r =
    let k = and_parts a b r.sound in
    let l = and_parts c d r.characters in
    (record { sound = k.0; characters = l.0; levels = omega (arith, r.levels) }, record { sound = k.1; characters = l.1; levels = omega (arith, r.levels) })

pub two : {s u : Sort} (x : Node s) (y : Node u) → Right (is_sound x && is_sound y) (has_characters x && has_characters y) (max (depth x) (depth y)) → IsPart x × IsPart y
two x y r = parted (is_sound x) (is_sound y) (has_characters x) (has_characters y) (depth x) (depth y) r

pub one_many : {s u : Sort} (x : Node s) (ys : Many u) → Right (is_sound x && are_sound ys) (has_characters x && all_have ys) (max (depth x) (depths ys)) → IsPart x × AreParts ys
one_many x ys r = parted (is_sound x) (are_sound ys) (has_characters x) (all_have ys) (depth x) (depths ys) r

pub many_one : {s u : Sort} (xs : Many s) (y : Node u) → Right (are_sound xs && is_sound y) (all_have xs && has_characters y) (max (depths xs) (depth y)) → AreParts xs × IsPart y
many_one xs y r = parted (are_sound xs) (is_sound y) (all_have xs) (has_characters y) (depths xs) (depth y) r

pub three : {s u v : Sort} (x : Node s) (ys : Many u) (z : Node v)
    → Right (is_sound x && (are_sound ys && is_sound z)) (has_characters x && (all_have ys && has_characters z)) (max (depth x) (max (depths ys) (depth z)))
    → IsPart x × AreParts ys × IsPart z
three x ys z r =
    let k = parted (is_sound x) (are_sound ys && is_sound z) (has_characters x) (all_have ys && has_characters z) (depth x) (max (depths ys) (depth z)) r in
    let l = many_one ys z k.1 in
    (k.0, l.0, l.1)

-- a command that is a part is a tree that a shell holds
pub script_of : {c : Node cmd} → IsPart c → IsProperTree c
script_of {c = c} r = record { sound = and_from (is_sound c) (nat_le (depth c) 200) r.sound (le-leb (depth c) 200 r.levels); characters = r.characters }

pub part_of : {c : Node cmd} → IsProperTree c → IsPart c
part_of {c = c} s = let k = and_parts (is_sound c) (nat_le (depth c) 200) s.sound in record { sound = k.0; characters = s.characters; levels = leb-true (depth c) 200 k.1 }
