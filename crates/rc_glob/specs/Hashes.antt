-- Hashes of characters: texts with different hashes are different texts.
use Rattle.std.specs.Prelude.{ℕ, ◌+◌, ◌*◌, ◌%◌, ◌^◌, List, [], ◌∷◌}

-- the prime of the 64-bit FNV hash, by which a hash is multiplied before the next character is added
abbrev pub factor : ℕ
factor = 1099511628211

-- a hash with one more character, modulo 2^64
abbrev pub add_char : ℕ → ℕ → ℕ
add_char hash c = (hash * factor + c) % 2 ^ 64

-- a hash with more characters
abbrev pub hash_from : ℕ → List ℕ → ℕ
hash_from hash [] = hash
hash_from hash (c ∷ cs) = hash_from (add_char hash c) cs

-- the power of the prime by which these characters multiply the hash of those before them
abbrev pub scale_from : ℕ → List ℕ → ℕ
scale_from scale [] = scale
scale_from scale (c ∷ cs) = scale_from ((scale * factor) % 2 ^ 64) cs
