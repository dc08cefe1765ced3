-- How long an argument or an entry may be.
use Rattle.std.proofs.Common.{◌≡◌, ap, ℕ, ◌<◌, ◌≤◌, Bool, if◌then◌else◌, List, length, Some, None}
use Rattle.std.proofs.lemmas.Bool.{le-leb, lt-leb}
use Rattle.std.proofs.lemmas.Grind.{common_steps}
use Rattle.rc_model.specs.Handed.Pieces.{longest_word}
use Rattle.rc_image.specs.Images.{where_short}

pub short_some : (text : List ℕ) → length text ≤ 100000 → where_short text ≡ Some text
unfolding where_short
short_some text h = ap (λ (c : Bool). if c then Some text else None) (le-leb (length text) longest_word h)

pub short_none : (text : List ℕ) → 100000 < length text → where_short text ≡ None
unfolding where_short
short_none text h = ap (λ (c : Bool). if c then Some text else None) (lt-leb (length text) longest_word h)

pub ruleset lengths = (short_some, short_none, common_steps)
