-- The results of the calls for images.
use Rattle.std.specs.Prelude.{◌≡◌, ℕ, List, Bool, ◌&&◌, if◌then◌else◌, Option, Some, None, Result, Ok, Err}
use Rattle.rc_model.specs.Syntax.Tree.{Node, cmd}
use Rattle.rc_model.specs.Handed.Image.{image, is_short}
use Rattle.rc_model.specs.Handed.Pieces.{longest_word, words_of}
use Rattle.rc_model.specs.Handed.WordsReading.{Taken, from_one, from_pieces}
use Rattle.rc_model.specs.Handed.TreeReading as m
use Rattle.rc_model.specs.Handed.TreeReading.{digit_run, past_digits, is_count, other_version}
use Rattle.rc_model.specs.declared.fault.InputError.TheVariants.{Fault, NoMemory}
use Rattle.rc_model.specs.declared.fault.ImageFault.TheVariants.{TooLarge}
use Rattle.rc_spelling.specs.Faults.{ImageError}
use Rattle.rc_model.specs.declared.fault.ImageFault.{ImageFault}

-- the text, if it is short enough for an argument or an entry
unfoldable pub where_short : List ℕ → Option (List ℕ)
where_short text = if is_short text then Some text else None

-- the image of a command, if it is short enough for an argument or an entry
abbrev pub short_image : Node cmd → Option (List ℕ)
short_image c = where_short (image c)

-- a fault is `TooLarge`, and there is nothing to write; out of memory says nothing
abbrev pub Refuses : {Y : Type 0} → ImageError → Option Y → Type 0
Refuses (Fault TooLarge) written = written ≡ None
Refuses (Fault _) written = ⊥
Refuses NoMemory written = Unit {0}

-- what was written, seen by `view`
abbrev pub Writes : {X Y : Type 0} → (X → Y) → Result X ImageError → Option Y → Type 0
Writes view (Ok x) written = written ≡ Some (view x)
Writes view (Err e) written = Refuses e written

-- whether the bytes begin with the number of a version and a `;`
unfoldable pub version_here : List ℕ → Bool
version_here bytes = is_count (digit_run bytes) && other_version (past_digits bytes)

-- the fault of a text that doesn't begin like an image
unfoldable pub fault_here : List ℕ → ImageFault
fault_here bytes = m.beginning_fault bytes

-- the words of a spelling
unfoldable pub written : List ℕ → Option (List (List ℕ))
written text = words_of longest_word text

-- the tree in one word
unfoldable pub in_one : List ℕ → Taken
in_one word = from_one longest_word word

-- the tree in pieces after a first word
unfoldable pub in_pieces : List ℕ → List (List ℕ) → Taken
in_pieces first pieces = from_pieces longest_word first pieces
