-- How a tree is spelled: which texts spell which trees.
use Rattle.std.specs.Prelude.{◌≡◌, ℕ, ◌+◌, ◌≤◌, Bool, true, false, not, ◌&&◌, ◌==◌, List, [], ◌∷◌, ◌++◌, length, codes}
use Rattle.std.specs.Prelude.{IsTrue, nat_le}
use Rattle.std.specs.List.{list_all}
use Rattle.std.specs.Str.{is_utf8}
use Rattle.rc_model.specs.Run.Numbers.{is_digit, digits_value, greatest_number}
use Rattle.rc_model.specs.Run.Calls.{Mode, Read, Write, Append}
use Rattle.rc_model.specs.Syntax.Text.{without_zero}
use Rattle.rc_model.specs.Syntax.Tree.{Sort, Node, Many, cmd, none, more, count}
use Rattle.rc_model.specs.Syntax.Tree as t
use Rattle.rc_model.specs.Syntax.WellFormed.{is_output, copies}
use Rattle.rc_model.specs.Handed.Image.{literal_mark, item_mark, logic_mark}

-- a text of the first kind followed by one of the second
pub record Joined (P Q : List ℕ → Type 0) (text : List ℕ) : Type 0 where
  pub front : List ℕ
  pub back : List ℕ
  pub cut : text ≡ front ++ back
  pub first : P front
  pub second : Q back

-- texts of one kind, each followed by one of another kind
infixr 30 ◌⨾◌
abbrev pub ◌⨾◌ : (List ℕ → Type 0) → (List ℕ → Type 0) → List ℕ → Type 0
(P ⨾ Q) text = Joined P Q text

-- this text and no other
abbrev pub Is : List ℕ → List ℕ → Type 0
Is x text = text ≡ x

-- `0`, or digits that don't begin with `0`
abbrev pub is_numeral : List ℕ → Bool
is_numeral [] = false
is_numeral (d ∷ []) = true
is_numeral (d ∷ e ∷ ds) = not (d == 48)

-- a number that is at most 4,294,967,295
pub record Number (n : ℕ) (text : List ℕ) : Type 0 where
  pub digits : IsTrue (list_all is_digit text)
  pub front : IsTrue (is_numeral text)
  pub value : digits_value 0 text ≡ n
  pub bound : n ≤ greatest_number

-- `1` or `2`
pub record Output (n : ℕ) (text : List ℕ) : Type 0 where
  pub number : IsTrue (is_output n)
  pub digit : text ≡ (48 + n) ∷ []

-- `12` or `21`
pub record Crossing (to from : ℕ) (text : List ℕ) : Type 0 where
  pub numbers : IsTrue (copies to from)
  pub digits : text ≡ (48 + to) ∷ (48 + from) ∷ []

-- whole characters without byte 0
abbrev pub is_text : List ℕ → Bool
is_text text = is_utf8 text && without_zero text

-- a text, after its length
pub record Texted (x text : List ℕ) : Type 0 where
  pub characters : IsTrue (is_text x)
  pub spelled : ((Number (length x) ⨾ Is (codes ":")) ⨾ Is x) text

-- several things, after their number
abbrev pub Listed : ℕ → (List ℕ → Type 0) → List ℕ → Type 0
Listed n items = (Number n ⨾ Is (codes ",")) ⨾ items

-- a file opened for reading at 0, which isn't written
pub record Plainly (slot : ℕ) (path : List ℕ → Type 0) (text : List ℕ) : Type 0 where
  pub input : slot ≡ 0
  pub rest : path text

-- a file opened in this mode at a descriptor
abbrev pub Opened : Mode → ℕ → (List ℕ → Type 0) → List ℕ → Type 0
Opened Read slot path = Is (codes "<") ⨾ Plainly slot path
Opened Write slot path = Is (codes ">") ⨾ Output slot ⨾ path
Opened Append slot path = Is (codes "+") ⨾ Output slot ⨾ path

-- the spellings of a tree
abbrev mutual
  -- the spellings of a node
  pub Spells : {s : Sort} → Node s → List ℕ → Type 0
  Spells t.Empty = Is (codes "e")
  Spells (t.Seq items) = Is (codes "s") ⨾ Listed (count items) (SpellsAll items)
  Spells (t.Simple words) = Is (codes "c") ⨾ Listed (count words) (SpellsAll words)
  Spells (t.Assign pairs body) = Is (codes "=") ⨾ Listed (count pairs) (SpellsAll pairs) ⨾ Spells body
  Spells (t.Redirect redirs body) = Is (codes "r") ⨾ Listed (count redirs) (SpellsAll redirs) ⨾ Spells body
  Spells (t.Pipeline stages last) = Is (codes "p") ⨾ Listed (count stages) (SpellsAll stages) ⨾ Spells last
  Spells (t.AndOr first links) = Is (codes "a") ⨾ Spells first ⨾ Listed (count links) (SpellsAll links)
  Spells (t.Not body) = Is (codes "!") ⨾ Spells body
  Spells (t.Subshell body) = Is (codes "@") ⨾ Spells body
  Spells (t.If condition body) = Is (codes "i") ⨾ Spells condition ⨾ Spells body
  Spells (t.IfNot body) = Is (codes "n") ⨾ Spells body
  Spells (t.While condition body) = Is (codes "w") ⨾ Spells condition ⨾ Spells body
  Spells (t.ForAll name body) = Is (codes "f") ⨾ Spells name ⨾ Spells body
  Spells (t.For name words body) = Is (codes "F") ⨾ Spells name ⨾ Listed (count words) (SpellsAll words) ⨾ Spells body
  Spells (t.Switch subject branches) = Is (codes "S") ⨾ Spells subject ⨾ Listed (count branches) (SpellsAll branches)
  Spells (t.Match subject patterns) = Is (codes "~") ⨾ Spells subject ⨾ Listed (count patterns) (SpellsAll patterns)
  Spells (t.Define names body) = Is (codes "d") ⨾ Listed (count names) (SpellsAll names) ⨾ Spells body
  Spells (t.Undefine names) = Is (codes "u") ⨾ Listed (count names) (SpellsAll names)
  Spells (t.Brace body) = Is (codes "b") ⨾ Spells body
  Spells (t.Lit text quoted) = Is (literal_mark quoted) ⨾ Texted text
  Spells (t.Concat parts) = Is (codes "^") ⨾ Listed (count parts) (SpellsAll parts)
  Spells (t.Paren words) = Is (codes "(") ⨾ Listed (count words) (SpellsAll words)
  Spells (t.Var name) = Is (codes "$") ⨾ Spells name
  Spells (t.Count name) = Is (codes "#") ⨾ Spells name
  Spells (t.Flat name) = Is (codes "\"") ⨾ Spells name
  Spells (t.Sub name subscripts) = Is (codes "[") ⨾ Spells name ⨾ Listed (count subscripts) (SpellsAll subscripts)
  Spells (t.Back body) = Is (codes "`") ⨾ Spells body
  Spells (t.Item body background) = Is (item_mark background) ⨾ Spells body
  Spells (t.Pair name value) = Spells name ⨾ Spells value
  Spells (t.Stage body slot) = Output slot ⨾ Spells body
  Spells (t.Link logic body) = Is (logic_mark logic) ⨾ Spells body
  Spells (t.Branch patterns body) = Listed (count patterns) (SpellsAll patterns) ⨾ Spells body
  Spells (t.Open mode slot path) = Opened mode slot (Spells path)
  Spells (t.Copy to from) = Is (codes "=") ⨾ Crossing to from
  Spells (t.Here pieces) = Is (codes "h") ⨾ Listed (count pieces) (SpellsAll pieces)
  Spells (t.Text text) = Is (codes "t") ⨾ Texted text
  Spells (t.Name text) = Is (codes "v") ⨾ Texted text

  -- the spellings of several nodes, one after the other
  pub SpellsAll : {s : Sort} → Many s → List ℕ → Type 0
  SpellsAll none = Is []
  SpellsAll (more n ns) = Spells n ⨾ SpellsAll ns

-- the spellings of a command by itself
abbrev pub SpellsImage : Node cmd → List ℕ → Type 0
SpellsImage c = Is (codes "rc1;") ⨾ Spells c

-- whether each text of a tree passes one test, and the length of each list another
abbrev mutual
  -- the texts and lists of a node pass these tests
  pub all_in : (List ℕ → Bool) → (ℕ → Bool) → {s : Sort} → Node s → Bool
  all_in word size t.Empty = true
  all_in word size (t.Seq items) = (size (count items) && all_in_many word size items)
  all_in word size (t.Simple words) = (size (count words) && all_in_many word size words)
  all_in word size (t.Assign pairs body) = (size (count pairs) && all_in_many word size pairs) && all_in word size body
  all_in word size (t.Redirect redirs body) =
      (size (count redirs) && all_in_many word size redirs) && all_in word size body
  all_in word size (t.Pipeline stages last) =
      (size (count stages) && all_in_many word size stages) && all_in word size last
  all_in word size (t.AndOr first links) = all_in word size first && (size (count links) && all_in_many word size links)
  all_in word size (t.Not body) = all_in word size body
  all_in word size (t.Subshell body) = all_in word size body
  all_in word size (t.If condition body) = all_in word size condition && all_in word size body
  all_in word size (t.IfNot body) = all_in word size body
  all_in word size (t.While condition body) = all_in word size condition && all_in word size body
  all_in word size (t.ForAll name body) = all_in word size name && all_in word size body
  all_in word size (t.For name words body) =
      all_in word size name && ((size (count words) && all_in_many word size words) && all_in word size body)
  all_in word size (t.Switch subject branches) =
      all_in word size subject && (size (count branches) && all_in_many word size branches)
  all_in word size (t.Match subject patterns) =
      all_in word size subject && (size (count patterns) && all_in_many word size patterns)
  all_in word size (t.Define names body) = (size (count names) && all_in_many word size names) && all_in word size body
  all_in word size (t.Undefine names) = (size (count names) && all_in_many word size names)
  all_in word size (t.Brace body) = all_in word size body
  all_in word size (t.Concat parts) = (size (count parts) && all_in_many word size parts)
  all_in word size (t.Paren words) = (size (count words) && all_in_many word size words)
  all_in word size (t.Var name) = all_in word size name
  all_in word size (t.Count name) = all_in word size name
  all_in word size (t.Flat name) = all_in word size name
  all_in word size (t.Sub name subscripts) =
      all_in word size name && (size (count subscripts) && all_in_many word size subscripts)
  all_in word size (t.Back body) = all_in word size body
  all_in word size (t.Item body background) = all_in word size body
  all_in word size (t.Pair name value) = all_in word size name && all_in word size value
  all_in word size (t.Stage body slot) = all_in word size body
  all_in word size (t.Link logic body) = all_in word size body
  all_in word size (t.Branch patterns body) =
      (size (count patterns) && all_in_many word size patterns) && all_in word size body
  all_in word size (t.Open mode slot path) = all_in word size path
  all_in word size (t.Here pieces) = (size (count pieces) && all_in_many word size pieces)
  all_in word size (t.Lit text quoted) = word text
  all_in word size (t.Copy to from) = true
  all_in word size (t.Text text) = word text
  all_in word size (t.Name text) = word text

  -- those of several nodes pass them
  pub all_in_many : (List ℕ → Bool) → (ℕ → Bool) → {s : Sort} → Many s → Bool
  all_in_many word size none = true
  all_in_many word size (more n ns) = all_in word size n && all_in_many word size ns

-- each text of a tree consists of whole characters
abbrev pub has_characters : {s : Sort} → Node s → Bool
has_characters x = all_in is_utf8 (λ n. true) x

-- no text of a tree is longer than this, and no list has more members
abbrev pub within : ℕ → {s : Sort} → Node s → Bool
within most x = all_in (λ text. nat_le (length text) most) (λ n. nat_le n most) x
