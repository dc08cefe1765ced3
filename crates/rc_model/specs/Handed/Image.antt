-- What a shell hands over as text: trees, the entries of its environment, and launches.
use Rattle.std.specs.Prelude.{ℕ, nat_le, length, List, [], ◌∷◌, ◌++◌, Bool, true, false, ◌||◌, ◌&&◌, ◌==◌}
use Rattle.std.specs.Prelude.{if◌then◌else◌, codes, map, Option, Some, None, unwrap_or}
use Rattle.std.specs.List.{flat_map, join_with_byte, list_all}
use Rattle.std.specs.Str.{bytes_eq}
use Rattle.std.specs.Fmt.{decimal}
use Rattle.std.specs.BTreeMap.{insert_entry}
use Rattle.rc_model.specs.Syntax.Text.{text_cmp}
use Rattle.rc_model.specs.Run.Calls.{Mode, Read, Write, Append, Slots, Launch}
use Rattle.rc_model.specs.Syntax.Tree.{Sort, Node, Many, cmd, none, more, count, And, Or}
use Rattle.rc_model.specs.Syntax.Tree as t
use Rattle.rc_model.specs.Handed.Pieces.{longest_word, one_word, words_of}
use Rattle.rc_model.specs.Run.State.{State, visible, value_of, status_name}

-- a text, after its length
abbrev pub text_image : List ℕ → List ℕ
text_image text = decimal (length text) ++ 58 ∷ text

-- the spellings of several things, after their number
abbrev pub list_image : ℕ → List ℕ → List ℕ
list_image n items = decimal n ++ 44 ∷ items

-- `q` for a quoted word, and `w` for an unquoted one
abbrev pub literal_mark : Bool → List ℕ
literal_mark true = codes "q"
literal_mark false = codes "w"

-- `&` for an item in the background, and `;` for any other
abbrev pub item_mark : Bool → List ℕ
item_mark true = codes "&"
item_mark false = codes ";"

-- `<`, or `>` or `+` with its descriptor, before the path of a file
abbrev pub opening_mark : Mode → ℕ → List ℕ
opening_mark Read slot = codes "<"
opening_mark Write slot = codes ">" ++ decimal slot
opening_mark Append slot = codes "+" ++ decimal slot

-- `&` for `&&`, and `|` for `||`
abbrev pub logic_mark : t.Logic → List ℕ
logic_mark And = codes "&"
logic_mark Or = codes "|"

-- the spelling of a tree
unfoldable mutual
  -- the spelling of a node
  pub node_image : {s : Sort} → Node s → List ℕ
  node_image t.Empty = codes "e"
  node_image (t.Seq items) = codes "s" ++ list_image (count items) (many_image items)
  node_image (t.Simple words) = codes "c" ++ list_image (count words) (many_image words)
  node_image (t.Assign pairs body) = codes "=" ++ (list_image (count pairs) (many_image pairs) ++ node_image body)
  node_image (t.Redirect redirs body) = codes "r" ++ (list_image (count redirs) (many_image redirs) ++ node_image body)
  node_image (t.Pipeline stages last) = codes "p" ++ (list_image (count stages) (many_image stages) ++ node_image last)
  node_image (t.AndOr first links) = codes "a" ++ (node_image first ++ list_image (count links) (many_image links))
  node_image (t.Not body) = codes "!" ++ node_image body
  node_image (t.Subshell body) = codes "@" ++ node_image body
  node_image (t.If condition body) = codes "i" ++ (node_image condition ++ node_image body)
  node_image (t.IfNot body) = codes "n" ++ node_image body
  node_image (t.While condition body) = codes "w" ++ (node_image condition ++ node_image body)
  node_image (t.ForAll name body) = codes "f" ++ (node_image name ++ node_image body)
  node_image (t.For name words body) =
      codes "F" ++ (node_image name ++ (list_image (count words) (many_image words) ++ node_image body))
  node_image (t.Switch subject branches) =
      codes "S" ++ (node_image subject ++ list_image (count branches) (many_image branches))
  node_image (t.Match subject patterns) =
      codes "~" ++ (node_image subject ++ list_image (count patterns) (many_image patterns))
  node_image (t.Define names body) = codes "d" ++ (list_image (count names) (many_image names) ++ node_image body)
  node_image (t.Undefine names) = codes "u" ++ list_image (count names) (many_image names)
  node_image (t.Brace body) = codes "b" ++ node_image body
  node_image (t.Lit text quoted) = literal_mark quoted ++ text_image text
  node_image (t.Concat parts) = codes "^" ++ list_image (count parts) (many_image parts)
  node_image (t.Paren words) = codes "(" ++ list_image (count words) (many_image words)
  node_image (t.Var name) = codes "$" ++ node_image name
  node_image (t.Count name) = codes "#" ++ node_image name
  node_image (t.Flat name) = codes "\"" ++ node_image name
  node_image (t.Sub name subscripts) =
      codes "[" ++ (node_image name ++ list_image (count subscripts) (many_image subscripts))
  node_image (t.Back body) = codes "`" ++ node_image body
  node_image (t.Item body background) = item_mark background ++ node_image body
  node_image (t.Pair name value) = node_image name ++ node_image value
  node_image (t.Stage body slot) = decimal slot ++ node_image body
  node_image (t.Link logic body) = logic_mark logic ++ node_image body
  node_image (t.Branch patterns body) = list_image (count patterns) (many_image patterns) ++ node_image body
  node_image (t.Open mode slot path) = opening_mark mode slot ++ node_image path
  node_image (t.Copy to from) = codes "=" ++ (decimal to ++ decimal from)
  node_image (t.Here pieces) = codes "h" ++ list_image (count pieces) (many_image pieces)
  node_image (t.Text text) = codes "t" ++ text_image text
  node_image (t.Name name) = codes "v" ++ text_image name

  -- the spellings of several nodes, one after the other
  pub many_image : {s : Sort} → Many s → List ℕ
  many_image none = []
  many_image (more n ns) = node_image n ++ many_image ns

-- the image of a command
abbrev pub image : Node cmd → List ℕ
image c = codes "rc1;" ++ node_image c

-- inside a member byte 1 is written as byte 2 and `A`, byte 2 as byte 2 and `B`
abbrev pub escape : ℕ → List ℕ
escape b = if b == 1 then 2 ∷ 65 ∷ [] else (if b == 2 then 2 ∷ 66 ∷ [] else b ∷ [])

-- a member with its bytes 1 and 2 escaped
abbrev pub escaped : List ℕ → List ℕ
escaped text = flat_map escape text

-- the members of a value are joined by byte 1
abbrev pub value_text : List (List ℕ) → List ℕ
value_text value = join_with_byte 1 (map escaped value)

-- NAME=TEXT
abbrev pub entry : List ℕ × List ℕ → List ℕ
entry binding = binding.0 ++ 61 ∷ binding.1

-- the names that aren't handed over as variables: `*`, and the status, which isn't one
abbrev pub stays_behind : List ℕ → Bool
stays_behind name = bytes_eq name (codes "*") || bytes_eq name status_name

-- the binding of a name before the others, unless its value isn't handed over
abbrev pub with_binding : List ℕ → List (List ℕ) → List (List ℕ × List ℕ) → List (List ℕ × List ℕ)
with_binding name [] others = others
with_binding name (m ∷ ms) others = if stays_behind name then others else (name, value_text (m ∷ ms)) ∷ others

-- the visible values that are handed over
abbrev pub handed_values : List (List ℕ × List (List (List ℕ))) → List (List ℕ × List ℕ)
handed_values [] = []
handed_values (b ∷ bs) = with_binding b.0 (visible b.1) (handed_values bs)

-- the entries of the functions, among these others
abbrev pub with_functions : List (List ℕ × Node cmd) → List (List ℕ × List ℕ) → List (List ℕ × List ℕ)
with_functions [] others = others
with_functions (f ∷ fs) others = insert_entry text_cmp (with_functions fs others) (codes "fn#" ++ f.0) (image f.1)

-- the entries of a launch, in byte order of their names: the variables, always the status, and the functions
abbrev pub entries : State → List (List ℕ)
entries s =
    map entry (with_functions s.functions
    (insert_entry text_cmp (handed_values s.variables) status_name (value_text (s.status ∷ []))))

-- an argument or an entry isn't too long
abbrev pub is_short : List ℕ → Bool
is_short text = nat_le (length text) longest_word

-- a launch is within the limits
abbrev pub is_fit : Launch → Bool
is_fit l = list_all is_short l.args && list_all is_short l.entries

-- the launch of a program
abbrev pub program_launch : Slots → List ℕ → List (List ℕ) → State → Launch
program_launch slots path args s = record { program = Some path; args = args; entries = entries s; slots = slots }

-- the words of a tree's image, unless it takes too many pieces
abbrev pub image_words : Node cmd → Option (List (List ℕ))
image_words body = words_of longest_word (node_image body)

-- the words that a shell is handed; an image of too many pieces stays in one word, which is too long
abbrev pub handed_words : Node cmd → List (List ℕ)
handed_words body = unwrap_or (image_words body) (one_word (node_image body))

-- `-e`, if a command that fails ends the shell
abbrev pub strict_option : Bool → List (List ℕ)
strict_option true = codes "-e" ∷ []
strict_option false = []

-- the arguments of a shell: its options, the words of its image, and `$*`
abbrev pub shell_args : Node cmd → State → List (List ℕ)
shell_args body s = strict_option s.strict ++ (codes "-S" ∷ (handed_words body ++ value_of s (codes "*")))

-- the launch of a subshell
abbrev pub shell_launch : Slots → Node cmd → State → Launch
shell_launch slots body s = record { program = None; args = shell_args body s; entries = entries s; slots = slots }
