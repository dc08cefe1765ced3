-- How what is started is shown: as a script would write it.
use Rattle.std.specs.Prelude.{ℕ, List, [], ◌∷◌, ◌++◌, codes, drop, length, Option, Some, None}
use Rattle.std.specs.Prelude.{Bool, true, false, not, ◌&&◌, ◌==◌, if◌then◌else◌, Result, Ok, Err}
use Rattle.std.specs.Char.{encode_utf8}
use Rattle.std.specs.Fmt.{decimal}
use Rattle.std.specs.List.{flat_map, list_any}
use Rattle.std.specs.Str.{bytes_eq, chars}
use Rattle.rc_model.specs.Run.Calls.{Launch}
use Rattle.rc_model.specs.declared.call.Slot.{Slot}
use Rattle.rc_model.specs.declared.call.Slot.TheVariants.{Own, To}
use Rattle.rc_model.specs.declared.call.Slots.{Slots}
use Rattle.rc_model.specs.declared.fault.ImageFault.{ImageFault}
use Rattle.rc_model.specs.Handed.Arguments.{options}
use Rattle.rc_model.specs.Handed.Environment.{cut_entry}
use Rattle.rc_model.specs.Handed.TreeReading.{read_spelling}
use Rattle.rc_model.specs.Syntax.Printing.{printed, has_here}
use Rattle.rc_model.specs.Syntax.Text.{begins_with}
use Rattle.rc_model.specs.Syntax.Tree.{Node, cmd}
use Rattle.rc_model.specs.Syntax.Tree as t
use Rattle.rc_trace.specs.Quotes.{is_odd, visible_text, word_text, words_text}

-- ** the environment

-- a character of a value with several members, which byte 1 separates
unfoldable pub member_char : ℕ → List ℕ
member_char c = if c == 1 then codes " " else encode_utf8 c

-- the character between members
unfoldable pub is_separator : ℕ → Bool
is_separator c = c == 1

-- a character of a member that needs quotes
unfoldable pub is_odd_member : ℕ → Bool
is_odd_member c = not (is_separator c) && is_odd c

-- a value has several members, and none needs quotes
unfoldable pub is_plain_list : List ℕ → Bool
is_plain_list text = list_any is_separator (chars text) && not (list_any is_odd_member (chars text))

-- a value: its members in parentheses, or a word
unfoldable pub value_text : List ℕ → List ℕ
value_text text =
    if is_plain_list text then 40 ∷ (flat_map member_char (chars text) ++ 41 ∷ []) else word_text text

-- what follows a mark, in a text that begins with it
abbrev pub past : (mark text : List ℕ) → Option (List ℕ)
past mark text = if begins_with mark text then Some (drop (length mark) text) else None

-- a variable with its value
abbrev pub variable_text : (name text : List ℕ) → List ℕ
variable_text name text = name ++ (codes "=" ++ value_text text)

-- a function by its name, and a variable with its value
abbrev pub named_text : (function : Option (List ℕ)) → (name text : List ℕ) → List ℕ
named_text None name text = variable_text name text
named_text (Some function) name text = codes "fn " ++ word_text function

-- what a name is bound to; functions are shown like variables where images are shown
unfoldable pub binding_text : (images : Bool) → (name text : List ℕ) → List ℕ
binding_text images name text =
    if images then variable_text name text else named_text (past (codes "fn#") name) name text

-- an entry, by its name and the text after that, if it has both
abbrev pub cut_text : (images : Bool) → (entry : List ℕ) → Option (List ℕ × List ℕ) → List ℕ
cut_text images entry None = word_text entry
cut_text images entry (Some x) = binding_text images x.0 x.1

-- an entry of an environment
unfoldable pub entry_text : (images : Bool) → (entry : List ℕ) → List ℕ
entry_text images entry = cut_text images entry (cut_entry entry)

-- what was cut of an entry has this name
abbrev pub is_name_of : (name : List ℕ) → Option (List ℕ × List ℕ) → Bool
is_name_of name None = false
is_name_of name (Some x) = bytes_eq x.0 name

-- an entry has this name
unfoldable pub is_named : (name entry : List ℕ) → Bool
is_named name entry = is_name_of name (cut_entry entry)

-- one of these entries has this name
unfoldable pub has_name : (entries : List (List ℕ)) → (name : List ℕ) → Bool
has_name entries name = list_any (is_named name) entries

-- a name as an empty list before a blank, if none of these entries has it
abbrev pub unless_named : (entries : List (List ℕ)) → (name : List ℕ) → List ℕ
unless_named entries name = if has_name entries name then [] else name ++ codes "=() "

-- by the name of an entry, if it has one
abbrev pub gone_by : (entries : List (List ℕ)) → Option (List ℕ × List ℕ) → List ℕ
gone_by entries None = []
gone_by entries (Some x) = unless_named entries x.0

-- the name of a known entry, if it is gone
unfoldable pub gone_of : (entries : List (List ℕ)) → (known : List ℕ) → List ℕ
gone_of entries known = gone_by entries (cut_entry known)

-- the names of known entries that are gone
abbrev pub gone_text : (entries known : List (List ℕ)) → List ℕ
gone_text entries known = flat_map (gone_of entries) known

-- a text is one of these
unfoldable pub is_among : List (List ℕ) → List ℕ → Bool
is_among texts text = list_any (λ one. bytes_eq one text) texts

-- an entry before a blank, unless it is known
unfoldable pub news_of : (known : List (List ℕ)) → (images : Bool) → (entry : List ℕ) → List ℕ
news_of known images entry = if is_among known entry then [] else entry_text images entry ++ codes " "

-- the entries that aren't known, each before a blank
abbrev pub news_text : (known : List (List ℕ)) → (images : Bool) → List (List ℕ) → List ℕ
news_text known images entries = flat_map (news_of known images) entries

-- ** what is to run

-- the text of a tree has braces
abbrev pub is_braced : Node cmd → Bool
is_braced (t.Brace body) = true
is_braced _ = false

-- the text of a tree in braces, which some have already
abbrev pub in_braces : Node cmd → (text : List ℕ) → List ℕ
in_braces tree text = if is_braced tree then text else codes "{" ++ (text ++ codes "}")

-- the text of a tree, in braces; one with a here document inside has none
abbrev pub text_of : Node cmd → Option (List ℕ)
text_of tree = if has_here tree then None else Some (in_braces tree (printed tree))

-- the text of a tree that was read
abbrev pub text_read : Result (Node cmd) ImageFault → Option (List ℕ)
text_read (Ok tree) = text_of tree
text_read (Err fault) = None

-- the text of the tree of a spelling, if there is one
abbrev pub spelling_text : Option (List ℕ) → Option (List ℕ)
spelling_text None = None
spelling_text (Some spelling) = text_read (read_spelling spelling)

-- the text of the tree of an image in one piece
unfoldable pub tree_text : (image : List ℕ) → Option (List ℕ)
tree_text image = spelling_text (past (codes "rc1;") image)

-- `-e`, where a command that fails ends the shell
abbrev pub strict_text : Bool → List ℕ
strict_text true = codes "-e "
strict_text false = []

-- the shell itself, with its arguments as they are
abbrev pub shell_words : List (List ℕ) → List ℕ
shell_words args = codes "the shell" ++ words_text args

-- what a shell is to run, and its arguments; or its arguments as they are, if what it is to run has no text
abbrev pub piece_text : (args : List (List ℕ)) → (strict : Bool) → Option (List ℕ) → (words : List (List ℕ)) → List ℕ
piece_text args strict None words = shell_words args
piece_text args strict (Some text) words =
    strict_text strict ++ (visible_text text ++ words_text words)

-- by the words of the image and those after it
abbrev pub pieces_text : (args : List (List ℕ)) → (strict : Bool) → List (List ℕ) → List ℕ
pieces_text args strict [] = shell_words args
pieces_text args strict (image ∷ words) = piece_text args strict (tree_text image) words

-- by the option and these words, if they are there
abbrev pub shell_by : (args : List (List ℕ)) → Option (Bool × List (List ℕ)) → List ℕ
shell_by args None = shell_words args
shell_by args (Some piece) = pieces_text args piece.0 piece.1

-- what a shell is to run
unfoldable pub shell_text : (images : Bool) → (args : List (List ℕ)) → List ℕ
shell_text images args = if images then shell_words args else shell_by args (options args)

-- what is to run: a program or a shell
unfoldable pub command_text : (images : Bool) → (program : Option (List ℕ)) → (args : List (List ℕ)) → List ℕ
command_text images None args = shell_text images args
command_text images (Some path) args = word_text path ++ words_text args

-- ** the descriptors

-- a descriptor that isn't the shell's own of the same number
unfoldable pub redirection : (opening copying : List ℕ) → (number : ℕ) → Slot → List ℕ
redirection opening copying number (Own n) =
    if n == number then [] else copying ++ (decimal n ++ codes "]")
redirection opening copying number (To h) = opening ++ (codes "file " ++ decimal h.0)

-- the descriptors that are redirected
abbrev pub redirections : Slots → List ℕ
redirections slots =
    redirection (codes " <") (codes " <[0=") 0 slots.input
    ++ (redirection (codes " >") (codes " >[1=") 1 slots.output
    ++ redirection (codes " >[2]") (codes " >[2=") 2 slots.errors)

-- ** all of it

-- a launch, with the names that were known and are gone, and the entries of its environment that aren't known
unfoldable pub start_text : (known : List (List ℕ)) → (images : Bool) → Launch → List ℕ
start_text known images launch =
    codes "start " ++ (gone_text launch.entries known ++ (news_text known images launch.entries
    ++ (command_text images launch.program launch.args ++ redirections launch.slots)))
