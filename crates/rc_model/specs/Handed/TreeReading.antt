-- Reading a tree from left to right, up to the first fault.
use Rattle.std.specs.Prelude.{ℕ, zero, suc, nat_lt, nat_le, length, take, drop, List, [], ◌∷◌, Bool, true, false, ◌&&◌}
use Rattle.std.specs.Prelude.{◌==◌, if◌then◌else◌, Result, Ok, Err, codes}
use Rattle.rc_model.specs.Run.Numbers.{is_digit, digits_value, greatest_number}
pub use Rattle.rc_model.specs.Syntax.Results.{◌>>=◌}
use Rattle.rc_model.specs.Syntax.Text.{begins_with}
use Rattle.rc_model.specs.Run.Calls.{Read, Write, Append}
use Rattle.rc_model.specs.Syntax.Tree.{Sort, Node, Many, cmd, arg, item, pair, redir, stage, link, branch, piece, none}
use Rattle.rc_model.specs.Syntax.Tree.{more, And, Or}
use Rattle.rc_model.specs.Syntax.Tree as t
use Rattle.rc_model.specs.Syntax.WellFormed.{has_text}
use Rattle.rc_model.specs.Handed.TreeSpelling.{is_numeral, is_text}
pub use Rattle.rc_model.specs.declared.fault.ImageFault.{ImageFault}
pub use Rattle.rc_model.specs.declared.fault.ImageFault.TheVariants.{BadTag, BadLength, Trailing, TooDeep, Version}
use Rattle.rc_model.specs.declared.limits.TheConstants.{MOST_LEVELS, MOST_STAGES}

-- a reader returns what it reads at the start of a text, and the rest of the text
abbrev pub Reader : Type 0 → Type 0
Reader X = List ℕ → Result (X × List ℕ) ImageFault

-- what is read, passed to a function
abbrev pub made : {X Y : Type 0} → (X → Y) → Reader X → Reader Y
made f r bytes = r bytes >>= λ x. Ok (f x.0, x.1)

-- two things, one after the other
abbrev pub both : {X Y : Type 0} → Reader X → Reader Y → Reader (X × Y)
both r q bytes = r bytes >>= λ x. q x.1 >>= λ y. Ok ((x.0, y.0), y.1)

-- a thing that passes a test
abbrev pub tested : {X : Type 0} → (X → Bool) → Reader X → Reader X
tested test r bytes = r bytes >>= λ x. if test x.0 then Ok x else Err BadLength

-- the reader for a byte
abbrev pub chosen : {X : Type 0} → List (ℕ × Reader X) → ℕ → Reader X
chosen [] b rest = Err BadTag
chosen (row ∷ rows) b rest = if b == row.0 then row.1 rest else chosen rows b rest

-- a byte, and what its reader reads
abbrev pub tagged : {X : Type 0} → List (ℕ × Reader X) → Reader X
tagged rows [] = Err BadTag
tagged rows (b ∷ rest) = chosen rows b rest

-- a value, without reading anything
abbrev pub given : {X : Type 0} → X → Reader X
given x bytes = Ok (x, bytes)

-- the digits at the front
abbrev pub digit_run : List ℕ → List ℕ
digit_run [] = []
digit_run (b ∷ bs) = if is_digit b then b ∷ digit_run bs else []

-- the text after its leading digits
abbrev pub past_digits : List ℕ → List ℕ
past_digits [] = []
past_digits (b ∷ bs) = if is_digit b then past_digits bs else b ∷ bs

-- whether digits are a number in range
abbrev pub is_count : List ℕ → Bool
is_count digits = is_numeral digits && nat_le (digits_value 0 digits) greatest_number

-- a number, if the next byte is this mark
abbrev pub marked : ℕ → ℕ → Reader ℕ
marked mark n [] = Err BadLength
marked mark n (b ∷ rest) = if b == mark then Ok (n, rest) else Err BadLength

-- a number and a mark
abbrev pub count_at : ℕ → Reader ℕ
count_at mark bytes =
    if is_count (digit_run bytes) then marked mark (digits_value 0 (digit_run bytes)) (past_digits bytes)
    else Err BadLength

-- a given number of bytes, which are a text
abbrev pub bytes_at : ℕ → Reader (List ℕ)
bytes_at n bytes =
    if nat_le n (length bytes) && is_text (take n bytes) then Ok (take n bytes, drop n bytes) else Err BadLength

-- a text, after its length
abbrev pub text_at : Reader (List ℕ)
text_at bytes = count_at 58 bytes >>= λ n. bytes_at n.0 n.1

-- a given number of nodes
abbrev pub nodes_at : {s : Sort} → Reader (Node s) → ℕ → Reader (Many s)
nodes_at r zero bytes = Ok (none, bytes)
nodes_at r (suc n) bytes = r bytes >>= λ x. nodes_at r n x.1 >>= λ y. Ok (more x.0 y.0, y.1)

-- a number that passes a test, and a given number of nodes
abbrev pub listed : {s : Sort} → (ℕ → Bool) → Reader (Node s) → Reader (Many s)
listed test r bytes = tested test (count_at 44) bytes >>= λ n. nodes_at r n.0 n.1

-- the numbers of the two outputs
abbrev pub output_rows : List (ℕ × Reader ℕ)
output_rows = (49, given 1) ∷ (50, given 2) ∷ []

-- `1` or `2`
abbrev pub output_at : Reader ℕ
output_at = tagged output_rows

-- `1` followed by `2`, and `2` followed by `1`
abbrev pub crossing_rows : List (ℕ × Reader (ℕ × ℕ))
crossing_rows = (49, tagged ((50, given (1, 2)) ∷ [])) ∷ (50, tagged ((49, given (2, 1)) ∷ [])) ∷ []

-- `12` or `21`
abbrev pub crossing_at : Reader (ℕ × ℕ)
crossing_at = tagged crossing_rows

-- a list has any number of nodes
abbrev pub any : ℕ → Bool
any n = true

-- a list has at least one node
abbrev pub some : ℕ → Bool
some n = nat_lt 0 n

-- a list has at least two nodes
abbrev pub several : ℕ → Bool
several n = nat_lt 1 n

-- a list has 1 to 63 nodes
abbrev pub few : ℕ → Bool
few n = nat_lt 0 n && nat_lt n MOST_STAGES

-- an item of a sequence, by its mark, given the reader of commands
abbrev pub item_rows : Reader (Node cmd) → List (ℕ × Reader (Node item))
item_rows c = (59, made (λ x. t.Item x false) c) ∷ (38, made (λ x. t.Item x true) c) ∷ []

-- an item of a sequence
abbrev pub item_at : Reader (Node cmd) → Reader (Node item)
item_at c = tagged (item_rows c)

-- an assignment
abbrev pub pair_at : Reader (Node arg) → Reader (Node pair)
pair_at a = made (λ x. t.Pair x.0 x.1) (both a a)

-- a stage: the descriptor that goes into its pipe, and then its command
abbrev pub stage_at : Reader (Node cmd) → Reader (Node stage)
stage_at c = made (λ x. t.Stage x.1 x.0) (both output_at c)

-- an operand after `&&` or `||`, by its mark
abbrev pub link_rows : Reader (Node cmd) → List (ℕ × Reader (Node link))
link_rows c = (38, made (t.Link And) c) ∷ (124, made (t.Link Or) c) ∷ []

-- an operand after `&&` or `||`
abbrev pub link_at : Reader (Node cmd) → Reader (Node link)
link_at c = tagged (link_rows c)

-- a branch: its patterns and its body
abbrev pub branch_at : Reader (Node cmd) → Reader (Node arg) → Reader (Node branch)
branch_at c a = made (λ x. t.Branch x.0 x.1) (both (listed any a) c)

-- a piece of a here document, by its mark
abbrev pub piece_rows : List (ℕ × Reader (Node piece))
piece_rows = (116, made t.Text text_at) ∷ (118, made t.Name text_at) ∷ []

-- a piece of a here document
abbrev pub piece_at : Reader (Node piece)
piece_at = tagged piece_rows

-- a redirection, by its mark
abbrev pub redir_rows : Reader (Node arg) → List (ℕ × Reader (Node redir))
redir_rows a =
    (60, made (t.Open Read 0) a)
    ∷ (62, made (λ x. t.Open Write x.0 x.1) (both output_at a))
    ∷ (43, made (λ x. t.Open Append x.0 x.1) (both output_at a))
    ∷ (61, made (λ x. t.Copy x.0 x.1) crossing_at)
    ∷ (104, made t.Here (listed any piece_at))
    ∷ []

-- a redirection
abbrev pub redir_at : Reader (Node arg) → Reader (Node redir)
redir_at a = tagged (redir_rows a)

-- a command, by its tag
abbrev pub cmd_rows : Reader (Node cmd) → Reader (Node arg) → List (ℕ × Reader (Node cmd))
cmd_rows c a =
    (101, given t.Empty)
    ∷ (115, made t.Seq (listed any (item_at c)))
    ∷ (99, made t.Simple (listed some a))
    ∷ (61, made (λ x. t.Assign x.0 x.1) (both (listed some (pair_at a)) c))
    ∷ (114, made (λ x. t.Redirect x.0 x.1) (both (listed some (redir_at a)) c))
    ∷ (112, made (λ x. t.Pipeline x.0 x.1) (both (listed few (stage_at c)) c))
    ∷ (97, made (λ x. t.AndOr x.0 x.1) (both c (listed some (link_at c))))
    ∷ (33, made t.Not c)
    ∷ (64, made t.Subshell c)
    ∷ (105, made (λ x. t.If x.0 x.1) (both c c))
    ∷ (110, made t.IfNot c)
    ∷ (119, made (λ x. t.While x.0 x.1) (both c c))
    ∷ (102, made (λ x. t.ForAll x.0 x.1) (both a c))
    ∷ (70, made (λ x. t.For x.0 x.1.0 x.1.1) (both a (both (listed any a) c)))
    ∷ (83, made (λ x. t.Switch x.0 x.1) (both a (listed any (branch_at c a))))
    ∷ (126, made (λ x. t.Match x.0 x.1) (both a (listed any a)))
    ∷ (100, made (λ x. t.Define x.0 x.1) (both (listed some a) c))
    ∷ (117, made t.Undefine (listed some a))
    ∷ (98, made t.Brace c)
    ∷ []

-- an argument, by its tag
abbrev pub arg_rows : Reader (Node cmd) → Reader (Node arg) → List (ℕ × Reader (Node arg))
arg_rows c a =
    (119, made (λ x. t.Lit x false) (tested has_text text_at))
    ∷ (113, made (λ x. t.Lit x true) text_at)
    ∷ (94, made t.Concat (listed several a))
    ∷ (40, made t.Paren (listed any a))
    ∷ (36, made t.Var a)
    ∷ (35, made t.Count a)
    ∷ (34, made t.Flat a)
    ∷ (91, made (λ x. t.Sub x.0 x.1) (both a (listed any a)))
    ∷ (96, made t.Back c)
    ∷ []

-- a node with at most a given number of commands and arguments on one path from it
unfoldable mutual
  -- a command of at most this depth
  pub cmd_at : ℕ → Reader (Node cmd)
  cmd_at zero bytes = Err TooDeep
  cmd_at (suc d) bytes = tagged (cmd_rows (cmd_at d) (arg_at d)) bytes

  -- an argument of at most this depth
  pub arg_at : ℕ → Reader (Node arg)
  arg_at zero bytes = Err TooDeep
  arg_at (suc d) bytes = tagged (arg_rows (cmd_at d) (arg_at d)) bytes

-- nothing follows the tree
abbrev pub whole : {X : Type 0} → Result (X × List ℕ) ImageFault → Result X ImageFault
whole (Ok x) = if length x.1 == 0 then Ok x.0 else Err Trailing
whole (Err e) = Err e

-- whether the digits of a version are followed by `;`
abbrev pub other_version : List ℕ → Bool
other_version [] = false
other_version (b ∷ bs) = b == 59

-- the fault of a text that doesn't begin with `rc1;`: `rc`, another number and `;` are another version
abbrev pub beginning_fault : List ℕ → ImageFault
beginning_fault text =
    if begins_with (codes "rc") text &&
    (is_count (digit_run (drop 2 text)) && other_version (past_digits (drop 2 text)))
    then Version
    else BadTag

-- the tree of a spelling
abbrev pub read_spelling : List ℕ → Result (Node cmd) ImageFault
read_spelling text = whole (cmd_at MOST_LEVELS text)

-- the tree of a text
abbrev pub read_tree : List ℕ → Result (Node cmd) ImageFault
read_tree text = if begins_with (codes "rc1;") text then read_spelling (drop 4 text) else Err (beginning_fault text)
