-- Reading step by step, as the program does: each node by its mark, and lists after what was read.
use Rattle.std.specs.Prelude.{ℕ, zero, suc, nat_le, nat_lt, ◌==◌, if◌then◌else◌, List, [], ◌∷◌, Bool, true, false}
use Rattle.std.specs.Prelude.{Ok, Err}
use Rattle.rc_model.specs.declared.syntax.Logic.{Logic}
use Rattle.rc_model.specs.declared.syntax.Logic.TheVariants.{And, Or}
use Rattle.rc_model.specs.Syntax.Tree.{Node, Many, none, snoc}
use Rattle.rc_model.specs.Syntax.Tree as t
use Rattle.rc_model.specs.Handed.TreeReading.{Reader, ◌>>=◌, digit_run, past_digits}
use Rattle.rc_model.specs.Handed.TreeReading.{count_at, bytes_at, cmd_at, arg_at}
use Rattle.rc_model.specs.Handed.TreeSpelling.{is_numeral}
use Rattle.rc_model.specs.Run.Numbers.{is_digit, digits_value}
use Rattle.rc_model.specs.Syntax.WellFormed.{has_text}
use Rattle.rc_model.specs.declared.fault.ImageFault.TheVariants.{BadLength, BadTag}
use Rattle.rc_model.specs.declared.limits.TheConstants.{MOST_STAGES}

-- the next byte
unfoldable pub first_by : Reader ℕ
first_by [] = Err BadTag
first_by (b ∷ rest) = Ok (b, rest)

-- whether a digit is next
unfoldable pub digit_here : List ℕ → Bool
digit_here [] = false
digit_here (b ∷ rest) = is_digit b

-- whether a number is next
unfoldable pub number_here : List ℕ → Bool
number_here bytes = is_numeral (digit_run bytes)

-- the value of the digits that are next, after digits of value n
unfoldable pub value_from : ℕ → List ℕ → ℕ
value_from n bytes = digits_value n (digit_run bytes)

-- what follows the digits that are next
unfoldable pub after_digits : List ℕ → List ℕ
after_digits bytes = past_digits bytes

-- a number and a mark
unfoldable pub number_by : (mark : ℕ) → Reader ℕ
number_by mark bytes = count_at mark bytes

-- a given number of bytes, which are a text
unfoldable pub string_by : ℕ → Reader (List ℕ)
string_by n bytes = bytes_at n bytes

-- a text, after its length
unfoldable pub text_by : Reader (List ℕ)
text_by bytes = number_by 58 bytes >>= λ n. string_by n.0 n.1

-- the length of a list, which is at least this
unfoldable pub count_from : (least : ℕ) → Reader ℕ
count_from least bytes = number_by 44 bytes >>= λ n. if nat_le least n.0 then Ok n else Err BadLength

-- the number of stages before the last
unfoldable pub stage_count : Reader ℕ
stage_count bytes = count_from 1 bytes >>= λ n. if nat_lt n.0 MOST_STAGES then Ok n else Err BadLength

-- a given number of nodes, after those that were read
unfoldable pub nodes_from : {s : t.Sort} → Reader (Node s) → ℕ → Many s → Reader (Many s)
nodes_from r zero front bytes = Ok (front, bytes)
nodes_from r (suc n) front bytes = r bytes >>= λ x. nodes_from r n (snoc front x.0) x.1

-- a list whose count is read in this way
unfoldable pub list_by : {s : t.Sort} → Reader ℕ → Reader (Node s) → Reader (Many s)
list_by c r bytes = c bytes >>= λ n. nodes_from r n.0 none n.1

-- the text of an unquoted word, which isn't empty
unfoldable pub word_by : Reader (Node t.arg)
word_by bytes = text_by bytes >>= λ x. if has_text x.0 then Ok (t.Lit x.0 false, x.1) else Err BadLength

-- the text of a quoted word
unfoldable pub quoted_by : Reader (Node t.arg)
quoted_by bytes = text_by bytes >>= λ x. Ok (t.Lit x.0 true, x.1)

-- this byte and no other
unfoldable pub only_by : (mark : ℕ) → Reader ℕ
only_by mark bytes = first_by bytes >>= λ x. if x.0 == mark then Ok x else Err BadTag

-- the two descriptors of a copy, which differ
unfoldable pub copy_by : Reader (Node t.redir)
copy_by bytes = first_by bytes >>= λ x.
    if x.0 == 49 then (only_by 50 x.1 >>= λ y. Ok (t.Copy 1 2, y.1))
    else if x.0 == 50 then (only_by 49 x.1 >>= λ y. Ok (t.Copy 2 1, y.1))
    else Err BadTag

-- a piece of a here document
unfoldable pub piece_by : Reader (Node t.piece)
piece_by bytes = first_by bytes >>= λ x.
    if x.0 == 116 then (text_by x.1 >>= λ y. Ok (t.Text y.0, y.1))
    else if x.0 == 118 then (text_by x.1 >>= λ y. Ok (t.Name y.0, y.1))
    else Err BadTag

-- a here document
unfoldable pub here_by : Reader (Node t.redir)
here_by bytes = list_by (count_from 0) piece_by bytes >>= λ x. Ok (t.Here x.0, x.1)

-- the descriptor that a command writes to
unfoldable pub slot_by : Reader ℕ
slot_by bytes = first_by bytes >>= λ x. if x.0 == 49 then Ok (1, x.1) else if x.0 == 50 then Ok (2, x.1) else Err BadTag

-- the mark before a command in a list
unfoldable pub background_by : Reader Bool
background_by bytes = first_by bytes >>= λ x.
    if x.0 == 59 then Ok (false, x.1) else if x.0 == 38 then Ok (true, x.1) else Err BadTag

-- the mark of an operand: how it is joined to those before it
unfoldable pub logic_by : Reader Logic
logic_by bytes = first_by bytes >>= λ x.
    if x.0 == 38 then Ok (And, x.1) else if x.0 == 124 then Ok (Or, x.1) else Err BadTag

-- arguments of this level, at least this many
unfoldable pub args_by : (least d : ℕ) → Reader (Many t.arg)
args_by least d bytes = list_by (count_from least) (arg_at d) bytes

-- an item
unfoldable pub item_by : ℕ → Reader (Node t.item)
item_by d bytes = background_by bytes >>= λ b. cmd_at d b.1 >>= λ x. Ok (t.Item x.0 b.0, x.1)

-- a name and its value
unfoldable pub pair_by : ℕ → Reader (Node t.pair)
pair_by d bytes = arg_at d bytes >>= λ x. arg_at d x.1 >>= λ y. Ok (t.Pair x.0 y.0, y.1)

-- a stage
unfoldable pub stage_by : ℕ → Reader (Node t.stage)
stage_by d bytes = slot_by bytes >>= λ s. cmd_at d s.1 >>= λ x. Ok (t.Stage x.0 s.0, x.1)

-- an operand after the first one
unfoldable pub link_by : ℕ → Reader (Node t.link)
link_by d bytes = logic_by bytes >>= λ l. cmd_at d l.1 >>= λ x. Ok (t.Link l.0 x.0, x.1)

-- a branch of a `switch`
unfoldable pub branch_by : ℕ → Reader (Node t.branch)
branch_by d bytes = args_by 0 d bytes >>= λ ps. cmd_at d ps.1 >>= λ x. Ok (t.Branch ps.0 x.0, x.1)
