-- The parts that have a function of their own in the compiler.
use Rattle.std.specs.Prelude.{ℕ, Bool, true, false, codes}
use Rattle.rc_model.specs.Syntax.Tree.{Node, Many, cmd, arg, pair, redir, branch, Pair, Branch, none, more}
use Rattle.rc_model.specs.Syntax.Tree.{has_no_items}
use Rattle.rc_model.specs.Syntax.Tree as tree
use Rattle.rc_model.specs.Code.Layout.{Nil, Word, Value, Glob, For, Next, Open, Copy, Here, Jump, Case, Subject}
use Rattle.rc_model.specs.Code.Layout.{KeptPieces, Part, Nothing, Do, Keep, Past, Loop, ◌⨾◌}
use Rattle.rc_model.specs.Code.Layout.{assign_by, condition_code, cmd_code, arg_code, args_code}

-- a list of words
abbrev pub list_code : Many arg → Part
list_code words = Do Nil ⨾ args_code words

-- the list and the name of a loop over `$*`
abbrev pub star_code : (name : Node arg) → Part
star_code name = Do (Word (codes "*") false) ⨾ Do Value ⨾ arg_code name

-- the list and the name of a loop over words
abbrev pub members_code : Many arg → (name : Node arg) → Part
members_code words name = list_code words ⨾ Do Glob ⨾ arg_code name

-- the turns of a loop over a list
abbrev pub turns_code : (body : Part) → Part
turns_code body = Do For ⨾ Loop Nothing Next body

-- the condition of a `while`
abbrev pub test_code : (test : Node cmd) → Part
test_code test = condition_code (has_no_items test) (cmd_code test true)

-- the word of a `switch` or a match
abbrev pub subject_code : Node arg → Part
subject_code word = arg_code word ⨾ Do Subject

-- a match
abbrev pub match_code : Node arg → Many arg → Part
match_code word patterns = cmd_code (tree.Match word patterns) false

-- a definition of functions
abbrev pub define_code : Many arg → Node cmd → Part
define_code names body = cmd_code (tree.Define names body) false

-- a removal of functions
abbrev pub undefine_code : Many arg → Part
undefine_code names = cmd_code (tree.Undefine names) false

-- a subshell
abbrev pub subshell_code : Node cmd → Part
subshell_code body = cmd_code (tree.Subshell body) false

-- an assignment, without the code after it
abbrev pub pair_code : Node pair → (bare : Bool) → Part
pair_code (Pair name value) bare = arg_code name ⨾ arg_code value ⨾ Do Glob ⨾ Do (assign_by bare)

-- assignments, without the code after them
abbrev pub pairs_alone : Many pair → (bare : Bool) → Part
pairs_alone none bare = Nothing
pairs_alone (more x rest) bare = pair_code x bare ⨾ pairs_alone rest bare

-- a redirection, without the code after it
abbrev pub redir_code : Node redir → Part
redir_code (tree.Open mode slot path) = arg_code path ⨾ Do Glob ⨾ Do (Open mode slot)
redir_code (tree.Copy to from) = Do (Copy to from)
redir_code (tree.Here pieces) = Keep Here (KeptPieces pieces)

-- redirections, without the code after them
abbrev pub redirs_alone : Many redir → Part
redirs_alone none = Nothing
redirs_alone (more x rest) = redir_code x ⨾ redirs_alone rest

-- a branch of a `switch` that ends with a jump to a known place
abbrev pub branch_to : Node branch → (guarded : Bool) → (p : ℕ) → Part
branch_to (Branch patterns body) g p = list_code patterns ⨾ Past Case (cmd_code body g ⨾ Do (Jump p))

-- branches of a `switch` that end with jumps to a known place
abbrev pub branches_to : Many branch → (guarded : Bool) → (p : ℕ) → Part
branches_to none g p = Nothing
branches_to (more b rest) g p = branch_to b g p ⨾ branches_to rest g p
