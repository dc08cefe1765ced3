-- The laws of parsing: the grammar and the descent, the round trip, and that each script is either accepted or refused.
use Rattle.std.specs.Prelude.{◌≡◌, ℕ, ◌<◌, ◌≤◌, ◌⊎◌, true, false, List, length, Ok, Err, IsUtf8}
use Rattle.rc_model.specs.Syntax.Tokens.{Lexeme, Token, Lexes}
use Rattle.rc_model.specs.Mirrors.Spelling.{AreSpelled}
use Rattle.rc_model.specs.Syntax.Tree.{Node}
use Rattle.rc_model.specs.Syntax.Tree as t
use Rattle.rc_model.specs.Syntax.WellFormed.{depth, most_stages, is_sound, well_formed}
use Rattle.rc_model.specs.Syntax.Printing.{has_here, printed}
use Rattle.rc_model.specs.Syntax.Faults.{SyntaxFault}
use Rattle.rc_model.specs.Syntax.Accepted.{lexemes, longest_script, IsRefused}
use Rattle.rc_model.specs.Syntax.Accepted as script
use Rattle.rc_model.specs.Syntax.Grammar.{HaveTree, HaveAcceptedTree}
use Rattle.rc_model.specs.Mirrors.Descent.{Unexpected, IfNot, TooDeep, TooManyStages, script_tree}
use Rattle.rc_model.specs.declared.limits.TheConstants.{MOST_LEVELS, MOST_STAGES}

-- what is found is the tree of an accepted script
abbrev pub FindsOnlyTrees : Type 0
FindsOnlyTrees =
    (levels : ℕ) (ts : List Lexeme) (tree : Node t.cmd) → script_tree levels ts ≡ Ok tree → HaveAcceptedTree ts tree

-- each tree of an accepted script is found
abbrev pub FindsEachTree : Type 0
FindsEachTree =
    (levels : ℕ) (ts : List Lexeme) (tree : Node t.cmd) → MOST_LEVELS ≤ levels → HaveAcceptedTree ts tree →
    script_tree levels ts ≡ Ok tree

-- an accepted script has no other tree
abbrev pub HasOneTree : Type 0
HasOneTree = (ts : List Lexeme) (tree other : Node t.cmd) → HaveAcceptedTree ts tree → HaveTree ts other → other ≡ tree

-- if a token is unexpected, or an `if not` is misplaced, there is no tree of any size
abbrev pub HasNoTree : Type 0
HasNoTree =
    (levels left : ℕ) (ts : List Lexeme) (tree : Node t.cmd) → (script_tree levels ts ≡ Err (Unexpected, left)) ⊎
    (script_tree levels ts ≡ Err (IfNot, left)) → HaveTree ts tree → ⊥

-- too many stages are found only if a pipeline has them
abbrev pub HasTooManyStages : Type 0
HasTooManyStages =
    (levels left : ℕ) (ts : List Lexeme) (tree : Node t.cmd) → script_tree levels ts ≡ Err (TooManyStages, left) →
    HaveTree ts tree → MOST_STAGES < most_stages tree

-- and too many levels only if the tree has them
abbrev pub IsTooDeep : Type 0
IsTooDeep =
    (levels left : ℕ) (ts : List Lexeme) (tree : Node t.cmd) → MOST_LEVELS ≤ levels →
    script_tree levels ts ≡ Err (TooDeep, left) → HaveTree ts tree → MOST_LEVELS < depth tree

-- a tree of spelled lexemes is sound, unless it has too many stages
abbrev pub HasSoundTrees : Type 0
HasSoundTrees =
    (ts : List Lexeme) (tree : Node t.cmd) → AreSpelled ts → HaveTree ts tree → most_stages tree ≤ MOST_STAGES →
    is_sound tree ≡ true

-- each well formed tree of a text is that of its own print, if it has no here document and the print isn't too long
abbrev pub RoundTrip : Type 0
RoundTrip =
    (text : List ℕ) (tokens : List Token) (tree : Node t.cmd) → IsUtf8 text → Lexes text (Ok tokens) →
    HaveTree (lexemes tokens) tree →
    well_formed tree ≡ true → has_here tree ≡ false → length (printed tree) ≤ longest_script →
    script.IsAccepted (printed tree) tree

-- the tree of an accepted script is well formed
abbrev pub AcceptedAreWellFormed : Type 0
AcceptedAreWellFormed = (text : List ℕ) (tree : Node t.cmd) → script.IsAccepted text tree → well_formed tree ≡ true

-- each script is accepted or refused
abbrev pub IsDecided : Type 0
IsDecided =
    (text : List ℕ) → ((tree : Node t.cmd) × script.IsAccepted text tree) ⊎
    ((fault : SyntaxFault) × IsRefused text fault)

-- and never both
abbrev pub IsNeverBoth : Type 0
IsNeverBoth =
    (text : List ℕ) (fault : SyntaxFault) (tree : Node t.cmd) → IsRefused text fault → script.IsAccepted text tree → ⊥
