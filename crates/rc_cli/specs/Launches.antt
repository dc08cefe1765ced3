-- What the program runs when a shell starts it: what the definitions read in the words and entries of the launch.
use Rattle.std.specs.Prelude.{◌≡◌, ◌↔◌, ℕ, List, Bool, Option, Some, None}
use Rattle.rc_model.specs.Handed.Arguments.{options, reads}
use Rattle.rc_model.specs.Run.State.{State}
use Rattle.rc_model.specs.Syntax.Tree.{Node, cmd}
use Rattle.rc_shell.specs.Executed.{IsRun, image_from}
use Rattle.rc_cli.specs.Requests.{Request, Source, Image, request_of}

-- whether the shell is strict, and the words of an image with `$*` after them, if the source is an image
abbrev pub image_options : Source → Bool → List (List ℕ) → Option (Bool × List (List ℕ))
image_options Image strict words = Some (strict, words)
image_options _ strict words = None

-- the same of a request, if there is one
abbrev pub options_asked : Option Request → Option (Bool × List (List ℕ))
options_asked None = None
options_asked (Some r) = image_options r.source r.strict r.arguments

-- a request for this tree and this state: it names an image, which denotes them with these entries
abbrev pub AsksFor : Option Request → (entries : List (List ℕ)) → Node cmd → State → Type 0
AsksFor None entries t s = ⊥
AsksFor (Some r) entries t s = (r.source ≡ Image) × IsRun (image_from r.strict r.arguments entries) t s

-- the program takes the words of a launch apart as the definitions do
abbrev pub OptionsAreAlike : Type 0
OptionsAreAlike = (words : List (List ℕ)) → options_asked (request_of words) ≡ options words

-- the tree and the state that the definitions read in words and entries are those that the program runs of them
abbrev pub LaunchesAreRun : Type 0
LaunchesAreRun =
    (words entries : List (List ℕ)) (t : Node cmd) (s : State) →
    (reads words entries ≡ Some (t, s)) ↔ AsksFor (request_of words) entries t s
