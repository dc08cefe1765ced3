-- The bodies that functions keep: trees, and images that have one.
use Rattle.std.specs.Prelude.{◌≡◌, ℕ, List, Ok}
use Rattle.rc_model.specs.Handed.Image.{image}
use Rattle.rc_model.specs.Handed.TreeReading.{read_tree}
use Rattle.rc_model.specs.Syntax.Tree.{Node, cmd}
use Rattle.rc_spelling.specs.Rests.{tree_or_empty}
use Rattle.rc_tree.specs.View.{cmd_tree}
use Rattle.rc_scope.specs.KeptEntries.{kept_text}
use Rattle.rc_scope.specs.declared.function_bodies.Body.{Body}
use Rattle.rc_scope.specs.declared.function_bodies.Body.TheVariants.{Tree, Image}
use Rattle.rc_scope.specs.declared.kept_entries.KeptEntry.{KeptEntry}

-- the tree that an image is read as, if it has one
abbrev pub image_tree : List ℕ → Node cmd
image_tree text = tree_or_empty (read_tree text)

-- the image has a tree, whose image it is
abbrev pub IsImage : KeptEntry → Type 0
IsImage kept = let text = kept_text kept in (read_tree text ≡ Ok (image_tree text)) × (text ≡ image (image_tree text))

-- the tree of a body
abbrev pub body_tree : Body → Node cmd
body_tree (Tree tree) = cmd_tree tree.value
body_tree (Image kept) = image_tree (kept_text kept)

-- an image that is kept for a body has a tree
abbrev pub IsBody : Body → Type 0
IsBody (Tree tree) = Unit {0}
IsBody (Image kept) = IsImage kept
