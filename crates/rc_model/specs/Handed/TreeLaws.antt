-- The laws of trees and their spellings.
use Rattle.std.specs.Prelude.{◌≡◌, ℕ, List, Ok, IsTrue, ◌↔◌}
use Rattle.rc_model.specs.Run.Numbers.{greatest_number}
use Rattle.rc_model.specs.Syntax.Tree.{Node, cmd}
use Rattle.rc_model.specs.Handed.Image.{image}
use Rattle.rc_model.specs.Syntax.WellFormed.{well_formed}
use Rattle.rc_model.specs.Handed.TreeSpelling.{SpellsImage, has_characters, within}
use Rattle.rc_model.specs.Handed.TreeReading.{read_tree}

-- a tree has no spelling but its image
abbrev pub OneSpelling : Type 0
OneSpelling = (c : Node cmd) (text : List ℕ) → SpellsImage c text → text ≡ image c

-- and its image is one if its numbers are in range
abbrev pub HasSpelling : Type 0
HasSpelling =
    (c : Node cmd) → IsTrue (well_formed c) → IsTrue (has_characters c) → IsTrue (within greatest_number c) →
    SpellsImage c (image c)

-- a text spells at most one tree
abbrev pub OneTree : Type 0
OneTree = (c d : Node cmd) (text : List ℕ) → SpellsImage c text → SpellsImage d text → c ≡ d

-- exactly the spellings of well formed trees are read
abbrev pub ReadsSpellings : Type 0
ReadsSpellings =
    (text : List ℕ) (c : Node cmd) → (read_tree text ≡ Ok c) ↔ (SpellsImage c text × IsTrue (well_formed c))

-- what was written reads back
abbrev pub TreesReadBack : Type 0
TreesReadBack =
    (c : Node cmd) → IsTrue (well_formed c) → IsTrue (has_characters c) → IsTrue (within greatest_number c) →
    read_tree (image c) ≡ Ok c
