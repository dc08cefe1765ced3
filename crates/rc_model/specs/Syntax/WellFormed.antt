-- The depth of a tree, and which trees are well formed.
use Rattle.std.specs.Prelude.{ℕ, suc, max, nat_lt, nat_le, ◌==◌, Bool, true, false, ◌&&◌, ◌||◌, List, [], ◌∷◌}
use Rattle.rc_model.specs.Run.Calls.{Mode, Read, Write, Append}
use Rattle.rc_model.specs.Syntax.Text.{without_zero}
use Rattle.rc_model.specs.Syntax.Tree.{Sort, Node, Many, none, more, count}
use Rattle.rc_model.specs.Syntax.Tree as t
use Rattle.rc_model.specs.declared.limits.TheConstants.{MOST_LEVELS, MOST_STAGES}

-- the greatest number of commands and arguments on one path from the root
abbrev mutual
  -- the number for a node
  pub depth : {s : Sort} → Node s → ℕ
  depth t.Empty = 1
  depth (t.Seq items) = suc (depths items)
  depth (t.Simple words) = suc (depths words)
  depth (t.Assign pairs body) = suc (max (depths pairs) (depth body))
  depth (t.Redirect redirs body) = suc (max (depths redirs) (depth body))
  depth (t.Pipeline stages last) = suc (max (depths stages) (depth last))
  depth (t.AndOr first links) = suc (max (depth first) (depths links))
  depth (t.Not body) = suc (depth body)
  depth (t.Subshell body) = suc (depth body)
  depth (t.If condition body) = suc (max (depth condition) (depth body))
  depth (t.IfNot body) = suc (depth body)
  depth (t.While condition body) = suc (max (depth condition) (depth body))
  depth (t.ForAll name body) = suc (max (depth name) (depth body))
  depth (t.For name words body) = suc (max (depth name) (max (depths words) (depth body)))
  depth (t.Switch subject branches) = suc (max (depth subject) (depths branches))
  depth (t.Match subject patterns) = suc (max (depth subject) (depths patterns))
  depth (t.Define names body) = suc (max (depths names) (depth body))
  depth (t.Undefine names) = suc (depths names)
  depth (t.Brace body) = suc (depth body)
  depth (t.Lit text quoted) = 1
  depth (t.Concat parts) = suc (depths parts)
  depth (t.Paren words) = suc (depths words)
  depth (t.Var name) = suc (depth name)
  depth (t.Count name) = suc (depth name)
  depth (t.Flat name) = suc (depth name)
  depth (t.Sub name subscripts) = suc (max (depth name) (depths subscripts))
  depth (t.Back body) = suc (depth body)
  depth (t.Item body background) = depth body
  depth (t.Pair name value) = max (depth name) (depth value)
  depth (t.Stage body slot) = depth body
  depth (t.Link logic body) = depth body
  depth (t.Branch patterns body) = max (depths patterns) (depth body)
  depth (t.Open mode slot path) = depth path
  depth (t.Copy to from) = 0
  depth (t.Here pieces) = 0
  depth (t.Text text) = 0
  depth (t.Name text) = 0

  -- the greatest number for several nodes
  pub depths : {s : Sort} → Many s → ℕ
  depths none = 0
  depths (more n ns) = max (depth n) (depths ns)

-- the greatest number of stages of one pipeline
abbrev mutual
  -- the number inside a node
  pub most_stages : {s : Sort} → Node s → ℕ
  most_stages t.Empty = 0
  most_stages (t.Seq items) = most_stages_in items
  most_stages (t.Simple words) = most_stages_in words
  most_stages (t.Assign pairs body) = max (most_stages_in pairs) (most_stages body)
  most_stages (t.Redirect redirs body) = max (most_stages_in redirs) (most_stages body)
  most_stages (t.Pipeline stages last) = max (suc (count stages)) (max (most_stages_in stages) (most_stages last))
  most_stages (t.AndOr first links) = max (most_stages first) (most_stages_in links)
  most_stages (t.Not body) = most_stages body
  most_stages (t.Subshell body) = most_stages body
  most_stages (t.If condition body) = max (most_stages condition) (most_stages body)
  most_stages (t.IfNot body) = most_stages body
  most_stages (t.While condition body) = max (most_stages condition) (most_stages body)
  most_stages (t.ForAll name body) = max (most_stages name) (most_stages body)
  most_stages (t.For name words body) = max (most_stages name) (max (most_stages_in words) (most_stages body))
  most_stages (t.Switch subject branches) = max (most_stages subject) (most_stages_in branches)
  most_stages (t.Match subject patterns) = max (most_stages subject) (most_stages_in patterns)
  most_stages (t.Define names body) = max (most_stages_in names) (most_stages body)
  most_stages (t.Undefine names) = most_stages_in names
  most_stages (t.Brace body) = most_stages body
  most_stages (t.Lit text quoted) = 0
  most_stages (t.Concat parts) = most_stages_in parts
  most_stages (t.Paren words) = most_stages_in words
  most_stages (t.Var name) = most_stages name
  most_stages (t.Count name) = most_stages name
  most_stages (t.Flat name) = most_stages name
  most_stages (t.Sub name subscripts) = max (most_stages name) (most_stages_in subscripts)
  most_stages (t.Back body) = most_stages body
  most_stages (t.Item body background) = most_stages body
  most_stages (t.Pair name value) = max (most_stages name) (most_stages value)
  most_stages (t.Stage body slot) = most_stages body
  most_stages (t.Link logic body) = most_stages body
  most_stages (t.Branch patterns body) = max (most_stages_in patterns) (most_stages body)
  most_stages (t.Open mode slot path) = most_stages path
  most_stages (t.Copy to from) = 0
  most_stages (t.Here pieces) = 0
  most_stages (t.Text text) = 0
  most_stages (t.Name text) = 0

  -- the greatest number inside several nodes
  pub most_stages_in : {s : Sort} → Many s → ℕ
  most_stages_in none = 0
  most_stages_in (more n ns) = max (most_stages n) (most_stages_in ns)

-- a list of one or more
abbrev pub has_some : {s : Sort} → Many s → Bool
has_some ns = nat_lt 0 (count ns)

-- a list of two or more
abbrev pub has_several : {s : Sort} → Many s → Bool
has_several ns = nat_lt 1 (count ns)

-- a list of 1 to 63 stages
abbrev pub has_stages : {s : Sort} → Many s → Bool
has_stages ns = nat_lt 0 (count ns) && nat_lt (count ns) MOST_STAGES

-- the text isn't empty
abbrev pub has_text : List ℕ → Bool
has_text [] = false
has_text (b ∷ bs) = true

-- 1 is standard output and 2 is standard error
abbrev pub is_output : ℕ → Bool
is_output slot = (slot == 1) || (slot == 2)

-- a file opened for reading replaces descriptor 0, any other 1 or 2
abbrev pub opens : Mode → ℕ → Bool
opens Read slot = slot == 0
opens Write slot = is_output slot
opens Append slot = is_output slot

-- a copy makes one output the other
abbrev pub copies : ℕ → ℕ → Bool
copies to from = ((to == 1) && (from == 2)) || ((to == 2) && (from == 1))

-- sizes of lists, texts and descriptors are right in the whole tree
abbrev mutual
  -- they are right in a node
  pub is_sound : {s : Sort} → Node s → Bool
  is_sound t.Empty = true
  is_sound (t.Seq items) = are_sound items
  is_sound (t.Simple words) = has_some words && are_sound words
  is_sound (t.Assign pairs body) = has_some pairs && (are_sound pairs && is_sound body)
  is_sound (t.Redirect redirs body) = has_some redirs && (are_sound redirs && is_sound body)
  is_sound (t.Pipeline stages last) = has_stages stages && (are_sound stages && is_sound last)
  is_sound (t.AndOr first links) = has_some links && (is_sound first && are_sound links)
  is_sound (t.Not body) = is_sound body
  is_sound (t.Subshell body) = is_sound body
  is_sound (t.If condition body) = is_sound condition && is_sound body
  is_sound (t.IfNot body) = is_sound body
  is_sound (t.While condition body) = is_sound condition && is_sound body
  is_sound (t.ForAll name body) = is_sound name && is_sound body
  is_sound (t.For name words body) = is_sound name && (are_sound words && is_sound body)
  is_sound (t.Switch subject branches) = is_sound subject && are_sound branches
  is_sound (t.Match subject patterns) = is_sound subject && are_sound patterns
  is_sound (t.Define names body) = has_some names && (are_sound names && is_sound body)
  is_sound (t.Undefine names) = has_some names && are_sound names
  is_sound (t.Brace body) = is_sound body
  is_sound (t.Lit text quoted) = (quoted || has_text text) && without_zero text
  is_sound (t.Concat parts) = has_several parts && are_sound parts
  is_sound (t.Paren words) = are_sound words
  is_sound (t.Var name) = is_sound name
  is_sound (t.Count name) = is_sound name
  is_sound (t.Flat name) = is_sound name
  is_sound (t.Sub name subscripts) = is_sound name && are_sound subscripts
  is_sound (t.Back body) = is_sound body
  is_sound (t.Item body background) = is_sound body
  is_sound (t.Pair name value) = is_sound name && is_sound value
  is_sound (t.Stage body slot) = is_output slot && is_sound body
  is_sound (t.Link logic body) = is_sound body
  is_sound (t.Branch patterns body) = are_sound patterns && is_sound body
  is_sound (t.Open mode slot path) = opens mode slot && is_sound path
  is_sound (t.Copy to from) = copies to from
  is_sound (t.Here pieces) = are_sound pieces
  is_sound (t.Text text) = without_zero text
  is_sound (t.Name text) = without_zero text

  -- they are right in each of these nodes
  pub are_sound : {s : Sort} → Many s → Bool
  are_sound none = true
  are_sound (more n ns) = is_sound n && are_sound ns

-- a sound tree of depth at most 200
abbrev pub well_formed : Node t.cmd → Bool
well_formed c = is_sound c && nat_le (depth c) MOST_LEVELS
