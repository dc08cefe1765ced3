-- File names: what the words of a command expand to, and the calls that find it.
use Rattle.std.specs.Prelude.{ℕ, Bool, true, not, ◌&&◌, ◌||◌, ◌==◌, if◌then◌else◌, List, [], ◌∷◌, ◌++◌, length, codes}
use Rattle.std.specs.Prelude.{map, filter, Option, unwrap_or, is_some}
use Rattle.std.specs.List.{list_any, slice_split, join_with_byte}
use Rattle.std.specs.Str.{chars}
use Rattle.std.specs.BTreeMap.{insert_entry}
use Rattle.rc_model.specs.Syntax.Text.{text_cmp}
use Rattle.rc_model.specs.Syntax.Words.{Word, word_text, plain_words, has_pattern}
use Rattle.rc_model.specs.Run.Patterns.{is_dots, matches}
use Rattle.rc_model.specs.Run.Calls.{list_names, probe, as_names, as_kind}
use Rattle.rc_model.specs.Run.Shell.{Shell, ◌>>=◌, pure, call}

-- the parts of a word between its slashes
abbrev pub components : Word → List Word
components w = slice_split (λ m. m.0 == 47) w

-- a name that can't be in a directory
abbrev pub is_no_name : List ℕ → Bool
is_no_name name = (length name == 0) || (is_dots name || list_any (λ c. (c == 47) || (c == 0)) name)

-- texts as the names of a map, which are distinct and in byte order
abbrev pub in_order : List (List ℕ) → List (List ℕ × Unit {0})
in_order [] = []
in_order (n ∷ ns) = insert_entry text_cmp (in_order ns) n tt

-- texts in byte order, each once
abbrev pub ordered : List (List ℕ) → List (List ℕ)
ordered names = map (λ n. n.0) (in_order names)

-- the names of a directory that a component matches, in order
abbrev pub fitting_names : Word → Option (List (List ℕ)) → List (List ℕ)
fitting_names c names = ordered (filter (λ n. not (is_no_name n) && matches c (chars n) true) (unwrap_or names []))

-- the directory with this path, which ends in a slash unless it is empty
abbrev pub directory : List ℕ → List ℕ
directory path = if length path == 0 then codes "." else path

-- the results for each name, joined
abbrev pub each_name : (List ℕ → Shell (List (List ℕ))) → List ℕ → List (List ℕ) → Shell (List (List ℕ))
each_name walk path [] = pure []
each_name walk path (n ∷ ns) = do
  first ← walk (path ++ n)
  others ← each_name walk path ns
  pure (first ++ others)

-- the path, if something is there
abbrev pub if_there : List ℕ → Shell (List (List ℕ))
if_there path = do
  a ← call (probe path)
  pure (if is_some (as_kind a) then path ∷ [] else [])

-- a component with a pattern character, in the directory with this path
abbrev pub listed : Word → (List ℕ → Shell (List (List ℕ))) → List ℕ → Shell (List (List ℕ))
listed c next path = do
  a ← call (list_names (directory path))
  each_name next path (fitting_names c (as_names a))

-- one component after this path: the directory is listed only if the component has a pattern character
abbrev pub step : Word → (List ℕ → Shell (List (List ℕ))) → List ℕ → Shell (List (List ℕ))
step c next path = if has_pattern c then listed c next path else next (path ++ word_text c)

-- The paths that begin with this one and go on with these components, each of them after a slash.
abbrev pub walk : List Word → List ℕ → Shell (List (List ℕ))
walk [] path = pure (path ∷ [])
walk (c ∷ cs) path =
    if list_any has_pattern (c ∷ cs) then step c (walk cs) (path ++ codes "/")
    else if_there (path ++ 47 ∷ join_with_byte 47 (map word_text (c ∷ cs)))

-- the paths of these components
abbrev pub paths_of : List Word → Shell (List (List ℕ))
paths_of [] = pure []
paths_of (c ∷ cs) = step c (walk cs) []

-- if there are no paths, the word stands for itself
abbrev pub or_itself : Word → List (List ℕ) → List Word
or_itself w [] = w ∷ []
or_itself w (p ∷ ps) = plain_words (ordered (p ∷ ps))

-- the file names of a word with a pattern character
abbrev pub names_of : Word → Shell (List Word)
names_of w = do
  paths ← paths_of (components w)
  pure (or_itself w paths)

-- what one word stands for: itself, if it has no pattern character
abbrev pub expanded_word : Word → Shell (List Word)
expanded_word w = if has_pattern w then names_of w else pure (w ∷ [])

-- the words, with their file names
abbrev pub expanded : List Word → Shell (List Word)
expanded [] = pure []
expanded (w ∷ ws) = do
  first ← expanded_word w
  others ← expanded ws
  pure (first ++ others)
