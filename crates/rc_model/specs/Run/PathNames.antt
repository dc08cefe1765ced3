-- Which names a word with pattern characters stands for, given what the world answers to each call.
use Rattle.std.specs.Prelude.{◌≡◌, ◌≢◌, ◌⊎◌, ◌↔◌, ⊤, ℕ, Bool, true, false, not, List, [], ◌∷◌, ◌++◌, codes, Option}
use Rattle.std.specs.Prelude.{Some, None, unwrap_or, is_some}
use Rattle.std.specs.List.{join_with_byte, AllByRecursion}
use Rattle.std.specs.List.Sorted.{IsStrictlySortedBy}
use Rattle.std.specs.Str.{chars}
use Rattle.rc_model.specs.Syntax.Text.{text_cmp}
use Rattle.rc_model.specs.Syntax.Words.{Word, word_text, plain_words, has_pattern}
use Rattle.rc_model.specs.Run.Calls.{Call, Answer, Event, list_names, probe, as_names, as_kind}
use Rattle.rc_model.specs.Run.Plans.{Plan, done_with, ask, cut}
use Rattle.rc_model.specs.Run.Matching.{Matches}
use Rattle.rc_model.specs.Run.FileNames.{components, is_no_name, directory}

-- the value of a plan if these are the answers to its calls
abbrev pub answered_by : {X : Type 0} → (Call → Answer) → Plan X → Option X
answered_by answers (done_with x) = Some x
answered_by answers (ask c go) = answered_by answers (go (answers c))
answered_by answers cut = None

-- these answers are those of the trace to each of its calls
abbrev pub Agreeing : (Call → Answer) → List Event → Type 0
Agreeing answers trace = AllByRecursion (λ e. answers e.call ≡ e.answer) trace

-- x is one of the list
abbrev pub IsIn : {X : Type 0} → X → List X → Type 0
IsIn x [] = ⊥
IsIn x (y ∷ ys) = (y ≡ x) ⊎ IsIn x ys

-- the names in a directory, or none if the call is refused
abbrev pub names_in : (Call → Answer) → List ℕ → List (List ℕ)
names_in answers path = unwrap_or (as_names (answers (list_names (directory path)))) []

-- whether something is at a path
abbrev pub is_there : (Call → Answer) → List ℕ → Bool
is_there answers path = is_some (as_kind (answers (probe path)))

-- a component with a pattern character stands for this name in the directory with this path
pub record StandsFor (answers : Call → Answer) (path : List ℕ) (c : Word) (name : List ℕ) : Type 0 where
  pub listed : IsIn name (names_in answers path)
  pub a_name : is_no_name name ≡ false
  pub matches : Matches true c (chars name)

-- a component stands for this text: for itself, if it has no pattern character
pub record IsChosen (answers : Call → Answer) (path : List ℕ) (c : Word) (t : List ℕ) : Type 0 where
  pub itself : has_pattern c ≡ false → t ≡ word_text c
  pub pattern : has_pattern c ≡ true → StandsFor answers path c t

-- the components stand for these texts, one each, after a path that is empty or ends in a slash
abbrev pub Chosen : (Call → Answer) → List ℕ → List Word → List (List ℕ) → Type 0
Chosen answers path [] [] = ⊤
Chosen answers path [] (t ∷ ts) = ⊥
Chosen answers path (c ∷ cs) [] = ⊥
Chosen answers path (c ∷ cs) (t ∷ ts) = IsChosen answers path c t × Chosen answers ((path ++ t) ++ codes "/") cs ts

-- the last component has no pattern character
abbrev pub ends_plain : List Word → Bool
ends_plain [] = false
ends_plain (c ∷ []) = not (has_pattern c)
ends_plain (c ∷ d ∷ cs) = ends_plain (d ∷ cs)

-- The word stands for this path: its components for texts that are joined by slashes; if the last has no pattern
-- character, the path is there.
pub record Named (answers : Call → Answer) (w : Word) (path : List ℕ) : Type 0 where
  pub texts : List (List ℕ)
  pub chosen : Chosen answers [] (components w) texts
  pub joined : path ≡ join_with_byte 47 texts
  pub checked : ends_plain (components w) ≡ true → is_there answers path ≡ true

-- what a word with a pattern character becomes: the paths that it stands for, in byte order and each once, or itself if
-- there are none
pub data Expands (answers : Call → Answer) (w : Word) : List Word → Type 0 where
  found : (paths : List (List ℕ)) → ((p : List ℕ) → IsIn p paths ↔ Named answers w p) →
      IsStrictlySortedBy text_cmp paths → paths ≢ [] → Expands answers w (plain_words paths)
  itself : ((p : List ℕ) → Named answers w p → ⊥) → Expands answers w (w ∷ [])

-- what a word becomes for all answers that agree with those of the trace; there are such answers
pub record ExpandsAlways (w : Word) (trace : List Event) (vs : List Word) : Type 0 where
  pub some : Call → Answer
  pub agrees : Agreeing some trace
  pub all : (answers : Call → Answer) → Agreeing answers trace → Expands answers w vs

-- what one word becomes by the events of its calls: itself, without any call, if it has no pattern character
pub data ExpandsBy (w : Word) : List Event → List Word → Type 0 where
  plain : has_pattern w ≡ false → ExpandsBy w [] (w ∷ [])
  names : (trace : List Event) (vs : List Word) → has_pattern w ≡ true → ExpandsAlways w trace vs →
      ExpandsBy w trace vs

-- what words become, from left to right, each with all its calls before the next
pub data AllExpand : List Word → List Event → List Word → Type 0 where
  none : AllExpand [] [] []
  next : (w : Word) (ws : List Word) (trace later : List Event) (vs us : List Word) → ExpandsBy w trace vs →
      AllExpand ws later us → AllExpand (w ∷ ws) (trace ++ later) (vs ++ us)
