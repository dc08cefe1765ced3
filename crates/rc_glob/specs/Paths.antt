-- The paths that components match.
use Rattle.std.specs.Prelude.{ℕ, List, [], ◌∷◌, map, Option, Some, None}
use Rattle.std.specs.Borrow.{Bor}
use Rattle.std.specs.declared.alloc.Global.{Global}
use Rattle.std.specs.declared.vec.Vec.{Vec}
use Rattle.rc_model.specs.Syntax.Words.{Word, plain_words, word_texts}
use Rattle.rc_model.specs.Run.FileNames.{components, step, walk, expanded_word}
use Rattle.rc_model.specs.Run.Shell.{Shell, ◌>>=◌, pure}
use Rattle.rc_text.specs.declared.words.literal.Ch.{Ch}
use Rattle.rc_text.specs.Literals.{marks}
use Rattle.rc_text.specs.Texts.{text_bytes}
use Rattle.rc_text.specs.declared.texts.Text.{Text}

-- the components after a slash; none if there is no slash
abbrev pub components_of : Option (Bor (List Ch)) → List Word
components_of None = []
components_of (Some rest) = components (marks rest.now)

-- the paths that begin with this one, which ends in a slash unless it is empty, and go on with these components
abbrev pub paths_from : List Word → List ℕ → Shell (List (List ℕ))
paths_from [] path = pure (path ∷ [])
paths_from (c ∷ cs) path = step c (walk cs) path

-- the texts of the words that a word expands to
abbrev pub expanded_texts : Word → Shell (List (List ℕ))
expanded_texts w = do
  ws ← expanded_word w
  pure (word_texts ws)

-- the words for the names of files that were found, or the word itself if there are none
abbrev pub words_for : Word → Option (Vec Text Global) → List Word
words_for w None = w ∷ []
words_for w (Some names) = plain_words (map text_bytes names.items)
