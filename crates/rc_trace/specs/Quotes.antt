-- How texts are shown, each on one line.
use Rattle.std.specs.Prelude.{ℕ, List, [], ◌∷◌, ◌++◌, codes, length}
use Rattle.std.specs.Prelude.{Bool, false, ◌||◌, ◌==◌, if◌then◌else◌}
use Rattle.std.specs.Char.{encode_utf8, is_control}
use Rattle.std.specs.Fmt.{digits}
use Rattle.std.specs.Int.{is_in_range}
use Rattle.std.specs.List.{flat_map, list_any}
use Rattle.std.specs.Str.{chars, is_utf8}

-- a character that can't be seen: a control character, or one that ends a line or changes its direction
unfoldable pub is_hidden : ℕ → Bool
is_hidden c =
    is_control c || c == 0x61C || is_in_range 0x200E 0x200F c || is_in_range 0x2028 0x202E c
    || is_in_range 0x2066 0x2069 c || c == 0xFEFF

-- a hidden character, by its letter or its number
unfoldable pub code_text : ℕ → List ℕ
code_text c =
    if c == 0 then 92 ∷ 48 ∷ []
    else (if c == 9 then 92 ∷ 116 ∷ []
    else (if c == 10 then 92 ∷ 110 ∷ []
    else (if c == 13 then 92 ∷ 114 ∷ []
    else 92 ∷ 117 ∷ 123 ∷ (digits 16 false c ++ 125 ∷ []))))

-- a character as it is, if it can be seen
unfoldable pub visible : ℕ → List ℕ
visible c = if is_hidden c then code_text c else encode_utf8 c

-- a character between quotes
unfoldable pub escaped : ℕ → List ℕ
escaped c = if c == 34 || c == 92 then 92 ∷ encode_utf8 c else visible c

-- a text whose characters can all be seen
abbrev pub visible_text : List ℕ → List ℕ
visible_text text = flat_map visible (chars text)

-- a text between quotes
unfoldable pub quoted : List ℕ → List ℕ
quoted text = 34 ∷ (flat_map escaped (chars text) ++ 34 ∷ [])

-- bytes between quotes, if they are UTF-8
unfoldable pub bytes_text : List ℕ → List ℕ
bytes_text bytes = if is_utf8 bytes then quoted bytes else codes "no text"

-- a character with which a path is put in quotes: a blank, a quote, a backslash, or one that can't be seen
unfoldable pub needs_quotes : ℕ → Bool
needs_quotes c = c == 32 || c == 34 || c == 92 || is_hidden c

-- a path as it is, or in quotes
unfoldable pub path_text : List ℕ → List ℕ
path_text path = if list_any needs_quotes (chars path) then quoted path else path

-- a character with which a word is put in quotes: also one of those that stand around words here
unfoldable pub is_odd : ℕ → Bool
is_odd c = needs_quotes c || c == 40 || c == 41 || c == 60 || c == 62 || c == 123 || c == 125

-- a word that could be taken for something else: an empty one, or one with such a character
unfoldable pub is_odd_word : List ℕ → Bool
is_odd_word word = length word == 0 || list_any is_odd (chars word)

-- a word as it is, or in quotes
unfoldable pub word_text : List ℕ → List ℕ
word_text word = if is_odd_word word then quoted word else word

-- a word after a blank
abbrev pub parted_word : List ℕ → List ℕ
parted_word word = 32 ∷ word_text word

-- each of these words after a blank
abbrev pub words_text : List (List ℕ) → List ℕ
words_text words = flat_map parted_word words

-- a further text in quotes, after a comma
abbrev pub further_text : List ℕ → List ℕ
further_text text = 44 ∷ 32 ∷ quoted text

-- further texts in quotes, each after a comma
abbrev pub more_texts : List (List ℕ) → List ℕ
more_texts texts = flat_map further_text texts

-- texts in quotes, in brackets
unfoldable pub texts_text : List (List ℕ) → List ℕ
texts_text [] = codes "[]"
texts_text (text ∷ texts) = 91 ∷ (quoted text ++ (more_texts texts ++ 93 ∷ []))
