-- Reports and runtime errors, names and values.
use Rattle.std.specs.Prelude.{◌&&◌, ℕ, length, not, List, [], ◌∷◌, ◌++◌, Bool}
use Rattle.std.specs.Prelude.{if◌then◌else◌, Option, Some, None, codes, Result, Ok, Err}
use Rattle.std.specs.Fmt.{decimal}
use Rattle.rc_model.specs.Syntax.Text.{spaced}
use Rattle.rc_model.specs.Syntax.Words.{Word, word_texts, plain_words}
use Rattle.rc_model.specs.Run.Lists.{ListFault, list_words, concatenated, selected}
use Rattle.rc_model.specs.Run.Patterns.{matched}
use Rattle.rc_model.specs.Run.Calls.{Slots}
use Rattle.rc_model.specs.Run.Calls.{close, wait, write}
use Rattle.rc_model.specs.Run.Plans.{Plan, ask, done_with}
use Rattle.rc_model.specs.Syntax.Tree.{Node, cmd}
use Rattle.rc_model.specs.Run.State.{is_true, dollar_value, is_name, is_readable, is_function_name}
use Rattle.rc_model.specs.Run.State.{with_status, define}
use Rattle.rc_model.specs.Run.Shell.{Shell, Next, ◌>>=◌, ◌>>◌, pure, skip, say, get, change, exits}

-- sets the status
abbrev pub set_status : List ℕ → Shell (Unit {0})
set_status text = change (λ s. with_status s text)

-- writes a report to descriptor 2 in one call
abbrev pub report : Slots → List ℕ → Shell (Unit {0})
report slots text = say (write slots.errors (codes "rc: " ++ text ++ 10 ∷ []))

-- the effect of a runtime error: a report, and the status `error`
abbrev pub runtime_error : Slots → List ℕ → Shell (Unit {0})
runtime_error slots text = do
  report slots text
  set_status (codes "error")

-- a runtime error ends the shell
abbrev pub fails : {A : Type 0} → Slots → List ℕ → Shell A
fails slots text = do
  runtime_error slots text
  exits

-- the words of the runtime error for a bad name
abbrev pub bad_name : List ℕ
bad_name = codes "bad name"

-- first closes an open file, if there is one
abbrev pub closing : {X : Type 0} → Option ℕ → Plan X → Plan X
closing None p = p
closing (Some h) p = ask (close h) (λ a. p)

-- first waits for each child that is owed a wait
abbrev pub waiting : {X : Type 0} → List ℕ → Plan X → Plan X
waiting [] p = p
waiting (n ∷ ns) p = ask (wait n) (λ a. waiting ns p)

-- closes the end of a pipe, if there is one
abbrev pub close_end : Option ℕ → Shell (Unit {0})
close_end h s = closing h (done_with (Next tt s))

-- ends a strict shell if the status isn't true
abbrev pub check : Shell (Unit {0})
check = λ s. if s.strict && not (is_true s.status) then exits s else skip s

-- ** names and values

-- the one name in a list of words, if there is exactly one
abbrev pub one_name : Slots → (List ℕ → Bool) → List (List ℕ) → Shell (List ℕ)
one_name slots fits [] = fails slots bad_name
one_name slots fits (x ∷ []) = if fits x then pure x else fails slots bad_name
one_name slots fits (x ∷ y ∷ ys) = fails slots bad_name

-- a name that can be assigned
abbrev pub variable : Slots → List Word → Shell (List ℕ)
variable slots words = one_name slots is_name (word_texts words)

-- the name after a `$`, with its value
abbrev pub value : Slots → List Word → Shell (List (List ℕ))
value slots words = do
  x ← one_name slots is_readable (word_texts words)
  s ← get
  pure (dollar_value s x)

-- `$x`: the members of the value
abbrev pub value_words : Slots → List Word → Shell (List Word)
value_words slots words = do
  v ← value slots words
  pure (plain_words v)

-- `$#x`: how many members the value has
abbrev pub count_words : Slots → List Word → Shell (List Word)
count_words slots words = do
  v ← value slots words
  pure (plain_words (decimal (length v) ∷ []))

-- `$"x`: the members of the value, joined by spaces to one word
abbrev pub flat_words : Slots → List Word → Shell (List Word)
flat_words slots words = do
  v ← value slots words
  pure (plain_words (spaced v ∷ []))

-- `$x(s ...)`
abbrev pub selected_words : Slots → List Word → List Word → Shell (List Word)
selected_words slots words subscripts = do
  v ← value slots words
  pure (plain_words (selected v (word_texts subscripts)))

-- the words of a concatenation, or its runtime error
abbrev pub joined_lists : Slots → Result (List Word) ListFault → Shell (List Word)
joined_lists slots (Ok ws) = pure ws
joined_lists slots (Err fault) = fails slots (list_words fault)

-- `a^b`
abbrev pub concat_words : Slots → List Word → List Word → Shell (List Word)
concat_words slots a b = joined_lists slots (concatenated a b)

-- the status of a match
abbrev pub match_status : List Word → List Word → List ℕ
match_status subject patterns = if matched subject patterns then [] else codes "no match"

-- defines a function with this body under each name
abbrev pub define_each : Slots → List (List ℕ) → Node cmd → Shell (Unit {0})
define_each slots [] body = skip
define_each slots (x ∷ xs) body = do
  y ← one_name slots is_function_name (x ∷ [])
  change (λ s. define s y body)
  define_each slots xs body
