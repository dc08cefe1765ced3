-- The state that arguments and the entries of an environment denote.
use Rattle.std.specs.Prelude.{◌≡◌, ◌≢◌, ◌↔◌, ℕ, List, [], ◌∷◌, ◌++◌, Bool, true, false, not, ◌||◌, ◌==◌, codes}
use Rattle.std.specs.Prelude.{Some, Ok, IsTrue}
use Rattle.std.specs.List.{list_all}
use Rattle.std.specs.Str.{bytes_eq}
use Rattle.std.specs.Map.{lookup}
use Rattle.rc_model.specs.Syntax.Text.{spaced}
use Rattle.rc_model.specs.Syntax.Tree.{Node, cmd}
use Rattle.rc_model.specs.Syntax.WellFormed.{well_formed}
use Rattle.rc_model.specs.Run.State.{State, status_name, is_function_name, function_of}
use Rattle.rc_model.specs.Handed.TreeSpelling.{SpellsImage}
use Rattle.rc_model.specs.Handed.Environment.{is_variable, fresh_state, read_state}
use Rattle.rc_model.specs.Handed.Proper.{Ordered}

-- an entry is NAME=TEXT, whose name has no `=`
pub record IsEntryOf (name text entry : List ℕ) : Type 0 where
  pub is : entry ≡ name ++ 61 ∷ text
  pub whole : list_all (λ b. not (b == 61)) name ≡ true

-- the first of these entries with this name has this text
pub data FirstOf (name text : List ℕ) : List (List ℕ) → Type 0 where
  here : (e : List ℕ) (es : List (List ℕ)) → IsEntryOf name text e → FirstOf name text (e ∷ es)
  later : (e : List ℕ) (es : List (List ℕ)) → ((other : List ℕ) → IsEntryOf name other e → ⊥) →
      FirstOf name text es → FirstOf name text (e ∷ es)

-- `A` or `B` comes first
abbrev pub begins_letter : List ℕ → Bool
begins_letter [] = false
begins_letter (b ∷ bs) = (b == 65) || (b == 66)

-- How a member is written: byte 1 as byte 2 and `A`, byte 2 as byte 2 and `B`, and each other byte as it is. Byte 2
-- before any other byte, or at the end, stands for itself.
pub data IsWritten : List ℕ → List ℕ → Type 0 where
  nothing : IsWritten [] []
  one : (m bytes : List ℕ) → IsWritten m bytes → IsWritten (1 ∷ m) (2 ∷ 65 ∷ bytes)
  two : (m bytes : List ℕ) → IsWritten m bytes → IsWritten (2 ∷ m) (2 ∷ 66 ∷ bytes)
  alone : (m bytes : List ℕ) → begins_letter bytes ≡ false → IsWritten m bytes → IsWritten (2 ∷ m) (2 ∷ bytes)
  itself : (b : ℕ) (m bytes : List ℕ) → (b == 2) ≡ false → IsWritten m bytes → IsWritten (b ∷ m) (b ∷ bytes)

-- there is no byte 1 in the text
abbrev pub is_part : List ℕ → Bool
is_part bytes = list_all (λ b. not (b == 1)) bytes

-- how members are written: at least one, separated by byte 1
pub data AreWritten : List (List ℕ) → List ℕ → Type 0 where
  last : (m part : List ℕ) → is_part part ≡ true → IsWritten m part → AreWritten (m ∷ []) part
  next : (m part : List ℕ) (ms : List (List ℕ)) (rest text : List ℕ) → text ≡ part ++ 1 ∷ rest →
      is_part part ≡ true → IsWritten m part → AreWritten ms rest → AreWritten (m ∷ ms) text

-- A variable has these members: those of the first entry of its name. `$*` has the arguments, if there are any.
pub data HasMembers (args entries : List (List ℕ)) (name : List ℕ) (members : List (List ℕ)) : Type 0 where
  from_args : name ≡ codes "*" → members ≡ args → args ≢ [] → HasMembers args entries name members
  from_entry : (text : List ℕ) → is_variable name ≡ true → FirstOf name text entries → AreWritten members text →
      HasMembers args entries name members

-- A function has this body: the first entry of `fn#` and its name spells it. Only a shell of the same kind hands over
-- functions.
pub record HasBody (own : Bool) (entries : List (List ℕ)) (name : List ℕ) (body : Node cmd) : Type 0 where
  pub from_shell : own ≡ true
  pub named : is_function_name name ≡ true
  pub text : List ℕ
  pub first : FirstOf (codes "fn#" ++ name) text entries
  pub spelled : SpellsImage body text
  pub sound : IsTrue (well_formed body)

-- the status is that of its first entry, whose members are joined by spaces; it is null if no shell of the same kind
-- hands one over
pub data HasStatus (own : Bool) (entries : List (List ℕ)) (status : List ℕ) : Type 0 where
  handed : (text : List ℕ) (members : List (List ℕ)) → own ≡ true → FirstOf status_name text entries →
      AreWritten members text → status ≡ spaced members → HasStatus own entries status
  null : (own ≡ true → (text : List ℕ) → FirstOf status_name text entries → ⊥) → status ≡ [] →
      HasStatus own entries status

-- Arguments and entries denote this state: it has these variables, functions and status and no other, and each function
-- entry that counts has a body.
pub record Denotes (own : Bool) (args entries : List (List ℕ)) (s : State) : Type 0 where
  pub variables : (name : List ℕ) (values : List (List (List ℕ))) → (lookup (bytes_eq name) s.variables ≡ Some values)
      ↔ ((members : List (List ℕ)) × (values ≡ members ∷ []) × HasMembers args entries name members)
  pub ordered : Ordered s.variables
  pub functions : (name : List ℕ) (body : Node cmd) → (function_of s name ≡ Some body) ↔ HasBody own entries name body
  pub functions_ordered : Ordered s.functions
  pub bodies : (name text : List ℕ) → own ≡ true → is_function_name name ≡ true →
      FirstOf (codes "fn#" ++ name) text entries → (body : Node cmd) × HasBody own entries name body
  pub status : HasStatus own entries s.status
  pub fresh : s ≡ fresh_state s.variables s.functions s.status

-- the state that is read from arguments and entries is the one that they denote
abbrev pub ReadsWhatIsDenoted : Type 0
ReadsWhatIsDenoted = (own : Bool) (args entries : List (List ℕ)) (s : State) →
    (read_state own args entries ≡ Ok s) ↔ Denotes own args entries s
