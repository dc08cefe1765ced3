-- The first of the words of a simple command.
use Rattle.std.specs.Prelude.{◌≡◌, List, [], ◌∷◌, ℕ, Some}
use Rattle.rc_model.specs.Run.Builtins.{builtin_named}
use Rattle.rc_model.specs.declared.builtin.Builtin.TheVariants.{BuiltinWord}

-- the words do not begin with `builtin`
abbrev pub BeginsOther : List (List ℕ) → Type 0
BeginsOther [] = Unit {0}
BeginsOther (name ∷ args) = builtin_named name ≡ Some BuiltinWord → ⊥
