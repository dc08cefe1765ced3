-- The entries beside the variables, and their place among them.
use Rattle.std.specs.Prelude.{◌≡◌, ℕ, List, [], ◌∷◌, ◌++◌, Bool, not, ◌&&◌, ◌||◌, ◌==◌, length, map, codes}
use Rattle.std.specs.BTreeMap.{insert_entry}
use Rattle.rc_model.specs.Syntax.Text.{text_cmp}
use Rattle.rc_model.specs.Run.State.{status_name}
use Rattle.rc_model.specs.Handed.Environment.{Bindings}
use Rattle.rc_model.specs.Handed.Image.{entry, handed_values, image, stays_behind, value_text}
use Rattle.rc_model.specs.Handed.Proper.{Above}
use Rattle.rc_scope.specs.Bindings.{bindings_of}
use Rattle.rc_scope.specs.FunctionBodies.{body_tree}
use Rattle.rc_scope.specs.declared.functions.Definition.{Definition}
use Rattle.rc_scope.specs.declared.variables.Binding.{Binding}

-- a byte that is escaped
abbrev pub is_mark : ℕ → Bool
is_mark b = (b == 1) || (b == 2)

-- the name and the text that an environment has for a function
abbrev pub function_text : Definition → List ℕ × List ℕ
function_text d = (codes "fn#" ++ d.name.now, image (body_tree d.function.now))

-- the functions, and then the status
abbrev pub additions : List Definition → (status : List ℕ) → Bindings
additions ds status = map function_text ds ++ (status_name, value_text (status ∷ [])) ∷ []

-- a variable is handed over if it has members and isn't `*` or the status
abbrev pub is_handed : List ℕ × List (List ℕ) → Bool
is_handed b = not (length b.1 == 0) && not (stays_behind b.0)

-- the names and texts of the variables that are handed over
abbrev pub handed : List Binding → Bindings
handed vs = handed_values (map (λ v. (v.0, v.1 ∷ [])) (bindings_of vs))

-- each of these is inserted among the others, or replaces one of the same name
abbrev pub put_all : Bindings → Bindings → Bindings
put_all [] others = others
put_all (b ∷ bs) others = insert_entry text_cmp (put_all bs others) b.0 b.1

-- the entries of the first variables were written, up to this name: it comes next, and others after it
abbrev pub PushesBelow : List ℕ → (variables rest : List Binding) → (before after : List (List ℕ)) → Type 0
PushesBelow name variables rest before after = (text : List ℕ) (others : Bindings) → Above name others →
    before ++ map entry (put_all ((name, text) ∷ others) (handed variables))
    ≡ after ++ (entry (name, text) ∷ map entry (put_all others (handed rest)))
