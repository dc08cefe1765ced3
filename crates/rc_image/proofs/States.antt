-- The state that arguments and entries denote.
use Rattle.std.specs.Prelude.{Result, Ok, Err, codes, length, map, string_bytes}
use Rattle.std.proofs.Common.{◌≡◌, ℕ, List, [], ◌∷◌, Bool, refl, sym, ap, ◌∙◌, arith}
use Rattle.std.specs.declared.alloc.Global.{Global}
use Rattle.std.specs.declared.string.String.{String}
use Rattle.std.specs.BTreeMap.{insert_entry}
use Rattle.rc_model.specs.Syntax.Text.{text_cmp}
use Rattle.rc_model.specs.Run.State.{State, set_value}
use Rattle.rc_model.specs.Handed.TreeReading.{◌>>=◌}
use Rattle.rc_model.specs.Handed.Environment.{Bindings, Functions, bindings, variables_in, own_functions, own_status, with_args, fresh_state, read_state}
use Rattle.rc_image.specs.Entries.{with_arguments}
use Rattle.rc_image.proofs.Variables.{single}
use Rattle.rc_model.specs.declared.fault.ImageFault.{ImageFault}

-- ** `$*`

pub no_arguments : (s : State) (args : List (String Global)) → length args ≡ 0 → s ≡ with_arguments (map string_bytes args) s
unfolding with_arguments
no_arguments s [] h = refl
no_arguments s (a ∷ args) h = absurd (omega (arith, h))

pub some_arguments : (s : State) (args : List (String Global)) → (length args ≡ 0 → ⊥) → set_value s (codes "*") (map string_bytes args) ≡ with_arguments (map string_bytes args) s
unfolding with_arguments
some_arguments s [] h = absurd (h refl)
some_arguments s (a ∷ args) h = refl

fresh_args : (args : List (List ℕ)) (bs : Bindings) (fs : Functions) (st : List ℕ) →
    fresh_state (with_args args (variables_in bs)) fs st ≡ with_arguments args (fresh_state (variables_in bs) fs st)
unfolding with_arguments
fresh_args [] bs fs st = refl
fresh_args (a ∷ args) bs fs st =
    ap (λ c. fresh_state (insert_entry text_cmp (variables_in bs) (codes "*") ((a ∷ args) ∷ c)) fs st) (sym (single bs (codes "*")))

args_after : (own : Bool) (args : List (List ℕ)) (bs : Bindings) (r : Result Functions ImageFault) →
    (r >>= λ fs. Ok (fresh_state (with_args args (variables_in bs)) fs (own_status own bs)))
    ≡ ((r >>= λ fs. Ok (fresh_state (variables_in bs) fs (own_status own bs))) >>= λ s. Ok (with_arguments args s))
args_after own args bs (Ok fs) = ap Ok (fresh_args args bs fs (own_status own bs))
args_after own args bs (Err f) = refl

-- the arguments are set last
state_is : (own : Bool) (args entries : List (List ℕ)) → read_state own args entries ≡ (read_state own [] entries >>= λ s. Ok (with_arguments args s))
state_is own args entries = args_after own args (bindings entries) (own_functions own (bindings entries))

pub state_read : (own : Bool) (args entries : List (List ℕ)) (s t : State) → read_state own [] entries ≡ Ok s → t ≡ with_arguments args s → read_state own args entries ≡ Ok t
state_read own args entries s t h k = state_is own args entries ∙ ap (λ r. r >>= λ s. Ok (with_arguments args s)) h ∙ ap Ok (sym k)
