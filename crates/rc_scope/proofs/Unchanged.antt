-- Functions that stay as they are.
use Rattle.std.proofs.Common.{◌≡◌, Bool, List, Some, ap, ◌∙◌}
use Rattle.std.specs.Map.{lookup, set_value}
use Rattle.std.specs.declared.alloc.Global.{Global}
use Rattle.std.specs.declared.string.String.{String}
use Rattle.std.proofs.lemmas.Map.Steps.{set_value_same}
use Rattle.rc_scope.specs.declared.functions.Function.{Function}

-- a function is put back as it was
pub put_back : (test : String Global → Bool) (es : List (String Global × Function)) (f g : Function) → g ≡ f → lookup test es ≡ Some f → set_value test es g ≡ es
put_back test es f g same found = ap (set_value test es) same ∙ set_value_same test es f found
