-- Commands whose texts have no braces.
use Rattle.std.specs.declared.alloc.Global.{Global}
use Rattle.std.specs.declared.boxed.Box.{Box}
use Rattle.std.proofs.Common.{◌≡◌, refl, sym, ◌∙◌, false}
use Rattle.rc_tree.specs.declared.types.Cmd.{Cmd}
use Rattle.rc_tree.specs.declared.types.Cmd.TheVariants as c
use Rattle.rc_tree.specs.View.{cmd_tree}
use Rattle.rc_tree.specs.declared.types.Arg.TheViews as views
use Rattle.rc_trace.specs.Starts.{is_braced}

pub not_braced : (x : Cmd) → ((b : Box Cmd Global) → x ≡ c.Brace b → ⊥) → is_braced (cmd_tree x) ≡ false
unfolding cmd_tree views.out-Cmd views.roll-Cmd denote.Hole.Carrier.out
not_braced (c.Brace' p b) h =
    let box : Box Cmd Global = record { ptr = p.ptr; alloc = p.alloc; value = b } in
    absurd (h box (sym (views.roll-out-Cmd (c.Brace' p b)) ∙ views.rolls-Brace box))
not_braced _ h = refl
