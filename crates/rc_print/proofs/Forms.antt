-- Commands and arguments that are none of some forms.
use Rattle.std.specs.declared.alloc.Global.{Global}
use Rattle.std.specs.declared.vec.Vec.{Vec}
use Rattle.std.specs.declared.boxed.Box.{Box}
use Rattle.std.proofs.Common.{◌≡◌, refl, sym, ◌∙◌, Bool, false}
use Rattle.rc_model.specs.Syntax.Printing.{stands_first, begins_with_case}
use Rattle.rc_tree.specs.declared.literal_text.LiteralText.{LiteralText}
use Rattle.rc_tree.specs.declared.types.Cmd.{Cmd}
use Rattle.rc_tree.specs.declared.types.Cmd.TheVariants as c
use Rattle.rc_tree.specs.declared.types.Arg.{Arg}
use Rattle.rc_tree.specs.declared.types.Arg.TheVariants as a
use Rattle.rc_tree.specs.declared.types.Branch.{Branch}
use Rattle.rc_tree.specs.View.{cmd_tree, arg_tree}
use Rattle.rc_tree.specs.declared.types.Arg.TheBlock as rows
use Rattle.rc_tree.specs.declared.types.Arg.TheViews as views

pub not_begins : (x : Arg) → ((q : Bool) (s : LiteralText) → x ≡ a.Lit q s → ⊥) → ((v : Vec Arg Global) → x ≡ a.Concat v → ⊥) →
    begins_with_case (arg_tree x) ≡ false
unfolding arg_tree views.out-Arg views.roll-Arg denote.Hole.Carrier.out
not_begins (a.Lit q s) l h = absurd (l q s refl)
not_begins (a.Concat' s k) l h = absurd (h (rows.shown-the_row-Arg-0 s k) (sym (views.roll-out-Arg (a.Concat' s k))
    ∙ views.rolls-Concat (rows.shown-the_row-Arg-0 s k)))
not_begins _ l h = refl

pub not_first : (x : Cmd) (begins : Bool) → ((v : Vec Arg Global) → x ≡ c.Simple v → ⊥) → ((n : Arg) (v : Vec Branch Global) → x ≡ c.Switch n v → ⊥) →
    ((b : Box Cmd Global) → x ≡ c.Brace b → ⊥) → stands_first (cmd_tree x) begins ≡ false
unfolding cmd_tree views.out-Cmd views.roll-Cmd denote.Hole.Carrier.out
not_first (c.Simple' s k) _ h m l = absurd (h (rows.shown-the_row-Arg-0 s k) (sym (views.roll-out-Cmd (c.Simple' s k))
    ∙ views.rolls-Simple (rows.shown-the_row-Arg-0 s k)))
not_first (c.Switch' n s k) _ h m l =
    absurd (m n (rows.shown-the_row-Branch-6 s k) (sym (views.roll-out-Cmd (c.Switch' n s k)) ∙ views.rolls-Switch n (rows.shown-the_row-Branch-6 s k)))
not_first (c.Brace' p b) _ h m l =
    let box : Box Cmd Global = record { ptr = p.ptr; alloc = p.alloc; value = b } in
    absurd (l box (sym (views.roll-out-Cmd (c.Brace' p b)) ∙ views.rolls-Brace box))
not_first _ _ h m l = refl
