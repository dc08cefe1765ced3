-- Commands that are none of some forms.
use Rattle.std.specs.declared.alloc.Global.{Global}
use Rattle.std.specs.declared.vec.Vec.{Vec}
use Rattle.std.proofs.Common.{◌≡◌, refl, sym, ◌∙◌, ℕ, false, List, [], ◌∷◌}
use Rattle.rc_model.specs.Syntax.Printing.{body_lines, Line}
use Rattle.rc_tree.specs.declared.types.Cmd.{Cmd}
use Rattle.rc_tree.specs.declared.types.Cmd.TheVariants as c
use Rattle.rc_tree.specs.declared.types.Item.{Item}
use Rattle.rc_tree.specs.View.{cmd_tree}
use Rattle.rc_tree.specs.declared.types.Arg.TheBlock as rows
use Rattle.rc_tree.specs.declared.types.Arg.TheViews as views

pub not_listed : (x : Cmd) (items : List Line) (text : List ℕ) → ((v : Vec Item Global) → x
    ≡ c.Seq v → ⊥) → body_lines (cmd_tree x) items text ≡ (text, false) ∷ []
unfolding cmd_tree views.out-Cmd views.roll-Cmd denote.Hole.Carrier.out
not_listed (c.Seq' s k) _ _ h = absurd (h (rows.shown-the_row-Item-1 s k) (sym (views.roll-out-Cmd (c.Seq' s k))
    ∙ views.rolls-Seq (rows.shown-the_row-Item-1 s k)))
not_listed _ _ _ h = refl
