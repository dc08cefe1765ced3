use Rattle.std.proofs.Common.{rules, ◌≡◌, Option, Some, IfSome, length, ◌+◌, drop, subst, sym}
use Rattle.rc_text.specs.Texts.{text_bytes}
use Rattle.rc_model.specs.Handed.Image.{image}
use Rattle.rc_model.specs.Run.State.{function_of}
use Rattle.rc_model.specs.Syntax.Tree.{Node, cmd}
use Rattle.rc_tree.specs.View.{cmd_tree}
use Rattle.rc_scope.specs.States.{state_of}
use Rattle.rc_image.proofs.Handing.{function_after}
use Rattle.rc_image.proofs.kept_entries.keep_function.Goals as goal

pub keep_function-requires : goal.keep_function-requires
keep_function-requires c =
    let body = cmd_tree c.in-Some.body.value in
    let name = c.args.name.now in
    let text = text_bytes c.in_ok-entry.entry in
    let found : function_of (state_of c.args.state.now) name ≡ Some body = search rules in
    let same : c.deref.result.now ≡ c.in-Some.body.value = search rules in
    let kept : drop (3 + length name + 1) text ≡ image body = function_after text name (image body) (rw same at c.in_ok-entry.ensures) in
    subst (λ (o : Option (Node cmd)). IfSome o (λ b. drop (3 + length name + 1) text ≡ image b)) (sym found) kept
