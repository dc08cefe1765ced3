use Rattle.std.proofs.Common.{◌≡◌, ℕ, List, [], reverse, Option, Some, None, IfSome, unwrap_or, option_map, ap, ◌∙◌}
use Rattle.std.specs.Map.{lookup}
use Rattle.rc_model.specs.Handed.Image.{value_text}
use Rattle.rc_scope.specs.Rows.{is_named}
use Rattle.rc_scope.specs.Stacks.{stacks_of, texts_of}
use Rattle.rc_scope.specs.declared.variables.value_rows.Value.{Value}
use Rattle.rc_scope.proofs.Stacks.{visible_variable}
use Rattle.rc_scope.proofs.variables.Variables.keep_entry.Goals as goal

-- the text of the value that is found
text_found : (o : Option Value) (text : List ℕ) → text ≡ value_text (unwrap_or (option_map texts_of o) []) → IfSome o (λ v. text ≡ value_text (texts_of v))
text_found None text h = tt
text_found (Some v) text h = h

pub keep_entry-requires : goal.keep_entry-requires
unfolding stacks_of
keep_entry-requires c =
    let q = c.args.name.now in
    let es = c.args.self.now.values in
    text_found (lookup (is_named q) es) _ (c.requires ∙ ap value_text (visible_variable (reverse c.args.self.now.log.items) q es))
