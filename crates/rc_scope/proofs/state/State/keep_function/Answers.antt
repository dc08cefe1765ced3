use Rattle.std.proofs.Common.{rules, ◌≡◌, Option, Some, IfSome, option_map, string_bytes, subst, ap, ◌∙◌}
use Rattle.std.specs.BTreeMap.{is_at}
use Rattle.std.specs.Cmp.Lexicographic.{slice_cmp}
use Rattle.std.specs.Map.{lookup}
use Rattle.std.specs.Ordering.{nat_cmp}
use Rattle.std.specs.declared.alloc.Global.{Global}
use Rattle.std.specs.declared.string.String.{String}
use Rattle.rc_model.specs.Handed.Image.{image}
use Rattle.rc_model.specs.Syntax.Tree.{Node, cmd}
use Rattle.rc_scope.specs.FunctionBodies.{body_tree}
use Rattle.rc_scope.specs.Bodies.{functions_of}
use Rattle.rc_scope.specs.KeptEntries.{kept_text}
use Rattle.rc_scope.specs.States.{state_of}
use Rattle.rc_scope.proofs.Bodies.{lookup_function}
use Rattle.rc_scope.proofs.Unchanged.{put_back}
use Rattle.rc_scope.proofs.ProperStates.{functions_kept}
use Rattle.rc_scope.specs.declared.functions.Function.{Function}
use Rattle.rc_scope.proofs.state.State.keep_function.Goals as goal

pub keep-requires : goal.keep-requires
unfolding state_of
keep-requires c =
    let q = c.args.name.now in
    let named = is_at (λ (k : String Global). slice_cmp nat_cmp q (string_bytes k)) in
    let es = c.args.self.now.functions.entries in
    let found : lookup named es ≡ Some c.in-Some.function.now = search rules in
    subst (λ (o : Option (Node cmd)). IfSome o (λ body. kept_text c.args.kept ≡ image body))
    (lookup_function q es ∙ ap (option_map (λ (f : Function). body_tree f)) found) c.requires

pub invariant_of-self-2 : goal.invariant_of-self-2
invariant_of-self-2 c =
    let s = c.args.self.now in
    let named = is_at (λ (k : String Global). slice_cmp nat_cmp c.args.name.now (string_bytes k)) in
    let es = s.functions.entries in
    let fs = (c.get_mut.follows.lender c.keep.new.self).entries in
    let found : lookup named es ≡ Some c.in-Some.function.now = search rules in
    record {
      proper = functions_kept s.variables es fs s.proper
          ((c.get_mut.follows.holds c.keep.new.self).0 ∙ put_back named es c.in-Some.function.now c.keep.new.self c.keep.ensures found);
    }

pub returns : goal.returns
unfolding state_of
returns c =
    let named = is_at (λ (k : String Global). slice_cmp nat_cmp c.args.name.now (string_bytes k)) in
    let es = c.args.self.now.functions.entries in
    let found : lookup named es ≡ Some c.in-Some.function.now = search rules in
    ap (λ fs. record (state_of c.args.self.now) { functions = functions_of fs })
    ((c.get_mut.follows.holds c.keep.new.self).0 ∙ put_back named es c.in-Some.function.now c.keep.new.self c.keep.ensures found)
