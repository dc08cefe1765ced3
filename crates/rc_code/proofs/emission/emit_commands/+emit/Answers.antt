use Rattle.std.proofs.Common.{◌≡◌, ◌∙◌, ◌+◌, ◌≤◌, sym, ap, arith, length, drop, drop_of_length-le}
use Rattle.std.proofs.lemmas.Grind.{common_steps}
use Rattle.rc_model.specs.Syntax.Tree.{more}
use Rattle.rc_tree.specs.View.{branch_tree, branches_tree, tree_For}
use Rattle.rc_code.specs.Listings.{listing_of}
use Rattle.rc_code.specs.Writing.{jumps_patched}
use Rattle.rc_code.proofs.Parts.{starts, stays, put_last, for_parts}
use Rattle.rc_code.proofs.PatchedJumps.{length_patched}
use Rattle.rc_code.proofs.Branches.{leaves_start, leaves_more, leaves_none}
use Rattle.rc_code.proofs.emission.emit_commands.+emit.Goals as goal

-- a jump stands where it was put

pub emit_pipeline-patch_stages-requires : goal.emit_pipeline-patch_stages-requires
emit_pipeline-patch_stages-requires t c =
    stays _ _ _ _ c.in_ok-put.ensures (stays _ _ _ _ c.in_ok-emit_cmd.ensures (starts _ _ _ _ c.in_ok-start.ensures.place c.in_ok-start.ensures.put))

pub emit_and_or-patch_skip-requires : goal.emit_and_or-patch_skip-requires
emit_and_or-patch_skip-requires t c = stays _ _ _ _ c.in_ok-emit_cmd-2.ensures (starts _ _ _ _ c.in_ok-place.ensures.place c.in_ok-place.ensures.put)

pub emit_if-patch-requires-clause-within : goal.emit_if-patch-requires-clause-within
emit_if-patch-requires-clause-within t c =
    stays _ _ _ _ c.in_ok-put.ensures (stays _ _ _ _ c.in_ok-emit_cmd-2.ensures (starts _ _ _ _ c.in_ok-place.ensures.place c.in_ok-place.ensures.put))

pub emit_if_not-patch-requires-clause-within : goal.emit_if_not-patch-requires-clause-within
emit_if_not-patch-requires-clause-within t c = stays _ _ _ _ c.in_ok-emit_cmd.ensures (starts _ _ _ _ c.in_ok-place.ensures.place c.in_ok-place.ensures.put)

pub emit_while-patch-requires-clause-within : goal.emit_while-patch-requires-clause-within
emit_while-patch-requires-clause-within t c =
    stays _ _ _ _ c.in_ok-put.ensures (stays _ _ _ _ c.in_ok-emit_cmd.ensures (starts _ _ _ _ c.in_ok-place.ensures.place c.in_ok-place.ensures.put))

pub emit_turns-patch-requires-clause-within : goal.emit_turns-patch-requires-clause-within
emit_turns-patch-requires-clause-within t c =
    stays _ _ _ _ c.in_ok-put-2.ensures (stays _ _ _ _ c.in_ok-emit_cmd.ensures (starts _ _ _ _ c.in_ok-turn.ensures.place c.in_ok-turn.ensures.put))

pub emit_branch-patch-requires-clause-within : goal.emit_branch-patch-requires-clause-within
emit_branch-patch-requires-clause-within t c =
    stays _ _ _ _ c.in_ok-last.ensures.put (stays _ _ _ _ c.in_ok-emit_cmd.ensures (starts _ _ _ _ c.in_ok-place.ensures.place c.in_ok-place.ensures.put))

pub emit_branch-returns-clause-last : goal.emit_branch-returns-clause-last
emit_branch-returns-clause-last t c =
    put_last _ _ _ _ c.in_ok-last.ensures.place c.in_ok-last.ensures.put ∙ sym (ap (λ d. length d.ops) c.patch.ensures ∙ length_patched _ _ _)

-- the branches that are left

pub emit_branches-loop-branch-init : goal.emit_branches-loop-branch-init
emit_branches-loop-branch-init t c = leaves_start _ _ _ _ c.new-ends.ensures.items

pub emit_branches-loop-branch-preserved : goal.emit_branches-loop-branch-preserved
emit_branches-loop-branch-preserved t c =
    let i = c.loop-branch.branch-index in
    let all = c.args.branches.now in
    let first : branches_tree (drop i all) ≡ more (branch_tree c.branch-item.result) (branches_tree (drop (i + 1) all)) = grind (arith, common_steps) in
    leaves_more _ _ _ _ _ _ _ _ _ _ _ c.loop-branch.invariant first c.in_ok-emit_branch.ensures.branch c.in_ok-emit_branch.ensures.last c.in_ok-push.ensures.items

pub emit_branches-returns : goal.emit_branches-returns
emit_branches-returns t c =
    let over : length c.args.branches.now ≤ c.loop-branch.branch-index = omega arith in
    leaves_none _ _ _ _ _ _ _ _ c.loop-branch.invariant (ap branches_tree (drop_of_length-le _ over)) c.in_ok-end.ensures
    (c.patch_jumps.ensures ∙ ap (λ ends. jumps_patched (listing_of c.loop-branch.code) ends c.in_ok-end.end) c.deref.ensures.value)

pub emit_cmd-returns-in_ok-emit_members-in-For : goal.emit_cmd-returns-in_ok-emit_members-in-For
emit_cmd-returns-in_ok-emit_members-in-For t c =
    rw (c.in-For.is, tree_For, for_parts, ← c.deref-in-For.ensures.value, ← c.deref-in-For-2.ensures, ← c.in_ok-emit_members-in-For.ensures) c.emit_turns-in-For.ensures
