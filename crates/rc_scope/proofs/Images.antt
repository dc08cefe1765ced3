-- Images that are kept for the bodies of functions.
use Rattle.std.proofs.Common.{◌≡◌, ℕ, zero, suc, ◌+◌, ◌≤◌, List, [], ◌∷◌, length, drop, codes, Ok, ap, sym, ◌∙◌, subst, arith}
use Rattle.std.proofs.lemmas.List.{length-append}
use Rattle.std.proofs.lemmas.Grind.{common_steps}
use Rattle.rc_model.specs.Syntax.Text.{begins_with}
use Rattle.rc_model.specs.Syntax.Tree.{Node, cmd}
use Rattle.rc_model.specs.Handed.Image.{image}
use Rattle.rc_model.specs.Handed.TreeReading.{read_tree, read_spelling}
use Rattle.law_image.proofs.Exact.{if_ok}
use Rattle.law_image.proofs.Trees.{begins_back}
use Rattle.rc_scope.specs.FunctionBodies.{IsImage, image_tree}
use Rattle.rc_scope.specs.KeptEntries.{kept_text}
use Rattle.rc_scope.specs.declared.kept_entries.KeptEntry.{KeptEntry}

-- an image that is read begins with its mark
begun : (text : List ℕ) (c : Node cmd) → read_tree text ≡ Ok c → 4 ≤ length text
begun text c h =
    let mark = (if_ok (begins_with (codes "rc1;") text) _ _ c h).0 in
    let e : length text ≡ 4 + length (drop 4 text) = ap length (begins_back (codes "rc1;") text mark) ∙ length-append (codes "rc1;") (drop 4 text) in
    omega (arith, e)

dropped : (n : ℕ) (bytes : List ℕ) → 1 ≤ length (drop n bytes) → n ≤ length bytes
dropped zero bytes h = omega arith
dropped (suc n) [] h = absurd (omega (arith, h))
dropped (suc n) (b ∷ bytes) h = let i : n ≤ length bytes = dropped n bytes h in omega (arith, i)

-- it has room for the mark, and begins in its entry
pub has_mark : (kept : KeptEntry) → IsImage kept → 4 ≤ length (kept_text kept)
has_mark kept h = begun (kept_text kept) _ h.0

pub has_place : (n : ℕ) (bytes : List ℕ) → 4 ≤ length (drop n bytes) → n ≤ length bytes
has_place n bytes h = dropped n bytes (omega (arith, h))

-- what follows the mark is read as the tree
pub spelled : (kept : KeptEntry) → IsImage kept → read_spelling (drop 4 (kept_text kept)) ≡ Ok (image_tree (kept_text kept))
spelled kept h = (if_ok (begins_with (codes "rc1;") (kept_text kept)) _ _ _ h.0).1

pub ruleset places = (has_mark, has_place, spelled, common_steps)

-- the same text is an image as well
pub same_image : (kept copy : KeptEntry) → kept_text copy ≡ kept_text kept → IsImage kept → IsImage copy
same_image kept copy e h = subst (λ x. (read_tree x ≡ Ok (image_tree x)) × (x ≡ image (image_tree x))) (sym e) h

pub ruleset copies = (same_image, common_steps)
