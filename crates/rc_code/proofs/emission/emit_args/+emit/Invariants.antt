use Rattle.std.proofs.Common.{◌≡◌, drop}
use Rattle.rc_model.specs.Code.Layout.{args_code, more_parts_code, parts_code}
use Rattle.rc_tree.specs.View.{args_tree}
use Rattle.rc_code.specs.Writing.{with_part}
use Rattle.rc_code.specs.Emission.{list_code}
use Rattle.rc_code.specs.Listings.{listing_of}
use Rattle.rc_code.proofs.emission.emit_args.+emit.Given as goal

-- what is written and what is left is the whole
abbrev pub invariant-emit_list-loop-word : goal.invariant-emit_list-loop-word
invariant-emit_list-loop-word l =
    with_part (listing_of l.code) (args_code (args_tree (drop l.word-index l.words))) ≡ with_part (listing_of l.fn.code) (list_code (args_tree l.words))

abbrev pub invariant-emit_parts-loop-part : goal.invariant-emit_parts-loop-part
invariant-emit_parts-loop-part l =
    with_part (listing_of l.code) (more_parts_code (args_tree (drop l.part-index l.further))) ≡ with_part (listing_of l.fn.code) (parts_code (args_tree l.fn.parts))
