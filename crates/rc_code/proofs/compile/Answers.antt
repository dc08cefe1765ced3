use Rattle.std.proofs.Common.{◌≡◌, subst, sym}
use Rattle.law_handed.specs.Kept.{AllKeptProper}
use Rattle.law_handed.proofs.Keeping.{code_keeps_proper}
use Rattle.rc_model.specs.Code.Layout.{Code, code}
use Rattle.rc_tree.specs.View.{cmd_tree}
use Rattle.rc_code.specs.Views.{code_of}
use Rattle.rc_code.proofs.Frozen.{once_written, where_written}
use Rattle.rc_code.proofs.Parts.{whole_code}
use Rattle.rc_code.proofs.compile.Goals as goal

pub of-requires : goal.of-requires
of-requires c =
    let tree = cmd_tree c.args.cmd.now in
    once_written c.emit_whole-written.result c.emit_whole-written.ensures
    (λ put. let whole = whole_code _ _ tree c.empty-listing.ensures put in subst (λ (d : Code). AllKeptProper d.kept) (sym whole) (code_keeps_proper tree c.requires))

pub returns : goal.returns
returns c =
    let tree = cmd_tree c.args.cmd.now in
    where_written (λ done. code_of done ≡ code tree) c.of.result c.emit_whole-written.result c.of.ensures.whole c.emit_whole-written.ensures
    (λ put. let whole = whole_code _ _ tree c.empty-listing.ensures put in rw whole at c.of.ensures.code)
