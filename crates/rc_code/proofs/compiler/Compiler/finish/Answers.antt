use Rattle.std.proofs.Common.{◌≡◌, subst, sym}
use Rattle.law_handed.specs.Kept.{AllKeptProper}
use Rattle.law_handed.proofs.Keeping.{code_keeps_proper}
use Rattle.rc_model.specs.Code.Layout.{Code, code}
use Rattle.rc_model.specs.Syntax.Tree.{Seq}
use Rattle.rc_code.specs.Views.{code_of}
use Rattle.rc_code.proofs.Frozen.{once_written, where_written}
use Rattle.rc_code.proofs.Items.{whole_items, written_so_far}
use Rattle.rc_code.proofs.compiler.Compiler.finish.Goals as goal

pub of-requires : goal.of-requires
of-requires c =
    let tree = Seq c.requires.0 in
    let has = written_so_far c.args.self.is_spent _ _ c.requires.1 in
    once_written c.put-written.result c.put-written.ensures
    (λ put. let whole = whole_items c.requires.0 _ _ has put in subst (λ (d : Code). AllKeptProper d.kept) (sym whole) (code_keeps_proper tree c.requires.2))

pub returns : goal.returns
returns c = λ items has.
    where_written (λ done. code_of done ≡ code (Seq items)) c.of.result c.put-written.result c.of.ensures.whole c.put-written.ensures
    (λ put. let whole = whole_items items _ _ (written_so_far c.args.self.is_spent _ _ has) put in rw whole at c.of.ensures.code)
