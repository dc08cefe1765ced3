use Rattle.std.proofs.Common.{false, length, refl, sym, ap, ◌∙◌}
use Rattle.law_syntax.proofs.Decided.{are_spelled}
use Rattle.rc_model.specs.Syntax.Tree.{none}
use Rattle.rc_parser.specs.ItemReading.{items_after}
use Rattle.rc_parser.proofs.ReadItems.{items_begin}
use Rattle.rc_parser.proofs.items.Items.new.Goals as goal

pub new-rest-requires : goal.new-rest-requires
new-rest-requires c = are_spelled c.requires

pub returns : goal.returns
returns c = record {
  script_is = refl;
  has = c.requires;
  goes_on = items_begin _ _ (c.len.ensures ∙ ap (λ ts. length ts) c.new-rest.ensures) ∙ ap (λ ts. items_after 199 c.len.result false ts none) (sym c.new-rest.ensures);
  fits_is = refl;
}
