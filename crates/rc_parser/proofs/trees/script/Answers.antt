use Rattle.rc_parser.proofs.Scripts.{found_by, only_by, none_by, stages_by, levels_by}
use Rattle.rc_parser.proofs.trees.script.Goals as goal

pub returns : goal.returns
returns c = record {
  descent = c.parse_script.ensures;
  found = found_by _ _ c.parse_script.ensures;
  only = only_by _ _ c.parse_script.ensures;
  none = none_by _ _ c.parse_script.ensures;
  stages = stages_by _ _ c.parse_script.ensures;
  levels = levels_by _ _ c.parse_script.ensures;
}
