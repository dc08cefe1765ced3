use Rattle.rc_glob.proofs.Plain.{plain_is}
use Rattle.rc_glob.proofs.matching.matches.Goals as goal

pub returns-in-None : goal.returns-in-None
returns-in-None c =
    plain_is c.args.explicit c.eq.result c.args.word.now c.text.result.now c.args.text.now c.text.utf8 c.utf8.text c.in-None.ensures c.text.ensures.characters c.eq.ensures
