use Rattle.rc_glob.proofs.Hashes.{not_there}
use Rattle.rc_glob.proofs.search.stands_at.Goals as goal

pub returns-else-hash-wanted : goal.returns-else-hash-wanted
returns-else-hash-wanted c = not_there _ _ _ c.requires c.if-hash-wanted.false
