use Rattle.law_image.proofs.Proper.{proper_new, proper_set, proper_push, proper_pop, proper_define, proper_undefine}
use Rattle.law_image.proofs.states_stay_proper.Goals as goal

pub returns-clause-begins : goal.returns-clause-begins
returns-clause-begins c = proper_new

pub returns-clause-variables : goal.returns-clause-variables
returns-clause-variables c = λ s name value n p. (proper_set s name value n p, proper_push s name value n p)

pub returns-clause-functions : goal.returns-clause-functions
returns-clause-functions c = proper_define

pub returns-clause-ends : goal.returns-clause-ends
returns-clause-ends c = λ s names p. (proper_pop s p, proper_undefine s names p)
