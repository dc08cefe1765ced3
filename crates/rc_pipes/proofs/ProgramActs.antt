-- What joins the acts of a shell over a world.
use Rattle.rc_world.proofs.Joins.{left_here, passed_up}
use Rattle.law_plans.proofs.Runs.{ran_none}

pub ruleset acting = (passed_up, ran_none, left_here)
