use Rattle.cred_course.proofs.Least.{IsLeastBelow}
use Rattle.cred_course.proofs.lane_cursors.least_of.Given as goal

abbrev pub invariant-lanes : goal.invariant-lanes
invariant-lanes l = IsLeastBelow l.cursors l.least l.lane
