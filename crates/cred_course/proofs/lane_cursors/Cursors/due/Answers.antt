use Rattle.std.proofs.Common.{rules}
use Rattle.cred_course.proofs.lane_cursors.Cursors.due.Goals as goal

pub returns : goal.returns
returns c = search rules
