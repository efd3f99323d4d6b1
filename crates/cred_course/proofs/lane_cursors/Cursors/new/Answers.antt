use Rattle.std.proofs.Common.{◌≡◌, ◌+◌, length, arith}
use Rattle.cred_script.specs.Lanes.{lanes}
use Rattle.cred_course.proofs.AllLanes.{all_first}
use Rattle.cred_course.proofs.lane_cursors.Cursors.new.Goals as goal

pub returns-clause-cursors : goal.returns-clause-cursors
returns-clause-cursors c =
    let long : length c.lanes.cursors.items ≡ lanes c.args.script.now.lines + 1 = omega (arith, c.lanes-lane-end.ensures.greatest) in
    λ lane. all_first c.args.script.now c.lanes.cursors.items lane long c.lanes.invariant.each
