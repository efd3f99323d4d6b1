use Rattle.std.proofs.Common.{◌≡◌, length}
use Rattle.cred_course.proofs.AllLanes.{AreFirst}
use Rattle.cred_course.proofs.lane_cursors.Cursors.new.Given as goal

abbrev pub invariant-lanes : goal.invariant-lanes
invariant-lanes l = record {
  long : length l.cursors.items ≡ l.lane;
  each : AreFirst l.script l.cursors.items;
}
