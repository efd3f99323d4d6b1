use Rattle.std.proofs.Common.{◌-◌, ◌≤◌, length}
use Rattle.cred_ids.specs.Limits.{LINE_LIMIT}
use Rattle.cred_course.proofs.Courses.{Reaches}
use Rattle.cred_course.proofs.cursor.first_after.Given as goal

abbrev pub invariant-lines : goal.invariant-lines
invariant-lines l = record {
  reaches : Reaches l.script l.lane l.fn.line l.number;
  few : l.number ≤ LINE_LIMIT;
}

abbrev pub decreases-lines : goal.decreases-lines
decreases-lines l = length l.script.lines - l.number
