use Rattle.cred_commands.proofs.RunningLine.{RunsLine}
use Rattle.cred_course.specs.Waiting.{waiting}
use Rattle.cred_course.specs.Cursor.{left_at}
use Rattle.std.proofs.Common.{◌≡◌, ◌+◌, Some}
use Rattle.cred_commands.proofs.line.run_line.Given as goal

abbrev pub invariant-events : goal.invariant-events
invariant-events l =
    RunsLine l.script l.past l.initial.state.state l.state.state l.initial.entries.items l.entries.items l.content l.course
    × (l.state.words ≡ l.initial.state.words)

abbrev pub decreases-events : goal.decreases-events
decreases-events l = left_at l.script (Some l.course) + waiting l.state.state
