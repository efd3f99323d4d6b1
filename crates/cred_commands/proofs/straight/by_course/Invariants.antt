use Rattle.std.proofs.Common.{◌≡◌, ◌++◌, take}
use Rattle.cred_report.specs.Text.{text}
use Rattle.cred_commands.proofs.straight.by_course.Given as goal

abbrev pub invariant-entries : goal.invariant-entries
invariant-entries l = (l.out ≡ l.initial.out ++ text l.script (take l.entry-index l.entry-items))
