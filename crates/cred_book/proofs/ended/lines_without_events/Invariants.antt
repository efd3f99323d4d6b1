use Rattle.std.proofs.Common.{◌+◌, ◌-◌, length}
use Rattle.cred_book.proofs.Before.{IsCounted}
use Rattle.cred_book.proofs.ended.lines_without_events.Given as goal

abbrev pub invariant-lines : goal.invariant-lines
invariant-lines l = IsCounted l.script l.ended.items l.number

abbrev pub decreases-lines : goal.decreases-lines
decreases-lines l = length l.script.lines + 1 - l.number
