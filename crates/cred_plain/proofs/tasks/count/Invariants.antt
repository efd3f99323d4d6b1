use Rattle.std.proofs.Common.{◌≡◌, count_by, take}
use Rattle.cred_plain.specs.Tasks.{ends_by}
use Rattle.cred_plain.proofs.tasks.count.Given as goal

abbrev pub invariant-loop-task : goal.invariant-loop-task
invariant-loop-task l = l.count ≡ count_by (ends_by l.ending) (take l.task-index l.tasks)
