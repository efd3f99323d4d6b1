use Rattle.std.proofs.Common.{◌≡◌, ◌++◌, take}
use Rattle.cred_model.specs.Ends.{left_by}
use Rattle.cred_plain.specs.Tasks.{ends_by}
use Rattle.cred_plain.proofs.tasks.add_left.Given as goal

abbrev pub invariant-loop-task : goal.invariant-loop-task
invariant-loop-task l = l.numbers.items ≡ l.fn.numbers.items ++ left_by (ends_by l.ending) (take l.task-index l.tasks)
