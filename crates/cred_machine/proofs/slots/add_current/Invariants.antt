use Rattle.std.proofs.Common.{◌≡◌, ◌++◌, map, take}
use Rattle.cred_model.specs.State.{Task}
use Rattle.cred_machine.proofs.slots.add_current.Given as goal

abbrev pub invariant-loop-task : goal.invariant-loop-task
invariant-loop-task l = l.numbers.items ≡ l.fn.numbers.items ++ map (λ (x : Task). x.current) (take l.task-index l.tasks)
