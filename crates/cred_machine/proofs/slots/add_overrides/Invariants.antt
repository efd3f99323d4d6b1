use Rattle.std.proofs.Common.{◌≡◌, ◌++◌, take}
use Rattle.std.specs.List.{flat_map}
use Rattle.cred_model.specs.State.{Task}
use Rattle.cred_machine.proofs.slots.add_overrides.Given as goal

abbrev pub invariant-loop-task : goal.invariant-loop-task
invariant-loop-task l = l.numbers.items ≡ l.fn.numbers.items ++ flat_map (λ (t : Task). t.overrides) (take l.task-index l.tasks)
