use Rattle.std.proofs.Common.{◌≡◌, ◌++◌, map, take}
use Rattle.std.specs.List.{filter}
use Rattle.cred_model.specs.State.{Task}
use Rattle.cred_plain.specs.Tasks.{ends_by}
use Rattle.cred_plain.proofs.tasks.add_numbers.Given as goal

abbrev pub invariant-loop-task : goal.invariant-loop-task
invariant-loop-task l =
    l.numbers.items ≡ l.fn.numbers.items ++ map (λ (t : Task). t.number) (filter (ends_by l.ending) (take l.task-index l.tasks))
