use Rattle.std.proofs.Common.{◌≤◌, ℕ, All, take}
use Rattle.cred_model.specs.State.{Task}
use Rattle.cred_model.specs.Ends.{numbers_of}
use Rattle.cred_plain.proofs.references.least_in.Given as goal

abbrev pub invariant-loop-task : goal.invariant-loop-task
invariant-loop-task l = All (λ (t : Task). All (λ (n : ℕ). l.least ≤ n) (numbers_of t)) (take l.task-index l.tasks)
