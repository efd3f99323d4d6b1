use Rattle.std.proofs.Common.{◌≤◌, ℕ, All, List, subst, arith}
use Rattle.std.proofs.lemmas.List.{take_all}
use Rattle.cred_model.specs.State.{Task}
use Rattle.cred_model.specs.Ends.{numbers_of}
use Rattle.cred_plain.proofs.Least.{more_tasks}
use Rattle.cred_plain.proofs.references.least_in.Goals as goal

pub loop-task-preserved : goal.loop-task-preserved
loop-task-preserved c =
    more_tasks c.min-least.result c.loop-task.least c.least.result c.args.tasks.now c.loop-task.task-index c.task-item.result
    c.loop-task-test.true c.task-item.is (omega (arith, c.min-least.ensures)) (omega (arith, c.min-least.ensures))
    c.loop-task.invariant c.least.ensures

pub returns : goal.returns
returns c =
    subst (λ (ts : List Task). All (λ (t : Task). All (λ (n : ℕ). c.loop-task.least ≤ n) (numbers_of t)) ts)
    (take_all c.loop-task.task-index c.args.tasks.now c.loop-task-test.false) c.loop-task.invariant
