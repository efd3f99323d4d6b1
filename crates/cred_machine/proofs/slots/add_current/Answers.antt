use Rattle.std.proofs.Common.{List, ◌++◌, ◌∷◌, [], map, ap, ◌∙◌}
use Rattle.std.proofs.lemmas.List.{take_all}
use Rattle.cred_model.specs.State.{Task}
use Rattle.cred_machine.proofs.Taken.{more_one}
use Rattle.cred_machine.proofs.slots.add_current.Goals as goal

pub loop-task-preserved : goal.loop-task-preserved
loop-task-preserved c =
    more_one c.args.tasks.now c.loop-task.task-index c.task-item.result c.loop-task-test.true c.task-item.is (λ (x : Task). x.current) c.args.numbers.now.items
    c.loop-task.numbers.items c.push.new.self.items
    (c.in_ok-push.ensures.items ∙ ap (λ (x : Task). c.loop-task.numbers.items ++ x.current ∷ []) c.task.view_is) c.loop-task.invariant

pub returns : goal.returns
returns c =
    c.loop-task.invariant
    ∙ ap (λ (xs : List Task). c.args.numbers.now.items ++ map (λ (x : Task). x.current) xs)
    (take_all c.loop-task.task-index c.args.tasks.now c.loop-task-test.false)
