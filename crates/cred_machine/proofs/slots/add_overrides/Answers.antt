use Rattle.std.proofs.Common.{List, ◌++◌, ap, ◌∙◌}
use Rattle.std.specs.List.{flat_map}
use Rattle.std.proofs.lemmas.List.{take_all}
use Rattle.cred_model.specs.State.{Task}
use Rattle.cred_machine.proofs.Taken.{more_each}
use Rattle.cred_machine.proofs.slots.add_overrides.Goals as goal

pub loop-task-preserved : goal.loop-task-preserved
loop-task-preserved c =
    more_each c.args.tasks.now c.loop-task.task-index c.task-item.result c.loop-task-test.true c.task-item.is (λ (x : Task). x.overrides)
    c.args.numbers.now.items
    c.loop-task.numbers.items c.extend_from_slice.new.self.items
    (c.in_ok-extend_from_slice.ensures.items
    ∙ ap (λ ns. c.loop-task.numbers.items ++ ns) (c.deref.ensures.value ∙ ap (λ (x : Task). x.overrides) c.task.view_is)) c.loop-task.invariant

pub returns : goal.returns
returns c =
    c.loop-task.invariant
    ∙ ap (λ (xs : List Task). c.args.numbers.now.items ++ flat_map (λ (x : Task). x.overrides) xs)
    (take_all c.loop-task.task-index c.args.tasks.now c.loop-task-test.false)
