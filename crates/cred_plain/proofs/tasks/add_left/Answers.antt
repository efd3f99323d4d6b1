use Rattle.std.proofs.Common.{◌++◌, List, ap, sym, ◌∙◌}
use Rattle.cred_model.specs.State.{Task}
use Rattle.std.proofs.lemmas.List.{take_all}
use Rattle.cred_model.specs.Ends.{left_by, numbers_of}
use Rattle.std.specs.List.{flat_map}
use Rattle.cred_plain.specs.Tasks.{ends_by}
use Rattle.cred_plain.proofs.Passing.{fails, more_each}
use Rattle.cred_plain.proofs.tasks.add_left.Goals as goal
use Rattle.cred_plain.proofs.tasks.add_left.Goals.{then-takes+in_ok-refer, else-takes}

pub loop-task-preserved : goal.loop-task-preserved
loop-task-preserved c =
    let p = ends_by c.args.ending in
    let xs = c.args.tasks.now in
    let i = c.loop-task.task-index in
    let x = c.task-item.result in
    elim c.if-takes.branch [
      | then-takes+in_ok-refer w ↦
          more_each p xs i x c.loop-task-test.true c.task-item.is numbers_of c.args.numbers.now.items c.loop-task.numbers.items c.if-takes.numbers.items
          (sym c.takes.ensures ∙ w.if-takes.true) (ap (λ v. v.items) w.numbers-is ∙ w.in_ok-refer.ensures) c.loop-task.invariant
      | else-takes w ↦
          ap (λ v. v.items) w.numbers-is ∙ c.loop-task.invariant
          ∙ ap (λ (ts : List Task). c.args.numbers.now.items ++ flat_map numbers_of ts)
          (sym (fails p xs i x c.loop-task-test.true c.task-item.is (sym c.takes.ensures ∙ w.if-takes.false)))
    ]

pub returns : goal.returns
returns c =
    c.loop-task.invariant
    ∙ ap (λ (ts : List Task). c.args.numbers.now.items ++ left_by (ends_by c.args.ending) ts)
    (take_all c.loop-task.task-index c.args.tasks.now c.loop-task-test.false)
