use Rattle.std.proofs.Common.{◌++◌, List, ◌∷◌, [], map, ap, sym, ◌∙◌}
use Rattle.std.specs.List.{filter}
use Rattle.std.proofs.lemmas.List.{take_all}
use Rattle.cred_model.specs.State.{Task}
use Rattle.cred_plain.specs.Tasks.{ends_by}
use Rattle.cred_plain.proofs.Passing.{fails, more_one}
use Rattle.cred_plain.proofs.tasks.add_numbers.Goals as goal
use Rattle.cred_plain.proofs.tasks.add_numbers.Goals.{then-takes+in_ok-push, else-takes}

pub loop-task-preserved : goal.loop-task-preserved
loop-task-preserved c =
    let p = ends_by c.args.ending in
    let xs = c.args.tasks.now in
    let i = c.loop-task.task-index in
    let x = c.task-item.result in
    elim c.if-takes.branch [
      | then-takes+in_ok-push w ↦
          more_one p xs i x c.loop-task-test.true c.task-item.is (λ (t : Task). t.number) c.args.numbers.now.items c.loop-task.numbers.items
          c.if-takes.numbers.items (sym c.takes.ensures ∙ w.if-takes.true)
          (ap (λ v. v.items) w.numbers-is ∙ w.in_ok-push.ensures.items ∙ ap (λ (t : Task). c.loop-task.numbers.items ++ t.number ∷ []) c.task.view_is)
          c.loop-task.invariant
      | else-takes w ↦
          ap (λ v. v.items) w.numbers-is ∙ c.loop-task.invariant
          ∙ ap (λ (ts : List Task). c.args.numbers.now.items ++ map (λ (t : Task). t.number) ts)
          (sym (fails p xs i x c.loop-task-test.true c.task-item.is (sym c.takes.ensures ∙ w.if-takes.false)))
    ]

pub returns : goal.returns
returns c =
    c.loop-task.invariant
    ∙ ap (λ (ts : List Task). c.args.numbers.now.items ++ map (λ (t : Task). t.number) (filter (ends_by c.args.ending) ts))
    (take_all c.loop-task.task-index c.args.tasks.now c.loop-task-test.false)
