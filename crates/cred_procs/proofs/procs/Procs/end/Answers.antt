use Rattle.std.proofs.Common.{◌∙◌, List, get_or, ap, sym}
use Rattle.std.proofs.lemmas.List.{take_all}
use Rattle.cred_model.specs.State.{Task}
use Rattle.cred_model.specs.Ends.{is_task, survivors}
use Rattle.cred_procs.proofs.Many.{without_all, without_all-none, without_all-more, without-those, few_those}
use Rattle.cred_procs.proofs.procs.Procs.end.Goals as goal

pub loop-task-init : goal.loop-task-init
loop-task-init c = sym (without_all-none c.args.self.now)

pub loop-task-preserved : goal.loop-task-preserved
loop-task-preserved c =
    let items = c.items-task-items.result.now in
    c.remove.ensures
    ∙ ap (λ (ts : List Task). survivors (is_task (get_or items c.loop-task.task-index 0)) ts) c.loop-task.invariant
    ∙ sym (without_all-more items c.loop-task.task-index 0 c.args.self.now c.loop-task-test.true)

pub returns-clause-ended : goal.returns-clause-ended
returns-clause-ended c = λ ends these. record {
  ended = these;
  few = few_those ends c.args.self.now _ these c.in_ok-numbers.ensures.tasks.few;
  gave_up = c.in_ok-numbers.ensures.numbers ends (c.items.ensures ∙ these);
  left = c.loop-task.invariant
      ∙ ap (without_all c.args.self.now)
      (take_all c.loop-task.task-index c.items-task-items.result.now c.loop-task-test.false ∙ c.items-task-items.ensures ∙ these)
      ∙ without-those ends c.args.self.now c.in_ok-numbers.ensures.tasks.apart;
}
