use Rattle.cred_model.specs.Ends.{is_task}
use Rattle.cred_procs.proofs.Many.{those-task}
use Rattle.cred_procs.proofs.procs.Procs.exit.Goals as goal

pub returns-clause-numbers : goal.returns-clause-numbers
returns-clause-numbers c =
    c.in_ok-numbers.ensures.numbers (is_task c.args.task)
    (those-task c.args.task c.args.self.now c.in_ok-numbers.ensures.tasks.apart c.requires)
