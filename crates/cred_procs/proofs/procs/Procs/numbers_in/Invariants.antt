use Rattle.std.proofs.Common.{◌≡◌, take}
use Rattle.cred_procs.proofs.Many.{numbers_in}
use Rattle.cred_procs.proofs.procs.Procs.numbers_in.Given as goal

abbrev pub invariant-loop-task : goal.invariant-loop-task
invariant-loop-task l = l.numbers.items ≡ numbers_in l.self (take l.task-index l.tasks)
