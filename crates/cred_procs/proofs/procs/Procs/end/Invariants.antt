use Rattle.std.proofs.Common.{◌≡◌, take}
use Rattle.cred_procs.proofs.Many.{without_all}
use Rattle.cred_procs.proofs.procs.Procs.end.Given as goal

abbrev pub invariant-loop-task : goal.invariant-loop-task
invariant-loop-task l = l.self ≡ without_all l.fn.self (take l.task-index l.task-items)
