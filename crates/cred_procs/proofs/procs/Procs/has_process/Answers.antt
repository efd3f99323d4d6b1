use Rattle.std.proofs.Common.{◌∙◌}
use Rattle.cred_procs.specs.Kept.{tasks_of}
use Rattle.cred_procs.proofs.Ends.{has_process-members}
use Rattle.cred_procs.proofs.procs.Procs.has_process.Goals as goal

pub returns : goal.returns
returns c =
    rw (← c.self.view_is, c.is_empty.ensures)
    (has_process-members c.args.process (tasks_of c.self.inside.tasks.entries) c.threads.result.now
    (c.threads.ensures ∙ c.self.invariant.grouped c.args.process))
