use Rattle.cred_procs.proofs.Places.{current_is}
use Rattle.cred_procs.proofs.procs.Procs.current_at.Goals as goal

pub returns : goal.returns
returns c = rw (← c.self.view_is) (current_is c.self.inside.tasks.entries c.args.place c.index.result.now c.index.ensures)
