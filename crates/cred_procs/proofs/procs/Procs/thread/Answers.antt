use Rattle.cred_procs.proofs.Places.{value_is}
use Rattle.cred_procs.proofs.procs.Procs.thread.Goals as goal

pub returns : goal.returns
returns c =
    rw (← c.self.view_is)
    (value_is c.self.inside.tasks.entries c.in_ok-place.place c.args.task c.index.result.now c.index.ensures
    (rw (← c.self.view_is) at c.in_ok-place.ensures.place))
