use Rattle.std.proofs.Common.{sym, subst}
use Rattle.cred_broadcasts.specs.Broadcasts.{AreBroadcasts}
use Rattle.cred_broadcasts.proofs.Kept.{are_left}
use Rattle.cred_broadcasts.proofs.broadcasts.Broadcasts.remove_task.Goals as goal

pub invariant_of-self : goal.invariant_of-self
invariant_of-self c = subst AreBroadcasts (sym c.leave.ensures) (are_left c.args.task c.self.inside.broadcasts.items c.self.invariant)
