use Rattle.std.proofs.Common.{sym}
use Rattle.cred_state.proofs.Standing.{held-in_use}
use Rattle.cred_state.proofs.state.State.read_held.Goals as goal

pub read-requires-clause-used : goal.read-requires-clause-used
read-requires-clause-used c =
    held-in_use c.args.self.now.state c.args.label _ (sym c.in-Some.ensures)
