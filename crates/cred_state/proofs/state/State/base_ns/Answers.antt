use Rattle.std.proofs.Common.{sym}
use Rattle.cred_state.proofs.Standing.{base-in_use}
use Rattle.cred_state.proofs.state.State.base_ns.Goals as goal

pub read_ns-requires-clause-used : goal.read_ns-requires-clause-used
read_ns-requires-clause-used c = base-in_use c.args.self.now.state c.args.label _ (sym c.in_ok-base.ensures)
