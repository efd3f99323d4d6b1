use Rattle.cred_tables.proofs.Free.{uses-same}
use Rattle.cred_tables.proofs.Stored.{is_table}
use Rattle.cred_state.proofs.state.State.uses.Goals as goal

pub returns : goal.returns
returns c = rw (← c.self.view_is, c.uses.ensures.uses) (uses-same _ c.self.inside.slots (is_table c.self.invariant.0) c.args.slot)
