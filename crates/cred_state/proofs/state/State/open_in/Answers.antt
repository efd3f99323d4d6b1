use Rattle.cred_state.proofs.Broadcasts.{busy_by}
use Rattle.cred_state.proofs.state.State.open_in.Goals as goal

pub returns : goal.returns
returns c = rw (← c.self.view_is) (busy_by _ c.open_in.result c.open_in.ensures.number)
