use Rattle.cred_state.proofs.Broadcasts.{busy_by}
use Rattle.cred_state.proofs.state.State.begun.Goals as goal

pub returns : goal.returns
returns c = rw (← c.self.view_is) (busy_by _ c.begun_by.result c.begun_by.ensures)
