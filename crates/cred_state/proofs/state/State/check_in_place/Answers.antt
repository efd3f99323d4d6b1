use Rattle.cred_state.proofs.Reading.{are_in_place}
use Rattle.cred_state.proofs.state.State.check_in_place.Goals as goal

pub returns : goal.returns
returns c = rw (← c.self.view_is) (are_in_place c.self.invariant.0)
