use Rattle.cred_state.proofs.Reserved.{kept_swept}
use Rattle.cred_state.proofs.state.State.sweep.Goals as goal

pub invariant_of-self : goal.invariant_of-self
invariant_of-self c = (kept_swept c.self.invariant.0 c.sweep.ensures, c.self.invariant.1)
