use Rattle.cred_state.proofs.state.State.sealed_at.Goals as goal

pub returns : goal.returns
returns c = rw (← c.self.view_is) (c.sealed_at.ensures c.self.inside.master.slots)
