use Rattle.cred_state.proofs.Reading.{found-place, found-sealed}
use Rattle.cred_state.proofs.state.State.read_head.Goals as goal

pub head-requires-clause-sealed : goal.head-requires-clause-sealed
head-requires-clause-sealed c =
    found-sealed c.self.invariant.0 c.args.found (rw (← c.self.view_is) at c.requires.found) (rw (← c.self.view_is) at c.requires.used)

pub returns-clause-head : goal.returns-clause-head
returns-clause-head c =
    rw (← c.self.view_is)
    (c.head.ensures.head _
    (found-place c.self.invariant.0 c.args.found (rw (← c.self.view_is) at c.requires.found) (rw (← c.self.view_is) at c.requires.used)))
