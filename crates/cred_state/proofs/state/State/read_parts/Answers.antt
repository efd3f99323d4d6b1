use Rattle.cred_state.proofs.Reading.{found-place, found-sealed}
use Rattle.cred_state.proofs.state.State.read_parts.Goals as goal

pub read_parts-requires-clause-sealed : goal.read_parts-requires-clause-sealed
read_parts-requires-clause-sealed c =
    found-sealed c.self.invariant.0 c.args.found (rw (← c.self.view_is) at c.requires.found) (rw (← c.self.view_is) at c.requires.used)

pub returns-clause-parts : goal.returns-clause-parts
returns-clause-parts c =
    rw (← c.self.view_is)
    (c.read_parts.ensures.parts _
    (found-place c.self.invariant.0 c.args.found (rw (← c.self.view_is) at c.requires.found) (rw (← c.self.view_is) at c.requires.used)))
