use Rattle.cred_state.proofs.Reading.{found-sealed, found-place}
use Rattle.cred_state.proofs.state.State.read_ns.Goals as goal

pub read_ns-requires-clause-sealed : goal.read_ns-requires-clause-sealed
read_ns-requires-clause-sealed c =
    found-sealed c.self.invariant.0 c.args.found (rw (← c.self.view_is) at c.requires.found) (rw (← c.self.view_is) at c.requires.used)

pub returns-clause-ns : goal.returns-clause-ns
returns-clause-ns c =
    let found = rw (← c.self.view_is) at c.requires.found in
    let used = rw (← c.self.view_is) at c.requires.used in
    rw (← c.self.view_is) (c.read_ns.ensures.ns _ (found-place c.self.invariant.0 c.args.found found used))
