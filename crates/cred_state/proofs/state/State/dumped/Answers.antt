use Rattle.cred_state.proofs.Seen.{seen_state}
use Rattle.cred_state.proofs.Traces.{dumped_is, dumped_none}
use Rattle.cred_state.proofs.state.State.dumped.Goals as goal

pub returns-in-Some : goal.returns-in-Some
returns-in-Some c =
    let t = c.self.inside in
    let s = seen_state t in
    rw (← c.self.view_is, c.is_dumpable.ensures)
    (dumped_is s c.args.task c.in-Some.process c.in-Some.ensures)

pub returns-in-None : goal.returns-in-None
returns-in-None c =
    let t = c.self.inside in
    let s = seen_state t in
    rw (← c.self.view_is) (dumped_none s c.args.task c.in-None.ensures)
