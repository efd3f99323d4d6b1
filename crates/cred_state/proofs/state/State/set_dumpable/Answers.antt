use Rattle.cred_state.proofs.Seen.{seen_state}
use Rattle.cred_state.proofs.Broadcasts.{kept_beside}
use Rattle.cred_state.proofs.Traces.{dumpable_invalid, dumpable_none, dumpable_set}
use Rattle.cred_state.proofs.state.State.set_dumpable.Goals as goal

pub returns-in_default-clause-made : goal.returns-in_default-clause-made
returns-in_default-clause-made c =
    let t = c.self.inside in
    let s = seen_state t in
    rw (← c.self.view_is) (dumpable_none s c.args.task c.args.value c.in_default.ensures)

pub returns-in_default-flag_of_value-clause-made : goal.returns-in_default-flag_of_value-clause-made
returns-in_default-flag_of_value-clause-made c =
    let t = c.self.inside in
    let s = seen_state t in
    rw (← c.self.view_is)
    (dumpable_invalid s c.args.task c.args.value c.in-Some.process c.in-Some.ensures
    c.in_default-flag_of_value.ensures)

pub invariant_of-self : goal.invariant_of-self
invariant_of-self c =
    (kept_beside c.self.invariant.0 c.self.inside.broadcasts c.set.new.self, c.self.invariant.1)

pub returns-clause-made : goal.returns-clause-made
returns-clause-made c =
    let t = c.self.inside in
    let s = seen_state t in
    rw (← c.self.view_is, c.set.ensures)
    (dumpable_set s c.args.task c.args.value c.in-Some.process c.in-Some-flag_of_value.dumpable
    c.in-Some.ensures c.in-Some-flag_of_value.ensures)
