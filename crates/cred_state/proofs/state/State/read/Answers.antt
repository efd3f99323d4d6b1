use Rattle.std.proofs.Common.{◌≡◌, Some, slice_get}
use Rattle.std.proofs.lemmas.Result.{IfOk-weaker}
use Rattle.cred_state.proofs.Reading.{found-sealed, found-there}
use Rattle.cred_state.proofs.state.State.read.Goals as goal

pub read_slot-requires-clause-sealed : goal.read_slot-requires-clause-sealed
read_slot-requires-clause-sealed c =
    let t = c.self.inside in
    found-sealed c.self.invariant.0 c.args.found (rw (← c.self.view_is) at c.requires.found) (rw (← c.self.view_is) at c.requires.used)

pub returns-clause-cred : goal.returns-clause-cred
returns-clause-cred c =
    let t = c.self.inside in
    let is = rw (← c.self.view_is) at c.requires.found in
    rw (← c.self.view_is)
    (IfOk-weaker c.read_slot.result (λ cred. slice_get t.master.slots c.args.found.slot ≡ Some (Some cred)) _
    (λ cred there. found-there t.master.slots t.slots.sealed c.args.found is cred there) c.read_slot.ensures.cred)
