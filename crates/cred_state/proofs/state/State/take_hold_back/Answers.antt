use Rattle.cred_state.proofs.Seen.{seen_state}
use Rattle.cred_state.proofs.Returns.{held_put}
use Rattle.cred_state.proofs.state.State.take_hold_back.Goals as goal

pub invariant_of-self : goal.invariant_of-self
invariant_of-self c =
    let t = c.self.inside in
    let s = seen_state t in
    let apart = rw (← c.self.view_is) at c.requires.apart in
    rw c.give_back.ensures.rest.1 (
      c.self.invariant.0,
      held_put s t.master.loans c.give_back.new.self.loans t.master.slots c.args.hold.label c.args.hold.slot c.args.hold.cred apart c.give_back.ensures.taken
          c.self.invariant.1,
    )
