use Rattle.cred_slots.proofs.Live.{least-once_swept}
use Rattle.cred_slots.proofs.slots.Slots.least_free_once_swept.Goals as goal

pub returns : goal.returns
returns c =
    let both = c.union.ensures in
    rw (c.first_unset.ensures, both, ← c.self.view_is) (least-once_swept c.self.invariant)
