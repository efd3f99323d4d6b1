use Rattle.cred_slots.proofs.Live.{least-by_flags}
use Rattle.cred_slots.proofs.slots.Slots.least_free.Goals as goal

pub returns : goal.returns
returns c =
    let first = c.union.ensures in
    let second = c.union-2.ensures in
    rw (c.first_unset.ensures, second, first, ← c.self.view_is) (least-by_flags c.self.invariant)
