use Rattle.std.proofs.Common.{◌<◌, length, true, false, refl, arith, get_or-set_same}
use Rattle.cred_slots.proofs.Live.{least-is}
use Rattle.cred_slots.proofs.Sound.{keep-sound}
use Rattle.cred_slots.proofs.slots.Slots.keep.Goals as goal

pub put-requires : goal.put-requires
put-requires c =
    let free = rw (← c.self.view_is) at c.requires in
    (least-is c.self.invariant c.args.slot free).0

pub invariant_of-self : goal.invariant_of-self
invariant_of-self c =
    let free = rw (← c.self.view_is) at c.requires in
    let is = least-is c.self.invariant c.args.slot free in
    rw c.put.ensures (keep-sound c.self.invariant c.args.slot is.0 is.1)

pub returns-clause-kept : goal.returns-clause-kept
returns-clause-kept c =
    let free = rw (← c.self.view_is) at c.requires in
    let is = least-is c.self.invariant c.args.slot free in
    let within : c.args.slot < length c.self.inside.kept = omega (arith, is.0, c.self.invariant.all_kept) in
    rw (c.put.ensures, get_or-set_same c.self.inside.kept c.args.slot true false within) refl
