use Rattle.std.proofs.Common.{◌≡◌, slice_get, Some, sym, ◌∙◌}
use Rattle.cred_plain.proofs.Sealed.{numbered-sealed, slot-sealed}
use Rattle.cred_plain.proofs.creds.Creds.get.Goals as goal

pub returns : goal.returns
returns c =
    let r = c.self.inside in
    let at = rw (← c.self.view_is) at c.in_ok-slot.ensures in
    let there : slice_get r.slots.items c.args.number ≡ Some c.in_ok-slot.slot
    = sym (slot-sealed r.forgotten r.stored.items r.slots.items c.args.number) ∙ sym at in
    rw (← c.self.view_is, c.credential-cred.ensures, c.deref.ensures.value)
    (sym (numbered-sealed r.forgotten r.stored.items r.slots.items c.args.number c.in_ok-slot.slot there))
