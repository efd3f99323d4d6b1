use Rattle.std.proofs.Common.{sym, ap, ◌∙◌}
use Rattle.std.proofs.Common.{slice_get, List, ℕ}
use Rattle.cred_plain.proofs.Sealed.{slot-sealed}
use Rattle.cred_plain.proofs.creds.Creds.slot_of.Goals as goal

pub returns : goal.returns
returns c =
    let r = c.self.inside in
    rw (← c.self.view_is)
    (c.slot_in.ensures
    ∙ ap (λ (slots : List ℕ). slice_get slots c.args.number) c.deref.ensures.value
    ∙ sym (slot-sealed r.forgotten r.stored.items r.slots.items c.args.number))
