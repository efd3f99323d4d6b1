use Rattle.std.proofs.Common.{sym, ◌∙◌}
use Rattle.cred_plain.proofs.Sealed.{length-sealed}
use Rattle.cred_plain.proofs.creds.Creds.next_number.Goals as goal

pub returns : goal.returns
returns c =
    let r = c.self.inside in
    rw (← c.self.view_is) (c.len.ensures ∙ r.slots.ok.0 ∙ sym (length-sealed r.forgotten r.stored.items 0 r.slots.items))
