use Rattle.std.proofs.Common.{◌≡◌, ◌+◌, length, ◌∙◌, ap, arith}
use Rattle.std.proofs.lemmas.List.{length_push}
use Rattle.cred_plain.proofs.Sealed.{length-sealed, seals}
use Rattle.cred_plain.proofs.Rising.{stores}
use Rattle.cred_plain.proofs.creds.Creds.seal.Goals as goal

pub invariant_of-self : goal.invariant_of-self
invariant_of-self c =
    let r = c.self.inside in
    let number = rw (← c.self.view_is) at c.next_number-number.ensures in
    let stored = rw c.unwrap.ensures at c.push.ensures.items in
    let slots = rw c.unwrap-2.ensures at c.push-2.ensures.items in
    let long : length r.slots.items + 1 ≡ length c.push-2.new.self.items = omega (arith, length_push r.slots.items c.args.slot, ap length slots) in
    record {
      in_order = rw (stored, ← long)
          (stores r.stored.items (record { number = c.next_number-number.result; cred = c.args.cred }) (length r.slots.items) c.self.invariant.in_order
          (number ∙ length-sealed r.forgotten r.stored.items 0 r.slots.items));
      stands = c.self.invariant.stands;
    }

pub returns-clause-sealed : goal.returns-clause-sealed
returns-clause-sealed c =
    let r = c.self.inside in
    let number = rw (← c.self.view_is) at c.next_number-number.ensures in
    let stored = rw c.unwrap.ensures at c.push.ensures.items in
    let slots = rw c.unwrap-2.ensures at c.push-2.ensures.items in
    rw (← c.self.view_is, stored, slots)
    (seals r.forgotten r.stored.items r.slots.items c.args.cred c.args.slot c.next_number-number.result c.self.invariant.in_order
    (number ∙ length-sealed r.forgotten r.stored.items 0 r.slots.items))
