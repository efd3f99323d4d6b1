use Rattle.std.proofs.Common.{arith}
use Rattle.cred_slots.proofs.Sound.{kept_within, seal-sound, seal-bag}
use Rattle.cred_slots.proofs.Uses.{alone-set}
use Rattle.cred_slots.proofs.slots.Slots.seal.Goals as goal

pub returns-clause-held : goal.returns-clause-held
returns-clause-held c =
    let kept = rw (← c.self.view_is) at c.requires.kept in
    let within = kept_within c.self.invariant c.args.slot kept in
    rw (← c.self.view_is) (seal-bag c.self.invariant c.args.slot c.len-number.result within kept)

pub invariant_of-self : goal.invariant_of-self
invariant_of-self c =
    let s = c.self.inside in
    let kept = rw (← c.self.view_is) at c.requires.kept in
    let spare = rw (← c.self.view_is) at c.requires.spare in
    let within = kept_within c.self.invariant c.args.slot kept in
    rw (c.put.ensures, c.put-2.ensures, c.push_reserved.ensures.items, c.push_reserved.ensures.capacity)
    (seal-sound c.self.invariant c.args.slot c.len-number.result within kept spare (omega (arith, c.len-number.ensures, s.sealed.ok.0)))

pub returns-clause-in_table : goal.returns-clause-in_table
returns-clause-in_table c = kept_within c.self.invariant c.args.slot (rw (← c.self.view_is) at c.requires.kept)

pub returns-clause-alone : goal.returns-clause-alone
returns-clause-alone c =
    let s = c.self.inside in
    let kept = rw (← c.self.view_is) at c.requires.kept in
    let spare = rw (← c.self.view_is) at c.requires.spare in
    let within = kept_within c.self.invariant c.args.slot kept in
    let sound = seal-sound c.self.invariant c.args.slot c.len-number.result within kept spare (omega (arith, c.len-number.ensures, s.sealed.ok.0)) in
    rw c.push_reserved.ensures.items
    (record { only = alone-set s.rows.items c.args.slot _ sound (omega (arith, within, c.self.invariant.all_rows)) })
