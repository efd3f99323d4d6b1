use Rattle.std.proofs.Common.{arith}
use Rattle.cred_slots.proofs.Sound.{referred_standing, referred_at, place_within, row_read, row_fits, add-sound, add-bag}
use Rattle.cred_slots.proofs.slots.Slots.add.Goals as goal

pub index-slot-requires : goal.index-slot-requires
index-slot-requires c =
    let s = c.self.inside in
    let referred = rw (← c.self.view_is) at c.requires.referred in
    let found = referred_standing c.self.invariant c.args.number referred in
    omega (arith, place_within s.sealed.items c.args.number found.0 found.1.place, s.sealed.ok.0)

pub index_mut-requires : goal.index_mut-requires
index_mut-requires c =
    let referred = rw (← c.self.view_is) at c.requires.referred in
    let at = referred_at c.self.invariant c.args.number referred c.index-slot.result.now c.index-slot.ensures in
    omega (arith, at.0.in_table, c.self.invariant.all_rows, c.self.inside.rows.ok.0)

pub overflow_add-index_mut : goal.overflow_add-index_mut
overflow_add-index_mut c =
    let s = c.self.inside in
    let referred = rw (← c.self.view_is) at c.requires.referred in
    let at = referred_at c.self.invariant c.args.number referred c.index-slot.result.now c.index-slot.ensures in
    let row = row_read s.rows.items c.index-slot.result.now c.index_mut.result.now c.self.invariant.all_rows at.0.in_table c.index_mut.ensures.value in
    rw row (omega (arith, row_fits c.self.invariant c.index-slot.result.now at.0.in_table, s.deferred.small))

pub put-requires : goal.put-requires
put-requires c =
    let referred = rw (← c.self.view_is) at c.requires.referred in
    let at = referred_at c.self.invariant c.args.number referred c.index-slot.result.now c.index-slot.ensures in
    at.0.in_table

pub invariant_of-self : goal.invariant_of-self
invariant_of-self c =
    let s = c.self.inside in
    let referred = rw (← c.self.view_is) at c.requires.referred in
    let spare = rw (← c.self.view_is) at c.requires.spare in
    let at = referred_at c.self.invariant c.args.number referred c.index-slot.result.now c.index-slot.ensures in
    let row = row_read s.rows.items c.index-slot.result.now c.index_mut.result.now c.self.invariant.all_rows at.0.in_table c.index_mut.ensures.value in
    rw c.put.ensures
    (add-sound c.self.invariant c.args.number c.index-slot.result.now at.0 c.index_mut.result.now row (rw row at.1) spare)

pub returns-clause-held : goal.returns-clause-held
returns-clause-held c =
    let s = c.self.inside in
    let referred = rw (← c.self.view_is) at c.requires.referred in
    let at = referred_at c.self.invariant c.args.number referred c.index-slot.result.now c.index-slot.ensures in
    let row = row_read s.rows.items c.index-slot.result.now c.index_mut.result.now c.self.invariant.all_rows at.0.in_table c.index_mut.ensures.value in
    rw (← c.self.view_is)
    (add-bag s.rows.items s.sealed.items c.args.number c.index-slot.result.now c.self.invariant.all_rows at.0 c.index_mut.result.now row)
