use Rattle.std.proofs.Common.{arith}
use Rattle.cred_slots.proofs.Sound.{held_standing, held_at, place_within, row_read, row_fits, drop-sound, drop-bag}
use Rattle.cred_slots.proofs.slots.Slots.drop_later.Goals as goal

pub index-slot-requires : goal.index-slot-requires
index-slot-requires c =
    let s = c.self.inside in
    let held = rw (← c.self.view_is) at c.requires in
    let found = held_standing c.self.invariant c.args.number held in
    omega (arith, place_within s.sealed.items c.args.number found.0 found.1.place, s.sealed.ok.0)

pub index_mut-row-requires : goal.index_mut-row-requires
index_mut-row-requires c =
    let held = rw (← c.self.view_is) at c.requires in
    let at = held_at c.self.invariant c.args.number held c.index-slot.result.now c.index-slot.ensures in
    omega (arith, at.0.in_table, c.self.invariant.all_rows, c.self.inside.rows.ok.0)

pub overflow_sub-row : goal.overflow_sub-row
overflow_sub-row c =
    let s = c.self.inside in
    let held = rw (← c.self.view_is) at c.requires in
    let at = held_at c.self.invariant c.args.number held c.index-slot.result.now c.index-slot.ensures in
    let row = row_read s.rows.items c.index-slot.result.now c.index_mut-row.result.now c.self.invariant.all_rows at.0.in_table c.index_mut-row.ensures.value in
    rw row at.1

pub overflow_add-row : goal.overflow_add-row
overflow_add-row c =
    let s = c.self.inside in
    let held = rw (← c.self.view_is) at c.requires in
    let at = held_at c.self.invariant c.args.number held c.index-slot.result.now c.index-slot.ensures in
    let row = row_read s.rows.items c.index-slot.result.now c.index_mut-row.result.now c.self.invariant.all_rows at.0.in_table c.index_mut-row.ensures.value in
    rw row (omega (arith, row_fits c.self.invariant c.index-slot.result.now at.0.in_table, s.deferred.small))

pub put-requires : goal.put-requires
put-requires c =
    let held = rw (← c.self.view_is) at c.requires in
    let at = held_at c.self.invariant c.args.number held c.index-slot.result.now c.index-slot.ensures in
    at.0.in_table

pub put-requires-2 : goal.put-requires-2
put-requires-2 c =
    let held = rw (← c.self.view_is) at c.requires in
    let at = held_at c.self.invariant c.args.number held c.index-slot.result.now c.index-slot.ensures in
    at.0.in_table

pub invariant_of-self : goal.invariant_of-self
invariant_of-self c =
    let s = c.self.inside in
    let held = rw (← c.self.view_is) at c.requires in
    let at = held_at c.self.invariant c.args.number held c.index-slot.result.now c.index-slot.ensures in
    let row = row_read s.rows.items c.index-slot.result.now c.index_mut-row.result.now c.self.invariant.all_rows at.0.in_table c.index_mut-row.ensures.value in
    rw (c.put.ensures, c.put-2.ensures, c.push_reserved.ensures.items, c.push_reserved.ensures.capacity)
    (drop-sound c.self.invariant c.args.number c.index-slot.result.now at.0 c.index_mut-row.result.now row (rw row at.1))

pub returns-clause-held : goal.returns-clause-held
returns-clause-held c =
    let s = c.self.inside in
    let held = rw (← c.self.view_is) at c.requires in
    let at = held_at c.self.invariant c.args.number held c.index-slot.result.now c.index-slot.ensures in
    let row = row_read s.rows.items c.index-slot.result.now c.index_mut-row.result.now c.self.invariant.all_rows at.0.in_table c.index_mut-row.ensures.value in
    rw (← c.self.view_is)
    (drop-bag s.rows.items s.sealed.items c.args.number c.index-slot.result.now c.self.invariant.all_rows at.0 c.index_mut-row.result.now row (rw row at.1))
