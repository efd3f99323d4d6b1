use Rattle.std.proofs.Common.{sym, ap, ◌∙◌, arith, is_some}
use Rattle.cred_slots.specs.declared.row.Row.{Row}
use Rattle.cred_slots.specs.Table.{least_free_in}
use Rattle.cred_slots.proofs.Live.{next-is}
use Rattle.cred_slots.proofs.Sound.{row_read}
use Rattle.cred_slots.proofs.Tables.{room-free, room-full}
use Rattle.cred_slots.proofs.slots.Slots.make_room.Goals as goal

pub index-requires : goal.index-requires
index-requires c =
    let next = next-is c.self.invariant c.args.slot (rw (← c.self.view_is) at c.requires) in
    omega (arith, next.within, c.self.invariant.all_rows, c.self.inside.rows.ok.0)

pub returns-then-late-gt0-clause-room : goal.returns-then-late-gt0-clause-room
returns-then-late-gt0-clause-room c =
    let next = next-is c.self.invariant c.args.slot (rw (← c.self.view_is) at c.requires) in
    let row = row_read c.self.inside.rows.items c.args.slot c.index.result.now c.self.invariant.all_rows next.within c.index.ensures in
    let live = next.all_live (rw (← row) c.if-late-gt0.true) in
    c.sweep.ensures ∙ sym (rw (← c.self.view_is) (room-full _ (ap is_some live.0)))

pub returns-then-late-gt0-clause-slot : goal.returns-then-late-gt0-clause-slot
returns-then-late-gt0-clause-slot c =
    let next = next-is c.self.invariant c.args.slot (rw (← c.self.view_is) at c.requires) in
    let row = row_read c.self.inside.rows.items c.args.slot c.index.result.now c.self.invariant.all_rows next.within c.index.ensures in
    let live = next.all_live (rw (← row) c.if-late-gt0.true) in
    ap least_free_in c.sweep.ensures ∙ rw (← c.self.view_is) live.1

pub returns-else-late-gt0-clause-room : goal.returns-else-late-gt0-clause-room
returns-else-late-gt0-clause-room c =
    let next = next-is c.self.invariant c.args.slot (rw (← c.self.view_is) at c.requires) in
    let row = row_read c.self.inside.rows.items c.args.slot c.index.result.now c.self.invariant.all_rows next.within c.index.ensures in
    let free = next.at_once (omega (arith, ap (λ (r : Row). r.late) row, c.if-late-gt0.false)) in
    rw (← c.self.view_is) (sym (room-free _ (ap is_some free)))

pub returns-else-late-gt0-clause-slot : goal.returns-else-late-gt0-clause-slot
returns-else-late-gt0-clause-slot c =
    let next = next-is c.self.invariant c.args.slot (rw (← c.self.view_is) at c.requires) in
    let row = row_read c.self.inside.rows.items c.args.slot c.index.result.now c.self.invariant.all_rows next.within c.index.ensures in
    rw (← c.self.view_is) (next.at_once (omega (arith, ap (λ (r : Row). r.late) row, c.if-late-gt0.false)))
