use Rattle.std.proofs.Common.{◌≡◌, replicate, refl}
use Rattle.cred_slots.specs.Table.{empty_table}
use Rattle.cred_slots.specs.Rows.{unused}
use Rattle.cred_slots.proofs.Rows.{new-sound}
use Rattle.cred_slots.proofs.slots.Slots.new.Goals as goal
use Rattle.cred_ids.specs.Limits.{SLOTS, slots}

pub invariant_of-result : goal.invariant_of-result
invariant_of-result c =
    let rows : c.in_ok-rows.rows.items ≡ replicate SLOTS unused = c.in_ok-rows.ensures.items in
    rw (rows, c.new.ensures.items, c.new-2.ensures.items, c.new-3.ensures, c.new-4.ensures, c.new-5.ensures) (new-sound _ _)

pub returns : goal.returns
unfolding empty_table slots
returns c =
    let rows : c.in_ok-rows.rows.items ≡ replicate SLOTS unused = c.in_ok-rows.ensures.items in
    rw (rows, c.new.ensures.items, c.new-2.ensures.items, c.new-3.ensures) refl
