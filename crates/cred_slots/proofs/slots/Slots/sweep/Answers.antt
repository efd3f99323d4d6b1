use Rattle.std.proofs.Common.{◌≡◌, length, map, ◌∙◌, refl}
use Rattle.cred_slots.specs.Rows.{without_late}
use Rattle.cred_slots.proofs.Rows.{sweep-sound, written_whole, held_in-map}
use Rattle.cred_slots.proofs.slots.Slots.sweep.Goals as goal

pub invariant_of-self : goal.invariant_of-self
invariant_of-self c =
    let s = c.self.inside in
    let each : c.forget_late.new.rows ≡ map without_late s.rows.items = rw (← c.as_mut_slice.ensures.value) c.forget_late.ensures in
    let long : length c.forget_late.new.rows ≡ s.rows.len = c.forget_late.auto.rows ∙ c.as_mut_slice.ensures.len in
    rw (written_whole s.rows.len c.forget_late.new.rows s.rows.items long, each, c.clear.ensures.items, c.new-self-inside.ensures, c.clear.ensures.capacity)
    (sweep-sound c.self.invariant)

pub returns : goal.returns
returns c =
    let s = c.self.inside in
    let each : c.forget_late.new.rows ≡ map without_late s.rows.items = rw (← c.as_mut_slice.ensures.value) c.forget_late.ensures in
    let long : length c.forget_late.new.rows ≡ s.rows.len = c.forget_late.auto.rows ∙ c.as_mut_slice.ensures.len in
    rw (← c.self.view_is, written_whole s.rows.len c.forget_late.new.rows s.rows.items long, each, c.clear.ensures.items, held_in-map s.rows.items) refl
