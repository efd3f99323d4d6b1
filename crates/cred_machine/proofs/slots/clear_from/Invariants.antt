use Rattle.std.proofs.Common.{◌≡◌, ◌<◌, ℕ, true}
use Rattle.cred_machine.specs.Slots.{is_marked}
use Rattle.cred_machine.proofs.slots.clear_from.Given as goal

abbrev pub invariant-loop-slot : goal.invariant-loop-slot
invariant-loop-slot l = (k : ℕ) → k < l.slot → is_marked l.marks k ≡ true
