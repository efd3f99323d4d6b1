use Rattle.std.proofs.Common.{◌≡◌, ◌<◌, ◌==◌, ◌||◌, ℕ, take}
use Rattle.std.specs.List.{list_any}
use Rattle.cred_ids.specs.Limits.{SLOTS}
use Rattle.cred_model.specs.State.{Prepared}
use Rattle.cred_machine.specs.Slots.{is_marked}
use Rattle.cred_machine.proofs.slots.Marks.keep.Given as goal

abbrev pub invariant-loop-label : goal.invariant-loop-label
invariant-loop-label l =
    (slot : ℕ) → slot < SLOTS
    → is_marked l.self slot ≡ (is_marked l.fn.self slot || list_any (λ (p : Prepared). p.slot == slot) (take l.label-index l.prepared))
