use Rattle.std.proofs.Common.{◌≡◌, ◌<◌, ◌||◌, ℕ, take}
use Rattle.std.specs.List.{list_any}
use Rattle.cred_ids.specs.Limits.{SLOTS}
use Rattle.cred_model.specs.Slots.{stands_in}
use Rattle.cred_machine.specs.Slots.{is_marked}
use Rattle.cred_machine.proofs.slots.Marks.put_all.Given as goal

abbrev pub invariant-loop-number : goal.invariant-loop-number
invariant-loop-number l =
    (slot : ℕ) → slot < SLOTS
    → is_marked l.self slot ≡ (is_marked l.fn.self slot || list_any (stands_in l.creds.list slot) (take l.number-index l.numbers))
