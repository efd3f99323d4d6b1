use Rattle.std.proofs.Common.{◌≡◌, ◌++◌, map, take}
use Rattle.cred_model.specs.State.{Hold}
use Rattle.cred_machine.proofs.slots.add_held.Given as goal

abbrev pub invariant-loop-hold : goal.invariant-loop-hold
invariant-loop-hold l = l.numbers.items ≡ l.fn.numbers.items ++ map (λ (x : Hold). x.number) (take l.hold-index l.holds)
