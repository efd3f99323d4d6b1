use Rattle.std.proofs.Common.{◌≡◌, ◌++◌, map, take}
use Rattle.cred_model.specs.State.{Prepared}
use Rattle.cred_machine.proofs.slots.add_bases.Given as goal

abbrev pub invariant-loop-label : goal.invariant-loop-label
invariant-loop-label l = l.numbers.items ≡ l.fn.numbers.items ++ map (λ (x : Prepared). x.base) (take l.label-index l.prepared)
