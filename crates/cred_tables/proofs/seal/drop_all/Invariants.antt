use Rattle.std.proofs.Common.{◌≡◌, ◌++◌, take}
use Rattle.cred_slots.specs.Table.{IsSameBag}
use Rattle.cred_tables.proofs.seal.drop_all.Given as goal

abbrev pub invariant-loop-number : goal.invariant-loop-number
invariant-loop-number l = record {
  held : IsSameBag l.initial.slots.held (take l.number-index l.numbers ++ l.slots.held);
  table : l.slots ≡ record l.initial.slots {
    held = l.slots.held;
    deferred = l.initial.slots.deferred ++ take l.number-index l.numbers;
  };
}
